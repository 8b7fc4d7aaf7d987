-- Lists of names: which stand in a list, where, and whether they differ. Assumes nothing.
use Rattle.std.proofs.Common.{◌≡◌, ℕ, zero, suc, ◌+◌, ◌<◌, ◌≤◌, Bool, true, false, cond, ◌||◌, List, [], ◌∷◌, ◌++◌, length, get_or, take, drop, Some, None, sym, refl, ap, ◌∙◌, arith, length-take-le, get_or-take}
use lib.Seq.{split_at}
use Rattle.std.specs.Str.{bytes_eq}
use Rattle.std.proofs.lemmas.Bool.{both_ways, not-true, not_from_false, and_parts, and_from, or_parts, or_from, cond-true, cond-false}
use Rattle.std.proofs.lemmas.Slice.Eq.{bytes_eq-Decides}
use Rattle.std.proofs.lemmas.List.{take-append-drop}
use Rattle.msc.specs.Spelling.{place_from, place, has, every, distinct}

-- a Bool that is not true is false
pub when_not : (b : Bool) → (b ≡ true → ⊥) → b ≡ false
when_not true h = absurd (h refl)
when_not false h = refl

pub every_append : {A : Type 0} (p : A → Bool) (xs ys : List A) → every p xs ≡ true → every p ys ≡ true → every p (xs ++ ys) ≡ true
every_append p [] ys h k = k
every_append p (x ∷ xs) ys h k = let a = and_parts _ _ h in and_from _ _ a.0 (every_append p xs ys a.1 k)

pub every_front : {A : Type 0} (p : A → Bool) (xs ys : List A) → every p (xs ++ ys) ≡ true → every p xs ≡ true
every_front p [] ys h = refl
every_front p (x ∷ xs) ys h = let a = and_parts _ _ h in and_from _ _ a.0 (every_front p xs ys a.1)

pub every_back : {A : Type 0} (p : A → Bool) (xs ys : List A) → every p (xs ++ ys) ≡ true → every p ys ≡ true
every_back p [] ys h = h
every_back p (x ∷ xs) ys h = every_back p xs ys (and_parts _ _ h).1

pub every_at : {A : Type 0} (p : A → Bool) (xs : List A) (j : ℕ) (d : A) → every p xs ≡ true → j < length xs → p (get_or xs j d) ≡ true
every_at p [] j d h l = absurd (omega arith)
every_at p (x ∷ xs) zero d h l = (and_parts _ _ h).0
every_at p (x ∷ xs) (suc j) d h l = every_at p xs j d (and_parts _ _ h).1 (omega arith)

-- what stands in a list is had by it
pub has_at : (xs : List (List ℕ)) (j : ℕ) → j < length xs → has xs (get_or xs j []) ≡ true
has_at [] j l = absurd (omega arith)
has_at (x ∷ xs) zero l = ap (λ b. b || has xs x) ((bytes_eq-Decides x x).1 refl)
has_at (x ∷ xs) (suc j) l = by (bytes_eq (get_or xs j []) x) (has_at xs j (omega arith))
  where
    by : (b : Bool) → has xs (get_or xs j []) ≡ true → (b || has xs (get_or xs j [])) ≡ true
    by true h = refl
    by false h = h

-- what does not stand in a list differs from each that does
pub has_apart : (xs : List (List ℕ)) (w : List ℕ) (j : ℕ) → has xs w ≡ false → j < length xs → w ≡ get_or xs j [] → ⊥
has_apart xs w j h l e = both_ways (has xs w) h (ap (has xs) e ∙ has_at xs j l)

pub has_append : (xs ys : List (List ℕ)) (w : List ℕ) → has xs w ≡ false → has ys w ≡ false → has (xs ++ ys) w ≡ false
has_append [] ys w h k = k
has_append (x ∷ xs) ys w h k = let a = or_parts _ _ h in or_from _ _ a.0 (has_append xs ys w a.1 k)

pub place_none : (k : ℕ) (xs : List (List ℕ)) (w : List ℕ) → has xs w ≡ false → place_from k xs w ≡ None
place_none k [] w h = refl
place_none k (x ∷ xs) w h = let a = or_parts _ _ h in cond-false _ _ _ a.0 ∙ place_none (suc k) xs w a.1

pub none_has : (k : ℕ) (xs : List (List ℕ)) (w : List ℕ) → place_from k xs w ≡ None → has xs w ≡ false
none_has k [] w h = refl
none_has k (x ∷ xs) w h = by (bytes_eq w x) h (none_has (suc k) xs w)
  where
    by : (b : Bool) → cond b (Some k) (place_from (suc k) xs w) ≡ None → (place_from (suc k) xs w ≡ None → has xs w ≡ false) → (b || has xs w) ≡ false
    by true e ih = let z : ◌≡◌ {A = ℕ} 0 1 = cc in absurd (omega arith)
    by false e ih = ih e

-- a place that is found is that of the name
pub place_is : (k : ℕ) (xs : List (List ℕ)) (w : List ℕ) (n : ℕ) → place_from k xs w ≡ Some n → (j : ℕ) × (n ≡ k + j) × (j < length xs) × (get_or xs j [] ≡ w)
place_is k [] w n h = let z : ◌≡◌ {A = ℕ} 0 1 = cc in absurd (omega arith)
place_is k (x ∷ xs) w n h = by (bytes_eq w x) (bytes_eq-Decides w x).0 h (place_is (suc k) xs w n)
  where
    by : (b : Bool) → (b ≡ true → w ≡ x) → cond b (Some k) (place_from (suc k) xs w) ≡ Some n
        → (place_from (suc k) xs w ≡ Some n → (j : ℕ) × (n ≡ suc k + j) × (j < length xs) × (get_or xs j [] ≡ w))
        → (j : ℕ) × (n ≡ k + j) × (j < length (x ∷ xs)) × (get_or (x ∷ xs) j [] ≡ w)
    by true d e ih = let f : k ≡ n = cc in (0, omega arith, omega arith, sym (d refl))
    by false d e ih = let (j, i, l, g) = ih e in (suc j, omega arith, omega arith, g)

-- in a list of different names each is found where it stands
pub place_found : (k : ℕ) (xs : List (List ℕ)) (j : ℕ) → distinct xs ≡ true → j < length xs → place_from k xs (get_or xs j []) ≡ Some (k + j)
place_found k [] j h l = absurd (omega arith)
place_found k (x ∷ xs) zero h l = cond-true _ _ _ ((bytes_eq-Decides x x).1 refl) ∙ ap Some (omega arith)
place_found k (x ∷ xs) (suc j) h l =
    let l' : j < length xs = omega arith in
    let a = and_parts _ _ h in
    let differs : bytes_eq (get_or xs j []) x ≡ false = when_not _ (λ e. has_apart xs x j (not-true _ a.0) l' (sym ((bytes_eq-Decides (get_or xs j []) x).0 e))) in
    cond-false _ _ _ differs ∙ place_found (suc k) xs j a.1 l' ∙ ap Some (omega arith)

pub distinct_front : (xs ys : List (List ℕ)) → distinct (xs ++ ys) ≡ true → distinct xs ≡ true
distinct_front [] ys h = refl
distinct_front (x ∷ xs) ys h = let a = and_parts _ _ h in and_from _ _ (not_from_false _ (front xs (not-true _ a.0))) (distinct_front xs ys a.1)
  where
    front : (zs : List (List ℕ)) → has (zs ++ ys) x ≡ false → has zs x ≡ false
    front [] e = refl
    front (z ∷ zs) e = let b = or_parts _ _ e in or_from _ _ b.0 (front zs b.1)

-- in a list of different names none stands ahead of itself
pub distinct_at : (xs : List (List ℕ)) (w : List ℕ) (ys : List (List ℕ)) → distinct (xs ++ w ∷ ys) ≡ true → has xs w ≡ false
distinct_at [] w ys h = refl
distinct_at (x ∷ xs) w ys h =
    let a = and_parts _ _ h in
    or_from _ _ (when_not _ (λ e. apart xs (not-true _ a.0) ((bytes_eq-Decides w x).0 e))) (distinct_at xs w ys a.1)
  where
    apart : (zs : List (List ℕ)) → has (zs ++ w ∷ ys) x ≡ false → w ≡ x → ⊥
    apart [] e g = both_ways _ (or_parts _ _ e).0 ((bytes_eq-Decides x w).1 (sym g))
    apart (z ∷ zs) e g = apart zs (or_parts _ _ e).1 g

pub distinct_push : (xs : List (List ℕ)) (w : List ℕ) → distinct xs ≡ true → has xs w ≡ false → distinct (xs ++ w ∷ []) ≡ true
distinct_push [] w h k = refl
distinct_push (x ∷ xs) w h k =
    let a = and_parts _ _ h in
    let b = or_parts _ _ k in
    let differs : bytes_eq x w ≡ false = when_not _ (λ e. both_ways _ b.0 ((bytes_eq-Decides w x).1 (sym ((bytes_eq-Decides x w).0 e)))) in
    and_from _ _ (not_from_false _ (has_append xs (w ∷ []) x (not-true _ a.0) (or_from _ _ differs refl))) (distinct_push xs w a.1 b.1)

-- the front of a list of different names: its own names are found, the next one is not
module _ (M : List (List ℕ)) (d : distinct M ≡ true) (m : ℕ) where
  pub place_before : (n : ℕ) → n < m → m ≤ length M → place (take m M) (get_or M n []) ≡ Some n
  place_before n l le =
      let k : take m M ++ drop m M ≡ M = take-append-drop m M in
      let e : length (take m M) ≡ m = length-take-le m M le in
      ap (place (take m M)) (sym (get_or-take m M n [] l)) ∙ place_found 0 (take m M) n (distinct_front (take m M) (drop m M) (ap distinct k ∙ d)) (omega arith) ∙ ap Some (omega arith)

  pub place_next : m < length M → place (take m M) (get_or M m []) ≡ None
  place_next l = place_none 0 (take m M) (get_or M m []) (distinct_at (take m M) (get_or M m []) (drop (suc m) M) (ap distinct (sym (split_at M m [] l)) ∙ d))
