-- What one letter more or less does to the lists of the pairs and to what is kept of them.
use Rattle.std.proofs.Common.{◌≡◌, ℕ, zero, suc, ◌+◌, ◌-◌, ◌%◌, ◌<◌, ◌≤◌, true, false, cond, eqb, ltb, List, [], ◌∷◌, ◌++◌, map, length, Ok, Err, sym, refl, ap, ◌∙◌, subst, ⊎_elim, zero-add, arith}
use mathlib.Core.Path.{fun_ext}
use Rattle.std.specs.List.{range_with_len}
use Rattle.std.specs.List.Sorted.{IsPermutation}
use Rattle.std.proofs.lemmas.List.FromFn.{length-map-range_with_len, map-range_with_len_more}
use Rattle.std.proofs.lemmas.List.Sorted.{length_permutation}
use Rattle.std.proofs.lemmas.Bool.{cases_Bool, cases_eq, cases_lt, and_left, and_right, and_parts, and_from, ne_eqb, eq-eqb, eqb-true, lt-ltb, le-ltb, both_ways, cond-true, cond-false}
use Rattle.std.proofs.lemmas.Bool.Decides.{nat_tests}
use Rattle.channel.specs.declared.Letter.{Letter}
use Rattle.channel.specs.declared.Refusal.TheVariants.{Empty}
use Rattle.channel.specs.Waits.{is_pair, same_pair, total, first_of, rest_of, added, headless}
use Rattle.channel.proofs.Totals.{length_le_total, total-added, total-headless}
use Rattle.channel.proofs.Pairs.{same_pair-true, pair_parts}
use Rattle.bag.specs.declared.Stamped.{Stamped}
use Rattle.bag.specs.Held.{shown_at}
use Rattle.bag.proofs.Shown.{shown_at_lem}
use Rattle.restorer.specs.Stamps.{Cells, carries, tally, letter_at, stamp_at, waits_from, Kept}
use Rattle.restorer.proofs.Tallies.{tally_shuffled, letter_shuffled, has-tally, unique}

-- two maps over stretches of equal length, that agree place by place
pub map_shift : {X : Type 0} (g h : ℕ → X) (n a b : ℕ) → ((i j : ℕ) → i + b ≡ j + a → a ≤ i → i < a + n → g i ≡ h j) → map g (range_with_len a n) ≡ map h (range_with_len b n)
map_shift g h zero a b e = refl
map_shift g h (suc n) a b e =
    let x : g a ≡ h b = e a b (omega arith) (omega arith) (omega arith) in
    let ih = map_shift g h n (a + 1) (b + 1) (λ i j p q r. e i j (omega arith) (omega arith) (omega arith)) in
    rw (x, ih) refl

ltb_less : (k n : ℕ) → ltb (k + 1) n ≡ ltb k (n - 1)
ltb_less k n = grind (arith, nat_tests)

mod_apart : (d k m : ℕ) → k < 4294967296 → m < 4294967296 → (d + k) % 4294967296 ≡ (d + m) % 4294967296 → k ≡ m
mod_apart d k m hk hm e = omega arith

-- what a pair's list is, by whether the pair carries the one that is meant
pub by_cell : (r a b : List Letter) (from to f t : ℕ) → is_pair from to ≡ true
    → (is_pair f t ≡ true → same_pair from to f t ≡ true → r ≡ a)
    → (is_pair f t ≡ true → same_pair from to f t ≡ false → r ≡ b)
    → (is_pair f t ≡ false → r ≡ b)
    → r ≡ cond (same_pair from to f t) a b
by_cell r a b from to f t pair here there none =
    ⊎_elim
    (λ e.
    let q = same_pair-true from to f t e in
    let p : is_pair f t ≡ true = rw (q.0, q.1) pair in
    here p e ∙ sym (cond-true (same_pair from to f t) a b e))
    (λ e. ⊎_elim (λ p. there p e) none (cases_Bool (is_pair f t)) ∙ sym (cond-false (same_pair from to f t) a b e))
    (cases_Bool (same_pair from to f t))

module _ (due many : Cells) (xs : List Stamped) (kept : Kept due many xs) (few : length xs ≤ 1024) where
  pub many_few : (f t : ℕ) → is_pair f t ≡ true → many f t ≤ 1024
  many_few f t p =
      let q = pair_parts f t p in
      let w = waits_from due many xs in
      let a : length (w f t) ≡ many f t = rw p (length-map-range_with_len (λ k. letter_at f t (stamp_at due f t k) xs) 0 (many f t)) in
      let b = length_le_total w f t q.0 q.1 in
      omega (arith, kept.count)

  -- each stamp of a list stands once
  pub once : (f t k : ℕ) → is_pair f t ≡ true → k < many f t → tally f t (stamp_at due f t k) xs ≡ 1
  once f t k p lt = let m = many_few f t p in rw (kept.marks f t k p (omega arith), lt-ltb k (many f t) lt) refl

  pub none_due : (f t : ℕ) → is_pair f t ≡ true → tally f t (due f t) xs ≡ 0 → many f t ≡ 0
  none_due f t p z =
      let s = kept.small f t p in
      let e : (due f t + 0) % 4294967296 ≡ due f t = omega arith in
      ⊎_elim
      (λ lt. let o = once f t 0 p lt in let o' : tally f t (due f t) xs ≡ 1 = subst (λ (v : ℕ). tally f t v xs ≡ 1) e o in absurd (omega arith))
      (λ le. omega arith)
      (cases_lt 0 (many f t))

  pub first_none : (f t : ℕ) → is_pair f t ≡ true → tally f t (due f t) xs ≡ 0 → first_of (waits_from due many xs f t) ≡ Err Empty
  first_none f t p z = rw (p, none_due f t p z) refl

  -- the letter that has the due stamp is its pair's oldest: the stamp stands once, so that no other
  -- letter can have it
  pub first_head : (f t i : ℕ) (x : Stamped) → is_pair f t ≡ true → shown_at xs i ≡ Ok x → carries f t (due f t) x ≡ true → first_of (waits_from due many xs f t) ≡ Ok x.letter
  first_head f t i x p e here =
      let s = kept.small f t p in
      let d : stamp_at due f t 0 ≡ due f t = omega arith in
      let h = shown_at_lem xs i x e in
      let n = has-tally f t (due f t) xs i x h.0 h.1 here in
      ⊎_elim
      (λ lt.
      let o : tally f t (due f t) xs ≡ 1 = ap (λ v. tally f t v xs) (sym d) ∙ once f t 0 p lt in
      let c : letter_at f t (stamp_at due f t 0) xs ≡ x.letter = ap (λ v. letter_at f t v xs) d ∙ unique f t (due f t) xs i x h.0 h.1 here o in
      let m : many f t ≡ suc (many f t - 1) = omega arith in
      let w : waits_from due many xs f t ≡ map (λ k. letter_at f t (stamp_at due f t k) xs) (range_with_len 0 (suc (many f t - 1))) = rw p (ap (λ v. map (λ k. letter_at f t (stamp_at due f t k) xs) (range_with_len 0 v)) m) in
      ap first_of w ∙ ap Ok c)
      (λ le.
      let z : tally f t (stamp_at due f t 0) xs ≡ 0 = kept.marks f t 0 p (omega arith) ∙ cond-false (ltb 0 (many f t)) 1 0 (le-ltb 0 (many f t) le) in
      let z' : tally f t (due f t) xs ≡ 0 = ap (λ v. tally f t v xs) (sym d) ∙ z in
      absurd (omega arith))
      (cases_lt 0 (many f t))

  -- one letter more
  module _ (many' : Cells) (ys : List Stamped) (from to s : ℕ) (l : Letter)
      (pair : is_pair from to ≡ true)
      (stamp : s ≡ stamp_at due from to (many from to))
      (more : (f t : ℕ) → is_pair f t ≡ true → many' f t ≡ cond (same_pair from to f t) (many f t + 1) (many f t))
      (mixed : IsPermutation (record { from = from; to = to; stamp = s; letter = l } ∷ xs) ys) where
    -- of another pair, or at another place, the new letter is not meant
    is_not : (f t k : ℕ) → is_pair f t ≡ true → k < 4294967296 → (same_pair from to f t ≡ true → k ≡ many f t → ⊥)
        → carries f t (stamp_at due f t k) (record { from = from; to = to; stamp = s; letter = l }) ≡ false
    is_not f t k p lt ne =
        ⊎_elim
        (λ e.
        let q = same_pair-true from to f t e in
        let m = many_few f t p in
        let st : s ≡ stamp_at due f t (many f t) = rw (q.0, q.1) stamp in
        and_right (same_pair from to f t) (eqb (stamp_at due f t k) s)
        (ne_eqb (stamp_at due f t k) s (λ h. ne e (mod_apart (due f t) k (many f t) lt (omega arith) (h ∙ st)))))
        (λ e. and_left (same_pair from to f t) (eqb (stamp_at due f t k) s) e)
        (cases_Bool (same_pair from to f t))

    is_new : (f t : ℕ) → same_pair from to f t ≡ true → carries f t (stamp_at due f t (many f t)) (record { from = from; to = to; stamp = s; letter = l }) ≡ true
    is_new f t e =
        let q = same_pair-true from to f t e in
        let st : s ≡ stamp_at due f t (many f t) = rw (q.0, q.1) stamp in
        and_from (same_pair from to f t) (eqb (stamp_at due f t (many f t)) s) e (eq-eqb (stamp_at due f t (many f t)) s (sym st))

    letter_old : (f t k : ℕ) → is_pair f t ≡ true → k < many f t → letter_at f t (stamp_at due f t k) ys ≡ letter_at f t (stamp_at due f t k) xs
    letter_old f t k p lt =
        let m = many_few f t p in
        let no = is_not f t k p (omega arith) (λ _ e. omega arith) in
        let o = once f t k p lt in
        letter_shuffled f t (stamp_at due f t k) _ ys mixed (rw (no, o) refl) ∙ rw no refl

    letter_new : (f t : ℕ) → is_pair f t ≡ true → same_pair from to f t ≡ true → letter_at f t (stamp_at due f t (many f t)) ys ≡ l
    letter_new f t p e =
        let m = many_few f t p in
        let new = is_new f t e in
        let z : tally f t (stamp_at due f t (many f t)) xs ≡ 0 = rw (kept.marks f t (many f t) p (omega arith), le-ltb (many f t) (many f t) (omega arith)) refl in
        letter_shuffled f t (stamp_at due f t (many f t)) _ ys mixed (rw (new, z) refl) ∙ rw new refl

    olds : (f t : ℕ) → is_pair f t ≡ true → map (λ k. letter_at f t (stamp_at due f t k) ys) (range_with_len 0 (many f t)) ≡ map (λ k. letter_at f t (stamp_at due f t k) xs) (range_with_len 0 (many f t))
    olds f t p = map_shift (λ k. letter_at f t (stamp_at due f t k) ys) (λ k. letter_at f t (stamp_at due f t k) xs) (many f t) 0 0
        (λ i j e _ lt. let ij : i ≡ j = omega arith in letter_old f t i p (omega arith) ∙ ap (λ k. letter_at f t (stamp_at due f t k) xs) ij)

    many-here : (f t : ℕ) → is_pair f t ≡ true → same_pair from to f t ≡ true → many' f t ≡ many f t + 1
    many-here f t p e = more f t p ∙ cond-true (same_pair from to f t) (many f t + 1) (many f t) e

    many_there : (f t : ℕ) → is_pair f t ≡ true → same_pair from to f t ≡ false → many' f t ≡ many f t
    many_there f t p e = more f t p ∙ cond-false (same_pair from to f t) (many f t + 1) (many f t) e

    row_here : (f t : ℕ) → is_pair f t ≡ true → same_pair from to f t ≡ true → waits_from due many' ys f t ≡ waits_from due many xs f t ++ l ∷ []
    row_here f t p e =
        let m = many-here f t p e in
        let a = map-range_with_len_more (λ k. letter_at f t (stamp_at due f t k) ys) 0 (many f t) (many f t) (zero-add (many f t)) in
        rw (p, m, a, olds f t p, letter_new f t p e) refl

    row_there : (f t : ℕ) → is_pair f t ≡ true → same_pair from to f t ≡ false → waits_from due many' ys f t ≡ waits_from due many xs f t
    row_there f t p e = let m = many_there f t p e in rw (p, m) (olds f t p)

    row_none : (f t : ℕ) → is_pair f t ≡ false → waits_from due many' ys f t ≡ waits_from due many xs f t
    row_none f t p = rw p refl

    row_added : (f t : ℕ) → waits_from due many' ys f t ≡ added (waits_from due many xs) from to l f t
    row_added f t =
        by_cell (waits_from due many' ys f t) (waits_from due many xs f t ++ l ∷ []) (waits_from due many xs f t) from to f t pair (row_here f t) (row_there f t) (row_none f t)

    pub waits_added : waits_from due many' ys ≡ added (waits_from due many xs) from to l
    waits_added = fun_ext (λ f. fun_ext (λ t. row_added f t))

    -- The new letter has the stamp that comes `many` after the due one. So of its pair the stamps up to
    -- and with that one now stand once, since `many` is far below 2 ^ 32 and no stamp comes round
    -- again; of every other pair and stamp nothing changes.
    pub kept_added : Kept due many' ys
    kept_added = record {
      small = kept.small;
      marks = λ f t k p lt.
          let m = many_few f t p in
          let a = tally_shuffled f t (stamp_at due f t k) _ ys mixed in
          let b = kept.marks f t k p lt in
          ⊎_elim
          (λ e.
          let m' = many-here f t p e in
          ⊎_elim
          (λ h.
          let new : carries f t (stamp_at due f t k) (record { from = from; to = to; stamp = s; letter = l }) ≡ true = rw h (is_new f t e) in
          let x : ltb k (many f t) ≡ false = le-ltb k (many f t) (omega arith) in
          let y : ltb k (many f t + 1) ≡ true = lt-ltb k (many f t + 1) (omega arith) in
          rw (a, m', new, b, x, y) refl)
          (λ h.
          let no = is_not f t k p lt (λ _. h) in
          let x : ltb k (many f t + 1) ≡ ltb k (many f t) = grind (arith, nat_tests) in
          rw (a, m', no, b, x) (zero-add _))
          (cases_eq k (many f t)))
          (λ e.
          let m' = many_there f t p e in
          let no = is_not f t k p lt (λ e' _. both_ways (same_pair from to f t) e e') in
          rw (a, m', no, b) (zero-add _))
          (cases_Bool (same_pair from to f t));
      count =
          let a = total-added (waits_from due many xs) from to l pair in
          let b = ap total waits_added in
          let n = length_permutation _ ys mixed in
          b ∙ a ∙ ap (λ v. v + 1) kept.count ∙ omega arith;
    }

  -- one letter less, the one that is due
  module _ (due' many' : Cells) (ys : List Stamped) (x : Stamped) (from to : ℕ)
      (pair : is_pair from to ≡ true)
      (found : carries from to (due from to) x ≡ true)
      (dues : (f t : ℕ) → is_pair f t ≡ true → due' f t ≡ cond (same_pair from to f t) ((due f t + 1) % 4294967296) (due f t))
      (less : (f t : ℕ) → is_pair f t ≡ true → 0 < many from to → many' f t ≡ cond (same_pair from to f t) (many f t - 1) (many f t))
      (mixed : IsPermutation xs (x ∷ ys)) where
    -- each stamp of the list before, in the letter that goes and those that stay
    parts : (f t s : ℕ) → cond (carries f t s x) 1 0 + tally f t s ys ≡ tally f t s xs
    parts f t s = tally_shuffled f t s xs (x ∷ ys) mixed

    at_due : stamp_at due from to 0 ≡ due from to
    at_due = let s = kept.small from to pair in omega arith

    pub some_due : 0 < many from to
    some_due =
        let p = parts from to (due from to) in
        let p' : 1 + tally from to (due from to) ys ≡ tally from to (due from to) xs = rw found at p in
        ⊎_elim
        (λ lt. lt)
        (λ le. let z : tally from to (stamp_at due from to 0) xs ≡ 0 = kept.marks from to 0 pair (omega arith) ∙ cond-false (ltb 0 (many from to)) 1 0 (le-ltb 0 (many from to) le) in
        let z' : tally from to (due from to) xs ≡ 0 = subst (λ (v : ℕ). tally from to v xs ≡ 0) at_due z in
        absurd (omega arith))
        (cases_lt 0 (many from to))

    x_pair : (x.from ≡ from) × (x.to ≡ to) × (x.stamp ≡ due from to)
    x_pair =
        let a = and_parts (same_pair x.from x.to from to) (eqb (due from to) x.stamp) found in
        let b = same_pair-true x.from x.to from to a.0 in
        (sym b.0, sym b.1, sym (eqb-true (due from to) x.stamp a.1))

    -- of another pair the letter that goes is not meant
    not_there : (f t s : ℕ) → same_pair from to f t ≡ false → carries f t s x ≡ false
    not_there f t s e =
        let b = x_pair in
        let e' : same_pair x.from x.to f t ≡ false = rw (b.0, b.1) e in
        and_left (same_pair x.from x.to f t) (eqb s x.stamp) e'

    -- nor at another stamp
    not_stamp : (f t s : ℕ) → (s ≡ due from to → ⊥) → carries f t s x ≡ false
    not_stamp f t s ne = and_right (same_pair x.from x.to f t) (eqb s x.stamp) (ne_eqb s x.stamp (λ h. ne (h ∙ x_pair.2)))

    letter_kept : (f t s : ℕ) → carries f t s x ≡ false → tally f t s xs ≡ 1 → letter_at f t s ys ≡ letter_at f t s xs
    letter_kept f t s not n = let a = letter_shuffled f t s xs (x ∷ ys) mixed n in let b : letter_at f t s (x ∷ ys) ≡ letter_at f t s ys = rw not refl in sym b ∙ a

    pub first_due : first_of (waits_from due many xs from to) ≡ Ok x.letter
    first_due =
        let lt = some_due in
        let n : tally from to (stamp_at due from to 0) xs ≡ 1 = once from to 0 pair lt in
        let n' : tally from to (due from to) xs ≡ 1 = subst (λ (v : ℕ). tally from to v xs ≡ 1) at_due n in
        let a = letter_shuffled from to (due from to) xs (x ∷ ys) mixed n' in
        let b : letter_at from to (due from to) (x ∷ ys) ≡ x.letter = rw found refl in
        let c : letter_at from to (stamp_at due from to 0) xs ≡ x.letter = ap (λ v. letter_at from to v xs) at_due ∙ sym a ∙ b in
        let m : many from to ≡ suc (many from to - 1) = omega arith in
        rw (pair, m) (ap Ok c)

    due_here : (f t k : ℕ) → is_pair f t ≡ true → same_pair from to f t ≡ true → stamp_at due' f t k ≡ stamp_at due f t (k + 1)
    due_here f t k p e =
        let d : due' f t ≡ (due f t + 1) % 4294967296 = dues f t p ∙ cond-true (same_pair from to f t) ((due f t + 1) % 4294967296) (due f t) e in
        omega arith

    due_there : (f t k : ℕ) → is_pair f t ≡ true → same_pair from to f t ≡ false → stamp_at due' f t k ≡ stamp_at due f t k
    due_there f t k p e =
        let d : due' f t ≡ due f t = dues f t p ∙ cond-false (same_pair from to f t) ((due f t + 1) % 4294967296) (due f t) e in
        rw d refl

    many_less : (f t : ℕ) → is_pair f t ≡ true → same_pair from to f t ≡ true → many' f t ≡ many f t - 1
    many_less f t p e = less f t p some_due ∙ cond-true (same_pair from to f t) (many f t - 1) (many f t) e

    many_same : (f t : ℕ) → is_pair f t ≡ true → same_pair from to f t ≡ false → many' f t ≡ many f t
    many_same f t p e = less f t p some_due ∙ cond-false (same_pair from to f t) (many f t - 1) (many f t) e

    -- a later stamp of the pair is not the one that is due
    apart : (f t k : ℕ) → is_pair f t ≡ true → same_pair from to f t ≡ true → k + 1 < 4294967296 → stamp_at due f t (k + 1) ≡ due from to → ⊥
    apart f t k p e lt h =
        let q = same_pair-true from to f t e in
        let s = kept.small f t p in
        let d : due from to ≡ due f t = rw (q.0, q.1) refl in
        omega arith

    stays_here : (f t : ℕ) → is_pair f t ≡ true → same_pair from to f t ≡ true
        → map (λ k. letter_at f t (stamp_at due' f t k) ys) (range_with_len 0 (many f t - 1)) ≡ map (λ k. letter_at f t (stamp_at due f t k) xs) (range_with_len 1 (many f t - 1))
    stays_here f t p e = map_shift (λ k. letter_at f t (stamp_at due' f t k) ys) (λ k. letter_at f t (stamp_at due f t k) xs) (many f t - 1) 0 1
        (λ i j eq _ lt.
        let m = many_few f t p in
        let ij : i + 1 ≡ j = omega arith in
        let s : stamp_at due' f t i ≡ stamp_at due f t j = due_here f t i p e ∙ ap (stamp_at due f t) ij in
        let no = not_stamp f t (stamp_at due f t j) (λ h. apart f t i p e (omega arith) (ap (stamp_at due f t) ij ∙ h)) in
        ap (λ v. letter_at f t v ys) s ∙ letter_kept f t (stamp_at due f t j) no (once f t j p (omega arith)))

    stays_there : (f t : ℕ) → is_pair f t ≡ true → same_pair from to f t ≡ false
        → map (λ k. letter_at f t (stamp_at due' f t k) ys) (range_with_len 0 (many f t)) ≡ map (λ k. letter_at f t (stamp_at due f t k) xs) (range_with_len 0 (many f t))
    stays_there f t p e = map_shift (λ k. letter_at f t (stamp_at due' f t k) ys) (λ k. letter_at f t (stamp_at due f t k) xs) (many f t) 0 0
        (λ i j eq _ lt.
        let ij : i ≡ j = omega arith in
        let s : stamp_at due' f t i ≡ stamp_at due f t j = due_there f t i p e ∙ ap (stamp_at due f t) ij in
        ap (λ v. letter_at f t v ys) s ∙ letter_kept f t (stamp_at due f t j) (not_there f t (stamp_at due f t j) e) (once f t j p (omega arith)))

    less_here : (f t : ℕ) → is_pair f t ≡ true → same_pair from to f t ≡ true → waits_from due' many' ys f t ≡ rest_of (waits_from due many xs f t)
    less_here f t p e =
        let q = same_pair-true from to f t e in
        let lt = some_due in
        let lt' : 0 < many f t = rw (q.0, q.1) lt in
        let m : many f t ≡ suc (many f t - 1) = omega arith in
        let w : rest_of (map (λ k. letter_at f t (stamp_at due f t k) xs) (range_with_len 0 (many f t))) ≡ map (λ k. letter_at f t (stamp_at due f t k) xs) (range_with_len 1 (many f t - 1)) =
        ap (λ n. rest_of (map (λ k. letter_at f t (stamp_at due f t k) xs) (range_with_len 0 n))) m in
        let a : waits_from due' many' ys f t ≡ map (λ k. letter_at f t (stamp_at due' f t k) ys) (range_with_len 0 (many f t - 1)) = rw (p, many_less f t p e) refl in
        let b : waits_from due many xs f t ≡ map (λ k. letter_at f t (stamp_at due f t k) xs) (range_with_len 0 (many f t)) = rw p refl in
        a ∙ stays_here f t p e ∙ sym w ∙ ap rest_of (sym b)

    less_there : (f t : ℕ) → is_pair f t ≡ true → same_pair from to f t ≡ false → waits_from due' many' ys f t ≡ waits_from due many xs f t
    less_there f t p e = rw (p, many_same f t p e) (stays_there f t p e)

    less_none : (f t : ℕ) → is_pair f t ≡ false → waits_from due' many' ys f t ≡ waits_from due many xs f t
    less_none f t p = rw p refl

    pub waits_less : waits_from due' many' ys ≡ headless (waits_from due many xs) from to
    waits_less = fun_ext (λ f. fun_ext (λ t.
        by_cell (waits_from due' many' ys f t) (rest_of (waits_from due many xs f t)) (waits_from due many xs f t) from to f t pair (less_here f t) (less_there f t) (less_none f t)))

    -- Counted from the new due stamp, k is what k + 1 was, and there the letter that goes does not
    -- count. The last k comes round to the old due stamp, which stood once and now stands nowhere.
    marks_here : (f t k : ℕ) → is_pair f t ≡ true → k < 4294967296 → same_pair from to f t ≡ true → tally f t (stamp_at due' f t k) ys ≡ cond (ltb k (many f t - 1)) 1 0
    marks_here f t k p lt e =
        let q = same_pair-true from to f t e in
        let m = many_few f t p in
        let z : 0 < many f t = rw (q.0, q.1) some_due in
        ap (λ v. tally f t v ys) (due_here f t k p e)
        ∙ ⊎_elim
        (λ h.
        let no = not_stamp f t (stamp_at due f t (k + 1)) (apart f t k p e h) in
        let a : 0 + tally f t (stamp_at due f t (k + 1)) ys ≡ tally f t (stamp_at due f t (k + 1)) xs = rw no at (parts f t (stamp_at due f t (k + 1))) in
        let b = kept.marks f t (k + 1) p h in
        let c = ltb_less k (many f t) in
        sym (zero-add (tally f t (stamp_at due f t (k + 1)) ys)) ∙ a ∙ b ∙ ap (λ v. cond v 1 0) c)
        (λ h.
        let s = kept.small f t p in
        let w : stamp_at due f t (k + 1) ≡ stamp_at due f t 0 = omega arith in
        let d : stamp_at due f t 0 ≡ due f t = omega arith in
        let g : carries f t (due f t) x ≡ true = rw (q.0, q.1) found in
        let a : 1 + tally f t (due f t) ys ≡ tally f t (due f t) xs = rw g at (parts f t (due f t)) in
        let b : tally f t (due f t) xs ≡ 1 = ap (λ v. tally f t v xs) (sym d) ∙ once f t 0 p z in
        let c : ltb k (many f t - 1) ≡ false = le-ltb k (many f t - 1) (omega arith) in
        let o : tally f t (due f t) ys ≡ 0 = omega arith in
        ap (λ v. tally f t v ys) (w ∙ d) ∙ o ∙ sym (cond-false (ltb k (many f t - 1)) 1 0 c))
        (cases_lt (k + 1) 4294967296)

    marks_there : (f t k : ℕ) → is_pair f t ≡ true → k < 4294967296 → same_pair from to f t ≡ false → tally f t (stamp_at due' f t k) ys ≡ cond (ltb k (many f t)) 1 0
    marks_there f t k p lt e =
        let no = not_there f t (stamp_at due f t k) e in
        let a : 0 + tally f t (stamp_at due f t k) ys ≡ tally f t (stamp_at due f t k) xs = rw no at (parts f t (stamp_at due f t k)) in
        ap (λ v. tally f t v ys) (due_there f t k p e) ∙ sym (zero-add (tally f t (stamp_at due f t k) ys)) ∙ a ∙ kept.marks f t k p lt

    -- Of the pair that a letter is taken from, the window of stamps moves on by one; of every other
    -- pair nothing changes.
    pub kept_less : Kept due' many' ys
    kept_less = record {
      small = λ f t p.
          ⊎_elim
          (λ e. let d : due' f t ≡ (due f t + 1) % 4294967296 = dues f t p ∙ cond-true (same_pair from to f t) ((due f t + 1) % 4294967296) (due f t) e in omega arith)
          (λ e. let d : due' f t ≡ due f t = dues f t p ∙ cond-false (same_pair from to f t) ((due f t + 1) % 4294967296) (due f t) e in omega (arith, kept.small f t p))
          (cases_Bool (same_pair from to f t));
      marks = λ f t k p lt.
          ⊎_elim
          (λ e. marks_here f t k p lt e ∙ ap (λ v. cond (ltb k v) 1 0) (sym (many_less f t p e)))
          (λ e. marks_there f t k p lt e ∙ ap (λ v. cond (ltb k v) 1 0) (sym (many_same f t p e)))
          (cases_Bool (same_pair from to f t));
      count =
          let some : 0 < length (waits_from due many xs from to) =
          (let lt = some_due in let n : length (waits_from due many xs from to) ≡ many from to = rw pair (length-map-range_with_len (λ k. letter_at from to (stamp_at due from to k) xs) 0 (many from to)) in omega arith) in
          let a = total-headless (waits_from due many xs) from to pair some in
          let b = ap total waits_less in
          let n = length_permutation xs (x ∷ ys) mixed in
          omega (arith, kept.count);
    }
