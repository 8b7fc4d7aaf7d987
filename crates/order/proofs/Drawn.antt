-- The parts of a chart: messages between two instances, and which part has which out.
use Rattle.std.proofs.Common.{◌≡◌, ℕ, zero, suc, ◌+◌, ◌<◌, ◌≤◌, Bool, true, false, cond, eqb, ◌⊎◌, List, [], ◌∷◌, ◌++◌, length, get_or, take, drop, sum, sym, refl, ap, ◌∙◌, inl, inr, append_assoc, arith, length-append, length-drop, take-append-drop, take-take, eq-eqb, eqb-true}
use Rattle.std.proofs.lemmas.Slice.Eq.{bytes_eq-Decides}
use Rattle.std.proofs.lemmas.Bool.{cases_lt}
use Rattle.msc.specs.Events.{out_to, in_from, picked}
use Rattle.msc.specs.Order.{Belongs}
use Rattle.msc.specs.declared.event.Event.{Event}
use Rattle.msc.specs.declared.event.Event.TheVariants.{Out, In, Action}
use Rattle.order.specs.Charts.{instances, pair_matches, sends_match, is_matched}
use Rattle.order.proofs.Scanned.{all_each, all_from, range_has}
use Rattle.order.proofs.Walks.{picked_is}

-- what a well-formed document says of a chart's parts: eight at most are not empty, partners are among the eight, and there are 64 events at most
pub record Framed (parts : ℕ → List Event) : Type 0 where
  pub few : (i : ℕ) → 8 ≤ i → parts i ≡ []
  pub to : (p q : ℕ) → 8 ≤ q → picked (out_to q) (parts p) ≡ []
  pub from : (p q : ℕ) → 8 ≤ p → picked (in_from p) (parts q) ≡ []
  pub size : (done : List ℕ) → length done ≡ 8 → ((i : ℕ) → get_or done i 0 ≤ length (parts i)) → sum done ≤ 64

-- for every ordered pair the outs and the ins are the same messages in the same order
abbrev pub Pairs : (ℕ → List Event) → Type 0
Pairs parts = (p q : ℕ) → picked (out_to q) (parts p) ≡ picked (in_from p) (parts q)

pub drop_lt : {A : Type 0} (k : ℕ) (xs : List A) (x : A) (ys : List A) → drop k xs ≡ x ∷ ys → k < length xs
drop_lt k xs x ys h = let n : length (drop k xs) ≡ suc (length ys) = ap length h in omega (arith, length-drop k xs)

pub take_next : {A : Type 0} (xs : List A) (a : ℕ) (x : A) (ys : List A) → drop a xs ≡ x ∷ ys → take (suc a) xs ≡ take a xs ++ x ∷ []
take_next [] zero x ys h = cc
take_next [] (suc a) x ys h = cc
take_next (y ∷ xs) zero x ys h = cc
take_next (y ∷ xs) (suc a) x ys h = ap (λ r. y ∷ r) (take_next xs a x ys h)

pub picked-++ : (f : Event → List ℕ) (xs ys : List Event) → picked f (xs ++ ys) ≡ picked f xs ++ picked f ys
picked-++ f [] ys = refl
picked-++ f (x ∷ xs) ys = rw (picked-++ f xs ys) (sym (append_assoc (f x) (picked f xs) (picked f ys)))

pub picked-cut : (f : Event → List ℕ) (n : ℕ) (xs : List Event) → picked f (take n xs) ++ picked f (drop n xs) ≡ picked f xs
picked-cut f n xs = sym (picked-++ f (take n xs) (drop n xs)) ∙ ap (picked f) (take-append-drop n xs)

pub picked_mono : (f : Event → List ℕ) (a b : ℕ) (xs : List Event) → a ≤ b → length (picked f (take a xs)) ≤ length (picked f (take b xs))
picked_mono f a b xs h =
    let k = picked-cut f a (take b xs) in
    let t = take-take a b xs h in
    omega (arith, simp (length-append, t) at (ap length k))

-- one more out to q
pub out_more : (es : List Event) (q a n : ℕ) (xs : List Event) → drop a es ≡ Out n q ∷ xs → length (picked (out_to q) (take (suc a) es)) ≡ length (picked (out_to q) (take a es)) + 1
out_more es q a n xs h = rw (take_next es a (Out n q) xs h, picked-++, length-append, eq-eqb q q refl)

abbrev IsOut : ℕ → List Event → ℕ → Type 0
IsOut q es c = (a : ℕ) × (n : ℕ) × (xs : List Event) × (drop a es ≡ Out n q ∷ xs) × (length (picked (out_to q) (take a es)) ≡ c)

-- out number c to q
pub nth_out : (q : ℕ) (es : List Event) (c : ℕ) → c < length (picked (out_to q) es) → IsOut q es c
nth_out q [] c h = absurd (let z : ⊥ = omega arith in z)
nth_out q (In n t ∷ es) c h = let r = nth_out q es c h in (suc r.0, r.1, r.2, r.3, r.4)
nth_out q (Action n ∷ es) c h = let r = nth_out q es c h in (suc r.0, r.1, r.2, r.3, r.4)
nth_out q (Out n t ∷ es) c h = go (eqb t q) refl c h (λ k. nth_out q es k)
  where
    go : (b : Bool) → eqb t q ≡ b → (c : ℕ) → c < length (cond b (n ∷ []) [] ++ picked (out_to q) es) → ((k : ℕ) → k < length (picked (out_to q) es) → IsOut q es k) → IsOut q (Out n t ∷ es) c
    go true e zero h ih = (0, n, es, ap (λ z. Out n z ∷ es) (eqb-true t q e), refl)
    go true e (suc c) h ih = let r = ih c (omega arith) in (suc r.0, r.1, r.2, r.3, rw e (ap suc r.4))
    go false e c h ih = let r = ih c h in (suc r.0, r.1, r.2, r.3, rw e r.4)

module _ (parts : ℕ → List Event) where
  -- where pairs match, an in has the out that belongs to it
  pub out_of : Pairs parts → (p i k n : ℕ) (ys : List Event) → drop k (parts i) ≡ In n p ∷ ys → (a : ℕ) × Belongs parts p a i k
  out_of M p i k n ys dk =
      let ins : picked (out_to i) (parts p) ≡ picked (in_from p) (take k (parts i)) ++ n ∷ picked (in_from p) ys
      = M p i ∙ sym (ap (picked (in_from p)) (take-append-drop k (parts i))) ∙ rw (picked-++, dk, eq-eqb p p refl) in
      let few : length (picked (in_from p) (take k (parts i))) < length (picked (out_to i) (parts p)) = rw (ins, length-append) (omega arith) in
      let r = nth_out i (parts p) (length (picked (in_from p) (take k (parts i)))) few in
      (r.0, (r.1, n, r.2, ys, r.3, dk, r.4))

  pub is_matched_lem : Framed parts → is_matched parts ≡ true → Pairs parts
  is_matched_lem w h p q = go (cases_lt p 8) (cases_lt q 8)
    where
      go : (p < 8) ⊎ (8 ≤ p) → (q < 8) ⊎ (8 ≤ q) → picked (out_to q) (parts p) ≡ picked (in_from p) (parts q)
      go (inl a) (inl b) = sym (picked_is (out_to q) (parts p))
          ∙ (bytes_eq-Decides _ _).0 (all_each (pair_matches parts p) instances (all_each (sends_match parts) instances h p (range_has 0 8 p (omega arith) (omega arith))) q (range_has 0 8 q (omega arith) (omega arith)))
          ∙ picked_is (in_from p) (parts q)
      go (inl a) (inr b) = w.to p q b ∙ sym (ap (picked (in_from p)) (w.few q b))
      go (inr a) b = ap (picked (out_to q)) (w.few p a) ∙ sym (w.from p q a)

  pub matched_is : Pairs parts → is_matched parts ≡ true
  matched_is M = all_from (sends_match parts) instances (λ p _. all_from (pair_matches parts p) instances (λ q _. (bytes_eq-Decides _ _).1 (picked_is (out_to q) (parts p) ∙ M p q ∙ sym (picked_is (in_from p) (parts q)))))
