-- How often a stamp stands in a list, and that the order of the list does not matter.
use Rattle.std.proofs.Common.{◌≡◌, ℕ, zero, suc, ◌+◌, ◌<◌, true, cond, List, [], ◌∷◌, ◌++◌, length, get_or, sum_by, sym, refl, ap, ◌∙◌, ⊎_elim, arith}
use Rattle.std.specs.List.{ContainsAt}
use Rattle.std.specs.List.Sorted.{IsPermutation}
use Rattle.std.proofs.lemmas.List.Sorted.{sum_by-IsPermutation, Contains-permutation}
use Rattle.std.proofs.lemmas.List.Elements.{Contains-from_at, at_from_Contains}
use Rattle.std.proofs.lemmas.List.Sums.{sum_by-cons}
use Rattle.std.proofs.lemmas.Bool.{cases_Bool}
use Rattle.bag.specs.declared.Stamped.{Stamped}
use Rattle.restorer.specs.Stamps.{carries, tally, letter_at}

module _ (f t s : ℕ) where
  tally-sum_by : (xs : List Stamped) → tally f t s xs ≡ sum_by (λ x. cond (carries f t s x) 1 0) xs
  tally-sum_by [] = refl
  tally-sum_by (x ∷ xs) = ap (λ n. cond (carries f t s x) 1 0 + n) (tally-sum_by xs) ∙ sym (sum_by-cons (λ x. cond (carries f t s x) 1 0) x xs)

  pub tally_shuffled : (xs ys : List Stamped) → IsPermutation xs ys → tally f t s ys ≡ tally f t s xs
  tally_shuffled xs ys h = tally-sum_by ys ∙ sum_by-IsPermutation (λ x. cond (carries f t s x) 1 0) xs ys h ∙ sym (tally-sum_by xs)

  pub tally_append : (xs ys : List Stamped) → tally f t s (xs ++ ys) ≡ tally f t s xs + tally f t s ys
  tally_append [] ys = omega arith
  tally_append (x ∷ xs) ys = let ih = tally_append xs ys in omega arith

  pub has-tally : (xs : List Stamped) (k : ℕ) (x : Stamped) → k < length xs → ((d : Stamped) → get_or xs k d ≡ x) → carries f t s x ≡ true → 0 < tally f t s xs
  has-tally [] k x lt at e = absurd (omega arith)
  has-tally (y ∷ ys) zero x lt at e = let h : carries f t s y ≡ true = rw (at y) e in rw h (omega arith)
  has-tally (y ∷ ys) (suc k) x lt at e = let ih = has-tally ys k x (omega arith) at e in omega arith

  member : (xs : List Stamped) → 0 < tally f t s xs → (x : Stamped) × ContainsAt xs x × (carries f t s x ≡ true)
  member [] h = absurd (omega arith)
  member (x ∷ xs) h =
      ⊎_elim
      (λ e. (x, (0, omega arith, λ d. refl), e))
      (λ e.
      let h' = rw e at h in
      let m = member xs (omega arith) in
      (m.0, (suc m.1.0, omega arith, m.1.2), m.2))
      (cases_Bool (carries f t s x))

  pub unique : (xs : List Stamped) (k : ℕ) (x : Stamped) → k < length xs → ((d : Stamped) → get_or xs k d ≡ x) → carries f t s x ≡ true → tally f t s xs ≡ 1 → letter_at f t s xs ≡ x.letter
  unique [] k x lt at e n = absurd (omega arith)
  unique (y ∷ ys) zero x lt at e n = let h : carries f t s y ≡ true = rw (at y) e in rw h (ap (λ z. z.letter) (at y))
  unique (y ∷ ys) (suc k) x lt at e n =
      ⊎_elim
      (λ h.
      let p = has-tally ys k x (omega arith) at e in
      let q = rw h at n in
      absurd (omega arith))
      (λ h. let q = rw h at n in rw h (unique ys k x (omega arith) at e (omega arith)))
      (cases_Bool (carries f t s y))

  -- a stamp that stands once has the same letter in any order
  pub letter_shuffled : (xs ys : List Stamped) → IsPermutation xs ys → tally f t s xs ≡ 1 → letter_at f t s ys ≡ letter_at f t s xs
  letter_shuffled xs ys h n =
      let m = member xs (omega arith) in
      let a = at_from_Contains ys m.0 (Contains-permutation xs ys m.0 h (Contains-from_at xs m.0 m.1)) in
      let k = tally_shuffled xs ys h ∙ n in
      unique ys a.0 m.0 a.1 a.2 m.2 k ∙ sym (unique xs m.1.0 m.0 m.1.1 m.1.2 m.2 n)
