-- Laws of the search for a letter.
use Rattle.std.proofs.Common.{◌≡◌, ℕ, zero, suc, ◌+◌, ◌-◌, Bool, true, false, cond, List, [], ◌∷◌, length, find, option_map, Some, None, Ok, Err, Option, Result, sym, refl, ap, ◌∙◌, ⊎_elim, arith}
use Rattle.std.specs.List.{range_with_len}
use Rattle.channel.specs.declared.Refusal.{Refusal}
use Rattle.std.proofs.lemmas.Bool.{cases_Bool}
use Rattle.bag.specs.declared.Stamped.{Stamped}
use Rattle.bag.specs.Held.{shown_at}
use Rattle.restorer.specs.Stamps.{carries, carries_at, later, sought_in, tally}

module _ (f t s : ℕ) where
  find-later : (test : ℕ → Bool) (a n : ℕ) → find test (range_with_len (suc a) n) ≡ later (find (λ i. test (suc i)) (range_with_len a n))
  find-later test a zero = refl
  find-later test a (suc n) =
      ⊎_elim
      (λ (e : test (suc a) ≡ true). rw e refl)
      (λ (e : test (suc a) ≡ false). let next : suc a + 1 ≡ suc (a + 1) = omega arith in rw (e, next) (find-later test (a + 1) n))
      (cases_Bool (test (suc a)))

  find_in : (xs : List Stamped) → find (carries_at f t s xs) (range_with_len 0 (length xs)) ≡ sought_in f t s xs
  find_in [] = refl
  find_in (x ∷ xs) = ap (cond (carries f t s x) (Some 0)) (find-later (carries_at f t s (x ∷ xs)) 0 (length xs) ∙ ap later (find_in xs))

  -- what the places are gone through for
  pub found_in : (xs : List Stamped) (n : ℕ) (o : Option ℕ) → n ≡ length xs → option_map (λ i. i) o ≡ find (carries_at f t s xs) (range_with_len 0 (n - 0)) → o ≡ sought_in f t s xs
  found_in xs n None e h = h ∙ ap (λ k. find (carries_at f t s xs) (range_with_len 0 k)) (let d : n - 0 ≡ length xs = omega arith in d) ∙ find_in xs
  found_in xs n (Some i) e h = h ∙ ap (λ k. find (carries_at f t s xs) (range_with_len 0 k)) (let d : n - 0 ≡ length xs = omega arith in d) ∙ find_in xs

  later_none : (o : Option ℕ) → later o ≡ None → o ≡ None
  later_none None e = refl
  later_none (Some i) e = absurd (let z : ◌≡◌ {A = ℕ} 0 1 = cc in omega arith)

  pub sought_none : (xs : List Stamped) → sought_in f t s xs ≡ None → tally f t s xs ≡ 0
  sought_none [] e = refl
  sought_none (x ∷ xs) e =
      ⊎_elim
      (λ (h : carries f t s x ≡ true). absurd (let e' = rw h at e in let z : ◌≡◌ {A = ℕ} 0 1 = cc in omega arith))
      (λ (h : carries f t s x ≡ false).
      let e' = rw h at e in
      let ih = sought_none xs (later_none (sought_in f t s xs) e') in
      rw h (omega arith))
      (cases_Bool (carries f t s x))

  later_some : (o : Option ℕ) (i : ℕ) → later o ≡ Some i → (j : ℕ) × (i ≡ suc j) × (o ≡ Some j)
  later_some None i e = absurd (let z : ◌≡◌ {A = ℕ} 0 1 = cc in omega arith)
  later_some (Some j) i e = (j, (cc), refl)

  pub sought_here : (xs : List Stamped) (i : ℕ) → sought_in f t s xs ≡ Some i → (x : Stamped) × (shown_at xs i ≡ Ok x) × (carries f t s x ≡ true)
  sought_here [] i e = absurd (let z : ◌≡◌ {A = ℕ} 0 1 = cc in omega arith)
  sought_here (y ∷ ys) i e =
      ⊎_elim
      (λ (h : carries f t s y ≡ true).
      let e' = rw h at e in
      let q : i ≡ 0 = cc in
      (y, ap (shown_at (y ∷ ys)) q, h))
      (λ (h : carries f t s y ≡ false).
      let e' = rw h at e in
      let l = later_some (sought_in f t s ys) i e' in
      let ih = sought_here ys l.0 l.2 in
      (ih.0, ap (shown_at (y ∷ ys)) l.1 ∙ ih.1, ih.2))
      (cases_Bool (carries f t s y))

  -- what the search finds is there, and is what was sought
  pub sought_carries : (xs : List Stamped) (i : ℕ) (x : Stamped) → Some i ≡ sought_in f t s xs → ◌≡◌ {A = Result Stamped Refusal} (Ok x) (shown_at xs i) → carries f t s x ≡ true
  sought_carries xs i x e y =
      let h = sought_here xs i (sym e) in
      let q : h.0 ≡ x = cc h.1 in
      ap (carries f t s) (sym q) ∙ h.2

  pub sought_shown : (xs : List Stamped) (i : ℕ) (w : Refusal) → Some i ≡ sought_in f t s xs → ◌≡◌ {A = Result Stamped Refusal} (Err w) (shown_at xs i) → ⊥
  sought_shown xs i w e y =
      let h = sought_here xs i (sym e) in
      let z : ◌≡◌ {A = ℕ} 0 1 = cc h.1 in
      omega arith
