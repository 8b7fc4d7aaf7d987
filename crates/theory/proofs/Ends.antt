-- From where a path ends, an end label is near: a way with no label twice has at most 64 places.
use Rattle.std.proofs.Common.{◌≡◌, ℕ, zero, suc, ◌<◌, ◌≤◌, List, [], ◌∷◌, ◌++◌, length, sym, refl, ap, ◌∙◌, subst, inl, inr, ⊎_elim, arith, length-append}
use native.Mathlib.Decide.{ℕ_discrete}
use Rattle.msc.specs.Choice.{IsEnd, LeadsToEnd, ends, goes, PathFrom, Path, last_from, Reached}
use Rattle.msc.specs.Listing.{Mem, NoRep}
use Rattle.msc.specs.Meaning.{Meaning, start}
use Rattle.theory.specs.Given.{PathEnd, Given, WayToEnd}
use Rattle.theory.proofs.Listings.{mem_left, mem_right, mem_cases, split_at, mem?}
use Rattle.theory.proofs.Paths.{path_joined, last_joined}

module _ {A : Type 0} where
  norep_back : (L M : List A) → NoRep (L ++ M) → NoRep M
  norep_back [] M n = n
  norep_back (x ∷ L) M n = norep_back L M n.1

  -- less an element in the middle, and that element
  norep_less : (L : List A) (x : A) (M : List A) → NoRep (L ++ x ∷ M) → NoRep (L ++ M) × (Mem x (L ++ M) → ⊥)
  norep_less [] x M n = (n.1, n.0)
  norep_less (y ∷ L) x M n = let r = norep_less L x M n.1 in (
    (λ h. n.0 (⊎_elim (mem_left y L (x ∷ M)) (λ k. mem_right y L (x ∷ M) (inr k)) (mem_cases y L M h)), r.0),
    ⊎_elim (λ (e : x ≡ y). n.0 (subst (λ z. Mem z (L ++ x ∷ M)) e (mem_right x L (x ∷ M) (inl refl)))) r.1,
  )

-- numbers below n, none twice, are at most n: less n - 1, if it is there, they are below n - 1
few_below : (n : ℕ) (L : List ℕ) → NoRep L → ((x : ℕ) → Mem x L → x < n) → length L ≤ n
few_below zero [] r b = omega arith
few_below zero (x ∷ L) r b = absurd (let z : ⊥ = omega (arith, b x (inl refl)) in z)
few_below (suc n) L r b = go (mem? ℕ_discrete n L) (few_below n)
  where
    less : (x : ℕ) → x < suc n → (x ≡ n → ⊥) → x < n
    less x h ne = omega arith

    go : Dec (Mem n L) → ((M : List ℕ) → NoRep M → ((x : ℕ) → Mem x M → x < n) → length M ≤ n) → length L ≤ suc n
    go (no h) ih = omega (arith, ih L r (λ x m. less x (b x m) (λ e. h (subst (λ z. Mem z L) e m))))
    go (yes h) ih = let (B, C, l_is) = split_at n L h in
        let s = norep_less B n C (subst NoRep l_is r) in
        let inside : (x : ℕ) → Mem x (B ++ C) → Mem x L = λ x m. subst (Mem x) (sym l_is) (⊎_elim (mem_left x B (n ∷ C)) (λ k. mem_right x B (n ∷ C) (inr k)) (mem_cases x B C m)) in
        let k = ih (B ++ C) s.0 (λ x m. less x (b x (inside x m)) (λ e. s.1 (subst (λ z. Mem z (B ++ C)) e m))) in
        omega (arith, ap length l_is, length-append B (n ∷ C), length-append B C)

module _ (m : Meaning) where
  -- a way to an end with no label twice: a way that comes back to a label is cut short there
  simple_way : (x : ℕ) → LeadsToEnd m x → (Q : List ℕ) × WayToEnd m x Q × NoRep Q
  simple_way x (ends {l = l} h e) = ([], (tt, (l, h, e)), tt)
  simple_way x (goes {l = l} h n d) = shorter (simple_way l d)
    where
      shorter : (Q : List ℕ) × WayToEnd m l Q × NoRep Q → (Q : List ℕ) × WayToEnd m x Q × NoRep Q
      shorter (Q, w, r) = go (mem? ℕ_discrete l Q)
        where
          go : Dec (Mem l Q) → (Q : List ℕ) × WayToEnd m x Q × NoRep Q
          go (no f) = (l ∷ Q, ((h, n, w.0), w.1), (f, r))
          go (yes f) = let (B, C, q_is) = split_at l Q f in
              (l ∷ C, ((h, n, tail l B C (subst (PathFrom m l) q_is w.0)), subst (λ z. (k : ℕ) × Mem k (m.list z) × IsEnd m k) (ap (last_from m l) q_is ∙ last_tail l B C) w.1), norep_back B (l ∷ C) (subst NoRep q_is r))
            where
              tail : (y : ℕ) (B C : List ℕ) → PathFrom m y (B ++ l ∷ C) → PathFrom m l C
              tail y [] C v = v.2
              tail y (b ∷ B) C v = tail b B C v.2

              last_tail : (y : ℕ) (B C : List ℕ) → last_from m y (B ++ l ∷ C) ≡ last_from m l C
              last_tail y [] C = refl
              last_tail y (b ∷ B) C = last_tail b B C

  -- the labels of a way from a path's end are reached
  way_reached : (P : List ℕ) → Path m P → (Q : List ℕ) → PathFrom m (last_from m start P) Q → (l : ℕ) → Mem l Q → Reached m l
  way_reached P v [] w l h = absurd h
  way_reached P v (q ∷ Q) w l (inl e) = (P, v, subst (λ z. Mem z (m.list (last_from m start P))) (sym e) w.0)
  way_reached P v (q ∷ Q) w l (inr h) = way_reached (P ++ q ∷ []) (path_joined m start P (q ∷ []) v (w.0, w.1, tt)) Q (subst (λ z. PathFrom m z Q) (sym (last_joined m start P (q ∷ []))) w.2) l h

  pub end_near : Given m → (x : ℕ) → PathEnd m x → (Q : List ℕ) × WayToEnd m x Q × (length Q ≤ 64)
  end_near G x (P, v, x_is) = let (Q, w, r) = simple_way x (G.to_end x (P, v, x_is)) in
      (Q, w, few_below 64 Q r (λ l h. G.labels l (way_reached P v Q (subst (λ z. PathFrom m z Q) (sym x_is) w.0) l h)))
