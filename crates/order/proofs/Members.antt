-- Lists that respect an order.
use Rattle.std.proofs.Common.{◌⊎◌, List, [], ◌∷◌, ◌++◌, sym, refl, subst, inl, inr, ⊎_elim}
use Rattle.msc.specs.Listing.{Mem, NoRep, After, Chain, link, chain}

module _ {A : Type 0} where
  pub mem_left : (x : A) (L M : List A) → Mem x L → Mem x (L ++ M)
  mem_left x [] M h = absurd h
  mem_left x (y ∷ L) M (inl e) = inl e
  mem_left x (y ∷ L) M (inr h) = inr (mem_left x L M h)

  pub mem_right : (x : A) (L M : List A) → Mem x M → Mem x (L ++ M)
  mem_right x [] M h = h
  mem_right x (y ∷ L) M h = inr (mem_right x L M h)

  pub mem_cases : (x : A) (L M : List A) → Mem x (L ++ M) → Mem x L ⊎ Mem x M
  mem_cases x [] M h = inr h
  mem_cases x (y ∷ L) M (inl e) = inl (inl e)
  mem_cases x (y ∷ L) M (inr h) = ⊎_elim (λ k. inl (inr k)) inr (mem_cases x L M h)

  pub norep_snoc : (L : List A) (x : A) → NoRep L → (Mem x L → ⊥) → NoRep (L ++ x ∷ [])
  norep_snoc [] x n h = (λ m. m, tt)
  norep_snoc (y ∷ L) x n h = (λ m. ⊎_elim n.0 (⊎_elim (λ e. h (inl (sym e))) (λ z. z)) (mem_cases y L (x ∷ []) m), norep_snoc L x n.1 (λ m. h (inr m)))

  -- one more at the end, all that R puts before it being there
  pub after_snoc : (R : A → A → Type 0) (seen L : List A) (x : A) → After R seen L → ((y : A) → R y x → Mem y L ⊎ Mem y seen) → After R seen (L ++ x ∷ [])
  after_snoc R seen [] x a h = (λ y r. ⊎_elim (λ m. absurd m) (λ m. m) (h y r), tt)
  after_snoc R seen (z ∷ L) x a h = (a.0, after_snoc R (z ∷ seen) L x a.1 (λ y r. go y (h y r)))
    where
      go : (y : A) → Mem y (z ∷ L) ⊎ Mem y seen → Mem y L ⊎ Mem y (z ∷ seen)
      go y (inl (inl e)) = inr (inl e)
      go y (inl (inr m)) = inl m
      go y (inr m) = inr (inr m)

  -- chains
  closed_chain : (R : A → A → Type 0) (seen : List A) → ((x y : A) → Mem x seen → R y x → Mem y seen) → (x y : A) → Mem x seen → Chain R y x → Mem y seen
  closed_chain R seen c x y m (link r) = c x y m r
  closed_chain R seen c x y m (chain {y = z} a b) = closed_chain R seen c z y (closed_chain R seen c x z m b) a

  next_chain : (R : A → A → Type 0) (seen : List A) → ((x y : A) → Mem x seen → R y x → Mem y seen) → (x y : A) → ((z : A) → R z x → Mem z seen) → Chain R y x → Mem y seen
  next_chain R seen c x y m (link r) = m y r
  next_chain R seen c x y m (chain {y = z} a b) = closed_chain R seen c z y (next_chain R seen c x z m b) a

  pub after_chain : (R : A → A → Type 0) (seen L : List A) → ((x y : A) → Mem x seen → R y x → Mem y seen) → After R seen L → After (Chain R) seen L
  after_chain R seen [] c a = tt
  after_chain R seen (x ∷ L) c a = (λ y. next_chain R seen c x y a.0, after_chain R (x ∷ seen) L closed a.1)
    where
      closed : (z y : A) → Mem z (x ∷ seen) → R y z → Mem y (x ∷ seen)
      closed z y (inl e) r = inr (a.0 y (subst (R y) e r))
      closed z y (inr h) r = inr (c z y h r)

  -- what stands at a chain's end has something directly before it
  pub last_link : (R : A → A → Type 0) (x y : A) → Chain R x y → (z : A) × R z y
  last_link R x y (link r) = (x, r)
  last_link R x y (chain {y = z} a b) = last_link R z y b

  -- the first of the list of which D does not hold: D holds of all that is before it
  pub first_not : (R : A → A → Type 0) (D : A → Type 0) → ((x : A) → Dec (D x)) → (seen L : List A) → After R seen L → ((x : A) → Mem x seen → D x)
      → ((x : A) → Mem x L → D x) ⊎ ((x : A) × Mem x L × (D x → ⊥) × ((y : A) → R y x → D y))
  first_not R D dec seen [] a s = inl (λ x m. absurd m)
  first_not R D dec seen (x ∷ L) a s = go (dec x) (first_not R D dec (x ∷ seen) L a.1)
    where
      go : Dec (D x) → (((y : A) → Mem y (x ∷ seen) → D y) → ((y : A) → Mem y L → D y) ⊎ ((y : A) × Mem y L × (D y → ⊥) × ((z : A) → R z y → D z)))
          → ((y : A) → Mem y (x ∷ L) → D y) ⊎ ((y : A) × Mem y (x ∷ L) × (D y → ⊥) × ((z : A) → R z y → D z))
      go (yes d) ih = ⊎_elim (λ all. inl (λ y. ⊎_elim (λ e. subst D (sym e) d) (all y))) (λ r. inr (r.0, inr r.1, r.2, r.3)) (ih (λ y. ⊎_elim (λ e. subst D (sym e) d) (s y)))
      go (no d) ih = inr (x, inl refl, d, λ y r. s y (a.0 y r))
