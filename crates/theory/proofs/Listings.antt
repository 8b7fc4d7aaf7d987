-- Laws of lists that respect an order.
use Rattle.std.proofs.Common.{◌≡◌, ◌⊎◌, List, [], ◌∷◌, ◌++◌, map, sym, refl, ap, subst, inl, inr, ⊎_elim}
use Rattle.std.specs.List.{flat_map}
use Rattle.msc.specs.Listing.{Mem, NoRep, After, Chain, link, chain, Whole}

module _ {A : Type 0} where
  pub mem_left : (x : A) (L M : List A) → Mem x L → Mem x (L ++ M)
  mem_left x [] M h = absurd h
  mem_left x (y ∷ L) M (inl e) = inl e
  mem_left x (y ∷ L) M (inr h) = inr (mem_left x L M h)

  pub mem_right : (x : A) (L M : List A) → Mem x M → Mem x (L ++ M)
  mem_right x [] M h = h
  mem_right x (y ∷ L) M h = inr (mem_right x L M h)

  pub mem_cases : (x : A) (L M : List A) → Mem x (L ++ M) → Mem x L ⊎ Mem x M
  mem_cases x [] M h = inr h
  mem_cases x (y ∷ L) M (inl e) = inl (inl e)
  mem_cases x (y ∷ L) M (inr h) = ⊎_elim (λ k. inl (inr k)) inr (mem_cases x L M h)

  pub norep-++ : (L M : List A) → NoRep L → NoRep M → ((x : A) → Mem x L → Mem x M → ⊥) → NoRep (L ++ M)
  norep-++ [] M a b d = b
  norep-++ (x ∷ L) M a b d = (λ h. ⊎_elim a.0 (d x (inl refl)) (mem_cases x L M h), norep-++ L M a.1 b (λ y h. d y (inr h)))

  -- what has been seen after L
  abbrev pub onto : List A → List A → List A
  onto [] seen = seen
  onto (x ∷ L) seen = onto L (x ∷ seen)

  pub mem_onto : (x : A) (L seen : List A) → Mem x L ⊎ Mem x seen → Mem x (onto L seen)
  mem_onto x [] seen (inl h) = absurd h
  mem_onto x [] seen (inr h) = h
  mem_onto x (y ∷ L) seen (inl (inl e)) = mem_onto x L (y ∷ seen) (inr (inl e))
  mem_onto x (y ∷ L) seen (inl (inr h)) = mem_onto x L (y ∷ seen) (inl h)
  mem_onto x (y ∷ L) seen (inr h) = mem_onto x L (y ∷ seen) (inr (inr h))

  pub after-++ : (R : A → A → Type 0) (seen L M : List A) → After R seen L → After R (onto L seen) M → After R seen (L ++ M)
  after-++ R seen [] M a b = b
  after-++ R seen (x ∷ L) M a b = (a.0, after-++ R (x ∷ seen) L M a.1 b)

  -- chains
  closed_chain : (R : A → A → Type 0) (seen : List A) → ((x y : A) → Mem x seen → R y x → Mem y seen) → (x y : A) → Mem x seen → Chain R y x → Mem y seen
  closed_chain R seen c x y m (link r) = c x y m r
  closed_chain R seen c x y m (chain {y = z} a b) = closed_chain R seen c z y (closed_chain R seen c x z m b) a

  next_chain : (R : A → A → Type 0) (seen : List A) → ((x y : A) → Mem x seen → R y x → Mem y seen) → (x y : A) → ((z : A) → R z x → Mem z seen) → Chain R y x → Mem y seen
  next_chain R seen c x y m (link r) = m y r
  next_chain R seen c x y m (chain {y = z} a b) = closed_chain R seen c z y (next_chain R seen c x z m b) a

  pub after_chain : (R : A → A → Type 0) (seen L : List A) → ((x y : A) → Mem x seen → R y x → Mem y seen) → After R seen L → After (Chain R) seen L
  after_chain R seen [] c a = tt
  after_chain R seen (x ∷ L) c a = (λ y. next_chain R seen c x y a.0, after_chain R (x ∷ seen) L closed a.1)
    where
      closed : (z y : A) → Mem z (x ∷ seen) → R y z → Mem y (x ∷ seen)
      closed z y (inl e) r = inr (a.0 y (subst (R y) e r))
      closed z y (inr h) r = inr (c z y h r)

  -- the first of the list of which D does not hold: D holds of all that is before it
  pub first_not : (R : A → A → Type 0) (D : A → Type 0) → ((x : A) → Dec (D x)) → (seen L : List A) → After R seen L → ((x : A) → Mem x seen → D x)
      → ((x : A) → Mem x L → D x) ⊎ ((x : A) × Mem x L × (D x → ⊥) × ((y : A) → R y x → D y))
  first_not R D dec seen [] a s = inl (λ x m. absurd m)
  first_not R D dec seen (x ∷ L) a s = go (dec x) (first_not R D dec (x ∷ seen) L a.1)
    where
      go : Dec (D x) → (((y : A) → Mem y (x ∷ seen) → D y) → ((y : A) → Mem y L → D y) ⊎ ((y : A) × Mem y L × (D y → ⊥) × ((z : A) → R z y → D z)))
          → ((y : A) → Mem y (x ∷ L) → D y) ⊎ ((y : A) × Mem y (x ∷ L) × (D y → ⊥) × ((z : A) → R z y → D z))
      go (yes d) ih = ⊎_elim (λ all. inl (λ y. ⊎_elim (λ e. subst D (sym e) d) (all y))) (λ r. inr (r.0, inr r.1, r.2, r.3)) (ih (λ y. ⊎_elim (λ e. subst D (sym e) d) (s y)))
      go (no d) ih = inr (x, inl refl, d, λ y r. s y (a.0 y r))

  -- a list cut at one of its elements
  pub split_at : (x : A) (L : List A) → Mem x L → (B : List A) × (C : List A) × (L ≡ B ++ x ∷ C)
  split_at x [] h = absurd h
  split_at x (y ∷ L) (inl e) = ([], L, ap (λ z. z ∷ L) (sym e))
  split_at x (y ∷ L) (inr h) = let r = split_at x L h in (y ∷ r.0, r.1, ap (λ z. y ∷ z) r.2)

  -- first portions
  pub norep_front : (L M : List A) → NoRep (L ++ M) → NoRep L
  norep_front [] M n = tt
  norep_front (x ∷ L) M n = (λ h. n.0 (mem_left x L M h), norep_front L M n.1)

  pub after_front : (R : A → A → Type 0) (seen L M : List A) → After R seen (L ++ M) → After R seen L
  after_front R seen [] M a = tt
  after_front R seen (x ∷ L) M a = (a.0, after_front R (x ∷ seen) L M a.1)

  -- an order that asks less
  pub after_less : (R S : A → A → Type 0) (seen L : List A) → ((y x : A) → Mem x L → S y x → R y x) → After R seen L → After S seen L
  after_less R S seen [] h a = tt
  after_less R S seen (x ∷ L) h a = (λ y s. a.0 y (h y x (inl refl) s), after_less R S (x ∷ seen) L (λ y z m. h y z (inr m)) a.1)

  -- what has been seen after L is what was seen, and L
  pub onto_mem : (x : A) (L seen : List A) → Mem x (onto L seen) → Mem x L ⊎ Mem x seen
  onto_mem x [] seen h = inr h
  onto_mem x (y ∷ L) seen h = ⊎_elim (λ m. inl (inr m)) (⊎_elim (λ e. inl (inl e)) inr) (onto_mem x L (y ∷ seen) h)

  -- what R puts before an element stands ahead of it
  pub after_mid : (R : A → A → Type 0) (seen L : List A) (x : A) (M : List A) → After R seen (L ++ x ∷ M) → (y : A) → R y x → Mem y L ⊎ Mem y seen
  after_mid R seen [] x M a y r = inr (a.0 y r)
  after_mid R seen (z ∷ L) x M a y r = ⊎_elim (λ m. inl (inr m)) (⊎_elim (λ e. inl (inl e)) inr) (after_mid R (z ∷ seen) L x M a.1 y r)

  module _ (dec : Discrete A) where
    pub mem? : (x : A) (L : List A) → Dec (Mem x L)
    mem? x [] = no (λ h. h)
    mem? x (y ∷ L) = go (dec x y) (mem? x L)
      where
        go : Dec (x ≡ y) → Dec (Mem x L) → Dec ((x ≡ y) ⊎ Mem x L)
        go (yes e) m = yes (inl e)
        go (no n) (yes h) = yes (inr h)
        go (no n) (no k) = no (⊎_elim n k)

    module _ (L : List A) where
      abbrev keep : (x : A) → Dec (Mem x L) → List A → List A
      keep x (yes h) M = M
      keep x (no h) M = x ∷ M

      -- those of W that are not in L
      abbrev pub minus : List A → List A
      minus [] = []
      minus (x ∷ W) = keep x (mem? x L) (minus W)

      minus_mem : (x : A) (W : List A) → Mem x (minus W) → Mem x W × (Mem x L → ⊥)
      minus_mem x [] h = absurd h
      minus_mem x (w ∷ W) h = go (mem? w L) h (minus_mem x W)
        where
          go : (d : Dec (Mem w L)) → Mem x (keep w d (minus W)) → (Mem x (minus W) → Mem x W × (Mem x L → ⊥)) → Mem x (w ∷ W) × (Mem x L → ⊥)
          go (yes k) m ih = let r = ih m in (inr r.0, r.1)
          go (no k) (inl e) ih = (inl e, λ m. k (subst (λ y. Mem y L) e m))
          go (no k) (inr m) ih = let r = ih m in (inr r.0, r.1)

      minus_has : (x : A) (W : List A) → Mem x W → Mem x L ⊎ Mem x (minus W)
      minus_has x [] h = absurd h
      minus_has x (w ∷ W) h = go (mem? w L) h (minus_has x W)
        where
          go : (d : Dec (Mem w L)) → Mem x (w ∷ W) → (Mem x W → Mem x L ⊎ Mem x (minus W)) → Mem x L ⊎ Mem x (keep w d (minus W))
          go (yes k) (inl e) ih = inl (subst (λ y. Mem y L) (sym e) k)
          go (yes k) (inr m) ih = ih m
          go (no k) (inl e) ih = inr (inl e)
          go (no k) (inr m) ih = ⊎_elim inl (λ n. inr (inr n)) (ih m)

      minus_norep : (W : List A) → NoRep W → NoRep (minus W)
      minus_norep [] n = tt
      minus_norep (w ∷ W) n = go (mem? w L) (minus_norep W n.1)
        where
          go : (d : Dec (Mem w L)) → NoRep (minus W) → NoRep (keep w d (minus W))
          go (yes k) ih = ih
          go (no k) ih = (λ m. n.0 (minus_mem w W m).0, ih)

      minus_after : (R : A → A → Type 0) (seen seen' W : List A) → ((y : A) → Mem y seen → Mem y seen') → ((y : A) → Mem y L → Mem y seen')
          → After R seen W → After R seen' (minus W)
      minus_after R seen seen' [] s l a = tt
      minus_after R seen seen' (w ∷ W) s l a = go (mem? w L) (λ seen'' s'' l''. minus_after R (w ∷ seen) seen'' W s'' l'' a.1)
        where
          go : (d : Dec (Mem w L)) → ((seen'' : List A) → ((y : A) → Mem y (w ∷ seen) → Mem y seen'') → ((y : A) → Mem y L → Mem y seen'') → After R seen'' (minus W))
              → After R seen' (keep w d (minus W))
          go (yes k) ih = ih seen' (λ y. ⊎_elim (λ e. l y (subst (λ z. Mem z L) (sym e) k)) (s y)) l
          go (no k) ih = (λ y r. s y (a.0 y r), ih (w ∷ seen') (λ y. ⊎_elim inl (λ m. inr (s y m))) (λ y m. inr (l y m)))

      -- L, then what of a whole listing W it lacks, is a whole listing: nothing of L waits for anything of W that is not in L
      pub completed : (Is : A → Type 0) (R : A → A → Type 0) (W : List A) → Whole Is R W → ((x : A) → Mem x L → Is x) → NoRep L → After R [] L → Whole Is R (L ++ minus W)
      completed Is R W w real n a = record {
        real = λ x m. ⊎_elim (real x) (λ k. w.real x (minus_mem x W k).0) (mem_cases x L (minus W) m);
        complete = λ x i. ⊎_elim (mem_left x L (minus W)) (mem_right x L (minus W)) (minus_has x W (w.complete x i));
        norep = norep-++ L (minus W) n (minus_norep W w.norep) (λ x m k. (minus_mem x W k).1 m);
        order = after-++ R [] L (minus W) a (minus_after R [] (onto L []) W (λ y h. absurd h) (λ y m. mem_onto y L [] (inl m)) w.order);
      }

module _ {A B : Type 0} (f : A → B) where
  pub mem_map : (x : A) (L : List A) → Mem x L → Mem (f x) (map f L)
  mem_map x [] h = h
  mem_map x (y ∷ L) (inl e) = inl (ap f e)
  mem_map x (y ∷ L) (inr h) = inr (mem_map x L h)

  pub map_mem : (z : B) (L : List A) → Mem z (map f L) → (x : A) × (z ≡ f x) × Mem x L
  map_mem z [] h = absurd h
  map_mem z (y ∷ L) (inl e) = (y, e, inl refl)
  map_mem z (y ∷ L) (inr h) = let r = map_mem z L h in (r.0, r.1, inr r.2)

  pub norep_map : ((x y : A) → f x ≡ f y → x ≡ y) → (L : List A) → NoRep L → NoRep (map f L)
  norep_map inj [] n = tt
  norep_map inj (x ∷ L) n = (λ m. let r = map_mem (f x) L m in n.0 (subst (λ y. Mem y L) (sym (inj x r.0 r.1)) r.2), norep_map inj L n.1)

  -- the order is carried along f, where all that S puts before f x is the base's, or f of what R puts before x
  pub after_map : (R : A → A → Type 0) (S : B → B → Type 0) (base : List B)
      → ((z : B) (x : A) → S z (f x) → Mem z base ⊎ ((y : A) × (z ≡ f y) × R y x))
      → (seen L : List A) → After R seen L → After S (map f seen ++ base) (map f L)
  after_map R S base inv seen [] a = tt
  after_map R S base inv seen (x ∷ L) a = (
    λ z s. ⊎_elim (mem_right z (map f seen) base) (λ r. mem_left z (map f seen) base (subst (λ b. Mem b (map f seen)) (sym r.1) (mem_map r.0 seen (a.0 r.0 r.2)))) (inv z x s),
    after_map R S base inv (x ∷ seen) L a.1,
  )

pub joined_same : {X A : Type 0} (f g : X → List A) (xs : List X) → ((x : X) → Mem x xs → f x ≡ g x) → flat_map f xs ≡ flat_map g xs
joined_same f g [] h = refl
joined_same f g (x ∷ xs) h = let a = h x (inl refl) in let b = joined_same f g xs (λ y m. h y (inr m)) in cc
