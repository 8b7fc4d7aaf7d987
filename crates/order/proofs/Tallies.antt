-- What is known of those who lead once they are gathered.
use Rattle.std.proofs.Common.{◌≡◌, ℕ, ◌<◌, Bool, true, false, cond, eqb, ◌⊎◌, List, [], ◌∷◌, sym, refl, ◌∙◌, inl, inr, ⊎_elim, arith}
use Rattle.std.specs.List.{filter, fold}
use Rattle.std.proofs.lemmas.Bool.{eqb-true, eqb-false}
use Rattle.msc.specs.Listing.{Mem}
use Rattle.msc.specs.declared.event.Event.{Event}
use Rattle.order.specs.Charts.{instances, starts, starters, joined_by, gathered}
use Rattle.order.specs.declared.leaders.Leaders.{Leaders}
use Rattle.order.specs.declared.leaders.Leaders.TheVariants.{Nobody, One, Several}
use Rattle.order.proofs.Scanned.{range_has, passes_kept, kept_passes}

-- Leads holds of none, of one alone, or of two different numbers
abbrev pub Tally : Leaders → (ℕ → Type 0) → Type 0
Tally Nobody Leads = (i : ℕ) → Leads i → ⊥
Tally (One i) Leads = Leads i × ((j : ℕ) → Leads j → j ≡ i)
Tally Several Leads = (i : ℕ) × (j : ℕ) × Leads i × Leads j × (i ≡ j → ⊥)

pub tally_like : (a : Leaders) (P Q : ℕ → Type 0) → ((i : ℕ) → P i → Q i) → ((i : ℕ) → Q i → P i) → Tally a P → Tally a Q
tally_like Nobody P Q f g t = λ i q. t i (g i q)
tally_like (One i) P Q f g t = (f i t.0, λ j q. t.1 j (g j q))
tally_like Several P Q f g t = (t.0, t.1, f t.0 t.2, f t.1 t.3, t.4)

tally_more : (a : Leaders) (x : ℕ) (P : ℕ → Type 0) → Tally a P → Tally (joined_by a x) (λ j. P j ⊎ (j ≡ x))
tally_more Nobody x P t = (inr refl, λ j. ⊎_elim (λ p. absurd (t j p)) (λ e. e))
tally_more (One i) x P t = go (eqb i x) refl
  where
    go : (b : Bool) → eqb i x ≡ b → Tally (cond b (One i) Several) (λ j. P j ⊎ (j ≡ x))
    go true e = (inl t.0, λ j. ⊎_elim (λ p. t.1 j p) (λ h. h ∙ sym (eqb-true i x e)))
    go false e = (i, x, inl t.0, inr refl, eqb-false i x e)
tally_more Several x P t = (t.0, t.1, inl t.2, inl t.3, t.4)

tally_on : (a : Leaders) (xs : List ℕ) (P : ℕ → Type 0) → Tally a P → Tally (gathered a xs) (λ j. P j ⊎ Mem j xs)
tally_on a [] P t = tally_like a P (λ j. P j ⊎ ⊥) (λ i p. inl p) (λ i. ⊎_elim (λ p. p) (λ z. absurd z)) t
tally_on a (x ∷ xs) P t = tally_like (gathered (joined_by a x) xs) (λ j. (P j ⊎ (j ≡ x)) ⊎ Mem j xs) (λ j. P j ⊎ Mem j (x ∷ xs))
    (λ j. ⊎_elim (⊎_elim inl (λ e. inr (inl e))) (λ h. inr (inr h)))
    (λ j. ⊎_elim (λ p. inl (inl p)) (⊎_elim (λ e. inl (inr e)) inr))
    (tally_on (joined_by a x) xs (λ j. P j ⊎ (j ≡ x)) (tally_more a x P t))

pub tally : (xs : List ℕ) → Tally (gathered Nobody xs) (λ j. Mem j xs)
tally xs = tally_like (gathered Nobody xs) (λ j. ⊥ ⊎ Mem j xs) (λ j. Mem j xs) (λ j. ⊎_elim (λ z. absurd z) (λ h. h)) (λ j. inr) (tally_on Nobody xs (λ j. ⊥) (λ i z. z))

-- a fold that joins where a test passes gathers those that pass
pub gathered_where : (t : ℕ → Bool) (a : Leaders) (is : List ℕ) → fold (λ b i. cond (t i) (joined_by b i) b) a is ≡ gathered a (filter t is)
gathered_where t a [] = refl
gathered_where t a (i ∷ is) = go (t i) (gathered_where t (joined_by a i) is) (gathered_where t a is)
  where
    go : (b : Bool) → fold (λ b i. cond (t i) (joined_by b i) b) (joined_by a i) is ≡ gathered (joined_by a i) (filter t is) → fold (λ b i. cond (t i) (joined_by b i) b) a is ≡ gathered a (filter t is)
        → fold (λ b i. cond (t i) (joined_by b i) b) (cond b (joined_by a i) a) is ≡ gathered a (cond b (i ∷ filter t is) (filter t is))
    go true g h = g
    go false g h = h

module _ (parts : ℕ → List Event) where
  pub mem_starters : (i : ℕ) → i < 8 → starts (parts i) ≡ true → Mem i (starters parts)
  mem_starters i l s = passes_kept (λ k. starts (parts k)) instances i (range_has 0 8 i (omega arith) (omega arith)) s

  pub starters_mem : (i : ℕ) → Mem i (starters parts) → starts (parts i) ≡ true
  starters_mem = kept_passes (λ k. starts (parts k)) instances
