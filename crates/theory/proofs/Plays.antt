-- Playing event by event is listing a beginning of a linearisation.
use Rattle.std.proofs.Common.{◌≡◌, ℕ, suc, ◌<◌, ◌≤◌, Bool, true, false, cond, eqb, ◌↔◌, List, [], ◌∷◌, length, take, sym, refl, ap, subst, inl, inr, ⊎_elim, arith, eqb-true}
use borrow.Author.Tests.{eqb-false}
use Rattle.std.proofs.lemmas.Bool.{cases_lt}
use Rattle.msc.specs.Listing.{Mem, NoRep, After, link}
use Rattle.msc.specs.Order.{spot, Occ, occ, inst, Belongs, chart_at, IsOcc, Direct, Before}
use Rattle.msc.specs.declared.event.Event.{Event}
use Rattle.theory.specs.Cuts.{nothing, bump, Consistent, Enabled, Plays, Ordered}
use Rattle.theory.specs.Given.{Paired}
use Rattle.theory.specs.Projection.{at, proj, pos}
use Rattle.theory.proofs.Listings.{after_chain}
use Rattle.theory.proofs.Lists.{drop_lt}
use Rattle.theory.proofs.Progress.{opens}
use Rattle.theory.proofs.Projections.{mono, inside, find, ordered, same_pos, stands_pos}
use Rattle.theory.proofs.Steps.{step_consistent}

module _ (part : ℕ → ℕ → List Event) (P : List ℕ) where
  -- what has been seen is what the cut has done
  unfoldable pub Sync : List Occ → (ℕ → ℕ) → Type 0
  Sync seen e = (x : Occ) → IsOcc part P x → Mem x seen ↔ (pos part P x < e (inst x))

  -- an occurrence not seen, with all that is directly before it seen, is next: an earlier one of its instance would be before it and not done
  next_pos : (seen : List Occ) (e : ℕ → ℕ) → Sync seen e → (x : Occ) → IsOcc part P x → (Mem x seen → ⊥) → ((y : Occ) → Direct part P y x → Mem y seen) → e (inst x) ≡ pos part P x
  unfolding Sync
  next_pos seen e S (occ j (spot i k)) r new before = ⊎_elim
      (λ (a : e i < pos part P (occ j (spot i k))).
      let f = find part 0 P i (e i) (let b = inside part 0 P j i k r in omega arith) in
      let o = ordered part P f.0 j i f.1 k f.2 r (omega (arith, f.3)) in
      let m : Mem (occ f.0 (spot i f.1)) seen = before (occ f.0 (spot i f.1)) (f.2, ⊎_elim (λ b. inl (refl, b)) (λ b. inr (b.0, inl (refl, b.1))) o) in
      absurd (let z : ⊥ = omega (arith, f.3, (S (occ f.0 (spot i f.1)) f.2).0 m) in z))
      (λ (a : pos part P (occ j (spot i k)) ≤ e i). ⊎_elim
      (λ (b : pos part P (occ j (spot i k)) < e i). absurd (new ((S (occ j (spot i k)) r).1 b)))
      (λ (b : e i ≤ pos part P (occ j (spot i k))). omega arith)
      (cases_lt (pos part P (occ j (spot i k))) (e i)))
      (cases_lt (e i) (pos part P (occ j (spot i k))))

  pub sync_next : (seen : List Occ) (e : ℕ → ℕ) → Sync seen e → (x : Occ) → IsOcc part P x → e (inst x) ≡ pos part P x → Sync (x ∷ seen) (bump e (inst x))
  unfolding Sync
  sync_next seen e S x r at_x y y_real = go (eqb (inst y) (inst x)) refl
    where
      go : (b : Bool) → eqb (inst y) (inst x) ≡ b → Mem y (x ∷ seen) ↔ (pos part P y < cond b (suc (e (inst y))) (e (inst y)))
      go true h = let s : inst y ≡ inst x = eqb-true (inst y) (inst x) h in (
        ⊎_elim (λ (q : y ≡ x). omega (arith, at_x, ap (pos part P) q, ap e s)) (λ m. omega (arith, (S y y_real).0 m)),
        λ (q : pos part P y < suc (e (inst y))). ⊎_elim (λ (a : pos part P y < e (inst y)). inr ((S y y_real).1 a)) (λ (a : e (inst y) ≤ pos part P y). inl (same_pos part P y x y_real r s (omega (arith, at_x, ap e s)))) (cases_lt (pos part P y) (e (inst y))),
      )
      go false h = (
        ⊎_elim (λ (q : y ≡ x). absurd (eqb-false (inst y) (inst x) h (ap inst q))) (λ m. (S y y_real).0 m),
        λ q. inr ((S y y_real).1 q),
      )

  pub none_sync : Sync [] nothing
  unfolding Sync
  none_sync x r = (λ m. absurd m, λ h. absurd (let z : ⊥ = omega arith in z))

  pub none_consistent : Consistent part P nothing
  none_consistent p q = omega arith

  -- an enabled occurrence is one of the path, and next
  pub enabled_is : (e : ℕ → ℕ) (j i k : ℕ) → Enabled part P e (occ j (spot i k)) → IsOcc part P (occ j (spot i k)) × (e i ≡ pos part P (occ j (spot i k)))
  enabled_is e j i k (l, v, xs, N, R) =
      let r = stands_pos part P i (e i) (occ j (spot i k)) l v xs N (drop_lt (e i) (proj part P i) (at (occ j (spot i k)) l v) xs N) in (r.0, sym r.2)

  module _ (H : Paired part) where
    pub enabled_consistent : (e : ℕ → ℕ) → Consistent part P e → (j i k : ℕ) → Enabled part P e (occ j (spot i k)) → Consistent part P (bump e i)
    enabled_consistent e K j i k (l, v, xs, N, R) = step_consistent part P e i j (spot i k) l v xs N K R

    -- What is listed next is not done and all that is before it is, so it is next for its instance, and the out that belongs to it, if it is an in, is done: it can be played.
    plays_from : (e : ℕ → ℕ) → Consistent part P e → (seen : List Occ) → Sync seen e → (L : List Occ) → ((x : Occ) → Mem x L → IsOcc part P x) → NoRep L
        → ((x : Occ) → Mem x seen → Mem x L → ⊥) → After (Before part P) seen L → Plays part P e L
    unfolding Sync
    plays_from e K seen S [] real n d a = tt
    plays_from e K seen S (occ j (spot i k) ∷ L) real n d a =
        (en, plays_from (bump e i) (enabled_consistent e K j i k en) (x ∷ seen) (sync_next seen e S x r at_x) L (λ y m. real y (inr m)) n.1 d' a.1)
      where
        x : Occ
        x = occ j (spot i k)

        r : IsOcc part P x
        r = real x (inl refl)

        before : (y : Occ) → Direct part P y x → Mem y seen
        before y h = a.0 y (link h)

        at_x : e i ≡ pos part P x
        at_x = next_pos seen e S x r (λ m. d x m (inl refl)) before

        out : (p b : ℕ) → Belongs (chart_at part P j) p b i k → pos part P (occ j (spot p b)) < e p
        out p b g = let r' : IsOcc part P (occ j (spot p b)) = drop_lt b (chart_at part P j p) _ _ g.4 in
            (S (occ j (spot p b)) r').0 (before (occ j (spot p b)) (r', inr (refl, inr g)))

        en : Enabled part P e x
        en = (opens part H e i k P j K r at_x).1 out

        d' : (y : Occ) → Mem y (x ∷ seen) → Mem y L → ⊥
        d' y (inl q) m = n.0 (subst (λ z. Mem z L) q m)
        d' y (inr h) m = d y h (inr m)

    -- What is played next was not done before, and all that is directly before it was: earlier events of its instance, as it was next, and the out that belongs to it, as it could be played.
    played_from : (e : ℕ → ℕ) → Consistent part P e → (seen : List Occ) → Sync seen e → (L : List Occ) → Plays part P e L
        → ((x : Occ) → Mem x L → IsOcc part P x) × NoRep L × ((x : Occ) → Mem x seen → Mem x L → ⊥) × After (Direct part P) seen L
    unfolding Sync
    played_from e K seen S [] h = (λ x m. absurd m, tt, λ x m k. k, tt)
    played_from e K seen S (occ j (spot i k) ∷ L) (en, h) = go (played_from (bump e i) (enabled_consistent e K j i k en) (x ∷ seen) (sync_next seen e S x r at_x) L h)
      where
        x : Occ
        x = occ j (spot i k)

        r : IsOcc part P x
        r = (enabled_is e j i k en).0

        at_x : e i ≡ pos part P x
        at_x = (enabled_is e j i k en).1

        below : (y : Occ) → IsOcc part P y → inst y ≡ i → pos part P y < pos part P x → Mem y seen
        below y r' s b = (S y r').1 (omega (arith, at_x, ap e s))

        before : (y : Occ) → Direct part P y x → Mem y seen
        before (occ j' (spot p b)) (r', inl (s, c)) = below (occ j' (spot p b)) r' s (omega (arith, mono part 0 P j' j p b c r', ap (λ n. length (proj part (take j P) n)) s))
        before (occ j' (spot p b)) (r', inr (w, inl (s, c))) = below (occ j' (spot p b)) r' s (omega (arith, ap (λ n. length (proj part (take n P) p)) w, ap (λ n. length (proj part (take j P) n)) s))
        before (occ j' (spot p b)) (r', inr (w, inr g)) =
            (S (occ j' (spot p b)) r').1 (omega (arith, ap (λ n. length (proj part (take n P) p)) w, (opens part H e i k P j K r at_x).0 en p b (subst (λ n. Belongs (chart_at part P n) p b i k) w g)))

        go : ((y : Occ) → Mem y L → IsOcc part P y) × NoRep L × ((y : Occ) → Mem y (x ∷ seen) → Mem y L → ⊥) × After (Direct part P) (x ∷ seen) L
            → ((y : Occ) → Mem y (x ∷ L) → IsOcc part P y) × NoRep (x ∷ L) × ((y : Occ) → Mem y seen → Mem y (x ∷ L) → ⊥) × After (Direct part P) seen (x ∷ L)
        go (real, n, d, a) = (
          λ y. ⊎_elim (λ q. subst (IsOcc part P) (sym q) r) (real y),
          (λ m. d x (inl refl) m, n),
          (λ y m. ⊎_elim (λ (q : y ≡ x). let z = (S x r).0 (subst (λ o. Mem o seen) q m) in omega (arith, at_x)) (d y (inr m))),
          (before, a),
        )

    -- what is in order is what can be played, event by event
    pub plays_iff : (L : List Occ) → Ordered part P L ↔ Plays part P nothing L
    plays_iff L = (
      λ b. plays_from nothing none_consistent [] none_sync L b.real b.norep (λ x m k. m) b.order,
      λ h. let r = played_from nothing none_consistent [] none_sync L h in
          record { real = r.0; norep = r.1; order = after_chain (Direct part P) [] L (λ x y m k. m) r.3 },
    )
