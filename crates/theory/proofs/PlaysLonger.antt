-- Playing on a longer path.
use Rattle.std.proofs.Common.{◌≡◌, ℕ, ◌<◌, ◌≤◌, ◌↔◌, List, [], ◌∷◌, ◌++◌, length, sym, refl, ap, ◌∙◌, inl, inr, ⊎_elim, zero-add, arith}
use lib.Seq.{drop-append-le, drop-append_seam}
use Rattle.std.proofs.lemmas.Bool.{cases_lt}
use Rattle.msc.specs.Listing.{Mem}
use Rattle.msc.specs.Order.{spot, Occ, occ, inst}
use Rattle.msc.specs.declared.event.Event.{Event}
use Rattle.msc.specs.declared.event.Event.TheVariants.{Out, In, Action}
use Rattle.theory.specs.Cuts.{nothing, bump, place, ahead, Within, Ready, Enabled, Plays}
use Rattle.theory.specs.Projection.{at, proj_from, proj}
use Rattle.theory.proofs.Idle.{from}
use Rattle.theory.proofs.Lists.{drop-has}
use Rattle.theory.proofs.Longer.{queue_longer}
use Rattle.theory.proofs.PlaysOut.{enabled_within}
use Rattle.theory.proofs.Projections.{proj_from-++}

module _ (part : ℕ → ℕ → List Event) (P Q : List ℕ) where
  module _ (e : ℕ → ℕ) (w : Within part P e) where
    -- what is ahead on the old path, then the new places
    ahead_longer : (i : ℕ) → ahead part (P ++ Q) e i ≡ ahead part P e i ++ proj_from part (length P) Q i
    ahead_longer i = rw (proj_from-++ part 0 P Q i, zero-add) (drop-append-le (e i) (proj part P i) (proj_from part (length P) Q i) (w i))

    ready_longer : (i : ℕ) (v : Event) → Ready part P e i v ↔ Ready part (P ++ Q) e i v
    ready_longer i (Out n q) = (λ r. r, λ r. r)
    ready_longer i (Action n) = (λ r. r, λ r. r)
    ready_longer i (In n p) = let q = queue_longer part P Q e w p i in (λ r. omega (arith, ap length q), λ r. omega (arith, ap length q))

    pub enabled_longer : (x : Occ) → Enabled part P e x → Enabled part (P ++ Q) e x
    enabled_longer (occ j (spot i k)) (l, v, xs, N, R) =
        (l, v, xs ++ proj_from part (length P) Q i, ahead_longer i ∙ ap (λ z. z ++ proj_from part (length P) Q i) N, (ready_longer i v).0 R)

    -- an event at an old place: if all of the old path were done, the next event would be at a new place
    pub enabled_shorter : (x : Occ) → place x < length P → Enabled part (P ++ Q) e x → Enabled part P e x
    enabled_shorter (occ j (spot i k)) h (l, v, xs, N, R) = ⊎_elim
        (λ (a : e i < length (proj part P i)). let d = drop-has (e i) (proj part P i) a in
        let both : d.0 ∷ (d.1 ++ proj_from part (length P) Q i) ≡ at (occ j (spot i k)) l v ∷ xs = ap (λ z. z ++ proj_from part (length P) Q i) (sym d.2) ∙ sym (ahead_longer i) ∙ N in
        let head : d.0 ≡ at (occ j (spot i k)) l v = cc in
        (l, v, d.1, d.2 ∙ ap (λ z. z ∷ d.1) head, (ready_longer i v).1 R))
        (λ (a : length (proj part P i) ≤ e i).
        let e_is : e i ≡ length (proj part P i) = omega (arith, w i) in
        let left : ahead part (P ++ Q) e i ≡ proj_from part (length P) Q i
        = rw (e_is, proj_from-++ part 0 P Q i, zero-add) (drop-append_seam (proj part P i) (proj_from part (length P) Q i)) in
        absurd (let z : ⊥ = omega (arith, from part i (length P) Q j k l v xs (sym left ∙ N)) in z))
        (cases_lt (e i) (length (proj part P i)))

  plays_more : (e : ℕ → ℕ) → Within part P e → (L : List Occ) → Plays part P e L → Plays part (P ++ Q) e L
  plays_more e w [] h = tt
  plays_more e w (x ∷ L) (en, h) = (enabled_longer e w x en, plays_more (bump e (inst x)) (enabled_within part P e w x en) L h)

  plays_less : (e : ℕ → ℕ) → Within part P e → (L : List Occ) → ((x : Occ) → Mem x L → place x < length P) → Plays part (P ++ Q) e L → Plays part P e L
  plays_less e w [] b h = tt
  plays_less e w (x ∷ L) b (en, h) =
      let en' = enabled_shorter e w x (b x (inl refl)) en in
      (en', plays_less (bump e (inst x)) (enabled_within part P e w x en') L (λ y m. b y (inr m)) h)

  pub plays_longer : (L : List Occ) → ((x : Occ) → Mem x L → place x < length P) → Plays part P nothing L ↔ Plays part (P ++ Q) nothing L
  plays_longer L b = (plays_more nothing (λ i. omega arith) L, plays_less nothing (λ i. omega arith) L b)
