-- Playing on until every event is done.
use Rattle.std.proofs.Common.{◌≡◌, ℕ, ◌<◌, ◌≤◌, List, [], ◌∷◌, ◌++◌, length, take, refl, ap, ◌∙◌, inl, ⊎_elim, arith, length-drop}
use lib.Seq.{take-length}
use Rattle.std.proofs.lemmas.Bool.{cases_lt}
use Rattle.msc.specs.Listing.{Mem}
use Rattle.msc.specs.Order.{spot, Occ, occ, inst, IsOcc}
use Rattle.msc.specs.declared.event.Event.{Event}
use Rattle.theory.specs.Cuts.{nothing, bump, after, done, Within, Full, queue, Enabled, Plays, waiting}
use Rattle.theory.specs.Given.{Paired, Listed}
use Rattle.theory.specs.Letters.{outs_to, ins_from}
use Rattle.theory.specs.Projection.{proj}
use Rattle.theory.proofs.Complete.{completion}
use Rattle.theory.proofs.Listings.{onto, mem_onto}
use Rattle.theory.proofs.Plays.{Sync, sync_next, none_sync, enabled_is, plays_iff}
use Rattle.theory.proofs.Projections.{find, outs-ins}
use Rattle.theory.proofs.Queues.{waiting_length}
use Rattle.theory.proofs.Steps.{step_within}

pub after_joined : (e : ℕ → ℕ) (xs ys : List Occ) → after e (xs ++ ys) ≡ after (after e xs) ys
after_joined e [] ys = refl
after_joined e (x ∷ xs) ys = after_joined (bump e (inst x)) xs ys

is_nil : {A : Type 0} (xs : List A) → length xs ≡ 0 → xs ≡ []
is_nil [] h = refl
is_nil (x ∷ xs) h = absurd (let z : ⊥ = omega arith in z)

module _ (part : ℕ → ℕ → List Event) where
  pub plays_split : (P : List ℕ) (e : ℕ → ℕ) (xs ys : List Occ) → Plays part P e (xs ++ ys) → Plays part P e xs × Plays part P (after e xs) ys
  plays_split P e [] ys h = (tt, h)
  plays_split P e (x ∷ xs) ys (en, h) = let r = plays_split P (bump e (inst x)) xs ys h in ((en, r.0), r.1)

  pub enabled_within : (P : List ℕ) (e : ℕ → ℕ) → Within part P e → (x : Occ) → Enabled part P e x → Within part P (bump e (inst x))
  enabled_within P e w (occ j (spot i k)) (l, v, xs, N, R) = step_within part P e i j (spot i k) l v xs N w

  pub plays_within : (P : List ℕ) (e : ℕ → ℕ) → Within part P e → (L : List Occ) → Plays part P e L → Within part P (after e L)
  plays_within P e w [] h = w
  plays_within P e w (x ∷ L) (en, h) = plays_within P (bump e (inst x)) (enabled_within P e w x en) L h

  -- what has been played is what the cut after it has done
  plays_sync : (P : List ℕ) (seen : List Occ) (e : ℕ → ℕ) → Sync part P seen e → (L : List Occ) → Plays part P e L → Sync part P (onto L seen) (after e L)
  plays_sync P seen e S [] h = S
  plays_sync P seen e S (occ j (spot i k) ∷ L) (en, h) =
      let r = enabled_is part P e j i k en in plays_sync P (occ j (spot i k) ∷ seen) (bump e i) (sync_next part P seen e S (occ j (spot i k)) r.0 r.1) L h

  -- a list that has every event of the path leaves none to do: the event at the cut would be among those done
  all_done : (P : List ℕ) (L : List Occ) → Plays part P nothing L → ((x : Occ) → IsOcc part P x → Mem x L) → Full part P (after nothing L)
  unfolding Sync
  all_done P L h all i = ⊎_elim
      (λ (a : after nothing L i < length (proj part P i)).
      let f = find part 0 P i (after nothing L i) a in
      let x = occ f.0 (spot i f.1) in
      absurd (let z : ⊥ = omega (arith, f.3, (plays_sync P [] nothing (none_sync part P) L h x f.2).0 (mem_onto x L [] (inl (all x f.2)))) in z))
      (λ (a : length (proj part P i) ≤ after nothing L i). omega (arith, plays_within P nothing (λ k. omega arith) L h i))
      (cases_lt (after nothing L i) (length (proj part P i)))

  module _ (H : Paired part) where
    pub played_out : Listed part → (P : List ℕ) (xs : List Occ) → Plays part P nothing xs
        → (ys : List Occ) × Plays part P (after nothing xs) ys × Full part P (after nothing (xs ++ ys))
    played_out G P xs h =
        let (ys, w) = completion part G P xs ((plays_iff part P H xs).1 h) in
        let all = (plays_iff part P H (xs ++ ys)).0 (record { real = w.real; norep = w.norep; order = w.order }) in
        (ys, (plays_split P nothing xs ys all).1, all_done P (xs ++ ys) all w.complete)

    full_queue : (P : List ℕ) (e : ℕ → ℕ) → Full part P e → (p q : ℕ) → length (queue part P e p q) ≡ 0
    full_queue P e f p q =
        let all : (i : ℕ) → done part P e i ≡ proj part P i = λ i. ap (λ n. take n (proj part P i)) (f i) ∙ take-length (proj part P i) in
        rw (all p, all q) (omega (arith, length-drop (length (ins_from p (proj part P q))) (outs_to q (proj part P p)), ap length (outs-ins part H P p q)))

    pub nothing_waits : (P : List ℕ) {F : Type 0} (freight : Occ → F) (e : ℕ → ℕ) → Full part P e → (p q : ℕ) → waiting part P freight e p q ≡ []
    nothing_waits P freight e f p q = is_nil (waiting part P freight e p q) (waiting_length part P freight e p q ∙ full_queue P e f p q)
