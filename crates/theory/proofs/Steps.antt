-- What one event of one instance changes.
use Rattle.std.proofs.Common.{◌≡◌, ℕ, suc, ◌<◌, ◌≤◌, Bool, true, false, cond, eqb, List, [], ◌∷◌, ◌++◌, length, take, drop, sym, refl, ap, ◌∙◌, subst, append-nil, arith, length-append, length-drop, eqb-true}
use lib.ListN.{length-map}
use lib.Seq.{drop-append-le}
use Rattle.std.specs.List.{flat_map}
use Rattle.msc.specs.Events.{out_to, in_from}
use Rattle.msc.specs.Order.{Spot, Occ, occ}
use Rattle.msc.specs.declared.event.Event.{Event}
use Rattle.msc.specs.declared.event.Event.TheVariants.{Out, In, Action}
use Rattle.theory.specs.Cuts.{bump, done, ahead, Within, Consistent, queue, Ready, waiting}
use Rattle.theory.specs.Letters.{Tag, tag, tags, outs_to, ins_from, Letter, posted, letters_to}
use Rattle.theory.specs.Projection.{Placed, at, proj}
use Rattle.theory.proofs.Lists.{take_next, drop_past, drop_lt}
use Rattle.std.proofs.lemmas.Grind.{flat_map-append}
use Rattle.theory.proofs.Queues.{letters_length, waiting_length}

pub bump_le : (e : ℕ → ℕ) (i k : ℕ) → e k ≤ bump e i k
bump_le e i k = go (eqb k i)
  where
    go : (b : Bool) → e k ≤ cond b (suc (e k)) (e k)
    go true = omega arith
    go false = omega arith

module _ (part : ℕ → ℕ → List Event) (P : List ℕ) (e : ℕ → ℕ) (i j : ℕ) (s : Spot) (l : ℕ) (v : Event) (xs : List Placed) (N : ahead part P e i ≡ at (occ j s) l v ∷ xs) where
  -- what is done after it, seen through any f
  joined_bump : {A : Type 0} (f : Placed → List A) (k : ℕ) → flat_map f (done part P (bump e i) k) ≡ flat_map f (done part P e k) ++ cond (eqb k i) (f (at (occ j s) l v)) []
  joined_bump f k = go (eqb k i) refl
    where
      go : (b : Bool) → eqb k i ≡ b → flat_map f (take (cond b (suc (e k)) (e k)) (proj part P k)) ≡ flat_map f (done part P e k) ++ cond b (f (at (occ j s) l v)) []
      go true h = let w : k ≡ i = eqb-true k i h in rw w (rw (take_next (proj part P i) (e i) (at (occ j s) l v) xs N, flat_map-append, append-nil))
      go false h = rw append-nil

  pub step_within : Within part P e → Within part P (bump e i)
  step_within w k = go (eqb k i) refl
    where
      go : (b : Bool) → eqb k i ≡ b → cond b (suc (e k)) (e k) ≤ length (proj part P k)
      go true h = subst (λ z. e z < length (proj part P z)) (sym (eqb-true k i h)) (drop_lt (e i) (proj part P i) (at (occ j s) l v) xs N)
      go false h = w k

  -- messages from p that come in by the event, if it is q's
  abbrev got : ℕ → ℕ → List ℕ
  got p q = cond (eqb q i) (in_from p v) []

  got_tags : (p q : ℕ) → length (cond (eqb q i) (tags (in_from p) (at (occ j s) l v)) []) ≡ length (got p q)
  got_tags p q = go (eqb q i)
    where
      go : (b : Bool) → length (cond b (tags (in_from p) (at (occ j s) l v)) []) ≡ length (cond b (in_from p v) [])
      go true = length-map (in_from p v) (tag j l)
      go false = refl

  -- what comes in was waiting
  pub got_waits : Ready part P e i v → (p q : ℕ) → length (got p q) ≤ length (queue part P e p q)
  got_waits r p q = go v r (eqb q i) refl
    where
      go : (w : Event) → Ready part P e i w → (b : Bool) → eqb q i ≡ b → length (cond b (in_from p w) []) ≤ length (queue part P e p q)
      go w h false b = omega arith
      go (Out n t) h true b = omega arith
      go (Action n) h true b = omega arith
      go (In n t) h true b = from (eqb t p) refl
        where
          from : (c : Bool) → eqb t p ≡ c → length (cond c (n ∷ []) []) ≤ length (queue part P e p q)
          from false c = omega arith
          from true c = omega (arith, h, ap (λ z. length (queue part P e z i)) (eqb-true t p c), ap (λ z. length (queue part P e p z)) (eqb-true q i b))

  pub step_consistent : Consistent part P e → Ready part P e i v → Consistent part P (bump e i)
  step_consistent K r p q =
      simp (joined_bump (tags (in_from p)) q, joined_bump (tags (out_to q)) p, length-append, got_tags p q)
      (omega (arith, K p q, got_waits r p q, length-drop (length (ins_from p (done part P e q))) (outs_to q (done part P e p))))

  -- the whole of a step, at every pair: what comes in is gone from the front, what goes out stands at the end
  pub step_law : {F : Type 0} (freight : Occ → F) → Consistent part P e → Ready part P e i v → (p q : ℕ)
      → waiting part P freight (bump e i) p q ≡ drop (length (got p q)) (waiting part P freight e p q) ++ cond (eqb p i) (posted part P freight q (at (occ j s) l v)) []
  step_law freight K r p q =
      let ins : List Tag = ins_from p (done part P e q) in
      let new : List Tag = cond (eqb q i) (tags (in_from p) (at (occ j s) l v)) [] in
      let outs : List (Letter _) = letters_to part P freight q (done part P e p) in
      let sent : List (Letter _) = cond (eqb p i) (posted part P freight q (at (occ j s) l v)) [] in
      let enough : length ins ≤ length outs = omega (arith, K p q, letters_length part P freight q (done part P e p)) in
      let there : length (got p q) ≤ length (waiting part P freight e p q) = omega (arith, got_waits r p q, waiting_length part P freight e p q) in
      rw (joined_bump (tags (in_from p)) q, joined_bump (posted part P freight q) p)
      (drop_past ins new outs sent enough ∙ ap (λ n. drop n (waiting part P freight e p q ++ sent)) (got_tags p q) ∙ drop-append-le (length (got p q)) (waiting part P freight e p q) sent there)
