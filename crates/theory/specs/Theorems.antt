-- The laws of paths, cuts and queues, for every document that gives what is asked of it.
use Rattle.std.specs.Prelude.{◌≡◌, ℕ, ◌+◌, ◌<◌, ◌≤◌, cond, ◌↔◌, List, [], ◌∷◌, ◌++◌, map, length, drop, ◌==◌, slice_index}
use Rattle.msc.specs.Choice.{IsNode, Path, Reached}
use Rattle.msc.specs.Events.{in_from}
use Rattle.msc.specs.Listing.{Mem}
use Rattle.msc.specs.Meaning.{Meaning, part}
use Rattle.msc.specs.Order.{spot, Occ, occ, inst, IsOcc, Begins}
use Rattle.msc.specs.declared.event.Event.{Event}
use Rattle.msc.specs.declared.event.Event.TheVariants.{In}
use Rattle.theory.specs.Counts.{sum_to, outs, ins}
use Rattle.theory.specs.Cuts.{nothing, bump, after, place, Full, BegunPlace, BeginsFree, BeginsIn, done, ahead, Within, Consistent, Ready, Enabled, Plays, Ordered, waiting, Own}
use Rattle.theory.specs.Given.{Given, LeadsNode, PathEnd, WayToEnd}
use Rattle.theory.specs.Letters.{Header, Letter, ins_from, header_of, posted, letters_to}
use Rattle.theory.specs.Projection.{Placed, at, placed, takes, proj, pos, turn, turns_at}

-- the header of a letter
abbrev pub heading : {F : Type 0} → Letter F → Header
heading t = t.header

-- A path one place longer. The projection has the new part at its end,
abbrev pub LongerProjection : Type 0
LongerProjection = (m : Meaning) (P : List ℕ) (l i : ℕ) → proj (part m) (P ++ l ∷ []) i ≡ proj (part m) P i ++ placed (length P) l i 0 (part m l i)

-- the turns ahead of the old places and of the new one are the same, and then who takes part there has one more,
abbrev pub LongerTurns : Type 0
LongerTurns = (m : Meaning) (P : List ℕ) (l : ℕ)
    → ((j : ℕ) → j ≤ length P → turns_at (part m) (P ++ l ∷ []) j ≡ turns_at (part m) P j)
    × ((i : ℕ) → turn (part m) i (P ++ l ∷ []) ≡ turn (part m) i P + takes (part m l i))

-- and a cut of the old path is one of the new, with the same letters waiting.
abbrev pub LongerWaiting : Type 0 → Type 0
LongerWaiting F = (m : Meaning) (freight : Occ → F) (P : List ℕ) (l : ℕ) (e : ℕ → ℕ) → Within (part m) P e
    → Within (part m) (P ++ l ∷ []) e
    × (Consistent (part m) P e → Consistent (part m) (P ++ l ∷ []) e)
    × ((p q : ℕ) → waiting (part m) (P ++ l ∷ []) freight e p q ≡ waiting (part m) P freight e p q)

-- What was played on the old path is played on a longer one; and what is played there at the places of the old path alone was played on that.
abbrev pub LongerPlays : Type 0
LongerPlays = (m : Meaning) (P Q : List ℕ) (L : List Occ) → ((x : Occ) → Mem x L → place x < length P) → Plays (part m) P nothing L ↔ Plays (part m) (P ++ Q) nothing L

-- What waits from p to q, then what p has still to send to q, is what q has still to take from p.
abbrev pub SentIsTaken : Type 0 → Type 0
SentIsTaken F = (m : Meaning) → Given m → (freight : Occ → F) (P : List ℕ) (e : ℕ → ℕ) → Consistent (part m) P e → (p q : ℕ)
    → map heading (waiting (part m) P freight e p q ++ letters_to (part m) P freight q (ahead (part m) P e p)) ≡ map (header_of (part m) P) (ins_from p (ahead (part m) P e q))

-- A waiting head is the letter of the out that belongs to q's next in from p.
abbrev pub OwnLetter : Type 0 → Type 0
OwnLetter F = (m : Meaning) → Given m → (freight : Occ → F) (P : List ℕ) (e : ℕ → ℕ) → Consistent (part m) P e → (p q : ℕ) (t : Letter F) (ts : List (Letter F))
    → waiting (part m) P freight e p q ≡ t ∷ ts → Own (part m) P freight e p q t

-- Over all pairs, as many letters wait as have gone out and not come in;
abbrev pub CountWaiting : Type 0 → Type 0
CountWaiting F = (m : Meaning) → Given m → (freight : Occ → F) (P : List ℕ) (e : ℕ → ℕ) → Consistent (part m) P e
    → sum_to 8 (λ p. sum_to 8 (λ q. length (waiting (part m) P freight e p q))) + sum_to 8 (λ i. ins (done (part m) P e i)) ≡ sum_to 8 (λ i. outs (done (part m) P e i))

-- and what has gone out and what is still to go out are all outs of the path.
abbrev pub CountOuts : Type 0
CountOuts = (m : Meaning) (P : List ℕ) (e : ℕ → ℕ) (i : ℕ) → outs (done (part m) P e i) + outs (ahead (part m) P e i) ≡ outs (proj (part m) P i)

-- One event of one instance takes what comes in by it from the front, and puts what goes out by it at the end; all else waits as before.
abbrev pub StepWaiting : Type 0 → Type 0
StepWaiting F = (m : Meaning) → Given m → (freight : Occ → F) (P : List ℕ) (e : ℕ → ℕ) → Consistent (part m) P e
    → (x : Occ) (l : ℕ) (v : Event) (xs : List Placed) → ahead (part m) P e (inst x) ≡ at x l v ∷ xs → Ready (part m) P e (inst x) v → (p q : ℕ)
    → waiting (part m) P freight (bump e (inst x)) p q
    ≡ drop (length (cond (q == inst x) (in_from p v) [])) (waiting (part m) P freight e p q) ++ cond (p == inst x) (posted (part m) P freight q (at x l v)) []

-- It leaves a cut, and a consistent one.
abbrev pub StepCut : Type 0
StepCut = (m : Meaning) → Given m → (P : List ℕ) (e : ℕ → ℕ) → Within (part m) P e → Consistent (part m) P e → (x : Occ) → Enabled (part m) P e x
    → Within (part m) P (bump e (inst x)) × Consistent (part m) P (bump e (inst x))

-- What waits depends on the freight of outs that are done, and on no other.
abbrev pub FreightDone : Type 0 → Type 0
FreightDone F = (m : Meaning) (freight freight' : Occ → F) (P : List ℕ) (e : ℕ → ℕ)
    → ((x : Occ) → IsOcc (part m) P x → pos (part m) P x < e (inst x) → freight x ≡ freight' x)
    → (p q : ℕ) → waiting (part m) P freight e p q ≡ waiting (part m) P freight' e p q

-- An instance that has done its events of the places C, and no others, recognises its next letter:
-- a waiting head has its own turn, and a label in which its part begins with an in from that sender, exactly if it is the letter of its next event.
abbrev pub IdleRule : Type 0 → Type 0
IdleRule F = (m : Meaning) → Given m → (freight : Occ → F) (P : List ℕ) (e : ℕ → ℕ) → Consistent (part m) P e → (C Q : List ℕ) (i p : ℕ) (t : Letter F) (ts : List (Letter F))
    → i < 8 → P ≡ C ++ Q → e i ≡ length (proj (part m) C i) → waiting (part m) P freight e p i ≡ t ∷ ts
    → ((slice_index t.header.turns i ≡ turn (part m) i C) × BeginsIn p (part m t.header.label i))
    ↔ ((xs : List Placed) × (ahead (part m) P e i ≡ at (occ t.header.place (spot i 0)) t.header.label (In t.header.name p) ∷ xs))

-- Where a consistent cut lacks an event, some event can be done.
abbrev pub Progress : Type 0
Progress = (m : Meaning) → Given m → (P : List ℕ) (e : ℕ → ℕ) → Consistent (part m) P e → (i : ℕ) → e i < length (proj (part m) P i) → (x : Occ) × Enabled (part m) P e x

-- So whatever has been played can be played on until every event is done,
abbrev pub PlayedOut : Type 0
PlayedOut = (m : Meaning) → Given m → (P : List ℕ) (xs : List Occ) → Plays (part m) P nothing xs
    → (ys : List Occ) × Plays (part m) P (after nothing xs) ys × Full (part m) P (after nothing (xs ++ ys))

-- and then nothing waits.
abbrev pub NothingWaits : Type 0 → Type 0
NothingWaits F = (m : Meaning) → Given m → (freight : Occ → F) (P : List ℕ) (e : ℕ → ℕ) → Full (part m) P e → (p q : ℕ) → waiting (part m) P freight e p q ≡ []

-- Events of a path, none twice, each after all that are before it, are what begins a linearisation.
abbrev pub Completion : Type 0
Completion = (m : Meaning) → Given m → (P : List ℕ) (L : List Occ) → Ordered (part m) P L ↔ Begins (part m) P L

-- They are what can be played, event by event.
abbrev pub Played : Type 0
Played = (m : Meaning) → Given m → (P : List ℕ) (L : List Occ) → Begins (part m) P L ↔ Plays (part m) P nothing L

-- Begun places are a first portion of the path.
abbrev pub BegunFront : Type 0
BegunFront = (m : Meaning) → Given m → (P : List ℕ) → Path m P → (L : List Occ) → Begins (part m) P L → (j k : ℕ) → k ≤ j → BegunPlace j L → BegunPlace k L

-- The first event of a place is its leader's first event there.
abbrev pub FirstIsLeaders : Type 0
FirstIsLeaders = (m : Meaning) → Given m → (A : List ℕ) (l : ℕ) (B : List ℕ) → Path m (A ++ l ∷ B) → (ys : List Occ) (i k : ℕ) (zs : List Occ)
    → Begins (part m) (A ++ l ∷ B) (ys ++ occ (length A) (spot i k) ∷ zs) → (BegunPlace (length A) ys → ⊥) → (k ≡ 0) × LeadsNode m l i

-- The leader of a place takes part in the place ahead.
abbrev pub LeaderAhead : Type 0
LeaderAhead = (m : Meaning) → Given m → (C : List ℕ) (a l : ℕ) (B : List ℕ) → Path m (C ++ a ∷ l ∷ B) → (i : ℕ) → LeadsNode m l i → 0 < length (part m a i)

-- A reached node has exactly one leader: the one whose part begins, and with no in.
abbrev pub LeaderBegins : Type 0
LeaderBegins = (m : Meaning) → Given m → (l : ℕ) → Reached m l → IsNode m l
    → ((i : ℕ) × LeadsNode m l i) × ((i j : ℕ) → LeadsNode m l i → LeadsNode m l j → i ≡ j) × ((i : ℕ) → LeadsNode m l i ↔ BeginsFree (part m l i))

-- From where a path ends, an end label is at most n places away.
abbrev pub EndWithin : ℕ → Type 0
EndWithin n = (m : Meaning) → Given m → (x : ℕ) → PathEnd m x → (Q : List ℕ) × WayToEnd m x Q × (length Q ≤ n)
