-- Cuts of a path: how many of its events each instance has done, and what waits then.
use Rattle.std.specs.Prelude.{◌≡◌, ℕ, suc, ◌<◌, ◌≤◌, cond, List, [], ◌∷◌, ◌++◌, length, take, drop, ◌==◌}
use Rattle.msc.specs.Listing.{NoRep, After, Mem}
use Rattle.msc.specs.Order.{Spot, spot, Occ, occ, inst, Belongs, chart_at, IsOcc, Before}
use Rattle.msc.specs.declared.event.Event.{Event}
use Rattle.msc.specs.declared.event.Event.TheVariants.{Out, In, Action}
use Rattle.theory.specs.Letters.{Tag, outs_to, ins_from, Letter, letter_of, letters_to}
use Rattle.theory.specs.Projection.{Placed, at, proj}

-- nothing done
abbrev pub nothing : ℕ → ℕ
nothing i = 0

-- one more event of i done
abbrev pub bump : (ℕ → ℕ) → ℕ → ℕ → ℕ
bump e i k = cond (k == i) (suc (e k)) (e k)

-- the cut after a list of events
abbrev pub after : (ℕ → ℕ) → List Occ → ℕ → ℕ
after e [] = e
after e (x ∷ L) = after (bump e (inst x)) L

-- the place of an occurrence
abbrev pub place : Occ → ℕ
place (occ j s) = j

-- one of the listed events is at place j
abbrev pub BegunPlace : ℕ → List Occ → Type 0
BegunPlace j xs = (s : Spot) × Mem (occ j s) xs

-- an event that is no in
abbrev pub NotIn : Event → Type 0
NotIn (Out n q) = Unit {0}
NotIn (In n p) = ⊥
NotIn (Action n) = Unit {0}

-- a part that begins, and with no in
abbrev pub BeginsFree : List Event → Type 0
BeginsFree es = (v : Event) × (vs : List Event) × (es ≡ v ∷ vs) × NotIn v

-- a part that begins with an in from p
abbrev pub BeginsIn : ℕ → List Event → Type 0
BeginsIn p es = (n : ℕ) × (vs : List Event) × (es ≡ In n p ∷ vs)

module _ (part : ℕ → ℕ → List Event) (P : List ℕ) where
  -- the events that an instance has done, and those that it has still to do
  abbrev pub done : (ℕ → ℕ) → ℕ → List Placed
  done e i = take (e i) (proj part P i)

  abbrev pub ahead : (ℕ → ℕ) → ℕ → List Placed
  ahead e i = drop (e i) (proj part P i)

  -- no instance has done more than its events
  abbrev pub Within : (ℕ → ℕ) → Type 0
  Within e = (i : ℕ) → e i ≤ length (proj part P i)

  -- every event is done
  abbrev pub Full : (ℕ → ℕ) → Type 0
  Full e = (i : ℕ) → e i ≡ length (proj part P i)

  -- no more has come in from p at q than went out from p to q
  abbrev pub Consistent : (ℕ → ℕ) → Type 0
  Consistent e = (p q : ℕ) → length (ins_from p (done e q)) ≤ length (outs_to q (done e p))

  -- the messages that went out from p to q and have not come in
  abbrev pub queue : (ℕ → ℕ) → ℕ → ℕ → List Tag
  queue e p q = drop (length (ins_from p (done e q))) (outs_to q (done e p))

  -- an out and an action can always be done, an in if something waits from its sender
  abbrev pub Ready : (ℕ → ℕ) → ℕ → Event → Type 0
  Ready e i (Out n q) = Unit {0}
  Ready e i (In n p) = 0 < length (queue e p i)
  Ready e i (Action n) = Unit {0}

  -- x is the first of the ins from p that q has still to do: the message n, at a place with label l
  abbrev pub NextIn : (ℕ → ℕ) → ℕ → ℕ → Occ → ℕ → ℕ → Type 0
  NextIn e p q x l n = (xs : List Placed) × (ys : List Placed) × (ahead e q ≡ xs ++ at x l (In n p) ∷ ys) × (ins_from p xs ≡ [])

  -- x is the next event of its instance and can be done
  abbrev pub Enabled : (ℕ → ℕ) → Occ → Type 0
  Enabled e x = (l : ℕ) × (v : Event) × (xs : List Placed) × (ahead e (inst x) ≡ at x l v ∷ xs) × Ready e (inst x) v

  -- from the cut e, the occurrences can be done one after another
  abbrev pub Plays : (ℕ → ℕ) → List Occ → Type 0
  Plays e [] = Unit {0}
  Plays e (x ∷ L) = Enabled e x × Plays (bump e (inst x)) L

  -- events of the path, none twice, each after all that are before it
  pub record Ordered (L : List Occ) : Type 0 where
    pub real : (x : Occ) → Mem x L → IsOcc part P x
    pub norep : NoRep L
    pub order : After (Before part P) [] L

  module _ {F : Type 0} (freight : Occ → F) where
    -- the letters that wait for q from p, the oldest first
    abbrev pub waiting : (ℕ → ℕ) → ℕ → ℕ → List (Letter F)
    waiting e p q = drop (length (ins_from p (done e q))) (letters_to part P freight q (done e p))

    -- t is the letter of the out that belongs to q's next in from p
    pub record Own (e : ℕ → ℕ) (p q : ℕ) (t : Letter F) : Type 0 where
      pub place : ℕ
      pub label : ℕ
      pub name : ℕ
      pub out : ℕ
      pub into : ℕ
      pub belongs : Belongs (chart_at part P place) p out q into
      pub next : NextIn e p q (occ place (spot q into)) label name
      pub is : t ≡ letter_of part P freight (occ place (spot p out)) label name
