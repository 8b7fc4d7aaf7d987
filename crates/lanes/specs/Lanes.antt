-- What lanes mean, as a channel.
use Rattle.std.specs.Prelude.{ℕ, cond, List, [], ◌∷◌, ◌++◌, length, Ok, Err, Result, position, ◌==◌}
use Rattle.channel.specs.declared.Refusal.{Refusal}
use Rattle.channel.specs.declared.Refusal.TheVariants.{Full}
use Rattle.channel.specs.Waits.{Waits, place_of}
use Rattle.lanes.specs.declared.slot.Slot.{Slot}
use Rattle.lanes.specs.declared.table.Lanes.{Lanes}
use Rattle.lanes.specs.Slots.{is_of, queue_of}

abbrev pub waits_of : Lanes → Waits
waits_of l f t = queue_of f t l.slots.items

abbrev pub room_of : Lanes → ℕ
room_of l = 64

-- the type itself keeps the invariant of lanes, so that all lanes are sound
abbrev pub Sound : Lanes → Type 0
Sound l = Unit {0}

-- where the first slot of a pair stands, or why there is none
abbrev pub place_in : Lanes → ℕ → ℕ → Result ℕ Refusal
place_in l from to = place_of from to (position (is_of from to) l.slots.items)

-- what one slot more is answered, and the slots that it leaves: full lanes stay as they are
abbrev pub push_of : List Slot → Result (Unit {0}) Refusal
push_of xs = cond (length xs == 64) (Err Full) (Ok tt)

abbrev pub after_push : List Slot → Slot → List Slot
after_push xs x = cond (length xs == 64) xs (xs ++ (x ∷ []))
