-- Messages of a path, and the letters that carry them.
use Rattle.std.specs.Prelude.{ℕ, List, map}
use Rattle.std.specs.List.{flat_map}
use Rattle.msc.specs.Events.{out_to, in_from}
use Rattle.msc.specs.Order.{Occ, occ}
use Rattle.msc.specs.declared.event.Event.{Event}
use Rattle.theory.specs.Projection.{Placed, at, turns_at}

-- a message of a path: its place, the label there, its name
pub data Tag : Type 0 where
  tag : ℕ → ℕ → ℕ → Tag

-- the message that f picks of an event, if any
abbrev pub tags : (Event → List ℕ) → Placed → List Tag
tags f (at (occ j s) l v) = map (tag j l) (f v)

-- the messages that go out to q, and those that come in from p, in order
abbrev pub outs_to : ℕ → List Placed → List Tag
outs_to q xs = flat_map (tags (out_to q)) xs

abbrev pub ins_from : ℕ → List Placed → List Tag
ins_from p xs = flat_map (tags (in_from p)) xs

-- what every letter, a message in transit, says of its message: besides the message, the turns ahead of its place
pub record Header : Type 0 where
  pub label : ℕ
  pub name : ℕ
  pub place : ℕ
  pub turns : List ℕ

-- a letter: its header, and whatever else it carries
pub record Letter (F : Type 0) : Type 0 where
  pub header : Header
  pub freight : F

module _ (part : ℕ → ℕ → List Event) (P : List ℕ) where
  abbrev pub header_of : Tag → Header
  header_of (tag j l n) = record { label = l; name = n; place = j; turns = turns_at part P j }

  -- each out, an occurrence, has its freight
  module _ {F : Type 0} (freight : Occ → F) where
    -- the letter of the out x, which stands at a place with label l and has name n
    abbrev pub letter_of : Occ → ℕ → ℕ → Letter F
    letter_of (occ j s) l n = record { header = header_of (tag j l n); freight = freight (occ j s) }

    -- the letter to q that an event sends, if any
    abbrev pub posted : ℕ → Placed → List (Letter F)
    posted q (at x l v) = map (letter_of x l) (out_to q v)

    abbrev pub letters_to : ℕ → List Placed → List (Letter F)
    letters_to q xs = flat_map (posted q) xs
