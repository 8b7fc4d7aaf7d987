-- What a row of slots holds for each pair.
use Rattle.std.specs.Prelude.{◌≡◌, ℕ, Bool, true, List, map, filter}
use Rattle.std.specs.List.{list_all}
use Rattle.channel.specs.declared.Letter.{Letter}
use Rattle.channel.specs.Waits.{is_pair, same_pair}
use Rattle.lanes.specs.declared.slot.Slot.{Slot}

-- whether a slot's letter goes from f to t
abbrev pub is_of : ℕ → ℕ → Slot → Bool
is_of f t x = same_pair x.from x.to f t

-- the letters from f to t, in the order of the slots
abbrev pub queue_of : ℕ → ℕ → List Slot → List Letter
queue_of f t xs = map (λ x. x.letter) (filter (is_of f t) xs)

-- each slot's sender and receiver are a pair
abbrev pub AllPairs : List Slot → Type 0
AllPairs xs = list_all (λ x. is_pair x.from x.to) xs ≡ true
