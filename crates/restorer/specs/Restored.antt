-- What a restorer means, as a channel.
use Rattle.std.specs.Prelude.{◌≡◌, ℕ, ◌<◌, true, [], length, Result, slice_index_or}
use Rattle.channel.specs.declared.Refusal.{Refusal}
use Rattle.channel.specs.Waits.{Waits, is_pair, place_of}
use Rattle.bag.specs.declared.Bag.{Ghosts}
use Rattle.bag.specs.Calls.{Emptied}
use Rattle.restorer.specs.declared.Restorer.{Restorer}
use Rattle.restorer.specs.Stamps.{sought_in, waits_from, Kept}
use Rattle.restorer.specs.Windows.{window_of, due_in, between, all_from}

-- b is what the bag means
module _ {B : Type 0} (b : Ghosts B) where
  abbrev pub waits_in : Restorer B → Waits
  waits_in r = waits_from (due_in r.windows) (between r.windows) (b.held r.bag)

  abbrev pub room_in : Restorer B → ℕ
  room_in r = b.space r.bag

  -- where the letter of a pair that is due stands in the bag, or why there is none
  abbrev pub place_in : Restorer B → ℕ → ℕ → Result ℕ Refusal
  place_in r from to = place_of from to (sought_in from to (due_in r.windows from to) (b.held r.bag))

  pub record Sound (r : Restorer B) : Type 0 where
    pub bag : b.sound r.bag
    pub rows : length r.windows.rows ≡ 8
    pub columns : (f : ℕ) → f < 8 → length (slice_index_or r.windows.rows f []) ≡ 8
    pub fits : (f t : ℕ) → is_pair f t ≡ true → (window_of r.windows f t).next < 4294967296
    pub kept : Kept (due_in r.windows) (between r.windows) (b.held r.bag)

  -- a restorer made over a bag, with a first stamp for each pair
  pub record Made (bag : B) (stamp : ℕ) (r : Restorer B) : Type 0 where
    pub sound : Sound r
    pub empty : (f t : ℕ) → waits_in r f t ≡ []
    pub limit : room_in r ≡ b.space bag
    pub emptied : Emptied b.sound b.held b.space bag r.bag
    pub windows : r.windows ≡ all_from stamp
