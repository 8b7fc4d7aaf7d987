-- What an instance does along a path.
use Rattle.std.specs.Prelude.{ℕ, zero, suc, ◌+◌, List, [], ◌∷◌, ◌++◌, length, take}
use Rattle.msc.specs.Order.{spot, Occ, occ}
use Rattle.msc.specs.declared.event.Event.{Event}

-- an event of a path as its instance meets it: the occurrence, the label of its place, the event
pub data Placed : Type 0 where
  at : Occ → ℕ → Event → Placed

-- events of instance i, from number k on, at place j with label l
abbrev pub placed : ℕ → ℕ → ℕ → ℕ → List Event → List Placed
placed j l i k [] = []
placed j l i k (v ∷ vs) = at (occ j (spot i k)) l v ∷ placed j l i (suc k) vs

-- 1 for a part with an event, else 0
abbrev pub takes : List Event → ℕ
takes [] = 0
takes (v ∷ vs) = 1

-- f k, f (k + 1) and so on, n of them
abbrev pub up_to : (ℕ → ℕ) → ℕ → ℕ → List ℕ
up_to f k zero = []
up_to f k (suc n) = f k ∷ up_to f (suc k) n

module _ (part : ℕ → ℕ → List Event) where
  -- the parts of an instance joined in order of places, the first place counted j
  abbrev pub proj_from : ℕ → List ℕ → ℕ → List Placed
  proj_from j [] i = []
  proj_from j (l ∷ P) i = placed j l i 0 (part l i) ++ proj_from (suc j) P i

  -- the projection of a path on an instance
  abbrev pub proj : List ℕ → ℕ → List Placed
  proj P i = proj_from 0 P i

  -- the number of an occurrence among all events of its instance
  abbrev pub pos : List ℕ → Occ → ℕ
  pos P (occ j (spot i k)) = length (proj (take j P) i) + k

  -- the turn of an instance, its logical clock: in how many places of a path it takes part
  abbrev pub turn : ℕ → List ℕ → ℕ
  turn i [] = 0
  turn i (l ∷ P) = takes (part l i) + turn i P

  -- the turns ahead of place j: for each of eight instances, in how many earlier places it takes part
  abbrev pub turns_at : List ℕ → ℕ → List ℕ
  turns_at P j = up_to (λ i. turn i (take j P)) 0 8
