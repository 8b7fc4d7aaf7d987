-- The events of a path and their order.
-- A path is a list of labels, its places counted from 0; `part` gives each label and instance a part. A single chart is a path of one place.
use Rattle.std.specs.Prelude.{◌≡◌, ℕ, zero, suc, ◌<◌, ◌⊎◌, List, [], ◌∷◌, ◌++◌, length, take, drop}
use Rattle.msc.specs.Events.{out_to, in_from, picked}
use Rattle.msc.specs.Listing.{Chain, Whole}
use Rattle.msc.specs.declared.event.Event.{Event}
use Rattle.msc.specs.declared.event.Event.TheVariants.{Out, In}

-- an event of a chart: the instance, and the number in its part
pub data Spot : Type 0 where
  spot : ℕ → ℕ → Spot
  deriving Discrete as Spot-discrete

-- an event of a path (an occurrence): the place, and the event of the chart there
pub data Occ : Type 0 where
  occ : ℕ → Spot → Occ
  deriving Discrete as Occ-discrete

-- the instance of an occurrence
abbrev pub inst : Occ → ℕ
inst (occ j (spot i k)) = i

-- a chart gives each instance its part
abbrev pub IsSpot : (ℕ → List Event) → Spot → Type 0
IsSpot c (spot i k) = k < length (c i)

-- event a of p is the out that belongs to event b of q, an in: as many outs from p to q stand before the one as ins at q from p before the other
abbrev pub Belongs : (ℕ → List Event) → ℕ → ℕ → ℕ → ℕ → Type 0
Belongs c p a q b = (n : ℕ) × (m : ℕ) × (xs : List Event) × (ys : List Event) × (drop a (c p) ≡ Out n q ∷ xs) × (drop b (c q) ≡ In m p ∷ ys)
    × (length (picked (out_to q) (take a (c p))) ≡ length (picked (in_from p) (take b (c q))))

-- directly before, in one chart: earlier in the same part, or the out that belongs to the in
abbrev pub Ahead : (ℕ → List Event) → Spot → Spot → Type 0
Ahead c (spot p a) (spot q b) = ((p ≡ q) × (a < b)) ⊎ Belongs c p a q b

abbrev pub SameInstance : Spot → Spot → Type 0
SameInstance (spot i k) (spot i' k') = i ≡ i'

module _ (part : ℕ → ℕ → List Event) where
  -- the chart at a place; past the end, an empty one
  abbrev pub chart_at : List ℕ → ℕ → ℕ → List Event
  chart_at [] j i = []
  chart_at (l ∷ P) zero i = part l i
  chart_at (l ∷ P) (suc j) i = chart_at P j i

  abbrev pub IsOcc : List ℕ → Occ → Type 0
  IsOcc P (occ j s) = IsSpot (chart_at P j) s

  -- directly before: at an earlier place of the same instance, or at the same place as in the chart there
  abbrev pub Direct : List ℕ → Occ → Occ → Type 0
  Direct P (occ j s) (occ j' s') = IsSpot (chart_at P j) s × ((SameInstance s s' × (j < j')) ⊎ ((j ≡ j') × Ahead (chart_at P j) s s'))

  -- before: directly, or by a chain
  abbrev pub Before : List ℕ → Occ → Occ → Type 0
  Before P = Chain (Direct P)

  -- every event of the path once, each after all that are before it
  abbrev pub Linearisation : List ℕ → List Occ → Type 0
  Linearisation P = Whole (IsOcc P) (Before P)

  -- a first portion of a linearisation
  abbrev pub Begins : List ℕ → List Occ → Type 0
  Begins P xs = (ys : List Occ) × Linearisation P (xs ++ ys)

  -- an event with none before it
  abbrev pub First : List ℕ → Occ → Type 0
  First P x = IsOcc P x × ((y : Occ) → Before P y x → ⊥)
