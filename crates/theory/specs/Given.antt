-- What the order of events asks of a document. Only what some path reaches must have leaders and lead to an end.
use Rattle.std.specs.Prelude.{◌≡◌, ℕ, ◌<◌, List, [], ◌∷◌, length, Some}
use Rattle.msc.specs.Choice.{OneFirst, Leads, IsNode, IsEnd, OneLeader, LeaderTakesPart, LeadsToEnd, PathFrom, Path, last_from, Reached}
use Rattle.msc.specs.Events.{out_to, in_from, picked}
use Rattle.msc.specs.Listing.{Mem}
use Rattle.msc.specs.Meaning.{Meaning, start, part}
use Rattle.msc.specs.Order.{Occ, Linearisation}
use Rattle.msc.specs.declared.event.Event.{Event}

-- in the chart of every label, the outs and the ins of each pair are the same messages in the same order
abbrev pub Paired : (ℕ → ℕ → List Event) → Type 0
Paired part = (l p q : ℕ) → picked (out_to q) (part l p) ≡ picked (in_from p) (part l q)

-- the events of every label's chart can be listed, each after all that are before it
abbrev pub Listed : (ℕ → ℕ → List Event) → Type 0
Listed part = (l : ℕ) → (L : List Occ) × Linearisation part (l ∷ []) L

module _ (m : Meaning) where
  -- some path ends at label x; the path of no place ends at the start list
  abbrev pub PathEnd : ℕ → Type 0
  PathEnd x = (P : List ℕ) × Path m P × (last_from m start P ≡ x)

  -- a path goes on from x with the places Q, and an end label may follow then
  abbrev pub WayToEnd : ℕ → List ℕ → Type 0
  WayToEnd x Q = PathFrom m x Q × ((l : ℕ) × Mem l (m.list (last_from m x Q)) × IsEnd m l)

  -- an instance leads a node: it leads its chart
  abbrev pub LeadsNode : ℕ → ℕ → Type 0
  LeadsNode l i = (c : ℕ) × (m.chart l ≡ Some c) × Leads m c i

  pub record Given : Type 0 where
    pub paired : Paired (part m)
    pub listed : Listed (part m)
    -- only instances below 8 take part
    pub few : (l i : ℕ) → 0 < length (part m l i) → i < 8
    -- at most 64 labels
    pub labels : (l : ℕ) → Reached m l → l < 64
    -- the chart of a reached node has one leader
    pub one_first : (l c : ℕ) → Reached m l → m.chart l ≡ Some c → OneFirst m c
    -- so have the nodes of a list at which a path ends
    pub one_leader : (x : ℕ) → PathEnd x → OneLeader m x
    -- that leader takes part in the node ahead
    pub takes_part : (l : ℕ) → Reached m l → IsNode m l → LeaderTakesPart m l
    -- and an end is ahead
    pub to_end : (x : ℕ) → PathEnd x → LeadsToEnd m x
