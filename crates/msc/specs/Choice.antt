-- Local choice: when every branch of a procedure has one instance that decides it.
use Rattle.std.specs.Prelude.{◌≡◌, ℕ, ◌<◌, List, [], ◌∷◌, length, Some, None}
use Rattle.msc.specs.Events.{out_to, in_from, picked}
use Rattle.msc.specs.Listing.{Mem}
use Rattle.msc.specs.Meaning.{Meaning, start, part}
use Rattle.msc.specs.Order.{Occ, inst, Linearisation, First}

module _ (m : Meaning) where
  -- for every ordered pair the outs and the ins are the same messages in the same order
  abbrev pub Matched : ℕ → Type 0
  Matched c = (p q : ℕ) → picked (out_to q) (m.drawn c p) ≡ picked (in_from p) (m.drawn c q)

  -- the events can be listed with each after all that are before it
  abbrev pub Listable : ℕ → Type 0
  Listable c = (L : List Occ) × Linearisation m.drawn (c ∷ []) L

  -- exactly one event has none before it
  abbrev pub OneFirst : ℕ → Type 0
  OneFirst c = (x : Occ) × First m.drawn (c ∷ []) x × ((y : Occ) → First m.drawn (c ∷ []) y → y ≡ x)

  -- an instance leads a chart: an event with none before it is its own
  abbrev pub Leads : ℕ → ℕ → Type 0
  Leads c i = (x : Occ) × First m.drawn (c ∷ []) x × (inst x ≡ i)

  abbrev pub IsEnd : ℕ → Type 0
  IsEnd l = m.chart l ≡ None

  abbrev pub IsNode : ℕ → Type 0
  IsNode l = (c : ℕ) × (m.chart l ≡ Some c)

  -- an instance leads a list: it leads the chart of one of its nodes
  abbrev pub LeadsList : ℕ → ℕ → Type 0
  LeadsList x i = (l : ℕ) × (c : ℕ) × Mem l (m.list x) × (m.chart l ≡ Some c) × Leads c i

  -- the nodes of a list have one leader
  abbrev pub OneLeader : ℕ → Type 0
  OneLeader x = (i j : ℕ) → LeadsList x i → LeadsList x j → i ≡ j

  -- the leader of a node's list takes part in the node's chart
  abbrev pub LeaderTakesPart : ℕ → Type 0
  LeaderTakesPart l = (i : ℕ) → LeadsList l i → 0 < length (part m l i)

  -- list by list, an end label is reached
  pub data LeadsToEnd : ℕ → Type 0 where
    ends : {x l : ℕ} → Mem l (m.list x) → IsEnd l → LeadsToEnd x
    goes : {x l : ℕ} → Mem l (m.list x) → IsNode l → LeadsToEnd l → LeadsToEnd x

  -- paths: a sequence of nodes, the first in the start list, each next one in the list of the node ahead
  abbrev pub PathFrom : ℕ → List ℕ → Type 0
  PathFrom x [] = Unit {0}
  PathFrom x (l ∷ P) = Mem l (m.list x) × IsNode l × PathFrom l P

  abbrev pub Path : List ℕ → Type 0
  Path P = PathFrom start P

  -- the label at the end of what a path has gone through; the start list for no place
  abbrev pub last_from : ℕ → List ℕ → ℕ
  last_from x [] = x
  last_from x (l ∷ P) = last_from l P

  -- some path reaches a label or the start list: the label stands in the list at a path's end
  abbrev pub Reached : ℕ → Type 0
  Reached l = (P : List ℕ) × Path P × Mem l (m.list (last_from start P))
