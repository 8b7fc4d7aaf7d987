-- What the judge says of a document: the rules in their order, each over all charts or lists before the next, the lowest that breaks one named.
use Rattle.std.specs.Prelude.{◌≡◌, ℕ, ◌<◌, ◌≤◌, ◌⊎◌, List, ◌∷◌, ◌++◌, Some, None, Option, slice_index_or}
use Rattle.msc.specs.Listing.{Mem}
use Rattle.msc.specs.Meaning.{Meaning, start}
use Rattle.msc.specs.Choice.{Matched, Listable, OneFirst, IsEnd, IsNode, LeadsList, OneLeader, LeaderTakesPart, LeadsToEnd}
use Rattle.judge.specs.declared.refusal.Refusal.{Refusal}
use Rattle.judge.specs.declared.refusal.Refusal.TheVariants.{Unmatched, Cyclic, NotOneFirst, EndAtStart, TwoLeaders, LeaderAbsent, NoEnd}

-- the number of a refusal
abbrev pub number_of : Refusal → ℕ
number_of (Unmatched c) = 11
number_of (Cyclic c) = 12
number_of (NotOneFirst c) = 13
number_of (EndAtStart l) = 14
number_of (TwoLeaders x) = 15
number_of (LeaderAbsent l) = 16
number_of (NoEnd x) = 17

-- the chart or label that a refusal names
abbrev pub value_of : Refusal → ℕ
value_of (Unmatched c) = c
value_of (Cyclic c) = c
value_of (NotOneFirst c) = c
value_of (EndAtStart l) = l
value_of (TwoLeaders x) = x
value_of (LeaderAbsent l) = l
value_of (NoEnd x) = x

-- a rule holds at every spot that it covers
abbrev pub Everywhere : (ℕ → Type 0) → (ℕ → Type 0) → Type 0
Everywhere Covers Holds = (x : ℕ) → Covers x → Holds x

-- x is the lowest spot at which a rule is broken
pub record Lowest (Covers Holds : ℕ → Type 0) (x : ℕ) : Type 0 where
  pub covered : Covers x
  pub broken : Holds x → ⊥
  pub lower : (y : ℕ) → y < x → Covers y → Holds y

module _ (m : Meaning) where
  abbrev pub IsChart : ℕ → Type 0
  IsChart c = c < m.charts

  -- the lists that are judged: of every node, and the start list
  abbrev pub IsList : ℕ → Type 0
  IsList x = IsNode m x ⊎ (x ≡ start)

  abbrev pub AllMatched : Type 0
  AllMatched = Everywhere IsChart (Matched m)

  abbrev pub AllListable : Type 0
  AllListable = Everywhere IsChart (Listable m)

  abbrev pub AllOneFirst : Type 0
  AllOneFirst = Everywhere IsChart (OneFirst m)

  abbrev pub StartsAtNodes : Type 0
  StartsAtNodes = (l : ℕ) → Mem l (m.list start) → IsNode m l

  abbrev pub AllOneLeader : Type 0
  AllOneLeader = Everywhere IsList (OneLeader m)

  abbrev pub AllLeadersTakePart : Type 0
  AllLeadersTakePart = Everywhere (IsNode m) (LeaderTakesPart m)

  abbrev pub AllLeadToEnd : Type 0
  AllLeadToEnd = Everywhere IsList (LeadsToEnd m)

  -- every rule holds
  pub record Fair : Type 0 where
    pub matched : AllMatched
    pub listable : AllListable
    pub one_first : AllOneFirst
    pub starts : StartsAtNodes
    pub one_leader : AllOneLeader
    pub takes_part : AllLeadersTakePart
    pub to_end : AllLeadToEnd

  -- l is the first end label of the start list
  abbrev pub FirstEndAtStart : ℕ → Type 0
  FirstEndAtStart l = (ahead : List ℕ) × (behind : List ℕ) × (m.list start ≡ ahead ++ l ∷ behind) × IsEnd m l × ((k : ℕ) → Mem k ahead → IsNode m k)

  -- what a refusal says: its rule is broken first where it names, and every rule before holds everywhere
  abbrev pub Breaks : Refusal → Type 0
  Breaks (Unmatched c) = Lowest IsChart (Matched m) c
  Breaks (Cyclic c) = AllMatched × Lowest IsChart (Listable m) c
  Breaks (NotOneFirst c) = AllMatched × AllListable × Lowest IsChart (OneFirst m) c
  Breaks (EndAtStart l) = AllMatched × AllListable × AllOneFirst × FirstEndAtStart l
  Breaks (TwoLeaders x) = AllMatched × AllListable × AllOneFirst × StartsAtNodes × Lowest IsList (OneLeader m) x
  Breaks (LeaderAbsent l) = AllMatched × AllListable × AllOneFirst × StartsAtNodes × AllOneLeader × Lowest (IsNode m) (LeaderTakesPart m) l
  Breaks (NoEnd x) = AllMatched × AllListable × AllOneFirst × StartsAtNodes × AllOneLeader × AllLeadersTakePart × Lowest IsList (LeadsToEnd m) x

  -- the leader of a list, if it has one
  abbrev pub IsLeader : ℕ → Option ℕ → Type 0
  IsLeader x None = (i : ℕ) → LeadsList m x i → ⊥
  IsLeader x (Some i) = LeadsList m x i

  -- leaders by label, the start list's at 64
  abbrev pub AreLeaders : List (Option ℕ) → Type 0
  AreLeaders ls = (x : ℕ) → x ≤ start → IsLeader x (slice_index_or ls x None)
