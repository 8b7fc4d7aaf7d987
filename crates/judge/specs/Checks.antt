-- How each rule is checked: a definition for each function of the code.
use Rattle.std.specs.Prelude.{ℕ, Bool, true, false, not, ◌&&◌, ◌||◌, List, length, replicate, fold, is_some, Option, ◌==◌, nat_lt, slice_index_or, slice_set}
use Rattle.std.specs.List.{filter_map, find, list_any, range_with_len}
use Rattle.msc.specs.Meaning.{Meaning, start, part}
use Rattle.order.specs.Charts.{gathered, starters, is_one, is_several}
use Rattle.order.specs.Scans.{repeat}
use Rattle.order.specs.declared.leaders.Leaders.{Leaders}
use Rattle.order.specs.declared.leaders.Leaders.TheVariants.{Nobody, One, Several}

-- what rules are tried at: charts, or labels and the start list
abbrev pub spots : List ℕ
spots = range_with_len 0 65

module _ (m : Meaning) where
  -- what rules cover: charts, nodes, the lists of nodes and the start list
  abbrev pub is_chart : ℕ → Bool
  is_chart c = nat_lt c m.charts

  abbrev pub is_node : ℕ → Bool
  is_node l = is_some (m.chart l)

  abbrev pub is_list : ℕ → Bool
  is_list x = is_node x || x == start

  abbrev pub is_end : ℕ → Bool
  is_end l = not (is_node l)

  -- those who lead the charts of a list's nodes
  abbrev pub list_leaders : ℕ → Leaders
  list_leaders x = fold (λ a c. gathered a (starters (m.drawn c))) Nobody (filter_map m.chart (m.list x))

  abbrev pub is_present : ℕ → Leaders → Bool
  is_present l Nobody = true
  is_present l (One i) = nat_lt 0 (length (part m l i))
  is_present l Several = true

  -- labels are marked that lead to an end: an end label, or a marked one, is in the list
  abbrev pub leads_on : List Bool → ℕ → Bool
  leads_on marks l = is_end l || slice_index_or marks l false

  abbrev pub unmarked : List Bool → ℕ → Bool
  unmarked marks x = not (slice_index_or marks x false) && list_any (leads_on marks) (m.list x)

  abbrev pub next_mark : List Bool → Option ℕ
  next_mark marks = find (unmarked marks) spots

  -- 64 marks are enough: of 64 labels and the start list, one at least is an end label
  unfoldable pub marked : List Bool
  marked = repeat next_mark (λ marks x. slice_set marks x true) 64 (replicate 65 false)

  -- whether a rule holds
  abbrev pub is_one_first : ℕ → Bool
  is_one_first c = is_one (gathered Nobody (starters (m.drawn c)))

  abbrev pub has_one_leader : ℕ → Bool
  has_one_leader x = not (is_several (list_leaders x))

  abbrev pub leader_takes_part : ℕ → Bool
  leader_takes_part l = is_present l (list_leaders l)

  abbrev pub leads_to_end : ℕ → Bool
  leads_to_end x = slice_index_or marked x false

  -- the first end label of the start list
  abbrev pub end_at_start : Option ℕ
  end_at_start = find is_end (m.list start)

-- the lowest spot that a rule covers and at which it does not hold
unfoldable pub broken : (ℕ → Bool) → (ℕ → Bool) → Option ℕ
broken covers holds = find (λ x. covers x && not (holds x)) spots
