-- How the rules for one chart are checked: a definition for each function of the code.
use Rattle.std.specs.Prelude.{ℕ, ◌+◌, Bool, true, false, cond, List, [], ◌∷◌, length, take, replicate, filter, fold, Some, None, Option, ◌==◌, nat_le, nat_lt, slice_index, slice_set}
use Rattle.std.specs.List.{find, flat_map, list_all, range_with_len, slice_get}
use Rattle.std.specs.Option.{option_map_or}
use Rattle.std.specs.Str.{bytes_eq}
use Rattle.msc.specs.Events.{out_to, in_from}
use Rattle.msc.specs.declared.event.Event.{Event}
use Rattle.msc.specs.declared.event.Event.TheVariants.{Out, In, Action}
use Rattle.order.specs.Scans.{repeat}
use Rattle.order.specs.declared.leaders.Leaders.{Leaders}
use Rattle.order.specs.declared.leaders.Leaders.TheVariants.{Nobody, One, Several}

-- those that may have a part in a chart
abbrev pub instances : List ℕ
instances = range_with_len 0 8

-- the messages from p to q: the outs in one part, the ins in the other
abbrev pub agree : List Event → ℕ → List Event → ℕ → Bool
agree outs q ins p = bytes_eq (flat_map (out_to q) outs) (flat_map (in_from p) ins)

module _ (parts : ℕ → List Event) where
  abbrev pub pair_matches : ℕ → ℕ → Bool
  pair_matches p q = agree (parts p) q (parts q) p

  abbrev pub sends_match : ℕ → Bool
  sends_match p = list_all (pair_matches p) instances

  abbrev pub is_matched : Bool
  is_matched = list_all sends_match instances

  -- the chart is played greedily; `done` has the number of events done of each part
  -- an in can be played if more such messages are sent than received
  abbrev pub playable : List ℕ → ℕ → Event → Bool
  playable done i (Out n q) = true
  playable done i (In n p) = nat_lt (length (flat_map (in_from p) (take (slice_index done i) (parts i)))) (length (flat_map (out_to i) (take (slice_index done p) (parts p))))
  playable done i (Action n) = true

  -- the next event of i, if there is one, can be played
  abbrev pub can_play : List ℕ → ℕ → Bool
  can_play done i = option_map_or (playable done i) (slice_get (parts i) (slice_index done i)) false

  abbrev pub ready : List ℕ → Option ℕ
  ready done = find (can_play done) instances

  abbrev pub advanced : List ℕ → ℕ → List ℕ
  advanced done i = slice_set done i (slice_index done i + 1)

  -- 64 plays are enough for 64 events
  unfoldable pub played : List ℕ
  played = repeat ready advanced 64 (replicate 8 0)

  abbrev pub is_played : List ℕ → ℕ → Bool
  is_played done i = nat_le (length (parts i)) (slice_index done i)

  abbrev pub is_finished : List ℕ → Bool
  is_finished done = list_all (is_played done) instances

  abbrev pub is_listable : Bool
  is_listable = is_finished played

-- what can be played ahead of all else: no in
abbrev pub opens : Event → Bool
opens (Out n q) = true
opens (In n p) = false
opens (Action n) = true

-- a part whose first event is no in
abbrev pub starts : List Event → Bool
starts [] = false
starts (e ∷ es) = opens e

-- one more that leads
abbrev pub joined_by : Leaders → ℕ → Leaders
joined_by Nobody i = One i
joined_by (One j) i = cond (j == i) (One j) Several
joined_by Several i = Several

abbrev pub gathered : Leaders → List ℕ → Leaders
gathered a is = fold joined_by a is

-- those whose part starts with no in
abbrev pub starters : (ℕ → List Event) → List ℕ
starters parts = filter (λ i. starts (parts i)) instances

abbrev pub is_one : Leaders → Bool
is_one Nobody = false
is_one (One i) = true
is_one Several = false

abbrev pub is_several : Leaders → Bool
is_several Nobody = false
is_several (One i) = false
is_several Several = true

abbrev pub leader_of : Leaders → Option ℕ
leader_of Nobody = None
leader_of (One i) = Some i
leader_of Several = None
