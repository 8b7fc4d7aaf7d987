-- What has been read so far.
use Rattle.std.specs.Prelude.{ℕ, ◌+◌, ◌-◌, List, [], ◌∷◌, ◌++◌, length, replicate}
use Rattle.std.specs.List.{flat_map}
use Rattle.msc.specs.Doc.{Chart, all_events}
use Rattle.msc.specs.declared.event.Event.{Event}

-- ahead of the graph: names and charts that are declared, and of the chart at hand the parts that are closed and the one that is open
pub record Draft : Type 0 where
  pub instances : List (List ℕ)
  pub messages : List (List ℕ)
  pub actions : List (List ℕ)
  pub charts : List Chart
  pub parts : List (List Event)
  pub part : List Event

abbrev pub no_draft : Draft
no_draft = record { instances = []; messages = []; actions = []; charts = []; parts = []; part = [] }

-- the events of the chart at hand
abbrev pub at_hand : Draft → List Event
at_hand d = flat_map (λ p. p) d.parts ++ d.part

-- all events
abbrev pub so_far : Draft → ℕ
so_far d = length (all_events d.charts) + length (at_hand d)

abbrev pub with_instance : Draft → List ℕ → Draft
with_instance d w = record { instances = d.instances ++ (w ∷ []); messages = d.messages; actions = d.actions; charts = d.charts; parts = d.parts; part = d.part }

abbrev pub with_message : Draft → List ℕ → Draft
with_message d w = record { instances = d.instances; messages = d.messages ++ (w ∷ []); actions = d.actions; charts = d.charts; parts = d.parts; part = d.part }

abbrev pub with_action : Draft → List ℕ → Draft
with_action d w = record { instances = d.instances; messages = d.messages; actions = d.actions ++ (w ∷ []); charts = d.charts; parts = d.parts; part = d.part }

abbrev pub with_event : Draft → Event → Draft
with_event d e = record { instances = d.instances; messages = d.messages; actions = d.actions; charts = d.charts; parts = d.parts; part = d.part ++ (e ∷ []) }

-- the parts, with empty ones after them up to n
abbrev pub padded : ℕ → List (List Event) → List (List Event)
padded n ps = ps ++ replicate (n - length ps) []

-- the part of instance i is open; those between the last one and it are empty
abbrev pub opened : Draft → ℕ → Draft
opened d i = record { instances = d.instances; messages = d.messages; actions = d.actions; charts = d.charts; parts = padded i d.parts; part = [] }

-- the open part is closed
abbrev pub closed : Draft → Draft
closed d = record { instances = d.instances; messages = d.messages; actions = d.actions; charts = d.charts; parts = d.parts ++ (d.part ∷ []); part = [] }

-- the chart at hand is declared, with eight parts
abbrev pub charted : Draft → List ℕ → Draft
charted d w = record { instances = d.instances; messages = d.messages; actions = d.actions; charts = d.charts ++ (record { name = w; parts = padded 8 d.parts } ∷ []); parts = []; part = [] }

-- a label's name in a list, with its place in the text
pub record Mention : Type 0 where
  pub name : List ℕ
  pub at : ℕ

-- a label line: its name, and the end or a chart's number with the list as it stands
pub data Rest : Type 0 where
  final : Rest
  node : ℕ → List Mention → Rest

pub record Line : Type 0 where
  pub name : List ℕ
  pub rest : Rest

abbrev pub line_names : List Line → List (List ℕ)
line_names [] = []
line_names (l ∷ ls) = l.name ∷ line_names ls

abbrev pub mentioned : List Mention → List (List ℕ)
mentioned [] = []
mentioned (m ∷ ms) = m.name ∷ mentioned ms
