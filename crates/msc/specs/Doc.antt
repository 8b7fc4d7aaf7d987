-- What a document is: instances, charts, and a graph of labels.
use Rattle.std.specs.Prelude.{ℕ, suc, List, [], ◌∷◌}
use Rattle.std.specs.List.{flat_map}
use Rattle.msc.specs.declared.label.Label.{Label}
use Rattle.msc.specs.declared.event.Event.{Event}
use Rattle.msc.specs.declared.event.Event.TheVariants.{Out, In, Action}

-- a chart: a name, and the part of each of eight instances, empty where the instance takes no part
pub record Chart : Type 0 where
  pub name : List ℕ
  pub parts : List (List Event)

-- each kind is numbered from 0 in order of declaration, messages and actions by first appearance
pub record Doc : Type 0 where
  pub words : List (List ℕ)
  pub title : List ℕ
  pub instances : List (List ℕ)
  pub messages : List (List ℕ)
  pub actions : List (List ℕ)
  pub charts : List Chart
  pub graph : List ℕ
  pub start : List ℕ
  pub labels : List Label

-- the events of a chart, of all parts in order
abbrev pub chart_events : Chart → List Event
chart_events c = flat_map (λ p. p) c.parts

abbrev pub all_events : List Chart → List Event
all_events cs = flat_map chart_events cs

abbrev pub chart_names : List Chart → List (List ℕ)
chart_names [] = []
chart_names (c ∷ cs) = c.name ∷ chart_names cs

abbrev pub label_names : List Label → List (List ℕ)
label_names [] = []
label_names (l ∷ ls) = l.name ∷ label_names ls

-- how many of the events are outs
abbrev pub out_count : List Event → ℕ
out_count [] = 0
out_count (Out n q ∷ es) = suc (out_count es)
out_count (In n p ∷ es) = out_count es
out_count (Action n ∷ es) = out_count es
