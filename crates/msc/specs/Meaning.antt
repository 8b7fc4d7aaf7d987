-- The meaning of a document: what judges, paths and players speak of.
use Rattle.msc.specs.declared.label.Body.{Body}
use Rattle.msc.specs.declared.label.Body.TheVariants.{End as final, Node as node}
use Rattle.msc.specs.declared.label.Label.{Label}
use Rattle.std.specs.Prelude.{ℕ, cond, List, [], length, get_or, Some, None, Option, ◌==◌, slice_index_or}
use Rattle.msc.specs.Doc.{Doc, Chart}
use Rattle.msc.specs.declared.event.Event.{Event}

pub record Meaning : Type 0 where
  -- how many instances, charts and labels
  pub instances : ℕ
  pub charts : ℕ
  pub labels : ℕ
  -- the part of an instance in a chart
  pub drawn : ℕ → ℕ → List Event
  -- the chart of a node; none for an end label, or for what is no label
  pub chart : ℕ → Option ℕ
  -- the labels that may follow a node; at 64, the start list
  pub list : ℕ → List ℕ

-- the start list counts as label 64
abbrev pub start : ℕ
start = 64

abbrev pub chart_of : Body → Option ℕ
chart_of final = None
chart_of (node c ls) = Some c

abbrev pub list_of : Body → List ℕ
list_of final = []
list_of (node c ls) = ls

-- what stands past the end of a table
abbrev pub no_chart : Chart
no_chart = record { name = []; parts = [] }

abbrev pub no_label : Label
no_label = record { name = []; body = final }

abbrev pub meaning_of : Doc → Meaning
meaning_of d = record {
  instances = length d.instances;
  charts = length d.charts;
  labels = length d.labels;
  drawn = λ c i. slice_index_or (get_or d.charts c no_chart).parts i [];
  chart = λ l. chart_of (get_or d.labels l no_label).body;
  list = λ l. cond (l == start) d.start (list_of (get_or d.labels l no_label).body);
}

module _ (m : Meaning) where
  abbrev pub part_in : Option ℕ → ℕ → List Event
  part_in None i = []
  part_in (Some c) i = m.drawn c i

  -- the part of an instance in the chart of a label; none at an end label
  abbrev pub part : ℕ → ℕ → List Event
  part l i = part_in (m.chart l) i
