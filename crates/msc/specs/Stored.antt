-- The document that tables hold.
use Rattle.std.specs.Prelude.{ℕ, zero, suc, List, [], ◌∷◌, map, slice_index, slice_index_or, slice_range}
use Rattle.msc.specs.Doc.{Doc}
use Rattle.msc.specs.Doc as doc
use Rattle.msc.specs.declared.chart.Chart.{Chart}
use Rattle.msc.specs.declared.event.Event.{Event}
use Rattle.msc.specs.declared.tables.Tables.{Tables}

-- the parts that end at the given places of the events, the first beginning at a
abbrev pub cut : List Event → ℕ → List ℕ → List (List Event)
cut es a [] = []
cut es a (e ∷ ends) = slice_range es a e ∷ cut es e ends

-- the charts, each beginning where the one ahead ends
abbrev pub charts_from : List Event → ℕ → List Chart → List doc.Chart
charts_from es a [] = []
charts_from es a (c ∷ cs) = record { name = c.name; parts = cut es a c.ends } ∷ charts_from es (slice_index c.ends 7) cs

abbrev pub doc_of : Tables → Doc
doc_of t = record {
  words = t.words;
  title = t.title;
  instances = t.instances;
  messages = t.messages;
  actions = t.actions;
  charts = charts_from t.events 0 t.charts;
  graph = t.graph;
  start = t.start;
  labels = t.labels;
}

-- where the part of an instance ends
abbrev pub ends_of : List Chart → List (List ℕ)
ends_of cs = map (λ (c : Chart). c.ends) cs

abbrev pub end_at : List (List ℕ) → ℕ → ℕ → ℕ
end_at ends c i = slice_index (slice_index_or ends c []) i

-- what f gives for the number ahead of a number, and a for 0
abbrev pub ahead : ℕ → (ℕ → ℕ) → ℕ → ℕ
ahead a f zero = a
ahead a f (suc i) = f i

-- where the part of an instance begins: where the one ahead ends, in this chart or the one ahead
abbrev pub begin_at : List (List ℕ) → ℕ → ℕ → ℕ
begin_at ends c i = ahead (ahead 0 (λ k. end_at ends k 7) c) (end_at ends c) i
