-- The built-in document: one instance, one chart with one action, a start node and an end label.
use Rattle.msc.specs.declared.label.Body.TheVariants.{End as final, Node as node}
use Rattle.std.specs.Prelude.{[], ◌∷◌, codes}
use Rattle.msc.specs.Doc.{Doc}
use Rattle.msc.specs.Standard.{standard_words}
use Rattle.msc.specs.declared.event.Event.TheVariants.{Action}

abbrev pub built_in : Doc
built_in = record {
  words = standard_words;
  title = codes "D";
  instances = codes "I" ∷ [];
  messages = [];
  actions = codes "a" ∷ [];
  charts = record { name = codes "C"; parts = (Action 0 ∷ []) ∷ [] ∷ [] ∷ [] ∷ [] ∷ [] ∷ [] ∷ [] ∷ [] } ∷ [];
  graph = codes "H";
  start = 0 ∷ [];
  labels = record { name = codes "N"; body = node 0 (1 ∷ []) } ∷ record { name = codes "E"; body = final } ∷ [];
}
