-- A document of two instances: P sends the message m to Q, again and again, until the procedure ends.
use Rattle.std.specs.Prelude.{[], ◌∷◌, codes}
use Rattle.msc.specs.Doc.{Doc}
use Rattle.msc.specs.Standard.{standard_words}
use Rattle.msc.specs.declared.event.Event.TheVariants.{Out, In}
use Rattle.msc.specs.declared.label.Body.TheVariants.{End as final, Node as node}

abbrev pub ping : Doc
ping = record {
  words = standard_words;
  title = codes "D";
  instances = codes "P" ∷ codes "Q" ∷ [];
  messages = codes "m" ∷ [];
  actions = [];
  charts = record { name = codes "C"; parts = (Out 0 1 ∷ []) ∷ (In 0 0 ∷ []) ∷ [] ∷ [] ∷ [] ∷ [] ∷ [] ∷ [] ∷ [] } ∷ [];
  graph = codes "H";
  start = 0 ∷ [];
  labels = record { name = codes "N"; body = node 0 (0 ∷ 1 ∷ []) } ∷ record { name = codes "E"; body = final } ∷ [];
}
