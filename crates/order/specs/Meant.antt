-- What a document means, and the parts of one of its charts.
use Rattle.std.specs.Prelude.{ℕ, List}
use Rattle.msc.specs.Meaning.{Meaning, meaning_of}
use Rattle.msc.specs.Stored.{doc_of}
use Rattle.msc.specs.declared.document.Document.{Document}
use Rattle.msc.specs.declared.event.Event.{Event}
use Rattle.order.specs.declared.drawing.Drawing.{Drawing}

unfoldable pub meant : Document → Meaning
meant d = meaning_of (doc_of d.tables)

abbrev pub parts : Drawing → ℕ → List Event
parts d = (meant d.document.now).drawn d.chart
