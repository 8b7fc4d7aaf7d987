-- The tokens of a document's forms, with the names that the document gives.
use Rattle.std.specs.Prelude.{ℕ, List, [], ◌∷◌, slice_index_or}
use Rattle.msc.specs.Doc.{Doc, Chart, chart_names, label_names}
use Rattle.msc.specs.Shortest.{event_tokens, part_tokens, parts_tokens, chart_tokens, list_tokens, body_tokens, label_tokens}
use Rattle.msc.specs.Tokens.{Tok, name, word}
use Rattle.msc.specs.declared.event.Event.{Event}
use Rattle.msc.specs.declared.label.Body.{Body}
use Rattle.msc.specs.declared.label.Label.{Label}
use Rattle.msc.specs.declared.words.Keyword.TheVariants as keyword

abbrev pub event_of : Doc → Event → List Tok
event_of d e = event_tokens d.instances d.messages d.actions e

abbrev pub part_of : Doc → ℕ → List Event → List Tok
part_of d i es = part_tokens d.instances d.messages d.actions i es

abbrev pub parts_of : Doc → ℕ → List (List Event) → List Tok
parts_of d i ps = parts_tokens d.instances d.messages d.actions i ps

abbrev pub chart_of : Doc → Chart → List Tok
chart_of d c = chart_tokens d.instances d.messages d.actions c

abbrev pub list_of : Doc → List ℕ → List Tok
list_of d ls = list_tokens (label_names d.labels) ls

-- a name behind alt
abbrev pub alt_tokens : List (List ℕ) → ℕ → List Tok
alt_tokens names l = word keyword.Alt ∷ name (slice_index_or names l []) ∷ []

abbrev pub body_of : Doc → Body → List Tok
body_of d b = body_tokens (chart_names d.charts) (label_names d.labels) b

abbrev pub label_of : Doc → Label → List Tok
label_of d l = label_tokens (chart_names d.charts) (label_names d.labels) l
