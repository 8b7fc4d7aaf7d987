-- The shortest text of a document: its forms in order, empty blocks left out, one space where a word follows a word.
use Rattle.msc.specs.declared.label.Body.{Body}
use Rattle.msc.specs.declared.label.Body.TheVariants.{End as final, Node as node}
use Rattle.msc.specs.declared.label.Label.{Label}
use Rattle.std.specs.Prelude.{ℕ, suc, List, [], ◌∷◌, ◌++◌, slice_index_or}
use Rattle.std.specs.List.{flat_map}
use Rattle.msc.specs.Doc.{Doc, Chart, chart_names, label_names}
use Rattle.msc.specs.Tokens.{Tok, name, word, sign, spell}
use Rattle.msc.specs.declared.event.Event.{Event}
use Rattle.msc.specs.declared.event.Event.TheVariants.{Out, In, Action}
use Rattle.msc.specs.declared.symbol.Symbol.TheVariants.{Open, Close, Colon, Semi}
use Rattle.msc.specs.declared.words.Keyword.TheVariants as keyword

-- inst name ;
abbrev pub inst_tokens : List ℕ → List Tok
inst_tokens n = word keyword.Inst ∷ name n ∷ sign Semi ∷ []

module _ (instances messages actions : List (List ℕ)) where
  -- out name to name ; or in name from name ; or action name ;
  abbrev pub event_tokens : Event → List Tok
  event_tokens (Out n q) = word keyword.Out ∷ name (slice_index_or messages n []) ∷ word keyword.To ∷ name (slice_index_or instances q []) ∷ sign Semi ∷ []
  event_tokens (In n p) = word keyword.In ∷ name (slice_index_or messages n []) ∷ word keyword.From ∷ name (slice_index_or instances p []) ∷ sign Semi ∷ []
  event_tokens (Action n) = word keyword.Action ∷ name (slice_index_or actions n []) ∷ sign Semi ∷ []

  -- instance name ; events endinstance ;
  abbrev pub block_tokens : ℕ → List Event → List Tok
  block_tokens i es = word keyword.Instance ∷ name (slice_index_or instances i []) ∷ sign Semi ∷ (flat_map event_tokens es ++ (word keyword.Endinstance ∷ sign Semi ∷ []))

  -- the block of a part, unless the part is empty
  abbrev pub part_tokens : ℕ → List Event → List Tok
  part_tokens i [] = []
  part_tokens i (e ∷ es) = block_tokens i (e ∷ es)

  -- the parts from instance i on
  abbrev pub parts_tokens : ℕ → List (List Event) → List Tok
  parts_tokens i [] = []
  parts_tokens i (p ∷ ps) = part_tokens i p ++ parts_tokens (suc i) ps

  -- msc name ; blocks endmsc ;
  abbrev pub chart_tokens : Chart → List Tok
  chart_tokens c = word keyword.Msc ∷ name c.name ∷ sign Semi ∷ (parts_tokens 0 c.parts ++ (word keyword.Endmsc ∷ sign Semi ∷ []))

-- names joined by alt
abbrev pub list_tokens : List (List ℕ) → List ℕ → List Tok
list_tokens names [] = []
list_tokens names (l ∷ []) = name (slice_index_or names l []) ∷ []
list_tokens names (l ∷ m ∷ ls) = name (slice_index_or names l []) ∷ word keyword.Alt ∷ list_tokens names (m ∷ ls)

-- end, or (name)seq(list)
abbrev pub body_tokens : List (List ℕ) → List (List ℕ) → Body → List Tok
body_tokens charts labels final = word keyword.End ∷ []
body_tokens charts labels (node c ls) = sign Open ∷ name (slice_index_or charts c []) ∷ sign Close ∷ word keyword.Seq ∷ sign Open ∷ (list_tokens labels ls ++ (sign Close ∷ []))

-- name : body ;
abbrev pub label_tokens : List (List ℕ) → List (List ℕ) → Label → List Tok
label_tokens charts labels l = name l.name ∷ sign Colon ∷ (body_tokens charts labels l.body ++ (sign Semi ∷ []))

-- msc name ; expr list ; label lines endmsc ;
abbrev pub graph_tokens : Doc → List Tok
graph_tokens d = word keyword.Msc ∷ name d.graph ∷ sign Semi ∷ word keyword.Expr ∷ (list_tokens (label_names d.labels) d.start ++ (sign Semi ∷ (flat_map (label_tokens (chart_names d.charts) (label_names d.labels)) d.labels ++ (word keyword.Endmsc ∷ sign Semi ∷ []))))

-- mscdocument name ; instances charts graph endmscdocument ;
abbrev pub doc_tokens : Doc → List Tok
doc_tokens d = word keyword.Mscdocument ∷ name d.title ∷ sign Semi ∷ (flat_map inst_tokens d.instances ++ (flat_map (chart_tokens d.instances d.messages d.actions) d.charts ++ (graph_tokens d ++ (word keyword.Endmscdocument ∷ sign Semi ∷ []))))

unfoldable pub text_of : Doc → List ℕ
text_of d = spell d.words (doc_tokens d)
