-- What reading a text means: the forms from left to right, the first fault counting.
-- Each function here gives what stands at a place p of the text, whose rest from there is s; `ws` are the reserved words in force.
use Rattle.msc.specs.declared.label.Body.{Body}
use Rattle.msc.specs.declared.label.Label.{Label}
use Rattle.msc.specs.declared.label.Body.TheVariants.{End as label-final, Node as label-node}
use Rattle.std.specs.Prelude.{ℕ, Bool, true, false, cond, ◌&&◌, List, [], ◌∷◌, ◌++◌, length, Some, None, Ok, Err, Option, Result, ◌==◌, nat_le, nat_lt}
use Rattle.msc.specs.Doc.{Doc, chart_names, out_count}
use Rattle.msc.specs.Sound.{most}
use Rattle.msc.specs.Spelling.{place, has}
use Rattle.msc.specs.Tokens.{Tok, name, word, sign, end}
use Rattle.msc.specs.declared.event.Event.{Event}
use Rattle.msc.specs.declared.event.Event.TheVariants.{Out, In, Action}
use Rattle.msc.specs.declared.symbol.Symbol.{Symbol}
use Rattle.msc.specs.declared.symbol.Symbol.TheVariants.{Open, Close, Colon, Semi}
use Rattle.msc.specs.declared.words.Keyword.{Keyword}
use Rattle.msc.specs.declared.words.Keyword.TheVariants as keyword
use Rattle.lexis.specs.Lexing.{next_of, name_at, is_key, is_sign, word_at, sign_at, end_at}
use Rattle.lexis.specs.Steps.{Step, got, bad, and_then, repeat}
use Rattle.lexis.specs.declared.refusal.Refusal.{Refusal}
use Rattle.lexis.specs.declared.refusal.Refusal.TheVariants.{TooLong, Unexpected, Limit, Twice, Undeclared, Itself}
use Rattle.forms.specs.Drafts.{Draft, no_draft, at_hand, so_far, with_instance, with_message, with_action, with_event, opened, closed, charted, Mention, Rest, final, node, Line, line_names, mentioned}

-- what a place in a list of names comes to, or that there is none
abbrev pub known : {A : Type 0} → Option ℕ → (ℕ → Step A) → Step A → Step A
known None yes_at none = none
known (Some k) yes_at none = yes_at k

module _ (ws : List (List ℕ)) where
  -- a name that is not yet among those of its kind
  abbrev pub new_name_at : List (List ℕ) → ℕ → List ℕ → Step (List ℕ)
  new_name_at names p s = and_then (name_at ws p s) λ n p s. cond (has names n.0) (bad (Twice n.1)) (got n.0 p s)

  -- a name that is among those of its kind: its number, and its place
  abbrev pub old_name_at : List (List ℕ) → ℕ → List ℕ → Step (ℕ × ℕ)
  old_name_at names p s = and_then (name_at ws p s) λ n p s. known (place names n.0) (λ k. got (k, n.1) p s) (bad (Undeclared n.1))

  -- inst name ; behind the word inst, at q
  abbrev pub inst_at : Draft → ℕ → ℕ → List ℕ → Step Draft
  inst_at d q p s =
      cond (nat_lt (length d.instances) 8)
      (and_then (new_name_at d.instances p s) λ w p s. and_then (sign_at ws Semi p s) λ _ p s. got (with_instance d w) p s)
      (bad (Limit q))

  -- another instance line, or the word msc, which ends them
  abbrev pub inst_turn : Draft → ℕ → List ℕ → Step (Draft × Bool)
  inst_turn d p s = and_then (next_of ws p s) λ t p s.
      cond (is_key keyword.Inst t.0) (and_then (inst_at d t.1 p s) λ d p s. got (d, false) p s)
      (cond (is_key keyword.Msc t.0) (got (d, true) p s) (bad (Unexpected t.1)))

  -- one to eight instance lines, and the word msc
  abbrev pub instances_at : ℕ → List ℕ → Step Draft
  instances_at p s =
      and_then (word_at ws keyword.Inst p s) λ _ p s.
      and_then (inst_at no_draft 0 p s) λ d p s.
      repeat inst_turn 8 d p s

  -- the number of a message name, which is new or stood before
  abbrev pub message_at : Draft → ℕ → List ℕ → Step (Draft × ℕ)
  message_at d p s = and_then (name_at ws p s) λ n p s.
      known (place d.messages n.0) (λ k. got (d, k) p s)
      (cond (nat_lt (length d.messages) 128) (got (with_message d n.0, length d.messages) p s) (bad (Limit n.1)))

  abbrev pub action_at : Draft → ℕ → List ℕ → Step (Draft × ℕ)
  action_at d p s = and_then (name_at ws p s) λ n p s.
      known (place d.actions n.0) (λ k. got (d, k) p s)
      (cond (nat_lt (length d.actions) 128) (got (with_action d n.0, length d.actions) p s) (bad (Limit n.1)))

  -- the partner of an event of instance i
  abbrev pub partner_at : Draft → ℕ → ℕ → List ℕ → Step ℕ
  partner_at d i p s = and_then (old_name_at d.instances p s) λ k p s. cond (k.0 == i) (bad (Itself k.1)) (got k.0 p s)

  -- name to name ; or name from name ;
  abbrev pub message_event_at : Keyword → (ℕ → ℕ → Event) → ℕ → Draft → ℕ → List ℕ → Step Draft
  message_event_at k made i d p s =
      and_then (message_at d p s) λ m p s.
      and_then (word_at ws k p s) λ _ p s.
      and_then (partner_at m.0 i p s) λ q p s.
      and_then (sign_at ws Semi p s) λ _ p s.
      got (with_event m.0 (made m.1 q)) p s

  -- name ;
  abbrev pub action_event_at : Draft → ℕ → List ℕ → Step Draft
  action_event_at d p s =
      and_then (action_at d p s) λ a p s.
      and_then (sign_at ws Semi p s) λ _ p s.
      got (with_event a.0 (Action a.1)) p s

  -- one event more fits the limits of the chart and of the document
  abbrev pub has_room : Draft → Bool
  has_room d = nat_lt (length (at_hand d)) 64 && nat_lt (so_far d) 1024

  -- one out more fits the limit of the chart too
  abbrev pub has_room_out : Draft → Bool
  has_room_out d = has_room d && nat_lt (out_count (at_hand d)) 32

  -- an event of instance i, or the word endinstance
  abbrev pub event_turn : ℕ → Draft → ℕ → List ℕ → Step (Draft × Bool)
  event_turn i d p s = and_then (next_of ws p s) λ t p s.
      cond (is_key keyword.Out t.0) (cond (has_room_out d) (and_then (message_event_at keyword.To Out i d p s) λ d p s. got (d, false) p s) (bad (Limit t.1)))
      (cond (is_key keyword.In t.0) (cond (has_room d) (and_then (message_event_at keyword.From In i d p s) λ d p s. got (d, false) p s) (bad (Limit t.1)))
      (cond (is_key keyword.Action t.0) (cond (has_room d) (and_then (action_event_at d p s) λ d p s. got (d, false) p s) (bad (Limit t.1)))
      (cond (is_key keyword.Endinstance t.0) (got (d, true) p s) (bad (Unexpected t.1)))))

  -- name ; events endinstance ; of an instance behind the last one that had a block
  abbrev pub block_at : Draft → ℕ → List ℕ → Step Draft
  block_at d p s =
      and_then (old_name_at d.instances p s) λ i p s.
      cond (nat_lt i.0 (length d.parts)) (bad (Twice i.1))
      (and_then (sign_at ws Semi p s) λ _ p s.
      and_then (repeat (event_turn i.0) 65 (opened d i.0) p s) λ d p s.
      and_then (sign_at ws Semi p s) λ _ p s.
      got (closed d) p s)

  -- a block, or the word endmsc
  abbrev pub block_turn : Draft → ℕ → List ℕ → Step (Draft × Bool)
  block_turn d p s = and_then (next_of ws p s) λ t p s.
      cond (is_key keyword.Instance t.0) (and_then (block_at d p s) λ d p s. got (d, false) p s)
      (cond (is_key keyword.Endmsc t.0) (got (d, true) p s) (bad (Unexpected t.1)))

  -- blocks endmsc ; and the word msc, which begins the next chart or the graph
  abbrev pub chart_at : Draft → List ℕ → ℕ → List ℕ → Step Draft
  chart_at d w p s =
      and_then (repeat block_turn 9 d p s) λ d p s.
      and_then (sign_at ws Semi p s) λ _ p s.
      and_then (word_at ws keyword.Msc p s) λ _ p s.
      got (charted d w) p s

  -- behind the word msc: name ; and then the word expr, which begins the graph, or a chart; the graph's name is kept beside
  abbrev pub chart_turn : Draft × List ℕ → ℕ → List ℕ → Step ((Draft × List ℕ) × Bool)
  chart_turn d p s =
      and_then (new_name_at (chart_names d.0.charts) p s) λ w p s.
      and_then (sign_at ws Semi p s) λ _ p s.
      and_then (next_of ws p s) λ t p' s'.
      cond (is_key keyword.Expr t.0) (got ((d.0, w), true) p' s')
      (cond (nat_lt (length d.0.charts) 64) (and_then (chart_at d.0 w p s) λ e p s. got ((e, d.1), false) p s) (bad (Unexpected t.1)))

  -- at most 64 charts, and the graph's name
  abbrev pub charts_at : Draft → ℕ → List ℕ → Step (Draft × List ℕ)
  charts_at d p s = repeat chart_turn 65 (d, []) p s

  abbrev pub mention : List ℕ × ℕ → Mention
  mention n = record { name = n.0; at = n.1 }

  -- alt and another name, or the symbol that ends the list
  abbrev pub alt_turn : Symbol → List Mention → ℕ → List ℕ → Step (List Mention × Bool)
  alt_turn x ms p s = and_then (next_of ws p s) λ t p s.
      cond (is_key keyword.Alt t.0)
      (and_then (name_at ws p s) λ n p s.
      cond (nat_lt (length ms) 8) (cond (has (mentioned ms) n.0) (bad (Twice n.1)) (got (ms ++ (mention n ∷ []), false) p s)) (bad (Limit n.1)))
      (cond (is_sign x t.0) (got (ms, true) p s) (bad (Unexpected t.1)))

  -- one to eight names joined by alt, and the symbol that ends the list
  abbrev pub list_at : Symbol → ℕ → List ℕ → Step (List Mention)
  list_at x p s = and_then (name_at ws p s) λ n p s. repeat (alt_turn x) 8 (mention n ∷ []) p s

  -- end or (name)seq(list)
  abbrev pub rest_at : List (List ℕ) → ℕ → List ℕ → Step Rest
  rest_at charts p s = and_then (next_of ws p s) λ t p s.
      cond (is_key keyword.End t.0) (got final p s)
      (cond (is_sign Open t.0)
      (and_then (old_name_at charts p s) λ c p s.
      and_then (sign_at ws Close p s) λ _ p s.
      and_then (word_at ws keyword.Seq p s) λ _ p s.
      and_then (sign_at ws Open p s) λ _ p s.
      and_then (list_at Close p s) λ ms p s.
      got (node c.0 ms) p s)
      (bad (Unexpected t.1)))

  -- a label line behind its name w, which stands at q
  abbrev pub line_at : List (List ℕ) → List Line → List ℕ → ℕ → ℕ → List ℕ → Step (List Line)
  line_at charts ls w q p s =
      cond (nat_lt (length ls) 64)
      (cond (has (line_names ls) w) (bad (Twice q))
      (and_then (sign_at ws Colon p s) λ _ p s.
      and_then (rest_at charts p s) λ r p s.
      and_then (sign_at ws Semi p s) λ _ p s.
      got (ls ++ (record { name = w; rest = r } ∷ [])) p s))
      (bad (Limit q))

  -- a label line, or the word endmsc behind one at least, at a token that stands at q
  abbrev pub as_line : List (List ℕ) → List Line → Tok → ℕ → ℕ → List ℕ → Step (List Line × Bool)
  as_line charts ls (name w) q p s = and_then (line_at charts ls w q p s) λ ls p s. got (ls, false) p s
  as_line charts ls (word k) q p s = cond (is_key keyword.Endmsc (word k) && nat_lt 0 (length ls)) (got (ls, true) p s) (bad (Unexpected q))
  as_line charts ls (sign x) q p s = bad (Unexpected q)
  as_line charts ls end q p s = bad (Unexpected q)

  abbrev pub line_turn : List (List ℕ) → List Line → ℕ → List ℕ → Step (List Line × Bool)
  line_turn charts ls p s = and_then (next_of ws p s) λ t p s. as_line charts ls t.0 t.1 p s

  -- one to 64 label lines, and the word endmsc
  abbrev pub lines_at : List (List ℕ) → ℕ → List ℕ → Step (List Line)
  lines_at charts p s = repeat (line_turn charts) 65 [] p s

-- a value after a value, or the first refusal
abbrev pub follow : {A B : Type 0} → Result A Refusal → (A → Result B Refusal) → Result B Refusal
follow (Ok a) k = k a
follow (Err e) k = Err e

-- the number of a label that is mentioned, or the refusal of a name that no label line declares
abbrev pub label_at : Option ℕ → ℕ → Result ℕ Refusal
label_at None q = Err (Undeclared q)
label_at (Some k) q = Ok k

abbrev pub resolve : List (List ℕ) → List Mention → Result (List ℕ) Refusal
resolve names [] = Ok []
resolve names (m ∷ ms) = follow (label_at (place names m.name) m.at) λ l. follow (resolve names ms) λ ls. Ok (l ∷ ls)

abbrev pub resolve_rest : List (List ℕ) → Rest → Result Body Refusal
resolve_rest names final = Ok label-final
resolve_rest names (node c ms) = follow (resolve names ms) λ ls. Ok (label-node c ls)

abbrev pub resolve_lines : List (List ℕ) → List Line → Result (List Label) Refusal
resolve_lines names [] = Ok []
resolve_lines names (l ∷ ls) = follow (resolve_rest names l.rest) λ b. follow (resolve_lines names ls) λ r. Ok (record { name = l.name; body = b } ∷ r)

-- all that is read: title, names and charts with the graph's name, start list, label lines
pub record Read : Type 0 where
  pub title : List ℕ
  pub draft : Draft
  pub graph : List ℕ
  pub start : List Mention
  pub lines : List Line

module _ (ws : List (List ℕ)) where
  -- list ; label lines endmsc ; endmscdocument ; and the text's end
  abbrev pub graph_at : List ℕ → Draft → List ℕ → ℕ → List ℕ → Step Read
  graph_at title d w p s =
      and_then (list_at ws Semi p s) λ ms p s.
      and_then (lines_at ws (chart_names d.charts) p s) λ ls p s.
      and_then (sign_at ws Semi p s) λ _ p s.
      and_then (word_at ws keyword.Endmscdocument p s) λ _ p s.
      and_then (sign_at ws Semi p s) λ _ p s.
      and_then (end_at ws p s) λ _ p s.
      got (record { title = title; draft = d; graph = w; start = ms; lines = ls }) p s

  -- mscdocument name ; instances charts graph
  abbrev pub forms_at : ℕ → List ℕ → Step Read
  forms_at p s =
      and_then (word_at ws keyword.Mscdocument p s) λ _ p s.
      and_then (name_at ws p s) λ n p s.
      and_then (sign_at ws Semi p s) λ _ p s.
      and_then (instances_at ws p s) λ d p s.
      and_then (charts_at ws d p s) λ e p s.
      graph_at n.0 e.0 e.1 p s

  -- the labels are looked up only when nothing else is wrong: the start list's, then each line's
  abbrev pub linked : Read → Result Doc Refusal
  linked r =
      follow (resolve (line_names r.lines) r.start) λ start.
      follow (resolve_lines (line_names r.lines) r.lines) λ labels.
      Ok (record {
        words = ws;
        title = r.title;
        instances = r.draft.instances;
        messages = r.draft.messages;
        actions = r.draft.actions;
        charts = r.draft.charts;
        graph = r.graph;
        start = start;
        labels = labels;
      })

  abbrev pub finish : Step Read → Result Doc Refusal
  finish (got r p s) = linked r
  finish (bad e) = Err e

  -- the document that a text is read as, or why it is refused
  unfoldable pub read_of : List ℕ → Result Doc Refusal
  read_of text = cond (nat_le (length text) most) (finish (forms_at 0 text)) (Err TooLong)
