-- Backwards, the whole: a text that is read as a document writes it, and the document is well formed. Assumes nothing.
use Rattle.msc.specs.declared.label.Label.{Label}
use Rattle.std.proofs.Common.{◌≡◌, ℕ, ◌≤◌, Bool, true, false, cond, leb, List, [], ◌∷◌, ◌++◌, length, Ok, Err, sym, refl, ap, ◌∙◌, subst, append_assoc, append-nil, arith}
use Rattle.std.specs.List.{flat_map}
use Rattle.std.proofs.lemmas.Bool.{and_from, eq-eqb, leb-true, le-leb}
use Rattle.msc.specs.Doc.{Doc, Chart, all_events, chart_names, label_names}
use Rattle.msc.specs.Shortest.{inst_tokens, list_tokens, label_tokens}
use Rattle.msc.specs.Sound.{well_formed, most, names, chart, numbered, list, body}
use Rattle.msc.specs.Spelling.{every, is_name, is_vocabulary}
use Rattle.msc.specs.Tokens.{Tok, name, word, sign}
use Rattle.msc.specs.declared.symbol.Symbol.TheVariants.{Semi}
use Rattle.msc.specs.declared.words.Keyword.TheVariants as keyword
use Rattle.lexis.specs.Lexing.{name_at, word_at, sign_at, end_at}
use Rattle.lexis.specs.Steps.{Step, got, bad}
use Rattle.lexis.specs.declared.refusal.Refusal.TheVariants as refusal
use Rattle.forms.specs.Drafts.{Draft, Mention, Line, line_names}
use Rattle.forms.specs.Reading.{instances_at, charts_at, list_at, lines_at, resolve, resolve_lines, Read, graph_at, forms_at, linked, finish, read_of}
use Rattle.forms.specs.Writes.{Blank, Spelled, ChartForms, Writes}
use Rattle.forms.proofs.Steps.{got_value, then_got}
use Rattle.forms.proofs.Cuts.{Cut}
use Rattle.forms.proofs.Takes.{Takes, done, then, takes-split, takes_join, takes_one, takes_as, cut_good, spelled_of_takes, word_got, sign_got, name_got, end_got}
use Rattle.forms.proofs.Facts.{Facts, from-facts}
use Rattle.forms.proofs.Goods.{good_form, length-chart_names, length-label_names}
use Rattle.forms.proofs.Shortest.{shortest}
use Rattle.forms.proofs.Alternatives.{length-line_names, follow_got, ok_value, resolved_names}
use Rattle.forms.proofs.Moves.{Table, Moves}
use Rattle.forms.proofs.FoundCharts.{instances_found, charts_found, draft}
use Rattle.forms.proofs.FoundGraph.{list_is, lines_found}

-- the tokens behind the word expr, from the names of charts and labels, the start list and the labels
abbrev tail_tokens : List (List ℕ) → List (List ℕ) → List ℕ → List Label → List Tok
tail_tokens cs ns start labels = (list_tokens ns start ++ (sign Semi ∷ (flat_map (label_tokens cs ns) labels ++ (word keyword.Endmsc ∷ sign Semi ∷ [])))) ++ (word keyword.Endmscdocument ∷ sign Semi ∷ [])

module _ (ws : List (List ℕ)) (v : is_vocabulary ws ≡ true) where
  -- start list and labels that are looked up keep the rules, and stand in the text
  abbrev Graph : List (List ℕ) → List ℕ → List Mention → List Line → Type 0
  Graph cs s ms L = (ns : List (List ℕ)) (start : List ℕ) (labels : List Label) → resolve ns ms ≡ Ok start → resolve_lines ns L ≡ Ok labels
      → (list (length ns) start ≡ true) × (every (λ (l : Label). body (length cs) (length ns) l.body) labels ≡ true) × (z : List ℕ) × Takes ws (tail_tokens cs ns start labels) s z × Blank z

  graph_found : (title : List ℕ) (D : Draft) (g : List ℕ) (p : ℕ) (s : List ℕ) {R : Read} {q : ℕ} {r : List ℕ} → graph_at ws title D g p s ≡ got R q r
      → (ms : List Mention) × (L : List Line) × (record { title = title; draft = D; graph = g; start = ms; lines = L } ≡ R) × Table ws 64 (line_names L) × (1 ≤ length L) × Graph (chart_names D.charts) s ms L
  graph_found title D g p s h =
      let cs = chart_names D.charts in
      let (ms, p1, s1, e1, h1) = then_got (list_at ws Semi p s) _ h in
      let (L, p2, s2, e2, h2) = then_got (lines_at ws cs p1 s1) _ h1 in
      let (u3, p3, s3, e3, h3) = then_got (sign_at ws Semi p2 s2) _ h2 in
      let (u4, p4, s4, e4, h4) = then_got (word_at ws keyword.Endmscdocument p3 s3) _ h3 in
      let (u5, p5, s5, e5, h5) = then_got (sign_at ws Semi p4 s4) _ h4 in
      let (u6, p6, s6, e6, h6) = then_got (end_at ws p5 s5) _ h5 in
      let (tb, one, lines) = lines_found ws v cs p1 s1 e2 in (
        ms,
        L,
        got_value h6,
        tb,
        one,
        λ ns start labels a b.
            let (ok1, t1) = list_is ws v Semi p s e1 ns start a in
            let (ok2, t2) = lines ns labels b in
            (ok1, ok2, s5, graph_join cs ns start labels t1 t2 (sign_got ws v Semi p2 s2 e3) (word_got ws v keyword.Endmscdocument p3 s3 e4) (sign_got ws v Semi p4 s4 e5), end_got ws v p5 s5 e6),
      )
    where
      graph_join : (cs ns : List (List ℕ)) (start : List ℕ) (labels : List Label) {s s1 s2 s3 s4 s5 : List ℕ} → Takes ws (list_tokens ns start ++ (sign Semi ∷ [])) s s1 → Takes ws (flat_map (label_tokens cs ns) labels ++ (word keyword.Endmsc ∷ [])) s1 s2
          → Cut ws (sign Semi) s2 s3 → Cut ws (word keyword.Endmscdocument) s3 s4 → Cut ws (sign Semi) s4 s5 → Takes ws (tail_tokens cs ns start labels) s s5
      graph_join cs ns start labels t1 t2 c3 c4 c5 =
          let close = word keyword.Endmsc ∷ sign Semi ∷ [] in
          let lines = flat_map (label_tokens cs ns) labels in
          takes_join ws
          (takes_as ws (append_assoc (list_tokens ns start) (sign Semi ∷ []) (lines ++ close)) (takes_join ws t1 (takes_as ws (append_assoc lines (word keyword.Endmsc ∷ []) (sign Semi ∷ [])) (takes_join ws t2 (then c3 done)))))
          (then c4 (then c5 done))

  -- what is known of all that is read
  pub record Parsed (text : List ℕ) (R : Read) : Type 0 where
    pub title : is_name ws R.title ≡ true
    pub some : 1 ≤ length R.draft.instances
    pub instances : Table ws 8 R.draft.instances
    pub moves : Moves ws [] [] R.draft.messages R.draft.actions (all_events R.draft.charts)
    pub charts : every (chart (length R.draft.instances)) R.draft.charts ≡ true
    pub chart_names_lem : Table ws 65 (chart_names R.draft.charts ++ (R.graph ∷ []))
    pub few : length R.draft.charts ≤ 64
    pub events : length (all_events R.draft.charts) ≤ 1024
    pub lines : Table ws 64 (line_names R.lines)
    pub one : 1 ≤ length R.lines
    pub written : (ns : List (List ℕ)) (start : List ℕ) (labels : List Label) → resolve ns R.start ≡ Ok start → resolve_lines ns R.lines ≡ Ok labels
        → (list (length ns) start ≡ true) × (every (λ (l : Label). body (length (chart_names R.draft.charts)) (length ns) l.body) labels ≡ true)
        × (vs : List Tok) × ChartForms R.draft.instances R.draft.messages R.draft.actions R.draft.charts vs
        × Spelled ws text (word keyword.Mscdocument ∷ name R.title ∷ sign Semi ∷ (flat_map inst_tokens R.draft.instances ++ (vs ++ (word keyword.Msc ∷ name R.graph ∷ sign Semi ∷ word keyword.Expr ∷ tail_tokens (chart_names R.draft.charts) ns start labels))))

  -- the parts of the text put together
  whole : (I cs ns : List (List ℕ)) (title g start : List ℕ) (labels : List Label) (vs : List Tok) {text s1 s2 s3 s4 s5 z : List ℕ} → Cut ws (word keyword.Mscdocument) text s1 → Cut ws (name title) s1 s2 → Cut ws (sign Semi) s2 s3 → Takes ws (flat_map inst_tokens I) s3 s4
      → Takes ws (vs ++ (word keyword.Msc ∷ name g ∷ sign Semi ∷ word keyword.Expr ∷ [])) s4 s5 → Takes ws (tail_tokens cs ns start labels) s5 z → Blank z
      → Spelled ws text (word keyword.Mscdocument ∷ name title ∷ sign Semi ∷ (flat_map inst_tokens I ++ (vs ++ (word keyword.Msc ∷ name g ∷ sign Semi ∷ word keyword.Expr ∷ tail_tokens cs ns start labels))))
  whole I cs ns title g start labels vs c1 c2 c3 ti tc tg blank =
      spelled_of_takes ws (then c1 (then c2 (then c3 (takes_join ws ti (takes_as ws (append_assoc vs (word keyword.Msc ∷ name g ∷ sign Semi ∷ word keyword.Expr ∷ []) (tail_tokens cs ns start labels)) (takes_join ws tc tg)))))) blank

  abbrev read_as : List ℕ → List (List ℕ) → List (List ℕ) → List (List ℕ) → List Chart → List ℕ → List Mention → List Line → Read
  read_as title I M A cs g ms L = record { title = title; draft = draft ws v I M A cs [] []; graph = g; start = ms; lines = L }

  parsed : (title g : List ℕ) (I M A : List (List ℕ)) (cs : List Chart) (ms : List Mention) (L : List Line) {text s1 s2 s3 s4 s5 : List ℕ}
      → Cut ws (word keyword.Mscdocument) text s1 → Cut ws (name title) s1 s2 → Cut ws (sign Semi) s2 s3 → 1 ≤ length I → Table ws 8 I → Takes ws (flat_map inst_tokens I ++ (word keyword.Msc ∷ [])) s3 s4
      → Moves ws [] [] M A (all_events cs) → every (chart (length I)) cs ≡ true → Table ws 65 (chart_names cs ++ (g ∷ [])) → length cs ≤ 64 → length (all_events cs) ≤ 1024
      → ((s₀ : List ℕ) → Cut ws (word keyword.Msc) s₀ s4 → (vs : List Tok) × ChartForms I M A cs vs × Takes ws (vs ++ (word keyword.Msc ∷ name g ∷ sign Semi ∷ word keyword.Expr ∷ [])) s₀ s5)
      → Table ws 64 (line_names L) → 1 ≤ length L → Graph (chart_names cs) s5 ms L → Parsed text (read_as title I M A cs g ms L)
  parsed title g I M A cs ms L c1 c2 c3 some ti tk mv ch cn few ev charts tl one graph =
      let (s₀, t1, t2) = takes-split ws (flat_map inst_tokens I) tk in
      let (vs, cf, tc) = charts s₀ (takes_one ws t2) in
      record {
        title = cut_good ws c2;
        some = some;
        instances = ti;
        moves = mv;
        charts = ch;
        chart_names_lem = cn;
        few = few;
        events = ev;
        lines = tl;
        one = one;
        written = λ ns start labels a b.
            let (ok1, ok2, z, tg, blank) = graph ns start labels a b in
            (ok1, ok2, vs, cf, whole I (chart_names cs) ns title g start labels vs c1 c2 c3 t1 tc tg blank);
      }

  forms_found : (text : List ℕ) {R : Read} {q : ℕ} {r : List ℕ} → forms_at ws 0 text ≡ got R q r → Parsed text R
  forms_found text {R} h =
      let (u1, p1, s1, e1, h1) = then_got (word_at ws keyword.Mscdocument 0 text) _ h in
      let (n, p2, s2, e2, h2) = then_got (name_at ws p1 s1) _ h1 in
      let (u3, p3, s3, e3, h3) = then_got (sign_at ws Semi p2 s2) _ h2 in
      let (D, p4, s4, e4, h4) = then_got (instances_at ws p3 s3) _ h3 in
      let (e, p5, s5, e5, h5) = then_got (charts_at ws D p4 s4) _ h4 in
      let (I, is, some, ti, tk) = instances_found ws v p3 s3 e4 in
      let (M, A, cs, is2, mv, ch, cn, few, ev, charts) = charts_found ws v I p4 s4 ti.2 (ap (λ D. charts_at ws D p4 s4) (sym is) ∙ e5) in
      let (ms, L, eq, tl, one, graph) = graph_found n.0 e.0 e.1 p5 s5 h5 in
      let same : read_as n.0 I M A cs e.1 ms L ≡ R = ap (λ D. record { title = n.0; draft = D; graph = e.1; start = ms; lines = L }) (sym is2) ∙ eq in
      subst (Parsed text) same
      (parsed n.0 e.1 I M A cs ms L (word_got ws v keyword.Mscdocument 0 text e1) (name_got ws v p1 s1 e2) (sign_got ws v Semi p2 s2 e3) some ti tk mv ch cn few ev charts tl one (subst (λ D. Graph (chart_names D.charts) s5 ms L) is2 graph))

  -- the document of what is read
  abbrev doc_read : Read → List ℕ → List Label → Doc
  doc_read R start labels = record {
    words = ws;
    title = R.title;
    instances = R.draft.instances;
    messages = R.draft.messages;
    actions = R.draft.actions;
    charts = R.draft.charts;
    graph = R.graph;
    start = start;
    labels = labels;
  }

  abbrev Sound : List ℕ → Doc → Type 0
  Sound text d = Facts d × Writes text d

  -- the labels have the names of the label lines, so that names looked up among these are looked up among those
  doc_found : (text : List ℕ) (R : Read) (start : List ℕ) (labels : List Label) → Parsed text R → resolve (line_names R.lines) R.start ≡ Ok start → resolve_lines (line_names R.lines) R.lines ≡ Ok labels → Sound text (doc_read R start labels)
  doc_found text R start labels p a b =
      let I = R.draft.instances in
      let M = R.draft.messages in
      let A = R.draft.actions in
      let cs = R.draft.charts in
      let same : line_names R.lines ≡ label_names labels = resolved_names (line_names R.lines) R.lines labels b in
      let (ok1, ok2, vs, cf, sp) = p.written (label_names labels) start labels (ap (λ ns. resolve ns R.start) (sym same) ∙ a) (ap (λ ns. resolve_lines ns R.lines) (sym same) ∙ b) in
      let ll = length-label_names labels in
      let count : length labels ≡ length R.lines = sym ll ∙ ap length (sym same) ∙ length-line_names R.lines in
      let (l1, l2, l3) = p.lines in
      let many1 = p.one in
      let most64 : length labels ≤ 64 = omega (arith, l3, count, length-line_names R.lines) in
      let (i1, i2, i3) = p.instances in
      let (m1, m2, m3) = p.moves.messages (refl, refl, omega arith) in
      let (a1, a2, a3) = p.moves.actions (refl, refl, omega arith) in
      let (c1, c2, c3) = p.chart_names_lem in
      let nums = p.moves.numbers (length M) (length A) [] (and_from _ _ (eq-eqb (length M) (length M) refl) (eq-eqb (length A) (length A) refl)) in
      let bodies = subst (λ n. every (λ (l : Label). body n (length labels) l.body) labels ≡ true) (length-chart_names cs) (subst (λ n. every (λ (l : Label). body (length (chart_names cs)) n l.body) labels ≡ true) ll ok2) in (
        record {
          vocabulary = v;
          title = p.title;
          instance_count = and_from _ _ (le-leb 1 (length I) p.some) (le-leb (length I) 8 i3);
          instance_names = and_from _ _ i1 i2;
          message_count = le-leb (length M) 128 m3;
          message_names = and_from _ _ m1 m2;
          action_count = le-leb (length A) 128 a3;
          action_names = and_from _ _ a1 a2;
          chart_count = le-leb (length cs) 64 p.few;
          chart_names_lem = and_from _ _ c1 c2;
          charts = p.charts;
          events = le-leb (length (all_events cs)) 1024 p.events;
          numbers = ap (numbered (length M) (length A) 0 0) (sym (append-nil (all_events cs))) ∙ nums;
          label_count = and_from _ _ (le-leb 1 (length labels) (omega (arith, many1, count))) (le-leb (length labels) 64 most64);
          label_names_lem = ap (names ws) (sym same) ∙ and_from _ _ l1 l2;
          bodies = bodies;
          start = ap (λ n. list n start) (sym ll) ∙ ok1;
        },
        (_, (vs, cf, refl), sp),
      )

  -- what a text was linked to
  linked_found : (text : List ℕ) (R : Read) (d : Doc) → Parsed text R → linked ws R ≡ Ok d → Sound text d × (d.words ≡ ws)
  linked_found text R d p h =
      let (start, a, h1) = follow_got [] (resolve (line_names R.lines) R.start) _ h in
      let (labels, b, h2) = follow_got [] (resolve_lines (line_names R.lines) R.lines) _ h1 in
      let same : doc_read R start labels ≡ d = ok_value h2 in
      (subst (Sound text) same (doc_found text R start labels p a b), ap (λ d. d.words) (sym same))

  finish_found : (text : List ℕ) (d : Doc) (m : Step Read) → forms_at ws 0 text ≡ m → finish ws m ≡ Ok d → Sound text d × (d.words ≡ ws)
  finish_found text d (got R p s) e h = linked_found text R d (forms_found text e) h
  finish_found text d (bad f) e h = let z : ◌≡◌ {A = ℕ} 0 1 = cc in absurd (omega arith)

  short_enough : (text : List ℕ) (d : Doc) (b : Bool) → cond b (finish ws (forms_at ws 0 text)) (Err refusal.TooLong) ≡ Ok d → (b ≡ true) × (finish ws (forms_at ws 0 text) ≡ Ok d)
  short_enough text d true h = (refl, h)
  short_enough text d false h = let z : ◌≡◌ {A = ℕ} 0 1 = cc in absurd (omega arith)

-- a text that is read as a document is a writing of it, and the document is well formed
pub found : (ws : List (List ℕ)) → is_vocabulary ws ≡ true → (text : List ℕ) (d : Doc) → read_of ws text ≡ Ok d → (length text ≤ most) × (well_formed d ≡ true) × (d.words ≡ ws) × Writes text d
unfolding read_of
found ws v text d h =
    let (le, h1) = short_enough ws v text d (leb (length text) most) h in
    let ((f, w), same) = finish_found ws v text d (forms_at ws 0 text) refl h1 in
    let fits = leb-true (length text) most le in
    let least = shortest d f.vocabulary text w.0 w.1 (good_form d w.0 f w.1) w.2 in
    (fits, from-facts d f (omega (arith, least, fits)), same, w)
