-- Forwards, the graph and the whole: a text that writes a well-formed document is read as it. Assumes nothing.
use Rattle.msc.specs.declared.label.Body.{Body}
use Rattle.msc.specs.declared.label.Label.{Label}
use Rattle.msc.specs.declared.label.Body.TheVariants.{End as label-final, Node as label-node}
use Rattle.std.proofs.Common.{◌≡◌, ℕ, zero, suc, ◌+◌, ◌≤◌, true, false, ◌&&◌, ltb, leb, List, [], ◌∷◌, ◌++◌, length, get_or, take, Some, Ok, Result, sym, refl, ap, ◌∙◌, subst, append_assoc, append-nil, arith, length-append}
use lib.Seq.{take-length}
use Rattle.std.specs.List.{flat_map}
use Rattle.std.proofs.lemmas.Bool.{and_parts, ltb-true, leb-true, lt-ltb, cond-true, le-leb}
use Rattle.msc.specs.Doc.{Doc, all_events, chart_names, label_names}
use Rattle.msc.specs.Shortest.{inst_tokens, list_tokens, body_tokens, label_tokens}
use Rattle.msc.specs.Sound.{most, many, names, list, body, differ}
use Rattle.msc.specs.Spelling.{every, place, distinct, is_vocabulary}
use Rattle.msc.specs.Tokens.{name, word, sign}
use Rattle.msc.specs.declared.symbol.Symbol.{Symbol}
use Rattle.msc.specs.declared.symbol.Symbol.TheVariants.{Open, Close, Colon, Semi}
use Rattle.msc.specs.declared.words.Keyword.TheVariants as keyword
use Rattle.lexis.specs.Lexing.{next_of, name_at}
use Rattle.lexis.specs.Steps.{repeat}
use Rattle.lexis.specs.declared.refusal.Refusal.{Refusal}
use Rattle.forms.specs.Drafts.{Draft, Mention, Rest, final, node, Line, line_names, mentioned}
use Rattle.forms.specs.Reading.{mention, alt_turn, list_at, rest_at, line_turn, lines_at, follow, resolve, resolve_rest, resolve_lines, Read, graph_at, forms_at, linked, finish, read_of}
use Rattle.forms.specs.Writes.{Blank, Writes}
use Rattle.forms.proofs.Names.{place_found, distinct_at, distinct_front}
use Rattle.forms.proofs.Steps.{Comes, and_then_lem, and_at, comes_when, comes_unless, turn_last}
use Rattle.forms.proofs.Takes.{Takes, done, then, takes-split, takes_join, takes_mid, takes_head, takes_two, takes_as, takes_of_spelled, sign_self, word_comes, sign_comes, name_comes, end_comes, next_comes, old_name_comes}
use Rattle.forms.proofs.Facts.{Facts}
use Rattle.forms.proofs.Goods.{good_form, names_are, length-chart_names, length-label_names}
use Rattle.forms.proofs.Alternatives.{names_at, length-names_at, more_tokens, list_tokens_lem, mentioned_push, lines_push, distinct-names, resolve_back, resolve_push}
use Rattle.forms.proofs.ReadsCharts.{instances_come, state, charts_come}

module _ (ws : List (List ℕ)) (v : is_vocabulary ws ≡ true) where
  -- names behind alt, up to the symbol that ends the list
  alts_come : (ns : List (List ℕ)) (x : Symbol) (n : ℕ) (ms : List Mention) {s r : List ℕ} → length ns ≤ n → length ms + length ns ≤ 8 → distinct (mentioned ms ++ ns) ≡ true → Takes ws (more_tokens ns ++ (sign x ∷ [])) s r → (pl : ℕ)
      → (ms' : List Mention) × (mentioned ms' ≡ mentioned ms ++ ns) × Comes (repeat (alt_turn ws x) (suc n) ms pl s) ms' r
  alts_come [] x n ms {s} l k d (then c done) pl =
      let (q, e) = next_comes ws v (sign x) c pl in
      (ms, sym (append-nil (mentioned ms)), turn_last (alt_turn ws x) n ms pl s (and_at (next_of ws pl s) _ e (comes_when _ _ _ (sign_self x) (_, refl))))
  alts_come (w ∷ ns) x zero ms l k d t pl = absurd (omega arith)
  alts_come (w ∷ ns) x (suc n) ms {s} l k d (then {m = s1} c (then {m = s2} c' t)) pl =
      let (q, e) = next_comes ws v (word keyword.Alt) c pl in
      let (q', e') = name_comes ws v c' e.0 in
      let ms1 = ms ++ (mention ws (w, q') ∷ []) in
      let push = mentioned_push ms (mention ws (w, q')) in
      let grown : mentioned ms1 ++ ns ≡ mentioned ms ++ (w ∷ ns) = ap (λ z. z ++ ns) push ∙ append_assoc (mentioned ms) (w ∷ []) ns in
      let len = length-append ms (mention ws (w, q') ∷ []) in
      let turn : Comes (alt_turn ws x ms pl s) (ms1, false) s2 =
      and_at (next_of ws pl s) _ e
      (and_at (name_at ws e.0 s1) _ e'
      (comes_when _ _ _ (lt-ltb (length ms) 8 (omega (arith, k))) (comes_unless _ _ _ (distinct_at (mentioned ms) w ns d) (_, refl)))) in
      let (ms', is, more) = alts_come ns x n ms1 (omega (arith, l)) (omega (arith, k, len)) (ap distinct grown ∙ d) t turn.0 in
      (ms', is ∙ grown, and_at (alt_turn ws x ms pl s) _ turn more)

  list_comes : (ns : List (List ℕ)) (ls : List ℕ) (x : Symbol) {s r : List ℕ} → distinct ns ≡ true → list (length ns) ls ≡ true → Takes ws (list_tokens ns ls ++ (sign x ∷ [])) s r → (pl : ℕ)
      → (ms : List Mention) × (resolve ns ms ≡ Ok ls) × Comes (list_at ws x pl s) ms r
  list_comes ns [] x d h t pl = absurd (let k = leb-true 1 0 (and_parts (leb 1 0) (leb 0 8) (and_parts (many {A = ℕ} 1 8 []) (every (λ l. ltb l (length ns)) [] && differ []) h).0).0 in omega arith)
  list_comes ns (l ∷ ls) x {s} d h t pl =
      let (h1, h2) = and_parts (many 1 8 (l ∷ ls)) (every (λ k. ltb k (length ns)) (l ∷ ls) && differ (l ∷ ls)) h in
      let (h3, h4) = and_parts (every (λ k. ltb k (length ns)) (l ∷ ls)) (differ (l ∷ ls)) h2 in
      let eight = leb-true (length (l ∷ ls)) 8 (and_parts (leb 1 (length (l ∷ ls))) (leb (length (l ∷ ls)) 8) h1).1 in
      let len = length-names_at ns ls in
      let (s1, c, t1) = takes_head ws (takes_as ws (ap (λ ts. ts ++ (sign x ∷ [])) (list_tokens_lem ns l ls)) t) in
      let (q, e) = name_comes ws v c pl in
      let m0 = mention ws (get_or ns l [], q) in
      let (ms, is, more) = alts_come (names_at ns ls) x 7 (m0 ∷ []) (omega (arith, eight, len)) (omega (arith, eight, len)) (distinct-names ns d (l ∷ ls) h3 h4) t1 e.0 in
      (ms, resolve_back ns d (l ∷ ls) ms h3 is, and_at (name_at ws pl s) _ e more)

  rest_comes : (cs ns : List (List ℕ)) (b : Body) {s r : List ℕ} → distinct cs ≡ true → distinct ns ≡ true → body (length cs) (length ns) b ≡ true → Takes ws (body_tokens cs ns b) s r → (pl : ℕ)
      → (x : Rest) × (resolve_rest ns x ≡ Ok b) × Comes (rest_at ws cs pl s) x r
  rest_comes cs ns label-final {s} dc dn h (then c done) pl =
      let (q, e) = next_comes ws v (word keyword.End) c pl in
      (final, refl, and_at (next_of ws pl s) _ e (_, refl))
  rest_comes cs ns (label-node k ls) {s} dc dn h (then c (then c1 (then c2 (then c3 (then c4 t))))) pl =
      let (h1, h2) = and_parts (ltb k (length cs)) (list (length ns) ls) h in
      let z : 0 + k ≡ k = omega arith in
      let at : place cs (get_or cs k []) ≡ Some k = place_found 0 cs k dc (ltb-true k (length cs) h1) ∙ ap Some z in
      let (q, e) = next_comes ws v (sign Open) c pl in
      let (q1, e1) = old_name_comes ws v cs k c1 at e.0 in
      let e2 = sign_comes ws v Close c2 e1.0 in
      let e3 = word_comes ws v keyword.Seq c3 e2.0 in
      let e4 = sign_comes ws v Open c4 e3.0 in
      let (ms, is, e5) = list_comes ns ls Close dn h2 t e4.0 in (
        node k ms,
        ap (λ o. follow o λ ls. Ok (label-node k ls)) is,
        and_at (next_of ws pl s) _ e (and_at _ _ e1 (and_at _ _ e2 (and_at _ _ e3 (and_at _ _ e4 (and_at _ _ e5 (_, refl)))))),
      )

  -- label lines, up to the word endmsc: by the labels still to come, with the lines L read and looked up as the labels before
  lines_come : (cs ns : List (List ℕ)) (ls : List Label) (L : List Line) (before : List Label) (n : ℕ) {s r : List ℕ} → distinct cs ≡ true → distinct ns ≡ true → length ls ≤ n → length L + length ls ≤ 64 → 1 ≤ length L + length ls
      → distinct (line_names L ++ label_names ls) ≡ true → every (λ (l : Label). body (length cs) (length ns) l.body) ls ≡ true → resolve_lines ns L ≡ Ok before
      → Takes ws (flat_map (label_tokens cs ns) ls ++ (word keyword.Endmsc ∷ [])) s r → (pl : ℕ)
      → (L' : List Line) × (line_names L' ≡ line_names L ++ label_names ls) × (resolve_lines ns L' ≡ Ok (before ++ ls)) × Comes (repeat (line_turn ws cs) (suc n) L pl s) L' r
  lines_come cs ns [] L before n {s} dc dn l k o d b f (then c done) pl =
      let (q, e) = next_comes ws v (word keyword.Endmsc) c pl in (
        L,
        sym (append-nil (line_names L)),
        f ∙ ap Ok (sym (append-nil before)),
        turn_last (line_turn ws cs) n L pl s (and_at (next_of ws pl s) _ e (comes_when _ _ _ (lt-ltb 0 (length L) (omega (arith, o))) (_, refl))),
      )
  lines_come cs ns (x ∷ ls) L before zero dc dn l k o d b f t pl = absurd (omega arith)
  lines_come cs ns (x ∷ ls) L before (suc n) {s} dc dn l k o d b f t pl =
      let (b1, b2) = and_parts (body (length cs) (length ns) x.body) (every (λ (l : Label). body (length cs) (length ns) l.body) ls) b in
      let tail = flat_map (label_tokens cs ns) ls ++ (word keyword.Endmsc ∷ []) in
      let (s1, c, t1) = takes_head ws (takes_as ws (append_assoc (label_tokens cs ns x) (flat_map (label_tokens cs ns) ls) (word keyword.Endmsc ∷ [])) t) in
      let (s2, c1, t2) = takes_head ws t1 in
      let (s3, s4, t3, c2, t4) = takes_mid ws (body_tokens cs ns x.body) (takes_as ws (append_assoc (body_tokens cs ns x.body) (sign Semi ∷ []) tail) t2) in
      let (q, e) = next_comes ws v (name x.name) c pl in
      let e1 = sign_comes ws v Colon c1 e.0 in
      let (y, is, e2) = rest_comes cs ns x.body dc dn b1 t3 e1.0 in
      let e3 = sign_comes ws v Semi c2 e2.0 in
      let line : Line = record { name = x.name; rest = y } in
      let L1 = L ++ (line ∷ []) in
      let turn : Comes (line_turn ws cs L pl s) (L1, false) s4 =
      and_at (next_of ws pl s) _ e
      (and_at _ _ (comes_when _ _ _ (lt-ltb (length L) 64 (omega (arith, k))) (comes_unless _ _ _ (distinct_at (line_names L) x.name (label_names ls) d)
      (and_at _ _ e1 (and_at _ _ e2 (and_at _ _ e3 (_, refl)))))) (_, refl)) in
      let len = length-append L (line ∷ []) in
      let grown : line_names L1 ++ label_names ls ≡ line_names L ++ label_names (x ∷ ls) = ap (λ z. z ++ label_names ls) (lines_push L line) ∙ append_assoc (line_names L) (x.name ∷ []) (label_names ls) in
      let f1 = resolve_push ns L before x.name y x.body f is in
      let (L2, i1, i2, more) = lines_come cs ns ls L1 (before ++ (x ∷ [])) n dc dn (omega (arith, l)) (omega (arith, k, len)) (omega (arith, o, len)) (ap distinct grown ∙ d) b2 f1 t4 turn.0 in
      (L2, i1 ∙ grown, i2 ∙ ap Ok (append_assoc before (x ∷ []) ls), and_at (line_turn ws cs L pl s) _ turn more)

-- what is read of a document's forms, its label lines still to be looked up
abbrev forms_read : Doc → List Line → List Mention → Read
forms_read d L ms = record {
  title = d.title;
  draft = record { instances = d.instances; messages = take (length d.messages) d.messages; actions = take (length d.actions) d.actions; charts = d.charts; parts = []; part = [] };
  graph = d.graph;
  start = ms;
  lines = L;
}

module _ (d : Doc) (f : Facts d) where
  charts_distinct : distinct (chart_names d.charts ++ (d.graph ∷ [])) ≡ true
  charts_distinct = (names_are d.words (chart_names d.charts ++ (d.graph ∷ [])) f.chart_names_lem).1

  labels_distinct : distinct (label_names d.labels) ≡ true
  labels_distinct = (names_are d.words (label_names d.labels) f.label_names_lem).1

  -- from behind the word expr to the end: the tokens are cut into the start list, the label lines and the closing words, each of which is read
  graph_comes : {s r : List ℕ} → Blank r
      → Takes d.words ((list_tokens (label_names d.labels) d.start ++ (sign Semi ∷ (flat_map (label_tokens (chart_names d.charts) (label_names d.labels)) d.labels ++ (word keyword.Endmsc ∷ sign Semi ∷ [])))) ++ (word keyword.Endmscdocument ∷ sign Semi ∷ [])) s r
      → (D : Draft) → D.charts ≡ d.charts → (pl : ℕ)
      → (L : List Line) × (ms : List Mention) × (line_names L ≡ label_names d.labels) × (resolve (label_names d.labels) ms ≡ Ok d.start) × (resolve_lines (label_names d.labels) L ≡ Ok d.labels)
      × Comes (graph_at d.words d.title D d.graph pl s) (record { title = d.title; draft = D; graph = d.graph; start = ms; lines = L }) []
  graph_comes {s} {r} blank t D same pl =
      let ws = d.words in
      let v = f.vocabulary in
      let cs = chart_names d.charts in
      let ns = label_names d.labels in
      let lines = flat_map (label_tokens cs ns) d.labels in
      let fin = word keyword.Endmscdocument ∷ sign Semi ∷ [] in
      let close = word keyword.Endmsc ∷ sign Semi ∷ [] in
      let starts = subst (λ n. list n d.start ≡ true) (sym (length-label_names d.labels)) f.start in
      let bodies = subst (λ n. every (λ (l : Label). body n (length ns) l.body) d.labels ≡ true) (sym (length-chart_names d.charts)) (subst (λ n. every (λ (l : Label). body (length d.charts) n l.body) d.labels ≡ true) (sym (length-label_names d.labels)) f.bodies) in
      let (many1, many2) = and_parts (leb 1 (length d.labels)) (leb (length d.labels) 64) f.label_count in
      let one = leb-true 1 (length d.labels) many1 in
      let most64 = leb-true (length d.labels) 64 many2 in
      let (s1, s2, tl, c1, t1) = takes_mid ws (list_tokens ns d.start) (takes_as ws (append_assoc (list_tokens ns d.start) (sign Semi ∷ (lines ++ close)) fin) t) in
      let (s3, s4, tb, c2, t2) = takes_mid ws lines (takes_as ws (append_assoc lines close fin) t1) in
      let (s5, c3, t3) = takes_head ws t2 in
      let (s6, c4, c5) = takes_two ws t3 in
      let (ms, is, e1) = list_comes ws v ns d.start Semi labels_distinct starts (takes_join ws tl (then c1 done)) pl in
      let (L, i1, i2, e2) = lines_come ws v cs ns d.labels [] [] 64 (distinct_front cs (d.graph ∷ []) charts_distinct) labels_distinct (omega (arith, most64)) (omega (arith, most64)) (omega (arith, one)) labels_distinct bodies refl (takes_join ws tb (then c2 done)) e1.0 in
      let e2' : Comes (lines_at ws (chart_names D.charts) e1.0 s2) L s4 = subst (λ C. Comes (lines_at ws (chart_names C) e1.0 s2) L s4) (sym same) e2 in (
        L,
        ms,
        i1,
        is,
        i2,
        and_at _ _ e1
            (and_at _ _ e2'
            (and_then_lem _ _ (sign_comes ws v Semi c3 e2'.0) λ p.
            and_then_lem _ _ (word_comes ws v keyword.Endmscdocument c4 p) λ p.
            and_then_lem _ _ (sign_comes ws v Semi c5 p) λ p.
            and_then_lem _ _ (end_comes ws v r blank p) λ p. (p, refl))),
      )

  -- all the forms: the tokens are cut where each form ends, and the readers of the forms are put one behind another
  forms_come : (text : List ℕ) → Writes text d
      → (L : List Line) × (ms : List Mention) × (line_names L ≡ label_names d.labels) × (resolve (label_names d.labels) ms ≡ Ok d.start) × (resolve_lines (label_names d.labels) L ≡ Ok d.labels)
      × Comes (forms_at d.words 0 text) (forms_read d L ms) []
  forms_come text (ts, form, sp) =
      let ws = d.words in
      let v = f.vocabulary in
      let I = d.instances in
      let M = d.messages in
      let A = d.actions in
      let us = form.0 in
      let insts = flat_map inst_tokens I in
      let head = word keyword.Msc ∷ name d.graph ∷ sign Semi ∷ word keyword.Expr ∷ [] in
      let tail = (list_tokens (label_names d.labels) d.start ++ (sign Semi ∷ (flat_map (label_tokens (chart_names d.charts) (label_names d.labels)) d.labels ++ (word keyword.Endmsc ∷ sign Semi ∷ [])))) ++ (word keyword.Endmscdocument ∷ sign Semi ∷ []) in
      let (r, whole, blank) = takes_of_spelled ws ts text (good_form d ts f form) sp in
      let (s1, c1, t1) = takes_head ws (takes_as ws form.2 whole) in
      let (s2, c2, t2) = takes_head ws t1 in
      let (s3, c3, t3) = takes_head ws t2 in
      let (s4, ti, t4) = takes-split ws insts t3 in
      let (s5, tc, tg) = takes-split ws (us ++ head) (takes_as ws (sym (append_assoc us head tail)) t4) in
      let (i1, i2) = and_parts (leb 1 (length I)) (leb (length I) 8) f.instance_count in
      let di = (names_are ws I f.instance_names).1 in
      let dm = (names_are ws M f.message_names).1 in
      let da = (names_are ws A f.action_names).1 in
      let lm = leb-true (length M) 128 f.message_count in
      let la = leb-true (length A) 128 f.action_count in
      let lc = leb-true (length d.charts) 64 f.chart_count in
      let le = leb-true (length (all_events d.charts)) 1024 f.events in
      let (s6, cm, charts) = charts_come ws v I M A di dm da lm la d.charts [] 0 0 64 d.graph [] us (omega (arith, lc)) (omega (arith, lc)) charts_distinct f.charts f.numbers (omega (arith, le)) form.1 tc in
      let D = state ws v I M A di dm da lm la (length M) (length A) d.charts [] [] in
      let e1 = word_comes ws v keyword.Mscdocument c1 0 in
      let (q, e2) = name_comes ws v c2 e1.0 in
      let e3 = sign_comes ws v Semi c3 e2.0 in
      let e4 = instances_come ws v I (leb-true 1 (length I) i1) (leb-true (length I) 8 i2) di (takes_join ws ti (then cm done)) e3.0 in
      let e5 = charts e4.0 in
      let (L, ms, a, b, c, e6) = graph_comes blank tg D refl e5.0 in
      (L, ms, a, b, c, and_at _ _ e1 (and_at _ _ e2 (and_at _ _ e3 (and_at _ _ e4 (and_at _ _ e5 e6)))))

  -- a writing of the document is read as it
  pub reads : (text : List ℕ) → length text ≤ most → Writes text d → read_of d.words text ≡ Ok d
  unfolding read_of
  reads text le w =
      let (L, ms, names, start, labels, (q, e)) = forms_come text w in
      let r = forms_read d L ms in
      cond-true _ _ _ (le-leb (length text) most le) ∙ ap (finish d.words) e ∙ by L ms names start labels
    where
      by : (L : List Line) (ms : List Mention) → line_names L ≡ label_names d.labels → resolve (label_names d.labels) ms ≡ Ok d.start → resolve_lines (label_names d.labels) L ≡ Ok d.labels → linked d.words (forms_read d L ms) ≡ Ok d
      by L ms names start labels =
          let made : List ℕ → List Label → Result Doc Refusal = λ start labels. Ok (record {
            words = d.words;
            title = d.title;
            instances = d.instances;
            messages = take (length d.messages) d.messages;
            actions = take (length d.actions) d.actions;
            charts = d.charts;
            graph = d.graph;
            start = start;
            labels = labels;
          }) in
          ap (λ o. follow o λ start. follow (resolve_lines (line_names L) L) λ labels. made start labels) (ap (λ ns. resolve ns ms) names ∙ start)
          ∙ ap (λ o. follow o λ labels. made d.start labels) (ap (λ ns. resolve_lines ns L) names ∙ labels)
          ∙ ap (λ M. Ok (record { words = d.words; title = d.title; instances = d.instances; messages = M; actions = take (length d.actions) d.actions; charts = d.charts; graph = d.graph; start = d.start; labels = d.labels })) (take-length d.messages)
          ∙ ap (λ A. Ok (record { words = d.words; title = d.title; instances = d.instances; messages = d.messages; actions = A; charts = d.charts; graph = d.graph; start = d.start; labels = d.labels })) (take-length d.actions)
