-- The tokens of a form of a well-formed document are tokens that a text can hold. Assumes nothing.
use Rattle.msc.specs.declared.label.Body.{Body}
use Rattle.msc.specs.declared.label.Body.TheVariants.{End as final, Node as node}
use Rattle.msc.specs.declared.label.Label.{Label}
use Rattle.std.proofs.Common.{◌≡◌, ℕ, suc, ◌<◌, ◌≤◌, max, true, cond, not, ◌&&◌, eqb, ltb, leb, ◌⊎◌, List, [], ◌∷◌, ◌++◌, length, sym, refl, ap, subst, inl, inr, arith}
use Rattle.std.specs.List.{flat_map, AllByRecursion}
use Rattle.std.proofs.lemmas.Bool.{and_parts, eqb-true, ltb-true}
use Rattle.msc.specs.Doc.{Doc, Chart, chart_events, all_events, chart_names, label_names, out_count}
use Rattle.msc.specs.Shortest.{inst_tokens, event_tokens, block_tokens, list_tokens, body_tokens, label_tokens, graph_tokens}
use Rattle.msc.specs.Sound.{many, names, partner, parts, chart, numbered, list, body, differ}
use Rattle.msc.specs.Spelling.{every, distinct, is_name}
use Rattle.msc.specs.Tokens.{Tok, word, sign}
use Rattle.msc.specs.declared.event.Event.{Event}
use Rattle.msc.specs.declared.event.Event.TheVariants.{Out, In, Action}
use Rattle.msc.specs.declared.symbol.Symbol.TheVariants.{Semi}
use Rattle.msc.specs.declared.words.Keyword.TheVariants as keyword
use Rattle.forms.specs.Writes.{Blocks, ChartForms, Form}
use Rattle.forms.proofs.Names.{every_at, every_front, every_back}
use Rattle.forms.proofs.Takes.{AllGood, good_join}
use Rattle.forms.proofs.Facts.{Facts}

pub all_front : {A : Type 0} (P : A → Type 0) (xs ys : List A) → AllByRecursion P (xs ++ ys) → AllByRecursion P xs
all_front P [] ys h = tt
all_front P (x ∷ xs) ys h = (h.0, all_front P xs ys h.1)

pub all_back : {A : Type 0} (P : A → Type 0) (xs ys : List A) → AllByRecursion P (xs ++ ys) → AllByRecursion P ys
all_back P [] ys h = h
all_back P (x ∷ xs) ys h = all_back P xs ys h.1

pub length-chart_names : (cs : List Chart) → length (chart_names cs) ≡ length cs
length-chart_names [] = refl
length-chart_names (c ∷ cs) = ap suc (length-chart_names cs)

pub length-label_names : (ls : List Label) → length (label_names ls) ≡ length ls
length-label_names [] = refl
length-label_names (l ∷ ls) = ap suc (length-label_names ls)

-- the number of an event's name is one of m messages or a actions
abbrev pub Numbered : ℕ → ℕ → Event → Type 0
Numbered m a (Out n q) = n < m
Numbered m a (In n p) = n < m
Numbered m a (Action n) = n < a

-- names numbered by first appearance have numbers in range, and the counts only grow
pub numbers_in : (m' a' : ℕ) (es : List Event) (m a : ℕ) → numbered m' a' m a es ≡ true → AllByRecursion (Numbered m' a') es × (m ≤ m') × (a ≤ a')
numbers_in m' a' [] m a h =
    let (x, y) = and_parts (eqb m m') (eqb a a') h in
    let i = eqb-true m m' x in
    let j = eqb-true a a' y in
    (tt, omega arith, omega arith)
numbers_in m' a' (Out n q ∷ es) m a h =
    let (x, y) = and_parts (leb n m) (numbered m' a' (max m (suc n)) a es) h in
    let (k, i, j) = numbers_in m' a' es (max m (suc n)) a y in
    ((omega (arith, i), k), omega (arith, i), j)
numbers_in m' a' (In n q ∷ es) m a h =
    let (x, y) = and_parts (leb n m) (numbered m' a' (max m (suc n)) a es) h in
    let (k, i, j) = numbers_in m' a' es (max m (suc n)) a y in
    ((omega (arith, i), k), omega (arith, i), j)
numbers_in m' a' (Action n ∷ es) m a h =
    let (x, y) = and_parts (leb n a) (numbered m' a' m (max a (suc n)) es) h in
    let (k, i, j) = numbers_in m' a' es m (max a (suc n)) y in
    ((omega (arith, j), k), i, omega (arith, j))

module _ (ws : List (List ℕ)) where
  good_insts : (ns : List (List ℕ)) → every (is_name ws) ns ≡ true → AllGood ws (flat_map inst_tokens ns)
  good_insts [] h = tt
  good_insts (n ∷ ns) h = let (x, y) = and_parts (is_name ws n) (every (is_name ws) ns) h in (tt, (x, (tt, good_insts ns y)))

  module _ (I M A : List (List ℕ)) (hi : every (is_name ws) I ≡ true) (hm : every (is_name ws) M ≡ true) (ha : every (is_name ws) A ≡ true) where
    pub good_event : (i : ℕ) (e : Event) → partner (length I) i e ≡ true → Numbered (length M) (length A) e → AllGood ws (event_tokens I M A e)
    good_event i (Out n q) h k = let l = ltb-true q (length I) (and_parts (ltb q (length I)) (not (eqb q i)) h).0 in (tt, (every_at _ M n [] hm k, (tt, (every_at _ I q [] hi l, (tt, tt)))))
    good_event i (In n q) h k = let l = ltb-true q (length I) (and_parts (ltb q (length I)) (not (eqb q i)) h).0 in (tt, (every_at _ M n [] hm k, (tt, (every_at _ I q [] hi l, (tt, tt)))))
    good_event i (Action n) h k = (tt, (every_at _ A n [] ha k, (tt, tt)))

    good_events : (i : ℕ) (es : List Event) → every (partner (length I) i) es ≡ true → AllByRecursion (Numbered (length M) (length A)) es → AllGood ws (flat_map (event_tokens I M A) es)
    good_events i [] h k = tt
    good_events i (e ∷ es) h k =
        let (x, y) = and_parts (partner (length I) i e) (every (partner (length I) i) es) h in
        good_join ws (event_tokens I M A e) _ (good_event i e x k.0) (good_events i es y k.1)

    good_block : (i : ℕ) (es : List Event) → i < length I → every (partner (length I) i) es ≡ true → AllByRecursion (Numbered (length M) (length A)) es → AllGood ws (block_tokens I M A i es)
    good_block i es l h k = (tt, (every_at _ I i [] hi l, (tt, good_join ws (flat_map (event_tokens I M A) es) _ (good_events i es h k) (tt, (tt, tt)))))

    good_blocks : (ps : List (List Event)) (i : ℕ) (us : List Tok) → Blocks I M A i ps us → parts (length I) i ps ≡ true → AllByRecursion (Numbered (length M) (length A)) (flat_map (λ p. p) ps) → AllGood ws us
    good_blocks [] i us e h k = subst (AllGood ws) (sym e) tt
    good_blocks (p ∷ ps) i us b h k =
        let (x, y) = and_parts (every (partner (length I) i) p) (cond (ltb i (length I)) true (eqb (length p) 0) && parts (length I) (suc i) ps) h in
        let (z, w) = and_parts (cond (ltb i (length I)) true (eqb (length p) 0)) (parts (length I) (suc i) ps) y in
        by b x (all_front _ p (flat_map (λ p. p) ps) k) (λ vs c. good_blocks ps (suc i) vs c w (all_back _ p (flat_map (λ p. p) ps) k))
      where
        by : {us : List Tok} → ((p ≡ []) × Blocks I M A (suc i) ps us) ⊎ ((vs : List Tok) × (i < length I) × (us ≡ block_tokens I M A i p ++ vs) × Blocks I M A (suc i) ps vs)
            → every (partner (length I) i) p ≡ true → AllByRecursion (Numbered (length M) (length A)) p → ((vs : List Tok) → Blocks I M A (suc i) ps vs → AllGood ws vs) → AllGood ws us
        by {us} (inl (z, c)) x k ih = ih us c
        by (inr (vs, l, e, c)) x k ih = subst (AllGood ws) (sym e) (good_join ws (block_tokens I M A i p) vs (good_block i p l x k) (ih vs c))

    good_charts : (cs : List Chart) (us : List Tok) → ChartForms I M A cs us → every (is_name ws) (chart_names cs) ≡ true → every (chart (length I)) cs ≡ true → AllByRecursion (Numbered (length M) (length A)) (all_events cs) → AllGood ws us
    good_charts [] us e n h k = subst (AllGood ws) (sym e) tt
    good_charts (c ∷ cs) us (vs, xs, (bs, b, e), f, g) n h k =
        let (n1, n2) = and_parts (is_name ws c.name) (every (is_name ws) (chart_names cs)) n in
        let (h1, h2) = and_parts (chart (length I) c) (every (chart (length I)) cs) h in
        let p = (and_parts (parts (length I) 0 c.parts) (leb (length (chart_events c)) 64 && leb (out_count (chart_events c)) 32) (and_parts (eqb (length c.parts) 8) (parts (length I) 0 c.parts && (leb (length (chart_events c)) 64 && leb (out_count (chart_events c)) 32)) h1).1).0 in
        let one = good_join ws bs (word keyword.Endmsc ∷ sign Semi ∷ []) (good_blocks c.parts 0 bs b p (all_front _ (chart_events c) (all_events cs) k)) (tt, (tt, tt)) in
        subst (AllGood ws) (sym g) (good_join ws vs xs (subst (AllGood ws) (sym e) (tt, (n1, (tt, one)))) (good_charts cs xs f n2 h2 (all_back _ (chart_events c) (all_events cs) k)))

  good_list : (ns : List (List ℕ)) (ls : List ℕ) → every (is_name ws) ns ≡ true → every (λ l. ltb l (length ns)) ls ≡ true → AllGood ws (list_tokens ns ls)
  good_list ns [] h k = tt
  good_list ns (l ∷ []) h k = (every_at _ ns l [] h (ltb-true l (length ns) (and_parts (ltb l (length ns)) true k).0), tt)
  good_list ns (l ∷ m ∷ ls) h k =
      let (x, y) = and_parts (ltb l (length ns)) (every (λ l. ltb l (length ns)) (m ∷ ls)) k in
      (every_at _ ns l [] h (ltb-true l (length ns) x), (tt, good_list ns (m ∷ ls) h y))

  -- the labels of a list are in range
  pub list_range : (n : ℕ) (ls : List ℕ) → list n ls ≡ true → every (λ l. ltb l n) ls ≡ true
  list_range n ls h = (and_parts (every (λ l. ltb l n) ls) (differ ls) (and_parts (many 1 8 ls) (every (λ l. ltb l n) ls && differ ls) h).1).0

  good_body : (cs ns : List (List ℕ)) (b : Body) → every (is_name ws) cs ≡ true → every (is_name ws) ns ≡ true → body (length cs) (length ns) b ≡ true → AllGood ws (body_tokens cs ns b)
  good_body cs ns final hc hn h = (tt, tt)
  good_body cs ns (node c ls) hc hn h =
      let (x, y) = and_parts (ltb c (length cs)) (list (length ns) ls) h in
      (tt, (every_at _ cs c [] hc (ltb-true c (length cs) x), (tt, (tt, (tt, good_join ws (list_tokens ns ls) _ (good_list ns ls hn (list_range (length ns) ls y)) (tt, tt))))))

  good_labels : (cs ns : List (List ℕ)) (ls : List Label) → every (is_name ws) cs ≡ true → every (is_name ws) ns ≡ true → every (is_name ws) (label_names ls) ≡ true → every (λ (l : Label). body (length cs) (length ns) l.body) ls ≡ true → AllGood ws (flat_map (label_tokens cs ns) ls)
  good_labels cs ns [] hc hn hl h = tt
  good_labels cs ns (l ∷ ls) hc hn hl h =
      let (x, y) = and_parts (is_name ws l.name) (every (is_name ws) (label_names ls)) hl in
      let (u, w) = and_parts (body (length cs) (length ns) l.body) (every (λ (l : Label). body (length cs) (length ns) l.body) ls) h in
      (x, (tt, good_join ws (body_tokens cs ns l.body ++ (sign Semi ∷ [])) _ (good_join ws (body_tokens cs ns l.body) _ (good_body cs ns l.body hc hn u) (tt, tt)) (good_labels cs ns ls hc hn y w)))

-- the names of a kind are names, and differ
pub names_are : (ws ns : List (List ℕ)) → names ws ns ≡ true → (every (is_name ws) ns ≡ true) × (distinct ns ≡ true)
names_are ws ns h = and_parts (every (is_name ws) ns) (distinct ns) h

-- keywords and symbols are always good, and each name is one of a table of names: by its own number in the table
pub good_form : (d : Doc) (ts : List Tok) → Facts d → Form ts d → AllGood d.words ts
good_form d ts f (us, cf, e) =
    let ws = d.words in
    let I = d.instances in
    let M = d.messages in
    let A = d.actions in
    let cs = chart_names d.charts in
    let ns = label_names d.labels in
    let hi = (names_are ws I f.instance_names).0 in
    let hm = (names_are ws M f.message_names).0 in
    let ha = (names_are ws A f.action_names).0 in
    let hcg = (names_are ws (cs ++ (d.graph ∷ [])) f.chart_names_lem).0 in
    let hc = every_front (is_name ws) cs (d.graph ∷ []) hcg in
    let hg = (and_parts (is_name ws d.graph) true (every_back (is_name ws) cs (d.graph ∷ []) hcg)).0 in
    let hn = (names_are ws ns f.label_names_lem).0 in
    let k = (numbers_in (length M) (length A) (all_events d.charts) 0 0 f.numbers).0 in
    let starts = subst (λ n. list n d.start ≡ true) (sym (length-label_names d.labels)) f.start in
    let bodies = subst (λ n. every (λ (l : Label). body n (length ns) l.body) d.labels ≡ true) (sym (length-chart_names d.charts)) (subst (λ n. every (λ (l : Label). body (length d.charts) n l.body) d.labels ≡ true) (sym (length-label_names d.labels)) f.bodies) in
    let lines = good_join ws (flat_map (label_tokens cs ns) d.labels) (word keyword.Endmsc ∷ sign Semi ∷ []) (good_labels ws cs ns d.labels hc hn hn bodies) (tt, (tt, tt)) in
    let graph : AllGood ws (graph_tokens d) = (tt, (hg, (tt, (tt, good_join ws (list_tokens ns d.start) (sign Semi ∷ (flat_map (label_tokens cs ns) d.labels ++ (word keyword.Endmsc ∷ sign Semi ∷ []))) (good_list ws ns d.start hn (list_range ws (length ns) d.start starts)) (tt, lines))))) in
    let tail = good_join ws (graph_tokens d) (word keyword.Endmscdocument ∷ sign Semi ∷ []) graph (tt, (tt, tt)) in
    let mid = good_join ws us (graph_tokens d ++ (word keyword.Endmscdocument ∷ sign Semi ∷ [])) (good_charts ws I M A hi hm ha d.charts us cf hc f.charts k) tail in
    subst (AllGood ws) (sym e) (tt, (f.title, (tt, good_join ws (flat_map inst_tokens I) (us ++ (graph_tokens d ++ (word keyword.Endmscdocument ∷ sign Semi ∷ []))) (good_insts ws I hi) mid)))
