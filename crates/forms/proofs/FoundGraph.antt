-- Backwards, the graph: what was read of lists and label lines stands in the text, and keeps the rules. Assumes nothing.
use Rattle.msc.specs.declared.label.Body.{Body}
use Rattle.msc.specs.declared.label.Label.{Label}
use Rattle.msc.specs.declared.label.Body.TheVariants.{End as label-final, Node as label-node}
use Rattle.std.proofs.Common.{◌≡◌, ℕ, ◌+◌, ◌≤◌, Bool, true, false, ◌&&◌, ltb, List, [], ◌∷◌, ◌++◌, length, get_or, Ok, sym, refl, ap, ◌∙◌, subst, append_assoc, append-nil, arith, length-append}
use Rattle.std.specs.List.{flat_map}
use Rattle.std.proofs.lemmas.Bool.{and_parts, and_from, ltb-true, lt-ltb, le-leb}
use Rattle.msc.specs.Shortest.{list_tokens, body_tokens, label_tokens}
use Rattle.msc.specs.Sound.{list, body}
use Rattle.msc.specs.Spelling.{every, has, distinct, is_name, is_vocabulary}
use Rattle.msc.specs.Tokens.{Tok, name, word, sign, end}
use Rattle.msc.specs.declared.symbol.Symbol.{Symbol}
use Rattle.msc.specs.declared.symbol.Symbol.TheVariants.{Open, Close, Colon, Semi}
use Rattle.msc.specs.declared.words.Keyword.TheVariants as keyword
use Rattle.lexis.specs.Lexing.{next_of, name_at, is_key, is_sign, word_at, sign_at}
use Rattle.lexis.specs.Steps.{Step, got}
use Rattle.forms.specs.Drafts.{Mention, Rest, Line, line_names, mentioned}
use Rattle.forms.specs.Reading.{old_name_at, mention, alt_turn, list_at, rest_at, line_at, as_line, line_turn, lines_at, resolve, resolve_rest, resolve_lines}
use Rattle.forms.proofs.Names.{distinct_push}
use Rattle.forms.proofs.Steps.{got_value, got_rest, not_got, when_got, unless_got, either_case, then_got, turns_got}
use Rattle.forms.proofs.Cuts.{Cut}
use Rattle.forms.proofs.Takes.{Takes, done, then, takes_join, takes_as, takes-from, cut_good, cut_to, is_key_lem, is_sign_lem, token_got, word_got, sign_got, name_got, old_name_got}
use Rattle.forms.proofs.Moves.{Table, table_push}
use Rattle.forms.proofs.Alternatives.{names_at, length-names_at, more_tokens, list_tokens_lem, mentioned_push, length-mentioned, lines_push, length-line_names, names-differ, follow_got, ok_value, resolved}
use Rattle.forms.proofs.FoundCharts.{stop_only, go_only, turn_value}

module _ (ws : List (List ℕ)) (v : is_vocabulary ws ≡ true) where
  module _ (x : Symbol) where
    -- what the turns of a list find
    abbrev Alts : List Mention → List ℕ → List Mention → List ℕ → Type 0
    Alts ms s ms' r = distinct (mentioned ms) ≡ true → length ms ≤ 8 → (ns : List (List ℕ)) × (mentioned ms' ≡ mentioned ms ++ ns) × (distinct (mentioned ms') ≡ true) × (length ms' ≤ 8) × Takes ws (more_tokens ns ++ (sign x ∷ [])) s r

    alts_last : (ms : List Mention) (p : ℕ) (s : List ℕ) (ms' : List Mention) (q : ℕ) (r : List ℕ) → alt_turn ws x ms p s ≡ got (ms', true) q r → Alts ms s ms' r
    alts_last ms p s ms' q r h d l =
        let (k, p1, s1, e, h1) = then_got (next_of ws p s) _ h in
        either_case (is_key keyword.Alt k.0) _ _ h1
        (λ j h.
        let (n, p2, s2, e2, h2) = then_got (name_at ws p1 s1) _ h in
        let (room, h3) = when_got (ltb (length ms) 8) _ _ h2 in
        let (free, h4) = unless_got (has (mentioned ms) n.0) _ _ h3 in stop_only h4)
        (λ j h.
        let (j2, h2) = when_got (is_sign x k.0) _ _ h in
        let same : ms ≡ ms' = turn_value h2 in (
          [],
          ap mentioned (sym same) ∙ sym (append-nil (mentioned ms)),
          ap (λ ms. distinct (mentioned ms)) (sym same) ∙ d,
          subst (λ ms. length ms ≤ 8) same l,
          then (cut_to ws (got_rest h2) (token_got ws v p s k.0 (sign x) k.1 p1 s1 e (is_sign_lem x k.0 j2) tt)) done,
        ))

    alts_more : (ms : List Mention) (p : ℕ) (s : List ℕ) (ms1 : List Mention) (q : ℕ) (m : List ℕ) (ms' : List Mention) (r : List ℕ) → alt_turn ws x ms p s ≡ got (ms1, false) q m → Alts ms1 m ms' r → Alts ms s ms' r
    alts_more ms p s ms1 q m ms' r h ih d l =
        let (k, p1, s1, e, h1) = then_got (next_of ws p s) _ h in
        either_case (is_key keyword.Alt k.0) _ _ h1
        (λ j h.
        let (n, p2, s2, e2, h2) = then_got (name_at ws p1 s1) _ h in
        let (room, h3) = when_got (ltb (length ms) 8) _ _ h2 in
        let (free, h4) = unless_got (has (mentioned ms) n.0) _ _ h3 in
        let same : mentioned ms1 ≡ mentioned ms ++ (n.0 ∷ []) = ap mentioned (sym (turn_value h4)) ∙ mentioned_push ms (mention ws n) in
        let len : length ms1 ≡ length ms + 1 = ap length (sym (turn_value h4)) ∙ length-append ms (mention ws n ∷ []) in
        let lt = ltb-true (length ms) 8 room in
        let (ns, a, b, c, t) = ih (ap distinct same ∙ distinct_push (mentioned ms) n.0 d free) (omega (arith, len, lt)) in (
          n.0 ∷ ns,
          a ∙ ap (λ z. z ++ ns) same ∙ append_assoc (mentioned ms) (n.0 ∷ []) ns,
          b,
          c,
          then (token_got ws v p s k.0 (word keyword.Alt) k.1 p1 s1 e (is_key_lem keyword.Alt k.0 j) tt) (then (cut_to ws (got_rest h4) (name_got ws v p1 s1 e2)) t),
        ))
        (λ j h. let (j2, h2) = when_got (is_sign x k.0) _ _ h in go_only h2)

    list-found : (p : ℕ) (s : List ℕ) {ms : List Mention} {q : ℕ} {r : List ℕ} → list_at ws x p s ≡ got ms q r
        → (n : List ℕ) × (ns : List (List ℕ)) × (mentioned ms ≡ n ∷ ns) × (distinct (mentioned ms) ≡ true) × (length ms ≤ 8) × Takes ws (name n ∷ (more_tokens ns ++ (sign x ∷ []))) s r
    list-found p s {ms} {q} {r} h =
        let (n, p1, s1, e, h1) = then_got (name_at ws p s) _ h in
        let (ns, a, b, c, t) = turns_got (alt_turn ws x) Alts alts_last alts_more 8 (mention ws n ∷ []) p1 s1 ms q r h1 refl (omega arith) in
        (n.0, ns, a, b, c, then (name_got ws v p s e) t)

    -- a list whose labels are declared stands in the text as theirs
    list_writes : (names : List (List ℕ)) (ms : List Mention) (ls : List ℕ) (n : List ℕ) (ns : List (List ℕ)) {s r : List ℕ} → mentioned ms ≡ n ∷ ns → distinct (mentioned ms) ≡ true → length ms ≤ 8 → mentioned ms ≡ names_at names ls → every (λ k. ltb k (length names)) ls ≡ true
        → Takes ws (name n ∷ (more_tokens ns ++ (sign x ∷ []))) s r → (list (length names) ls ≡ true) × Takes ws (list_tokens names ls ++ (sign x ∷ [])) s r
    list_writes names ms [] n ns a d l e k t = absurd (omega (arith, ap length (sym a ∙ e)))
    list_writes names ms (y ∷ ls) n ns a d l e k t =
        let f : n ∷ ns ≡ get_or names y [] ∷ names_at names ls = sym a ∙ e in
        let n_is : n ≡ get_or names y [] = cc in
        let ns_is : ns ≡ names_at names ls = cc in
        let len : length ms ≡ length (y ∷ ls) = sym (length-mentioned ms) ∙ ap length e ∙ length-names_at names (y ∷ ls) in
        let tokens : name n ∷ (more_tokens ns ++ (sign x ∷ [])) ≡ list_tokens names (y ∷ ls) ++ (sign x ∷ []) =
        ap (λ w. name w ∷ (more_tokens ns ++ (sign x ∷ []))) n_is ∙ ap (λ z. name (get_or names y []) ∷ (more_tokens z ++ (sign x ∷ []))) ns_is ∙ ap (λ ts. ts ++ (sign x ∷ [])) (sym (list_tokens_lem names y ls)) in
        (and_from _ _ (and_from _ _ (le-leb 1 (length (y ∷ ls)) (omega arith)) (le-leb (length (y ∷ ls)) 8 (omega (arith, l, len)))) (and_from _ _ k (names-differ names (y ∷ ls) (ap distinct (sym e) ∙ d))), takes_as ws tokens t)

    pub list_is : (p : ℕ) (s : List ℕ) {ms : List Mention} {q : ℕ} {r : List ℕ} → list_at ws x p s ≡ got ms q r → (names : List (List ℕ)) (ls : List ℕ) → resolve names ms ≡ Ok ls → (list (length names) ls ≡ true) × Takes ws (list_tokens names ls ++ (sign x ∷ [])) s r
    list_is p s {ms} h names ls e =
        let (n, ns, a, d, l, t) = list-found p s h in
        let (b, k) = resolved names ms ls e in
        list_writes names ms ls n ns a d l b k t

  module _ (cs : List (List ℕ)) where
    -- what a label stands for
    rest_is : (p : ℕ) (s : List ℕ) {y : Rest} {q : ℕ} {r : List ℕ} → rest_at ws cs p s ≡ got y q r → (names : List (List ℕ)) (b : Body) → resolve_rest names y ≡ Ok b → (body (length cs) (length names) b ≡ true) × Takes ws (body_tokens cs names b) s r
    rest_is p s {y} {q} {r} h names b e =
        let (k, p1, s1, e1, h1) = then_got (next_of ws p s) _ h in
        either_case (is_key keyword.End k.0) _ _ h1
        (λ j h.
        let g : label-final ≡ b = ok_value (ap (resolve_rest names) (got_value h) ∙ e) in
        subst (λ b. (body (length cs) (length names) b ≡ true) × Takes ws (body_tokens cs names b) s r) g (refl, then (cut_to ws (got_rest h) (token_got ws v p s k.0 (word keyword.End) k.1 p1 s1 e1 (is_key_lem keyword.End k.0 j) tt)) done))
        (λ j h.
        let (j2, h2) = when_got (is_sign Open k.0) _ _ h in
        let (c, p2, s2, e2, h3) = then_got (old_name_at ws cs p1 s1) _ h2 in
        let (u3, p3, s3, e3, h4) = then_got (sign_at ws Close p2 s2) _ h3 in
        let (u4, p4, s4, e4, h5) = then_got (word_at ws keyword.Seq p3 s3) _ h4 in
        let (u5, p5, s5, e5, h6) = then_got (sign_at ws Open p4 s4) _ h5 in
        let (ms, p6, s6, e6, h7) = then_got (list_at ws Close p5 s5) _ h6 in
        let (ls, f1, f2) = follow_got names (resolve names ms) _ (ap (resolve_rest names) (got_value h7) ∙ e) in
        let g : label-node c.0 ls ≡ b = ok_value f2 in
        let (cn, lt) = old_name_got ws v cs p1 s1 e2 in
        let (ok, t) = list_is Close p5 s5 e6 names ls f1 in
        subst (λ b. (body (length cs) (length names) b ≡ true) × Takes ws (body_tokens cs names b) s r) g (
          and_from _ _ (lt-ltb c.0 (length cs) lt) ok,
          then (token_got ws v p s k.0 (sign Open) k.1 p1 s1 e1 (is_sign_lem Open k.0 j2) tt) (then cn (then (sign_got ws v Close p2 s2 e3) (then (word_got ws v keyword.Seq p3 s3 e4) (then (sign_got ws v Open p4 s4 e5) (subst (Takes ws _ s5) (got_rest h7) t))))),
        ))

    line_is : (p : ℕ) (s : List ℕ) (L : List Line) (w : List ℕ) (q : ℕ) {L' : List Line} {q' : ℕ} {r : List ℕ} → line_at ws cs L w q p s ≡ got L' q' r → is_name ws w ≡ true → Table ws 64 (line_names L)
        → (y : Rest) × (L ++ (record { name = w; rest = y } ∷ []) ≡ L') × Table ws 64 (line_names L')
        × ((names : List (List ℕ)) (b : Body) → resolve_rest names y ≡ Ok b → (body (length cs) (length names) b ≡ true) × Takes ws (sign Colon ∷ (body_tokens cs names b ++ (sign Semi ∷ []))) s r)
    line_is p s L w q {L'} h g tb =
        let (room, h1) = when_got (ltb (length L) 64) _ _ h in
        let (free, h2) = unless_got (has (line_names L) w) _ _ h1 in
        let (u3, p3, s3, e3, h3) = then_got (sign_at ws Colon p s) _ h2 in
        let (y, p4, s4, e4, h4) = then_got (rest_at ws cs p3 s3) _ h3 in
        let (u5, p5, s5, e5, h5) = then_got (sign_at ws Semi p4 s4) _ h4 in
        let lt = ltb-true (length L) 64 room in
        let line : Line = record { name = w; rest = y } in (
          y,
          got_value h5,
          subst (Table ws 64) (sym (lines_push L line) ∙ ap line_names (got_value h5)) (table_push ws 64 (line_names L) w g free (omega (arith, lt, length-line_names L)) tb),
          λ names b e.
              let (ok, t) = rest_is p3 s3 e4 names b e in
              (ok, then (sign_got ws v Colon p s e3) (takes_join ws t (then (cut_to ws (got_rest h5) (sign_got ws v Semi p4 s4 e5)) done))),
        )

    -- what the turns of label lines find
    abbrev Lines : List Line → List ℕ → List Line → List ℕ → Type 0
    Lines L s L' r = Table ws 64 (line_names L) → (K : List Line) × (L' ≡ L ++ K) × Table ws 64 (line_names L') × (1 ≤ length L')
        × ((names : List (List ℕ)) (ls : List Label) → resolve_lines names K ≡ Ok ls → (every (λ (l : Label). body (length cs) (length names) l.body) ls ≡ true) × Takes ws (flat_map (label_tokens cs names) ls ++ (word keyword.Endmsc ∷ [])) s r)

    lines_last : (L : List Line) (p : ℕ) (s : List ℕ) (L' : List Line) (q : ℕ) (r : List ℕ) → line_turn ws cs L p s ≡ got (L', true) q r → Lines L s L' r
    lines_last L p s L' q r h tb =
        let (k, p1, s1, e, h1) = then_got (next_of ws p s) _ h in
        by k.0 k.1 p1 s1 e h1
      where
        by : (t : Tok) (u p1 : ℕ) (s1 : List ℕ) → ◌≡◌ {A = Step (Tok × ℕ)} (next_of ws p s) (got (t, u) p1 s1) → ◌≡◌ {A = Step (List Line × Bool)} (as_line ws cs L t u p1 s1) (got (L', true) q r)
            → (K : List Line) × (L' ≡ L ++ K) × Table ws 64 (line_names L') × (1 ≤ length L')
            × ((names : List (List ℕ)) (ls : List Label) → resolve_lines names K ≡ Ok ls → (every (λ (l : Label). body (length cs) (length names) l.body) ls ≡ true) × Takes ws (flat_map (label_tokens cs names) ls ++ (word keyword.Endmsc ∷ [])) s r)
        by (name w) u p1 s1 e h = let (K, p2, s2, e2, h2) = then_got (line_at ws cs L w u p1 s1) _ h in stop_only h2
        by (word kw) u p1 s1 e h =
            let (j, h2) = when_got (is_key keyword.Endmsc (word kw) && ltb 0 (length L)) _ _ h in
            let (j1, j2) = and_parts (is_key keyword.Endmsc (word kw)) (ltb 0 (length L)) j in
            let same : L ≡ L' = turn_value h2 in
            let c = cut_to ws (got_rest h2) (token_got ws v p s (word kw) (word keyword.Endmsc) u p1 s1 e (is_key_lem keyword.Endmsc (word kw) j1) tt) in
            let some = ltb-true 0 (length L) j2 in (
              [],
              sym same ∙ sym (append-nil L),
              subst (λ L. Table ws 64 (line_names L)) same tb,
              subst (λ L. 1 ≤ length L) same some,
              λ names ls f. subst (λ ls. (every (λ (l : Label). body (length cs) (length names) l.body) ls ≡ true) × Takes ws (flat_map (label_tokens cs names) ls ++ (word keyword.Endmsc ∷ [])) s r) (ok_value f) (refl, then c done),
            )
        by (sign x) u p1 s1 e h = absurd (not_got h)
        by end u p1 s1 e h = absurd (not_got h)

    lines_join : (w : List ℕ) (y : Rest) (K : List Line) {s s1 m m' r : List ℕ} → Cut ws (name w) s s1 → m ≡ m'
        → ((names : List (List ℕ)) (b : Body) → resolve_rest names y ≡ Ok b → (body (length cs) (length names) b ≡ true) × Takes ws (sign Colon ∷ (body_tokens cs names b ++ (sign Semi ∷ []))) s1 m)
        → ((names : List (List ℕ)) (ls : List Label) → resolve_lines names K ≡ Ok ls → (every (λ (l : Label). body (length cs) (length names) l.body) ls ≡ true) × Takes ws (flat_map (label_tokens cs names) ls ++ (word keyword.Endmsc ∷ [])) m' r)
        → (names : List (List ℕ)) (ls : List Label) → resolve_lines names (record { name = w; rest = y } ∷ K) ≡ Ok ls → (every (λ (l : Label). body (length cs) (length names) l.body) ls ≡ true) × Takes ws (flat_map (label_tokens cs names) ls ++ (word keyword.Endmsc ∷ [])) s r
    lines_join w y K {s} {s1} {m} {m'} {r} c same one more names ls f =
        let (b, f1, k1) = follow_got names (resolve_rest names y) _ f in
        let (ls', f2, k2) = follow_got names (resolve_lines names K) _ k1 in
        let (ok1, t1) = one names b f1 in
        let (ok2, t2) = more names ls' f2 in
        let l : Label = record { name = w; body = b } in
        subst (λ ls. (every (λ (l : Label). body (length cs) (length names) l.body) ls ≡ true) × Takes ws (flat_map (label_tokens cs names) ls ++ (word keyword.Endmsc ∷ [])) s r) (ok_value k2)
        (and_from _ _ ok1 ok2, takes_as ws (sym (append_assoc (label_tokens cs names l) (flat_map (label_tokens cs names) ls') (word keyword.Endmsc ∷ []))) (takes_join ws (then c t1) (takes-from ws same t2)))

    lines_more : (L : List Line) (p : ℕ) (s : List ℕ) (L1 : List Line) (q : ℕ) (m : List ℕ) (L' : List Line) (r : List ℕ) → line_turn ws cs L p s ≡ got (L1, false) q m → Lines L1 m L' r → Lines L s L' r
    lines_more L p s L1 q m L' r h ih tb =
        let (k, p1, s1, e, h1) = then_got (next_of ws p s) _ h in
        by k.0 k.1 p1 s1 e h1
      where
        by : (t : Tok) (u p1 : ℕ) (s1 : List ℕ) → ◌≡◌ {A = Step (Tok × ℕ)} (next_of ws p s) (got (t, u) p1 s1) → ◌≡◌ {A = Step (List Line × Bool)} (as_line ws cs L t u p1 s1) (got (L1, false) q m)
            → (K : List Line) × (L' ≡ L ++ K) × Table ws 64 (line_names L') × (1 ≤ length L')
            × ((names : List (List ℕ)) (ls : List Label) → resolve_lines names K ≡ Ok ls → (every (λ (l : Label). body (length cs) (length names) l.body) ls ≡ true) × Takes ws (flat_map (label_tokens cs names) ls ++ (word keyword.Endmsc ∷ [])) s r)
        by (name w) u p1 s1 e h =
            let (L2, p2, s2, e2, h2) = then_got (line_at ws cs L w u p1 s1) _ h in
            let c = token_got ws v p s (name w) (name w) u p1 s1 e refl tt in
            let (y, is, tb1, one) = line_is p1 s1 L w u e2 (cut_good ws c) tb in
            let same : L2 ≡ L1 = turn_value h2 in
            let (K, a, tb2, some, t) = ih (subst (λ L. Table ws 64 (line_names L)) same tb1) in
            let line : Line = record { name = w; rest = y } in
            (line ∷ K, a ∙ ap (λ L. L ++ K) (sym (is ∙ same)) ∙ append_assoc L (line ∷ []) K, tb2, some, lines_join w y K c (got_rest h2) one t)
        by (word kw) u p1 s1 e h = let (j, h2) = when_got (is_key keyword.Endmsc (word kw) && ltb 0 (length L)) _ _ h in go_only h2
        by (sign x) u p1 s1 e h = absurd (not_got h)
        by end u p1 s1 e h = absurd (not_got h)

    pub lines_found : (p : ℕ) (s : List ℕ) {L : List Line} {q : ℕ} {r : List ℕ} → lines_at ws cs p s ≡ got L q r
        → Table ws 64 (line_names L) × (1 ≤ length L)
        × ((names : List (List ℕ)) (ls : List Label) → resolve_lines names L ≡ Ok ls → (every (λ (l : Label). body (length cs) (length names) l.body) ls ≡ true) × Takes ws (flat_map (label_tokens cs names) ls ++ (word keyword.Endmsc ∷ [])) s r)
    lines_found p s {L} {q} {r} h =
        let (K, a, tb, some, t) = turns_got (line_turn ws cs) Lines lines_last lines_more 65 [] p s L q r h (refl, refl, omega arith) in
        (tb, some, λ names ls f. t names ls (ap (resolve_lines names) (sym a) ∙ f))
