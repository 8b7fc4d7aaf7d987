-- Backwards, up to the graph: what was read of instances and charts stands in the text, and keeps the rules. Assumes nothing.
use Rattle.std.proofs.Common.{◌≡◌, ℕ, zero, suc, ◌+◌, ◌-◌, ◌<◌, ◌≤◌, Bool, true, false, cond, not, ◌&&◌, eqb, ltb, List, [], ◌∷◌, ◌++◌, length, get_or, replicate, sym, refl, ap, ◌∙◌, subst, inl, inr, append_assoc, append-nil, arith, length-append}
use Rattle.std.specs.List.{flat_map}
use Rattle.std.proofs.lemmas.Bool.{false≢true, true≢false, and_parts, and_from, not_from_false, eq-eqb, ltb-true, ltb-false, lt-ltb, le-leb}
use Rattle.msc.specs.Doc.{Chart, all_events, chart_events, chart_names, out_count}
use Rattle.msc.specs.Shortest.{inst_tokens, event_tokens, block_tokens}
use Rattle.msc.specs.Sound.{partner, parts, chart}
use Rattle.msc.specs.Spelling.{every, has, is_vocabulary}
use Rattle.msc.specs.Tokens.{Tok, name, word, sign}
use Rattle.msc.specs.declared.event.Event.{Event}
use Rattle.msc.specs.declared.event.Event.TheVariants.{Out, In, Action}
use Rattle.msc.specs.declared.symbol.Symbol.TheVariants.{Semi}
use Rattle.msc.specs.declared.words.Keyword.{Keyword}
use Rattle.msc.specs.declared.words.Keyword.TheVariants as keyword
use Rattle.lexis.specs.Lexing.{next_of, is_key, word_at, sign_at}
use Rattle.lexis.specs.Steps.{Step, got, repeat}
use Rattle.forms.specs.Drafts.{Draft, no_draft, with_event, padded, opened, closed, charted}
use Rattle.forms.specs.Reading.{new_name_at, old_name_at, inst_at, inst_turn, instances_at, message_at, action_at, partner_at, message_event_at, action_event_at, has_room, has_room_out, event_turn, block_at, block_turn, chart_at, chart_turn, charts_at}
use Rattle.forms.specs.Writes.{Blocks, ChartForm, ChartForms}
use Rattle.forms.proofs.Steps.{got_value, got_rest, when_got, unless_got, either_case, then_got, turns_got}
use Rattle.forms.proofs.Cuts.{Cut}
use Rattle.forms.proofs.Takes.{Takes, done, then, takes_join, takes_as, takes-from, takes_named, cut_good, cut_to, is_key_lem, token_got, word_got, sign_got, new_name_got, old_name_got}
use Rattle.forms.proofs.Moves.{Table, table_push, Prefix, prefix_same, prefix_join, Seen, seen_name, Moves, moves_none, moves_join, moves_as, moves_out, moves_in, moves_action}
use Rattle.forms.proofs.Goods.{length-chart_names}
use Rattle.forms.proofs.Tables.{table_found}
use Rattle.forms.proofs.ReadsCharts.{outs_append, joined_append, chart_names_append, length-padded, events_push}

-- the two answers of a turn are apart
pub stop_only : {A : Type 0} {a b : A} {p q : ℕ} {s r : List ℕ} {P : Type 0} → ◌≡◌ {A = Step (A × Bool)} (got (a, false) p s) (got (b, true) q r) → P
stop_only e = absurd (false≢true (ap (λ x. x.1) (got_value e)))

pub go_only : {A : Type 0} {a b : A} {p q : ℕ} {s r : List ℕ} {P : Type 0} → ◌≡◌ {A = Step (A × Bool)} (got (a, true) p s) (got (b, false) q r) → P
go_only e = absurd (true≢false (ap (λ x. x.1) (got_value e)))

pub turn_value : {A : Type 0} {a b : A} {c d : Bool} {p q : ℕ} {s r : List ℕ} → ◌≡◌ {A = Step (A × Bool)} (got (a, c) p s) (got (b, d) q r) → a ≡ b
turn_value e = ap (λ x. x.0) (got_value e)

-- parts that are left out are empty
events_blank : (n : ℕ) (qs : List (List Event)) → flat_map (λ x. x) (replicate n [] ++ qs) ≡ flat_map (λ x. x) qs
events_blank zero qs = refl
events_blank (suc n) qs = events_blank n qs

parts-blank : (n i k : ℕ) (qs : List (List Event)) → parts k (i + n) qs ≡ true → parts k i (replicate n [] ++ qs) ≡ true
parts-blank zero i k qs h = let e : i ≡ i + 0 = omega arith in ap (λ j. parts k j qs) e ∙ h
parts-blank (suc n) i k qs h =
    let e : suc i + n ≡ i + suc n = omega arith in
    and_from _ _ (either (ltb i k)) (parts-blank n (suc i) k qs (ap (λ j. parts k j qs) e ∙ h))
  where
    either : (b : Bool) → cond b true true ≡ true
    either true = refl
    either false = refl

blocks_blank : (I M A : List (List ℕ)) (n i : ℕ) (qs : List (List Event)) (us : List Tok) → Blocks I M A (i + n) qs us → Blocks I M A i (replicate n [] ++ qs) us
blocks_blank I M A zero i qs us h = let e : i + 0 ≡ i = omega arith in subst (λ j. Blocks I M A j qs us) e h
blocks_blank I M A (suc n) i qs us h = let e : i + suc n ≡ suc i + n = omega arith in inl (refl, blocks_blank I M A n (suc i) qs us (subst (λ j. Blocks I M A j qs us) e h))

module _ (ws : List (List ℕ)) (v : is_vocabulary ws ≡ true) where
  abbrev first : List (List ℕ) → Draft
  first xs = record { instances = xs; messages = []; actions = []; charts = []; parts = []; part = [] }

  inst-found : (xs : List (List ℕ)) (q p : ℕ) (s : List ℕ) {D : Draft} {p' : ℕ} {r : List ℕ} → inst_at ws (first xs) q p s ≡ got D p' r → Table ws 8 xs
      → (w : List ℕ) × (D ≡ first (xs ++ (w ∷ []))) × Table ws 8 (xs ++ (w ∷ [])) × Takes ws (name w ∷ sign Semi ∷ []) s r
  inst-found xs q p s h t =
      let (l, h1) = when_got (ltb (length xs) 8) _ _ h in
      let (w, p1, s1, e1, h2) = then_got (new_name_at ws xs p s) _ h1 in
      let (u, p2, s2, e2, h3) = then_got (sign_at ws Semi p1 s1) _ h2 in
      let (c, free) = new_name_got ws v xs p s e1 in
      (w, sym (got_value h3), table_push ws 8 xs w (cut_good ws c) free (ltb-true (length xs) 8 l) t, then c (then (cut_to ws (got_rest h3) (sign_got ws v Semi p1 s1 e2)) done))

  -- what turns of instance lines find
  abbrev Insts : Draft → List ℕ → Draft → List ℕ → Type 0
  Insts D s D' r = (xs : List (List ℕ)) → D ≡ first xs → Table ws 8 xs → (ys : List (List ℕ)) × (D' ≡ first (xs ++ ys)) × Table ws 8 (xs ++ ys) × Takes ws (flat_map inst_tokens ys ++ (word keyword.Msc ∷ [])) s r

  inst_last : (D : Draft) (p : ℕ) (s : List ℕ) (D' : Draft) (q : ℕ) (r : List ℕ) → inst_turn ws D p s ≡ got (D', true) q r → Insts D s D' r
  inst_last D p s D' q r h xs is t =
      let (k, p1, s1, e, h1) = then_got (next_of ws p s) _ h in
      either_case (is_key keyword.Inst k.0) _ _ h1
      (λ i h. let (d, p2, s2, e2, h2) = then_got (inst_at ws D k.1 p1 s1) _ h in stop_only h2)
      (λ i h.
      let (j, h2) = when_got (is_key keyword.Msc k.0) _ _ h in
      let none = append-nil xs in
      ([], sym (turn_value h2) ∙ is ∙ ap first (sym none), subst (Table ws 8) (sym none) t, then (cut_to ws (got_rest h2) (token_got ws v p s k.0 (word keyword.Msc) k.1 p1 s1 e (is_key_lem keyword.Msc k.0 j) tt)) done))

  inst_more : (D : Draft) (p : ℕ) (s : List ℕ) (C : Draft) (q : ℕ) (m : List ℕ) (D' : Draft) (r : List ℕ) → inst_turn ws D p s ≡ got (C, false) q m → Insts C m D' r → Insts D s D' r
  inst_more D p s C q m D' r h ih xs is t =
      let (k, p1, s1, e, h1) = then_got (next_of ws p s) _ h in
      either_case (is_key keyword.Inst k.0) _ _ h1
      (λ i h.
      let (d, p2, s2, e2, h2) = then_got (inst_at ws D k.1 p1 s1) _ h in
      let (w, is', t', k') = inst-found xs k.1 p1 s1 (ap (λ D. inst_at ws D k.1 p1 s1) (sym is) ∙ e2) t in
      let (ys, a, b, c) = ih (xs ++ (w ∷ [])) (sym (turn_value h2) ∙ is') t' in
      let all = append_assoc xs (w ∷ []) ys in (
        w ∷ ys,
        a ∙ ap first all,
        subst (Table ws 8) all b,
        then (token_got ws v p s k.0 (word keyword.Inst) k.1 p1 s1 e (is_key_lem keyword.Inst k.0 i) tt) (takes_join ws k' (takes-from ws (got_rest h2) c)),
      ))
      (λ i h. let (j, h2) = when_got (is_key keyword.Msc k.0) _ _ h in go_only h2)

  -- instance lines, and the word msc
  pub instances_found : (p : ℕ) (s : List ℕ) {D : Draft} {q : ℕ} {r : List ℕ} → instances_at ws p s ≡ got D q r
      → (I : List (List ℕ)) × (D ≡ first I) × (1 ≤ length I) × Table ws 8 I × Takes ws (flat_map inst_tokens I ++ (word keyword.Msc ∷ [])) s r
  instances_found p s {D} {q} {r} h =
      let (u, p1, s1, e1, h1) = then_got (word_at ws keyword.Inst p s) _ h in
      let (d, p2, s2, e2, h2) = then_got (inst_at ws no_draft 0 p1 s1) _ h1 in
      let (w, is, t, k) = inst-found [] 0 p1 s1 e2 (refl, refl, omega arith) in
      let (ys, a, b, c) = turns_got (inst_turn ws) Insts inst_last inst_more 8 d p2 s2 D q r h2 (w ∷ []) is t in
      (w ∷ ys, a, omega arith, b, then (word_got ws v keyword.Inst p s e1) (takes_join ws k c))

  module _ (I : List (List ℕ)) where
    -- with message names X and action names Y seen, charts C declared, parts P closed and the part p open
    abbrev pub draft : List (List ℕ) → List (List ℕ) → List Chart → List (List Event) → List Event → Draft
    draft X Y C P p = record { instances = I; messages = X; actions = Y; charts = C; parts = P; part = p }

    module _ (C : List Chart) (P : List (List Event)) where
      message_found : (X Y : List (List ℕ)) (p : List Event) (pl : ℕ) (s : List ℕ) {y : Draft × ℕ} {q : ℕ} {r : List ℕ} → message_at ws (draft X Y C P p) pl s ≡ got y q r
          → (w : List ℕ) × (X' : List (List ℕ)) × (y.0 ≡ draft X' Y C P p) × Seen ws w y.1 X X' × Cut ws (name w) s r
      message_found X Y p = table_found ws v (λ xs. draft xs Y C P p) X

      action_found : (X Y : List (List ℕ)) (p : List Event) (pl : ℕ) (s : List ℕ) {y : Draft × ℕ} {q : ℕ} {r : List ℕ} → action_at ws (draft X Y C P p) pl s ≡ got y q r
          → (w : List ℕ) × (Y' : List (List ℕ)) × (y.0 ≡ draft X Y' C P p) × Seen ws w y.1 Y Y' × Cut ws (name w) s r
      action_found X Y p = table_found ws v (λ ys. draft X ys C P p) Y

      partner-found : (D : Draft) (i pl : ℕ) (s : List ℕ) {t q : ℕ} {r : List ℕ} → partner_at ws D i pl s ≡ got t q r → D.instances ≡ I → Cut ws (name (get_or I t [])) s r × ((ltb t (length I) && not (eqb t i)) ≡ true)
      partner-found D i pl s {t} {q} {r} h is =
          let (k, p1, s1, e, g) = then_got (old_name_at ws D.instances pl s) _ h in
          let (ne, g1) = unless_got (eqb k.0 i) _ _ g in
          let (c, l) = old_name_got ws v I pl s (ap (λ J. old_name_at ws J pl s) (sym is) ∙ e) in
          let same = got_value g1 in
          subst (λ t. Cut ws (name (get_or I t [])) s r × ((ltb t (length I) && not (eqb t i)) ≡ true)) same
          (cut_to ws (got_rest g1) c, and_from _ _ (lt-ltb k.0 (length I) l) (not_from_false _ ne))

      message_event_found : (kw : Keyword) (made : ℕ → ℕ → Event) (i : ℕ) (X Y : List (List ℕ)) (p : List Event) (pl : ℕ) (s : List ℕ) {D : Draft} {q : ℕ} {r : List ℕ} → message_event_at ws kw made i (draft X Y C P p) pl s ≡ got D q r
          → (n t : ℕ) × (w : List ℕ) × (X' : List (List ℕ)) × (D ≡ draft X' Y C P (p ++ (made n t ∷ []))) × Seen ws w n X X' × ((ltb t (length I) && not (eqb t i)) ≡ true) × Takes ws (name w ∷ word kw ∷ name (get_or I t []) ∷ sign Semi ∷ []) s r
      message_event_found kw made i X Y p pl s h =
          let (m, p1, s1, e1, h1) = then_got (message_at ws (draft X Y C P p) pl s) _ h in
          let (u, p2, s2, e2, h2) = then_got (word_at ws kw p1 s1) _ h1 in
          let (t, p3, s3, e3, h3) = then_got (partner_at ws m.0 i p2 s2) _ h2 in
          let (u', p4, s4, e4, h4) = then_got (sign_at ws Semi p3 s3) _ h3 in
          let (w, X', is, seen, c) = message_found X Y p pl s e1 in
          let (c3, pa) = partner-found m.0 i p2 s2 e3 (ap (λ D. D.instances) is) in (
            m.1,
            t,
            w,
            X',
            sym (got_value h4) ∙ ap (λ D. with_event D (made m.1 t)) is,
            seen,
            pa,
            then c (then (word_got ws v kw p1 s1 e2) (then c3 (then (cut_to ws (got_rest h4) (sign_got ws v Semi p3 s3 e4)) done))),
          )

      action_event_found : (X Y : List (List ℕ)) (p : List Event) (pl : ℕ) (s : List ℕ) {D : Draft} {q : ℕ} {r : List ℕ} → action_event_at ws (draft X Y C P p) pl s ≡ got D q r
          → (n : ℕ) × (w : List ℕ) × (Y' : List (List ℕ)) × (D ≡ draft X Y' C P (p ++ (Action n ∷ []))) × Seen ws w n Y Y' × Takes ws (name w ∷ sign Semi ∷ []) s r
      action_event_found X Y p pl s h =
          let (m, p1, s1, e1, h1) = then_got (action_at ws (draft X Y C P p) pl s) _ h in
          let (u, p2, s2, e2, h2) = then_got (sign_at ws Semi p1 s1) _ h1 in
          let (w, Y', is, seen, c) = action_found X Y p pl s e1 in
          (m.1, w, Y', sym (got_value h2) ∙ ap (λ D. with_event D (Action m.1)) is, seen, then c (then (cut_to ws (got_rest h2) (sign_got ws v Semi p1 s1 e2)) done))

      -- the limits of the chart and of the document
      abbrev pub Within : List Event → Type 0
      Within p = (length (flat_map (λ x. x) P ++ p) ≤ 64) × (length (all_events C) + length (flat_map (λ x. x) P ++ p) ≤ 1024) × (out_count (flat_map (λ x. x) P ++ p) ≤ 32)

      within_push : (X Y : List (List ℕ)) (p : List Event) (e : Event) → has_room ws (draft X Y C P p) ≡ true → out_count (flat_map (λ x. x) P ++ p) + out_count (e ∷ []) ≤ 32 → Within (p ++ (e ∷ []))
      within_push X Y p e h o =
          let (h1, h2) = and_parts (ltb (length (flat_map (λ x. x) P ++ p)) 64) (ltb (length (all_events C) + length (flat_map (λ x. x) P ++ p)) 1024) h in
          let l1 = ltb-true (length (flat_map (λ x. x) P ++ p)) 64 h1 in
          let l2 = ltb-true (length (all_events C) + length (flat_map (λ x. x) P ++ p)) 1024 h2 in
          let same = sym (append_assoc (flat_map (λ x. x) P) p (e ∷ [])) in
          let len = ap length same ∙ length-append (flat_map (λ x. x) P ++ p) (e ∷ []) in
          let out = ap out_count same ∙ outs_append (flat_map (λ x. x) P ++ p) (e ∷ []) in
          (omega (arith, len, l1), omega (arith, len, l2), omega (arith, out, o))

      module _ (i : ℕ) where
        -- what one event turn finds
        abbrev OneEvent : List (List ℕ) → List (List ℕ) → List Event → List ℕ → Draft → List ℕ → Type 0
        OneEvent X Y p s D r = (X' Y' : List (List ℕ)) × (e : Event) × (D ≡ draft X' Y' C P (p ++ (e ∷ []))) × Moves ws X Y X' Y' (e ∷ []) × (partner (length I) i e ≡ true) × Within (p ++ (e ∷ []))
            × ((M A : List (List ℕ)) → Prefix X' M → Prefix Y' A → Takes ws (event_tokens I M A e) s r)

        out_found : (X Y : List (List ℕ)) (p : List Event) (pl : ℕ) (s₀ s : List ℕ) {D : Draft} {q : ℕ} {r : List ℕ} → Cut ws (word keyword.Out) s₀ s → has_room_out ws (draft X Y C P p) ≡ true → message_event_at ws keyword.To Out i (draft X Y C P p) pl s ≡ got D q r → OneEvent X Y p s₀ D r
        out_found X Y p pl s₀ s c h e =
            let (n, t, w, X', is, seen, pa, tk) = message_event_found keyword.To Out i X Y p pl s e in
            let (h1, h2) = and_parts (has_room ws (draft X Y C P p)) (ltb (out_count (flat_map (λ x. x) P ++ p)) 32) h in
            let o = ltb-true (out_count (flat_map (λ x. x) P ++ p)) 32 h2 in (
              X',
              Y,
              Out n t,
              is,
              moves_out ws n t seen (takes_named ws tk),
              pa,
              within_push X Y p (Out n t) h1 (omega (arith, o)),
              λ M A pm pa. then c (takes_as ws (ap (λ w. name w ∷ word keyword.To ∷ name (get_or I t []) ∷ sign Semi ∷ []) (sym (seen_name ws seen M pm))) tk),
            )

        in_found : (X Y : List (List ℕ)) (p : List Event) (pl : ℕ) (s₀ s : List ℕ) {D : Draft} {q : ℕ} {r : List ℕ} → Cut ws (word keyword.In) s₀ s → Within p → has_room ws (draft X Y C P p) ≡ true → message_event_at ws keyword.From In i (draft X Y C P p) pl s ≡ got D q r → OneEvent X Y p s₀ D r
        in_found X Y p pl s₀ s c wi h e =
            let (n, t, w, X', is, seen, pa, tk) = message_event_found keyword.From In i X Y p pl s e in (
              X',
              Y,
              In n t,
              is,
              moves_in ws n t seen (takes_named ws tk),
              pa,
              within_push X Y p (In n t) h (omega (arith, wi.2)),
              λ M A pm pa. then c (takes_as ws (ap (λ w. name w ∷ word keyword.From ∷ name (get_or I t []) ∷ sign Semi ∷ []) (sym (seen_name ws seen M pm))) tk),
            )

        act_found : (X Y : List (List ℕ)) (p : List Event) (pl : ℕ) (s₀ s : List ℕ) {D : Draft} {q : ℕ} {r : List ℕ} → Cut ws (word keyword.Action) s₀ s → Within p → has_room ws (draft X Y C P p) ≡ true → action_event_at ws (draft X Y C P p) pl s ≡ got D q r → OneEvent X Y p s₀ D r
        act_found X Y p pl s₀ s c wi h e =
            let (n, w, Y', is, seen, tk) = action_event_found X Y p pl s e in (
              X,
              Y',
              Action n,
              is,
              moves_action ws n seen (takes_named ws tk),
              refl,
              within_push X Y p (Action n) h (omega (arith, wi.2)),
              λ M A pm pa. then c (takes_as ws (ap (λ w. name w ∷ sign Semi ∷ []) (sym (seen_name ws seen A pa))) tk),
            )

        event_found : (X Y : List (List ℕ)) (p : List Event) (pl : ℕ) (s : List ℕ) {D : Draft} {q : ℕ} {r : List ℕ} → Within p → ◌≡◌ {A = Step (Draft × Bool)} (event_turn ws i (draft X Y C P p) pl s) (got (D, false) q r) → OneEvent X Y p s D r
        event_found X Y p pl s {D} {q} {r} wi h =
            let d = draft X Y C P p in
            let (k, p1, s1, e, h1) = then_got (next_of ws pl s) _ h in
            either_case (is_key keyword.Out k.0) _ _ h1
            (λ j h.
            let (room, h2) = when_got (has_room_out ws d) _ _ h in
            let (D1, p2, s2, e2, h3) = then_got (message_event_at ws keyword.To Out i d p1 s1) _ h2 in
            subst (λ D. OneEvent X Y p s D r) (turn_value h3) (subst (OneEvent X Y p s D1) (got_rest h3)
            (out_found X Y p p1 s s1 (token_got ws v pl s k.0 (word keyword.Out) k.1 p1 s1 e (is_key_lem keyword.Out k.0 j) tt) room e2)))
            λ j h. either_case (is_key keyword.In k.0) _ _ h
            (λ j h.
            let (room, h2) = when_got (has_room ws d) _ _ h in
            let (D1, p2, s2, e2, h3) = then_got (message_event_at ws keyword.From In i d p1 s1) _ h2 in
            subst (λ D. OneEvent X Y p s D r) (turn_value h3) (subst (OneEvent X Y p s D1) (got_rest h3)
            (in_found X Y p p1 s s1 (token_got ws v pl s k.0 (word keyword.In) k.1 p1 s1 e (is_key_lem keyword.In k.0 j) tt) wi room e2)))
            λ j h. either_case (is_key keyword.Action k.0) _ _ h
            (λ j h.
            let (room, h2) = when_got (has_room ws d) _ _ h in
            let (D1, p2, s2, e2, h3) = then_got (action_event_at ws d p1 s1) _ h2 in
            subst (λ D. OneEvent X Y p s D r) (turn_value h3) (subst (OneEvent X Y p s D1) (got_rest h3)
            (act_found X Y p p1 s s1 (token_got ws v pl s k.0 (word keyword.Action) k.1 p1 s1 e (is_key_lem keyword.Action k.0 j) tt) wi room e2)))
            λ j h. let (j2, h2) = when_got (is_key keyword.Endinstance k.0) _ _ h in go_only h2

        event_stop : (d : Draft) (pl : ℕ) (s : List ℕ) {D : Draft} {q : ℕ} {r : List ℕ} → ◌≡◌ {A = Step (Draft × Bool)} (event_turn ws i d pl s) (got (D, true) q r) → (d ≡ D) × Cut ws (word keyword.Endinstance) s r
        event_stop d pl s h =
            let (k, p1, s1, e, h1) = then_got (next_of ws pl s) _ h in
            either_case (is_key keyword.Out k.0) _ _ h1
            (λ j h. let (room, h2) = when_got (has_room_out ws d) _ _ h in let (D1, p2, s2, e2, h3) = then_got (message_event_at ws keyword.To Out i d p1 s1) _ h2 in stop_only h3)
            λ j h. either_case (is_key keyword.In k.0) _ _ h
            (λ j h. let (room, h2) = when_got (has_room ws d) _ _ h in let (D1, p2, s2, e2, h3) = then_got (message_event_at ws keyword.From In i d p1 s1) _ h2 in stop_only h3)
            λ j h. either_case (is_key keyword.Action k.0) _ _ h
            (λ j h. let (room, h2) = when_got (has_room ws d) _ _ h in let (D1, p2, s2, e2, h3) = then_got (action_event_at ws d p1 s1) _ h2 in stop_only h3)
            λ j h.
            let (j2, h2) = when_got (is_key keyword.Endinstance k.0) _ _ h in
            (turn_value h2, cut_to ws (got_rest h2) (token_got ws v pl s k.0 (word keyword.Endinstance) k.1 p1 s1 e (is_key_lem keyword.Endinstance k.0 j2) tt))

        -- what the turns of a block find
        abbrev pub Events : Draft → List ℕ → Draft → List ℕ → Type 0
        Events D s D' r = (X Y : List (List ℕ)) (p : List Event) → D ≡ draft X Y C P p → Within p
            → (X' Y' : List (List ℕ)) × (es : List Event) × (D' ≡ draft X' Y' C P (p ++ es)) × Moves ws X Y X' Y' es × (every (partner (length I) i) es ≡ true) × Within (p ++ es)
            × ((M A : List (List ℕ)) → Prefix X' M → Prefix Y' A → Takes ws (flat_map (event_tokens I M A) es ++ (word keyword.Endinstance ∷ [])) s r)

        events_last : (D : Draft) (pl : ℕ) (s : List ℕ) (D' : Draft) (q : ℕ) (r : List ℕ) → event_turn ws i D pl s ≡ got (D', true) q r → Events D s D' r
        events_last D pl s D' q r h X Y p is wi =
            let (same, c) = event_stop D pl s h in
            let none = append-nil p in
            (X, Y, [], sym same ∙ is ∙ ap (draft X Y C P) (sym none), moves_none ws X Y, refl, subst Within (sym none) wi, λ M A pm pa. then c done)

        events_more : (D : Draft) (pl : ℕ) (s : List ℕ) (E : Draft) (q : ℕ) (m : List ℕ) (D' : Draft) (r : List ℕ) → event_turn ws i D pl s ≡ got (E, false) q m → Events E m D' r → Events D s D' r
        events_more D pl s E q m D' r h ih X Y p is wi =
            let (X1, Y1, e, is1, mv1, pa1, wi1, tk1) = event_found X Y p pl s wi (ap (λ D. event_turn ws i D pl s) (sym is) ∙ h) in
            let (X2, Y2, es, is2, mv2, pa2, wi2, tk2) = ih X1 Y1 (p ++ (e ∷ [])) is1 wi1 in
            let all = append_assoc p (e ∷ []) es in (
              X2,
              Y2,
              e ∷ es,
              is2 ∙ ap (draft X2 Y2 C P) all,
              moves_join ws mv1 mv2,
              and_from _ _ pa1 pa2,
              subst Within all wi2,
              λ M A pm pa. takes_as ws (sym (append_assoc (event_tokens I M A e) (flat_map (event_tokens I M A) es) (word keyword.Endinstance ∷ [])))
                  (takes_join ws (tk1 M A (prefix_join X1 X2 M mv2.front_messages pm) (prefix_join Y1 Y2 A mv2.front_actions pa)) (tk2 M A pm pa)),
            )

    module _ (C : List Chart) where
      within-blank : (P : List (List Event)) (n : ℕ) → Within C P [] → Within C (P ++ replicate n []) []
      within-blank P n w =
          let same : flat_map (λ x. x) (P ++ replicate n []) ++ [] ≡ flat_map (λ x. x) P ++ [] =
          ap (λ x. x ++ []) (joined_append (λ x. x) P (replicate n []) ∙ ap (λ x. flat_map (λ x. x) P ++ x) (ap (flat_map (λ x. x)) (sym (append-nil (replicate n []))) ∙ events_blank n []) ∙ append-nil (flat_map (λ x. x) P)) in
          subst (λ x. (length x ≤ 64) × (length (all_events C) + length x ≤ 1024) × (out_count x ≤ 32)) (sym same) w

      within_close : (P : List (List Event)) (p : List Event) → Within C P p → Within C (P ++ (p ∷ [])) []
      within_close P p w = subst (λ x. (length x ≤ 64) × (length (all_events C) + length x ≤ 1024) × (out_count x ≤ 32)) (sym (append-nil (flat_map (λ x. x) (P ++ (p ∷ []))) ∙ events_push P p)) w

      -- name ; events endinstance ; : the block's events stand behind the parts that are padded to its instance
      block_found : (X Y : List (List ℕ)) (P : List (List Event)) (pl : ℕ) (s : List ℕ) {D : Draft} {q : ℕ} {r : List ℕ} → Within C P [] → block_at ws (draft X Y C P []) pl s ≡ got D q r
          → (i : ℕ) × (X' Y' : List (List ℕ)) × (es : List Event) × (i < length I) × (length P ≤ i) × (D ≡ draft X' Y' C (padded i P ++ (es ∷ [])) []) × Moves ws X Y X' Y' es × (every (partner (length I) i) es ≡ true) × Within C (padded i P ++ (es ∷ [])) []
          × ((M A : List (List ℕ)) → Prefix X' M → Prefix Y' A → Takes ws (name (get_or I i []) ∷ sign Semi ∷ (flat_map (event_tokens I M A) es ++ (word keyword.Endinstance ∷ sign Semi ∷ []))) s r)
      block_found X Y P pl s wi h =
          let d = draft X Y C P [] in
          let (k, p1, s1, e1, h1) = then_got (old_name_at ws I pl s) _ h in
          let i = k.0 in
          let (le, h2) = unless_got (ltb i (length P)) _ _ h1 in
          let (u, p2, s2, e2, h3) = then_got (sign_at ws Semi p1 s1) _ h2 in
          let (E, p3, s3, e3, h4) = then_got (repeat (event_turn ws i) 65 (opened d i) p2 s2) _ h3 in
          let (u', p4, s4, e4, h5) = then_got (sign_at ws Semi p3 s3) _ h4 in
          let (c, l) = old_name_got ws v I pl s e1 in
          let P1 = padded i P in
          let (X', Y', es, is, mv, pa, wi1, tk) = turns_got (event_turn ws i) (Events C P1 i) (events_last C P1 i) (events_more C P1 i) 65 (opened d i) p2 s2 E p3 s3 e3 X Y [] refl (within-blank P (i - length P) wi) in (
            i,
            X',
            Y',
            es,
            l,
            ltb-false i (length P) le,
            sym (got_value h5) ∙ ap closed is,
            mv,
            pa,
            within_close P1 es wi1,
            λ M A pm pa. then c (then (sign_got ws v Semi p1 s1 e2) (takes_as ws (append_assoc (flat_map (event_tokens I M A) es) (word keyword.Endinstance ∷ []) (sign Semi ∷ []))
                (takes_join ws (tk M A pm pa) (then (cut_to ws (got_rest h5) (sign_got ws v Semi p3 s3 e4)) done)))),
          )

      -- what the turns of a chart find
      abbrev BlockTurns : Draft → List ℕ → Draft → List ℕ → Type 0
      BlockTurns D s D' r = (X Y : List (List ℕ)) (P : List (List Event)) → D ≡ draft X Y C P [] → Within C P [] → length P ≤ length I → length I ≤ 8
          → (X' Y' : List (List ℕ)) × (P' ps : List (List Event)) × (D' ≡ draft X' Y' C P' []) × (padded 8 P' ≡ P ++ ps) × (length P' ≤ length I) × Moves ws X Y X' Y' (flat_map (λ x. x) ps) × (parts (length I) (length P) ps ≡ true) × Within C P' []
          × ((M A : List (List ℕ)) → Prefix X' M → Prefix Y' A → (us : List Tok) × Blocks I M A (length P) ps us × Takes ws (us ++ (word keyword.Endmsc ∷ [])) s r)

      -- the word endmsc: the parts up to eight are left out
      blocks_last : (D : Draft) (pl : ℕ) (s : List ℕ) (D' : Draft) (q : ℕ) (r : List ℕ) → block_turn ws D pl s ≡ got (D', true) q r → BlockTurns D s D' r
      blocks_last D pl s D' q r h X Y P is wi lp l8 =
          let (k, p1, s1, e, h1) = then_got (next_of ws pl s) _ h in
          either_case (is_key keyword.Instance k.0) _ _ h1
          (λ j h. let (E, p2, s2, e2, h3) = then_got (block_at ws D p1 s1) _ h in stop_only h3)
          (λ j h.
          let (j2, h2) = when_got (is_key keyword.Endmsc k.0) _ _ h in
          let c = cut_to ws (got_rest h2) (token_got ws v pl s k.0 (word keyword.Endmsc) k.1 p1 s1 e (is_key_lem keyword.Endmsc k.0 j2) tt) in
          let n = 8 - length P in (
            X,
            Y,
            P,
            replicate n [] ++ [],
            sym (turn_value h2) ∙ is,
            ap (λ x. P ++ x) (sym (append-nil (replicate n []))),
            lp,
            moves_as ws (sym (events_blank n [])) (moves_none ws X Y),
            parts-blank n (length P) (length I) [] refl,
            wi,
            λ M A pm pa. ([], blocks_blank I M A n (length P) [] [] refl, then c done),
          ))

      -- a block of instance i: the parts between the last block and i are left out and empty, then the block's own part and those of the turns behind it
      blocks_more : (D : Draft) (pl : ℕ) (s : List ℕ) (E : Draft) (q : ℕ) (m : List ℕ) (D' : Draft) (r : List ℕ) → block_turn ws D pl s ≡ got (E, false) q m → BlockTurns E m D' r → BlockTurns D s D' r
      blocks_more D pl s E q m D' r h ih X Y P is wi lp l8 =
          let (k, p1, s1, e, h1) = then_got (next_of ws pl s) _ h in
          either_case (is_key keyword.Instance k.0) _ _ h1
          (λ j h.
          let (E1, p2, s2, e2, h3) = then_got (block_at ws D p1 s1) _ h in
          let c = token_got ws v pl s k.0 (word keyword.Instance) k.1 p1 s1 e (is_key_lem keyword.Instance k.0 j) tt in
          let (i, X1, Y1, es, li, le, is1, mv1, pa1, wi1, tk1) = block_found X Y P p1 s1 wi (ap (λ D. block_at ws D p1 s1) (sym is) ∙ e2) in
          let n = i - length P in
          let R = replicate n [] in
          let P1 = padded i P ++ (es ∷ []) in
          let len : length P1 ≡ suc i = length-append (padded i P) (es ∷ []) ∙ (let z = length-padded i P le in omega (arith, z)) in
          let at : length P + n ≡ i = omega (arith, le) in
          let (X2, Y2, P', ps, is2, eq, lp2, mv2, pa2, wi2, tk2) = ih X1 Y1 P1 (sym (turn_value h3) ∙ is1) wi1 (omega (arith, len, li)) l8 in
          let own : (cond (ltb i (length I)) true (eqb (length es) 0) && parts (length I) (suc i) ps) ≡ true = and_from _ _ (ap (λ b. cond b true (eqb (length es) 0)) (lt-ltb i (length I) li)) (ap (λ j. parts (length I) j ps) (sym len) ∙ pa2) in
          let there : parts (length I) (length P + n) (es ∷ ps) ≡ true = ap (λ j. parts (length I) j (es ∷ ps)) at ∙ and_from _ _ pa1 own in (
            X2,
            Y2,
            P',
            R ++ (es ∷ ps),
            is2,
            eq ∙ append_assoc (padded i P) (es ∷ []) ps ∙ append_assoc P R (es ∷ ps),
            lp2,
            moves_as ws (sym (events_blank n (es ∷ ps))) (moves_join ws mv1 mv2),
            parts-blank n (length P) (length I) (es ∷ ps) there,
            wi2,
            λ M A pm pa.
                let (vs, b, tk) = tk2 M A pm pa in
                let one = then c (tk1 M A (prefix_join X1 X2 M mv2.front_messages pm) (prefix_join Y1 Y2 A mv2.front_actions pa)) in
                let b1 : Blocks I M A i (es ∷ ps) (block_tokens I M A i es ++ vs) = inr (vs, li, refl, subst (λ j. Blocks I M A j ps vs) len b) in (
                  block_tokens I M A i es ++ vs,
                  blocks_blank I M A n (length P) (es ∷ ps) (block_tokens I M A i es ++ vs) (subst (λ j. Blocks I M A j (es ∷ ps) (block_tokens I M A i es ++ vs)) (sym at) b1),
                  takes_as ws (sym (append_assoc (block_tokens I M A i es) vs (word keyword.Endmsc ∷ []))) (takes_join ws one (takes-from ws (got_rest h3) tk)),
                ),
          ))
          (λ j h. let (j2, h2) = when_got (is_key keyword.Endmsc k.0) _ _ h in go_only h2)

      -- a chart behind its name and semicolon, and the word msc
      chart-found : (X Y : List (List ℕ)) (w : List ℕ) (pl : ℕ) (s : List ℕ) {D : Draft} {q : ℕ} {r : List ℕ} → length I ≤ 8 → length (all_events C) ≤ 1024 → chart_at ws (draft X Y C [] []) w pl s ≡ got D q r
          → (X' Y' : List (List ℕ)) × (c : Chart) × (c.name ≡ w) × (D ≡ draft X' Y' (C ++ (c ∷ [])) [] []) × Moves ws X Y X' Y' (chart_events c) × (chart (length I) c ≡ true) × (length (all_events C) + length (chart_events c) ≤ 1024)
          × ((M A : List (List ℕ)) → Prefix X' M → Prefix Y' A → (us : List Tok) × (m : List ℕ) × Blocks I M A 0 c.parts us × Takes ws (us ++ (word keyword.Endmsc ∷ sign Semi ∷ [])) s m × Cut ws (word keyword.Msc) m r)
      chart-found X Y w pl s l8 le h =
          let d = draft X Y C [] [] in
          let (E, p1, s1, e1, h1) = then_got (repeat (block_turn ws) 9 d pl s) _ h in
          let (u, p2, s2, e2, h2) = then_got (sign_at ws Semi p1 s1) _ h1 in
          let (u', p3, s3, e3, h3) = then_got (word_at ws keyword.Msc p2 s2) _ h2 in
          let (X', Y', P, ps, is, eq, lp, mv, pa, wi, tk) = turns_got (block_turn ws) BlockTurns blocks_last blocks_more 9 d pl s E p1 s1 e1 X Y [] refl (omega arith, omega (arith, le), omega arith) (omega arith) l8 in
          let c : Chart = record { name = w; parts = ps } in
          let (wi1, wi2, wi3) = subst (λ z. (length z ≤ 64) × (length (all_events C) + length z ≤ 1024) × (out_count z ≤ 32)) (append-nil (flat_map (λ x. x) ps)) (subst (λ ps. Within C ps []) eq (within-blank P (8 - length P) wi)) in
          let eight : length ps ≡ 8 = ap length (sym eq) ∙ length-padded 8 P (omega (arith, lp, l8)) in (
            X',
            Y',
            c,
            refl,
            sym (got_value h3) ∙ ap (λ E. charted E w) is ∙ ap (λ ps. draft X' Y' (C ++ (record { name = w; parts = ps } ∷ [])) [] []) eq,
            mv,
            and_from _ _ (eq-eqb (length ps) 8 eight) (and_from _ _ pa (and_from _ _ (le-leb (length (flat_map (λ x. x) ps)) 64 wi1) (le-leb (out_count (flat_map (λ x. x) ps)) 32 wi3))),
            wi2,
            λ M A pm pa.
                let (us, b, t) = tk M A pm pa in
                (us, s2, b, takes_as ws (append_assoc us (word keyword.Endmsc ∷ []) (sign Semi ∷ [])) (takes_join ws t (then (sign_got ws v Semi p1 s1 e2) done)), cut_to ws (got_rest h3) (word_got ws v keyword.Msc p2 s2 e3)),
          )

    -- what the turns of charts find
    abbrev ChartTurns : Draft × List ℕ → List ℕ → Draft × List ℕ → List ℕ → Type 0
    ChartTurns a s b r = (X Y : List (List ℕ)) (C : List Chart) → a.0 ≡ draft X Y C [] [] → Table ws 64 (chart_names C) → length (all_events C) ≤ 1024 → length I ≤ 8
        → (X' Y' : List (List ℕ)) × (cs : List Chart) × (b.0 ≡ draft X' Y' (C ++ cs) [] []) × Moves ws X Y X' Y' (all_events cs) × (every (chart (length I)) cs ≡ true) × Table ws 65 (chart_names (C ++ cs) ++ (b.1 ∷ [])) × (length (C ++ cs) ≤ 64) × (length (all_events (C ++ cs)) ≤ 1024)
        × ((M A : List (List ℕ)) → Prefix X' M → Prefix Y' A → (s₀ : List ℕ) → Cut ws (word keyword.Msc) s₀ s → (vs : List Tok) × ChartForms I M A cs vs × Takes ws (vs ++ (word keyword.Msc ∷ name b.1 ∷ sign Semi ∷ word keyword.Expr ∷ [])) s₀ r)

    -- the word expr: no chart more, and the name is the graph's
    charts_last : (a : Draft × List ℕ) (pl : ℕ) (s : List ℕ) (b : Draft × List ℕ) (q : ℕ) (r : List ℕ) → chart_turn ws a pl s ≡ got (b, true) q r → ChartTurns a s b r
    charts_last a pl s b q r h X Y C is tb le l8 =
        let (w, p1, s1, e1, h1) = then_got (new_name_at ws (chart_names a.0.charts) pl s) _ h in
        let (u, p2, s2, e2, h2) = then_got (sign_at ws Semi p1 s1) _ h1 in
        let (k, p3, s3, e3, h3) = then_got (next_of ws p2 s2) _ h2 in
        either_case (is_key keyword.Expr k.0) _ _ h3
        (λ j h.
        let (c, free) = new_name_got ws v (chart_names C) pl s (ap (λ D. new_name_at ws (chart_names D.charts) pl s) (sym is) ∙ e1) in
        let same = turn_value h in
        let graph : w ≡ b.1 = ap (λ y. y.1) same in
        let none = append-nil C in
        let (t1, t2, t3) = tb in
        let names : Table ws 65 (chart_names (C ++ []) ++ (b.1 ∷ [])) =
        subst (λ C. Table ws 65 (chart_names C ++ (b.1 ∷ []))) (sym none) (subst (λ w. Table ws 65 (chart_names C ++ (w ∷ []))) graph (table_push ws 65 (chart_names C) w (cut_good ws c) free (omega (arith, t3)) (t1, t2, omega (arith, t3)))) in
        let ce = cut_to ws (got_rest h) (token_got ws v p2 s2 k.0 (word keyword.Expr) k.1 p3 s3 e3 (is_key_lem keyword.Expr k.0 j) tt) in (
          X,
          Y,
          [],
          sym (ap (λ y. y.0) same) ∙ is ∙ ap (λ C. draft X Y C [] []) (sym none),
          moves_none ws X Y,
          refl,
          names,
          omega (arith, ap length none, length-chart_names C, t3),
          subst (λ C. length (all_events C) ≤ 1024) (sym none) le,
          λ M A pm pa s₀ c0. ([], refl, then c0 (takes_as ws (ap (λ w. name w ∷ sign Semi ∷ word keyword.Expr ∷ []) graph) (then c (then (sign_got ws v Semi p1 s1 e2) (then ce done))))),
        ))
        (λ j h.
        let (l, h4) = when_got (ltb (length a.0.charts) 64) _ _ h in
        let (E, p4, s4, e4, h5) = then_got (chart_at ws a.0 w p2 s2) _ h4 in stop_only h5)

    -- what one turn of charts finds
    abbrev OneChart : List (List ℕ) → List (List ℕ) → List Chart → List ℕ → Draft → List ℕ → Type 0
    OneChart X Y C s D r = (X' Y' : List (List ℕ)) × (c : Chart) × (D ≡ draft X' Y' (C ++ (c ∷ [])) [] []) × Moves ws X Y X' Y' (chart_events c) × (chart (length I) c ≡ true) × Table ws 64 (chart_names (C ++ (c ∷ []))) × (length (all_events (C ++ (c ∷ []))) ≤ 1024)
        × ((M A : List (List ℕ)) → Prefix X' M → Prefix Y' A → (s₀ : List ℕ) → Cut ws (word keyword.Msc) s₀ s → (us : List Tok) × (m : List ℕ) × ChartForm I M A c us × Takes ws us s₀ m × Cut ws (word keyword.Msc) m r)

    chart_named : (c : Chart) (w : List ℕ) (M A : List (List ℕ)) {s₀ s s1 s2 m r : List ℕ} (us : List Tok) → c.name ≡ w → Cut ws (word keyword.Msc) s₀ s → Cut ws (name w) s s1 → Cut ws (sign Semi) s1 s2 → Blocks I M A 0 c.parts us → Takes ws (us ++ (word keyword.Endmsc ∷ sign Semi ∷ [])) s2 m → Cut ws (word keyword.Msc) m r
        → (us : List Tok) × (m : List ℕ) × ChartForm I M A c us × Takes ws us s₀ m × Cut ws (word keyword.Msc) m r
    chart_named c w M A {s₀} {s} {s1} {s2} {m} us nm c0 cw cs b t cm = (word keyword.Msc ∷ name c.name ∷ sign Semi ∷ (us ++ (word keyword.Endmsc ∷ sign Semi ∷ [])), m, (us, b, refl), then c0 (then (subst (λ w. Cut ws (name w) s s1) (sym nm) cw) (then cs t)), cm)

    chart-found_named : (X Y : List (List ℕ)) (C : List Chart) (w : List ℕ) (pl : ℕ) (s s1 s2 : List ℕ) {D : Draft} {q : ℕ} {r : List ℕ} → Table ws 64 (chart_names C) → length (all_events C) ≤ 1024 → length I ≤ 8 → length C < 64 → has (chart_names C) w ≡ false
        → Cut ws (name w) s s1 → Cut ws (sign Semi) s1 s2 → chart_at ws (draft X Y C [] []) w pl s2 ≡ got D q r → OneChart X Y C s D r
    chart-found_named X Y C w pl s s1 s2 tb le l8 room free cw cs h =
        let (X1, Y1, c, nm, is1, mv1, ch1, le1, tk1) = chart-found C X Y w pl s2 l8 le h in
        let named : chart_names C ++ (w ∷ []) ≡ chart_names (C ++ (c ∷ [])) = ap (λ w. chart_names C ++ (w ∷ [])) (sym nm) ∙ sym (chart_names_append C (c ∷ [])) in
        let evs = ap length (joined_append chart_events C (c ∷ [])) ∙ length-append (all_events C) (chart_events c ++ []) ∙ ap (λ x. length (all_events C) + length x) (append-nil (chart_events c)) in (
          X1,
          Y1,
          c,
          is1,
          mv1,
          ch1,
          subst (Table ws 64) named (table_push ws 64 (chart_names C) w (cut_good ws cw) free (omega (arith, room, length-chart_names C)) tb),
          omega (arith, evs, le1),
          λ M A pm pa s₀ c0. let (us, m0, b, t, cm) = tk1 M A pm pa in chart_named c w M A us nm c0 cw cs b t cm,
        )

    chart_turn_found : (a : Draft × List ℕ) (pl : ℕ) (s : List ℕ) (e : Draft × List ℕ) (q : ℕ) (m : List ℕ) → chart_turn ws a pl s ≡ got (e, false) q m → (X Y : List (List ℕ)) (C : List Chart) → a.0 ≡ draft X Y C [] [] → Table ws 64 (chart_names C) → length (all_events C) ≤ 1024 → length I ≤ 8 → OneChart X Y C s e.0 m
    chart_turn_found a pl s e q m h X Y C is tb le l8 =
        let (w, p1, s1, e1, h1) = then_got (new_name_at ws (chart_names a.0.charts) pl s) _ h in
        let (u, p2, s2, e2, h2) = then_got (sign_at ws Semi p1 s1) _ h1 in
        let (k, p3, s3, e3, h3) = then_got (next_of ws p2 s2) _ h2 in
        either_case (is_key keyword.Expr k.0) _ _ h3
        (λ j h. go_only h)
        (λ j h.
        let (l, h4) = when_got (ltb (length a.0.charts) 64) _ _ h in
        let (E, p4, s4, e4, h5) = then_got (chart_at ws a.0 w p2 s2) _ h4 in
        let (cw, free) = new_name_got ws v (chart_names C) pl s (ap (λ D. new_name_at ws (chart_names D.charts) pl s) (sym is) ∙ e1) in
        let room = ltb-true (length a.0.charts) 64 l in
        let same : length a.0.charts ≡ length C = ap (λ D. length D.charts) is in
        subst (λ D. OneChart X Y C s D m) (ap (λ y. y.0) (turn_value h5)) (subst (OneChart X Y C s E) (got_rest h5)
        (chart-found_named X Y C w p2 s s1 s2 tb le l8 (omega (arith, room, same)) free cw (sign_got ws v Semi p1 s1 e2) (ap (λ D. chart_at ws D w p2 s2) (sym is) ∙ e4))))

    charts_more : (a : Draft × List ℕ) (pl : ℕ) (s : List ℕ) (e : Draft × List ℕ) (q : ℕ) (m : List ℕ) (b : Draft × List ℕ) (r : List ℕ) → chart_turn ws a pl s ≡ got (e, false) q m → ChartTurns e m b r → ChartTurns a s b r
    charts_more a pl s e q m b r h ih X Y C is tb le l8 = by (chart_turn_found a pl s e q m h X Y C is tb le l8)
      where
        by : OneChart X Y C s e.0 m
            → (X' Y' : List (List ℕ)) × (cs : List Chart) × (b.0 ≡ draft X' Y' (C ++ cs) [] []) × Moves ws X Y X' Y' (all_events cs) × (every (chart (length I)) cs ≡ true) × Table ws 65 (chart_names (C ++ cs) ++ (b.1 ∷ [])) × (length (C ++ cs) ≤ 64) × (length (all_events (C ++ cs)) ≤ 1024)
            × ((M A : List (List ℕ)) → Prefix X' M → Prefix Y' A → (s₀ : List ℕ) → Cut ws (word keyword.Msc) s₀ s → (vs : List Tok) × ChartForms I M A cs vs × Takes ws (vs ++ (word keyword.Msc ∷ name b.1 ∷ sign Semi ∷ word keyword.Expr ∷ [])) s₀ r)
        by (X1, Y1, c, is1, mv1, ch1, tb1, le1, tk1) =
            let (X2, Y2, cs, is2, mv2, ch2, nm2, len2, ev2, tk2) = ih X1 Y1 (C ++ (c ∷ [])) is1 tb1 le1 l8 in
            let all = append_assoc C (c ∷ []) cs in (
              X2,
              Y2,
              c ∷ cs,
              is2 ∙ ap (λ C. draft X2 Y2 C [] []) all,
              moves_join ws mv1 mv2,
              and_from _ _ ch1 ch2,
              subst (λ C. Table ws 65 (chart_names C ++ (b.1 ∷ []))) all nm2,
              subst (λ C. length C ≤ 64) all len2,
              subst (λ C. length (all_events C) ≤ 1024) all ev2,
              λ M A pm pa s₀ c0.
                  let (us, m0, form, t, cm) = tk1 M A (prefix_join X1 X2 M mv2.front_messages pm) (prefix_join Y1 Y2 A mv2.front_actions pa) s₀ c0 in
                  let (vs, cf, t2) = tk2 M A pm pa m0 cm in
                  (us ++ vs, (us, vs, form, cf, refl), takes_as ws (sym (append_assoc us vs (word keyword.Msc ∷ name b.1 ∷ sign Semi ∷ word keyword.Expr ∷ []))) (takes_join ws t t2)),
            )

    -- charts and the graph's name, from behind the word msc to the word expr
    pub charts_found : (pl : ℕ) (s : List ℕ) {b : Draft × List ℕ} {q : ℕ} {r : List ℕ} → length I ≤ 8 → charts_at ws (draft [] [] [] [] []) pl s ≡ got b q r
        → (M A : List (List ℕ)) × (cs : List Chart) × (b.0 ≡ draft M A cs [] []) × Moves ws [] [] M A (all_events cs) × (every (chart (length I)) cs ≡ true) × Table ws 65 (chart_names cs ++ (b.1 ∷ [])) × (length cs ≤ 64) × (length (all_events cs) ≤ 1024)
        × ((s₀ : List ℕ) → Cut ws (word keyword.Msc) s₀ s → (vs : List Tok) × ChartForms I M A cs vs × Takes ws (vs ++ (word keyword.Msc ∷ name b.1 ∷ sign Semi ∷ word keyword.Expr ∷ [])) s₀ r)
    charts_found pl s {b} {q} {r} l8 h =
        let (M, A, cs, is, mv, ch, nm, len, ev, tk) = turns_got (chart_turn ws) ChartTurns charts_last charts_more 65 (draft [] [] [] [] [], []) pl s b q r h [] [] [] refl (refl, refl, omega arith) (omega arith) l8 in
        (M, A, cs, is, mv, ch, nm, len, ev, tk M A (prefix_same M) (prefix_same A))
