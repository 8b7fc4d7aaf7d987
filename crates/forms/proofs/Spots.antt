-- The spot of a refusal lies in the text. Assumes nothing.
use Rattle.std.proofs.Common.{◌≡◌, ℕ, zero, suc, ◌+◌, ◌≤◌, Bool, true, false, cond, ◌&&◌, eqb, ltb, leb, List, [], ◌∷◌, ◌++◌, length, drop, Some, None, Ok, Err, Option, Result, refl, subst, arith, length-drop}
use Rattle.std.specs.List.{AllByRecursion}
use Rattle.std.specs.List.{prefix_len}
use Rattle.std.proofs.lemmas.List.Sums.{prefix_len-le-length}
use Rattle.std.proofs.lemmas.Bool.{leb-false}
use Rattle.msc.specs.Doc.{chart_names}
use Rattle.msc.specs.Sound.{most}
use Rattle.msc.specs.Spelling.{wordy, place, has}
use Rattle.msc.specs.Tokens.{Tok, name, word, sign, end}
use Rattle.msc.specs.declared.event.Event.{Event}
use Rattle.msc.specs.declared.event.Event.TheVariants.{Out, In}
use Rattle.msc.specs.declared.symbol.Symbol.{Symbol}
use Rattle.msc.specs.declared.symbol.Symbol.TheVariants.{Open, Close, Colon, Semi}
use Rattle.msc.specs.declared.words.Keyword.{Keyword}
use Rattle.msc.specs.declared.words.Keyword.TheVariants as keyword
use Rattle.lexis.specs.Classes.{separator, class_of}
use Rattle.lexis.specs.Lexing.{word_of, by_class, first_of, next_of, as_name, name_at, is_key, is_sign, is_end, token_at, word_at, sign_at, end_at}
use Rattle.lexis.specs.Refusals.{value_of}
use Rattle.lexis.specs.Steps.{Step, got, bad, and_then, repeat}
use Rattle.lexis.specs.declared.class.Class.{Class}
use Rattle.lexis.specs.declared.class.Class.TheVariants as class
use Rattle.lexis.specs.declared.refusal.Refusal.{Refusal}
use Rattle.lexis.specs.declared.refusal.Refusal.TheVariants as refusal
use Rattle.forms.specs.Drafts.{Draft, no_draft, Mention, Rest, final, node, Line, line_names, mentioned, opened}
use Rattle.forms.specs.Reading.{known, new_name_at, old_name_at, inst_at, inst_turn, instances_at, message_at, action_at, partner_at, message_event_at, action_event_at, has_room, has_room_out, event_turn, block_at, block_turn, chart_at, chart_turn, charts_at, mention, alt_turn, list_at, rest_at, line_at, as_line, line_turn, lines_at, follow, label_at, resolve, resolve_rest, resolve_lines, Read, graph_at, forms_at, finish, read_of}
use Rattle.forms.specs.Theorems.{SpotsInside}

module _ (N : ℕ) where
  -- a step at a text of N bytes in all: what it comes to leaves the rest of that text, and has Q; its refusal is inside
  abbrev Fair : {A : Type 0} → (A → Type 0) → Step A → Type 0
  Fair Q (got a p s) = (p + length s ≡ N) × Q a
  Fair Q (bad e) = value_of e ≤ N

  abbrev Any : {A : Type 0} → A → Type 0
  Any a = Unit {0}

  fair_then : {A B : Type 0} (Q : A → Type 0) (R : B → Type 0) (m : Step A) (k : A → ℕ → List ℕ → Step B) → Fair Q m → ((a : A) (p : ℕ) (s : List ℕ) → p + length s ≡ N → Q a → Fair R (k a p s)) → Fair R (and_then m k)
  fair_then Q R (got a p s) k h f = f a p s h.0 h.1
  fair_then Q R (bad e) k h f = h

  fair_cond : {A : Type 0} (R : A → Type 0) (b : Bool) (x y : Step A) → Fair R x → Fair R y → Fair R (cond b x y)
  fair_cond R true x y h k = h
  fair_cond R false x y h k = k

  fair_known : {A : Type 0} (R : A → Type 0) (o : Option ℕ) (k : ℕ → Step A) (x : Step A) → ((n : ℕ) → Fair R (k n)) → Fair R x → Fair R (known o k x)
  fair_known R None k x h g = g
  fair_known R (Some n) k x h g = h n

  fair_repeat : {A : Type 0} (Q : A → Type 0) (f : A → ℕ → List ℕ → Step (A × Bool)) → ((a : A) (p : ℕ) (s : List ℕ) → p + length s ≡ N → Q a → Fair (λ (r : A × Bool). Q r.0) (f a p s)) → (n : ℕ) (a : A) (p : ℕ) (s : List ℕ) → p + length s ≡ N → Q a → Fair Q (repeat f n a p s)
  fair_repeat Q f h zero a p s e q = omega arith
  fair_repeat {A} Q f h (suc n) a p s e q =
      fair_then (λ (r : A × Bool). Q r.0) Q (f a p s) _ (h a p s e q) λ r p s e q. fair_cond Q r.1 _ _ (e, q) (fair_repeat Q f h n r.0 p s e q)

  module _ (ws : List (List ℕ)) where
    abbrev Inside : {A : Type 0} → A × ℕ → Type 0
    Inside t = t.1 ≤ N

    fair_word : (p : ℕ) (s : List ℕ) (n : ℕ) → p + length s ≡ N → n ≤ length s → Fair Inside (word_of ws p s n)
    fair_word p s n e l = fair_cond Inside (ltb 16 n) _ _ (omega arith) (omega (arith, length-drop n s), omega arith)

    fair_class : (c : Class) (p b : ℕ) (s : List ℕ) → p + suc (length s) ≡ N → Fair Inside (by_class ws c p b s)
    fair_class class.Separator p b s e = omega arith
    fair_class class.Letter p b s e = fair_word p (b ∷ s) (prefix_len wordy (b ∷ s)) e (prefix_len-le-length wordy (b ∷ s))
    fair_class class.Inner p b s e = omega arith
    fair_class class.Open p b s e = (omega arith, omega arith)
    fair_class class.Close p b s e = (omega arith, omega arith)
    fair_class class.Colon p b s e = (omega arith, omega arith)
    fair_class class.Semi p b s e = (omega arith, omega arith)
    fair_class class.Illegal p b s e = omega arith

    fair_first : (p : ℕ) (s : List ℕ) → p + length s ≡ N → Fair Inside (first_of ws p s)
    fair_first p [] e = (e, omega arith)
    fair_first p (b ∷ s) e = fair_class (class_of b) p b s e

    fair_next : (p : ℕ) (s : List ℕ) → p + length s ≡ N → Fair Inside (next_of ws p s)
    fair_next p s e =
        let n = prefix_len separator s in
        let l = prefix_len-le-length separator s in
        fair_first (p + n) (drop n s) (omega (arith, l, e, length-drop n s))

    fair_as_name : (t : Tok) (q p : ℕ) (s : List ℕ) → p + length s ≡ N → q ≤ N → Fair Inside (as_name ws t q p s)
    fair_as_name (name w) q p s e l = (e, l)
    fair_as_name (word k) q p s e l = l
    fair_as_name (sign x) q p s e l = l
    fair_as_name end q p s e l = l

    fair_name : (p : ℕ) (s : List ℕ) → p + length s ≡ N → Fair Inside (name_at ws p s)
    fair_name p s e = fair_then Inside Inside (next_of ws p s) _ (fair_next p s e) λ t p s e l. fair_as_name t.0 t.1 p s e l

    fair_token : (f : Tok → Bool) (p : ℕ) (s : List ℕ) → p + length s ≡ N → Fair Any (token_at ws f p s)
    fair_token f p s e = fair_then Inside Any (next_of ws p s) _ (fair_next p s e) λ t p s e l. fair_cond Any (f t.0) _ _ (e, tt) l

    fair_new : (names : List (List ℕ)) (p : ℕ) (s : List ℕ) → p + length s ≡ N → Fair Any (new_name_at ws names p s)
    fair_new names p s e = fair_then Inside Any (name_at ws p s) _ (fair_name p s e) λ n p s e l. fair_cond Any (has names n.0) _ _ l (e, tt)

    fair_old : (names : List (List ℕ)) (p : ℕ) (s : List ℕ) → p + length s ≡ N → Fair Inside (old_name_at ws names p s)
    fair_old names p s e = fair_then Inside Inside (name_at ws p s) _ (fair_name p s e) λ n p s e l. fair_known Inside (place names n.0) _ _ (λ k. (e, l)) l

    fair_inst : (d : Draft) (q p : ℕ) (s : List ℕ) → q ≤ N → p + length s ≡ N → Fair Any (inst_at ws d q p s)
    fair_inst d q p s l e =
        fair_cond Any (ltb (length d.instances) 8) _ _
        (fair_then Any Any (new_name_at ws d.instances p s) _ (fair_new d.instances p s e) λ w p s e _. fair_then Any Any (sign_at ws Semi p s) _ (fair_token (is_sign Semi) p s e) λ _ p s e _. (e, tt))
        l

    fair_inst_turn : (d : Draft) (p : ℕ) (s : List ℕ) → p + length s ≡ N → Unit {0} → Fair Any (inst_turn ws d p s)
    fair_inst_turn d p s e _ = fair_then Inside Any (next_of ws p s) _ (fair_next p s e) λ t p s e l.
        fair_cond Any (is_key keyword.Inst t.0) _ _ (fair_then Any Any (inst_at ws d t.1 p s) _ (fair_inst d t.1 p s l e) λ d p s e _. (e, tt))
        (fair_cond Any (is_key keyword.Msc t.0) _ _ (e, tt) l)

    fair_instances : (p : ℕ) (s : List ℕ) → p + length s ≡ N → Fair Any (instances_at ws p s)
    fair_instances p s e =
        fair_then Any Any (word_at ws keyword.Inst p s) _ (fair_token (is_key keyword.Inst) p s e) λ _ p s e _.
        fair_then Any Any (inst_at ws no_draft 0 p s) _ (fair_inst no_draft 0 p s (omega arith) e) λ d p s e _.
        fair_repeat Any (inst_turn ws) fair_inst_turn 8 d p s e tt

    fair_message : (d : Draft) (p : ℕ) (s : List ℕ) → p + length s ≡ N → Fair Any (message_at ws d p s)
    fair_message d p s e = fair_then Inside Any (name_at ws p s) _ (fair_name p s e) λ n p s e l.
        fair_known Any (place d.messages n.0) _ _ (λ k. (e, tt)) (fair_cond Any (ltb (length d.messages) 128) _ _ (e, tt) l)

    fair_action : (d : Draft) (p : ℕ) (s : List ℕ) → p + length s ≡ N → Fair Any (action_at ws d p s)
    fair_action d p s e = fair_then Inside Any (name_at ws p s) _ (fair_name p s e) λ n p s e l.
        fair_known Any (place d.actions n.0) _ _ (λ k. (e, tt)) (fair_cond Any (ltb (length d.actions) 128) _ _ (e, tt) l)

    fair_partner : (d : Draft) (i p : ℕ) (s : List ℕ) → p + length s ≡ N → Fair Any (partner_at ws d i p s)
    fair_partner d i p s e = fair_then Inside Any (old_name_at ws d.instances p s) _ (fair_old d.instances p s e) λ k p s e l. fair_cond Any (eqb k.0 i) _ _ l (e, tt)

    fair_message_event : (k : Keyword) (made : ℕ → ℕ → Event) (i : ℕ) (d : Draft) (p : ℕ) (s : List ℕ) → p + length s ≡ N → Fair Any (message_event_at ws k made i d p s)
    fair_message_event k made i d p s e =
        fair_then Any Any (message_at ws d p s) _ (fair_message d p s e) λ m p s e _.
        fair_then Any Any (word_at ws k p s) _ (fair_token (is_key k) p s e) λ _ p s e _.
        fair_then Any Any (partner_at ws m.0 i p s) _ (fair_partner m.0 i p s e) λ q p s e _.
        fair_then Any Any (sign_at ws Semi p s) _ (fair_token (is_sign Semi) p s e) λ _ p s e _. (e, tt)

    fair_action_event : (d : Draft) (p : ℕ) (s : List ℕ) → p + length s ≡ N → Fair Any (action_event_at ws d p s)
    fair_action_event d p s e =
        fair_then Any Any (action_at ws d p s) _ (fair_action d p s e) λ a p s e _.
        fair_then Any Any (sign_at ws Semi p s) _ (fair_token (is_sign Semi) p s e) λ _ p s e _. (e, tt)

    fair_event_turn : (i : ℕ) (d : Draft) (p : ℕ) (s : List ℕ) → p + length s ≡ N → Unit {0} → Fair Any (event_turn ws i d p s)
    fair_event_turn i d p s e _ = fair_then Inside Any (next_of ws p s) _ (fair_next p s e) λ t p s e l.
        fair_cond Any (is_key keyword.Out t.0) _ _ (fair_cond Any (has_room_out ws d) _ _ (fair_then Any Any (message_event_at ws keyword.To Out i d p s) _ (fair_message_event keyword.To Out i d p s e) λ d p s e _. (e, tt)) l)
        (fair_cond Any (is_key keyword.In t.0) _ _ (fair_cond Any (has_room ws d) _ _ (fair_then Any Any (message_event_at ws keyword.From In i d p s) _ (fair_message_event keyword.From In i d p s e) λ d p s e _. (e, tt)) l)
        (fair_cond Any (is_key keyword.Action t.0) _ _ (fair_cond Any (has_room ws d) _ _ (fair_then Any Any (action_event_at ws d p s) _ (fair_action_event d p s e) λ d p s e _. (e, tt)) l)
        (fair_cond Any (is_key keyword.Endinstance t.0) _ _ (e, tt) l)))

    fair_block : (d : Draft) (p : ℕ) (s : List ℕ) → p + length s ≡ N → Fair Any (block_at ws d p s)
    fair_block d p s e =
        fair_then Inside Any (old_name_at ws d.instances p s) _ (fair_old d.instances p s e) λ i p s e l.
        fair_cond Any (ltb i.0 (length d.parts)) _ _ l
        (fair_then Any Any (sign_at ws Semi p s) _ (fair_token (is_sign Semi) p s e) λ _ p s e _.
        fair_then Any Any (repeat (event_turn ws i.0) 65 (opened d i.0) p s) _ (fair_repeat Any (event_turn ws i.0) (fair_event_turn i.0) 65 (opened d i.0) p s e tt) λ d p s e _.
        fair_then Any Any (sign_at ws Semi p s) _ (fair_token (is_sign Semi) p s e) λ _ p s e _. (e, tt))

    fair_block_turn : (d : Draft) (p : ℕ) (s : List ℕ) → p + length s ≡ N → Unit {0} → Fair Any (block_turn ws d p s)
    fair_block_turn d p s e _ = fair_then Inside Any (next_of ws p s) _ (fair_next p s e) λ t p s e l.
        fair_cond Any (is_key keyword.Instance t.0) _ _ (fair_then Any Any (block_at ws d p s) _ (fair_block d p s e) λ d p s e _. (e, tt))
        (fair_cond Any (is_key keyword.Endmsc t.0) _ _ (e, tt) l)

    fair_chart : (d : Draft) (w : List ℕ) (p : ℕ) (s : List ℕ) → p + length s ≡ N → Fair Any (chart_at ws d w p s)
    fair_chart d w p s e =
        fair_then Any Any (repeat (block_turn ws) 9 d p s) _ (fair_repeat Any (block_turn ws) fair_block_turn 9 d p s e tt) λ d p s e _.
        fair_then Any Any (sign_at ws Semi p s) _ (fair_token (is_sign Semi) p s e) λ _ p s e _.
        fair_then Any Any (word_at ws keyword.Msc p s) _ (fair_token (is_key keyword.Msc) p s e) λ _ p s e _. (e, tt)

    fair_chart_turn : (d : Draft × List ℕ) (p : ℕ) (s : List ℕ) → p + length s ≡ N → Unit {0} → Fair Any (chart_turn ws d p s)
    fair_chart_turn d p s e _ =
        fair_then Any Any (new_name_at ws (chart_names d.0.charts) p s) _ (fair_new (chart_names d.0.charts) p s e) λ w p s e _.
        fair_then Any Any (sign_at ws Semi p s) _ (fair_token (is_sign Semi) p s e) λ _ p s e _.
        fair_then Inside Any (next_of ws p s) _ (fair_next p s e) λ t p' s' e' l.
        fair_cond Any (is_key keyword.Expr t.0) _ _ (e', tt)
        (fair_cond Any (ltb (length d.0.charts) 64) _ _ (fair_then Any Any (chart_at ws d.0 w p s) _ (fair_chart d.0 w p s e) λ d p s e _. (e, tt)) l)

    -- mentions of labels lie in the text
    abbrev Mentions : List Mention → Type 0
    Mentions ms = AllByRecursion (λ (m : Mention). m.at ≤ N) ms

    mentions_push : (ms : List Mention) (m : Mention) → Mentions ms → m.at ≤ N → Mentions (ms ++ (m ∷ []))
    mentions_push [] m h l = (l, tt)
    mentions_push (x ∷ ms) m h l = (h.0, mentions_push ms m h.1 l)

    fair_alt_turn : (x : Symbol) (ms : List Mention) (p : ℕ) (s : List ℕ) → p + length s ≡ N → Mentions ms → Fair (λ (r : List Mention × Bool). Mentions r.0) (alt_turn ws x ms p s)
    fair_alt_turn x ms p s e h =
        let R : List Mention × Bool → Type 0 = λ r. Mentions r.0 in
        fair_then Inside R (next_of ws p s) _ (fair_next p s e) λ t p s e l.
        fair_cond R (is_key keyword.Alt t.0) _ _
        (fair_then Inside R (name_at ws p s) _ (fair_name p s e) λ n p s e l.
        fair_cond R (ltb (length ms) 8) _ _ (fair_cond R (has (mentioned ms) n.0) _ _ l (e, mentions_push ms (mention ws n) h l)) l)
        (fair_cond R (is_sign x t.0) _ _ (e, h) l)

    fair_list : (x : Symbol) (p : ℕ) (s : List ℕ) → p + length s ≡ N → Fair Mentions (list_at ws x p s)
    fair_list x p s e = fair_then Inside Mentions (name_at ws p s) _ (fair_name p s e) λ n p s e l. fair_repeat Mentions (alt_turn ws x) (fair_alt_turn x) 8 (mention ws n ∷ []) p s e (l, tt)

    abbrev InRest : Rest → Type 0
    InRest final = Unit {0}
    InRest (node c ms) = Mentions ms

    abbrev InLines : List Line → Type 0
    InLines ls = AllByRecursion (λ (l : Line). InRest l.rest) ls

    lines_push : (ls : List Line) (l : Line) → InLines ls → InRest l.rest → InLines (ls ++ (l ∷ []))
    lines_push [] l h k = (k, tt)
    lines_push (x ∷ ls) l h k = (h.0, lines_push ls l h.1 k)

    fair_rest : (cs : List (List ℕ)) (p : ℕ) (s : List ℕ) → p + length s ≡ N → Fair InRest (rest_at ws cs p s)
    fair_rest cs p s e = fair_then Inside InRest (next_of ws p s) _ (fair_next p s e) λ t p s e l.
        fair_cond InRest (is_key keyword.End t.0) _ _ (e, tt)
        (fair_cond InRest (is_sign Open t.0) _ _
        (fair_then Inside InRest (old_name_at ws cs p s) _ (fair_old cs p s e) λ c p s e _.
        fair_then Any InRest (sign_at ws Close p s) _ (fair_token (is_sign Close) p s e) λ _ p s e _.
        fair_then Any InRest (word_at ws keyword.Seq p s) _ (fair_token (is_key keyword.Seq) p s e) λ _ p s e _.
        fair_then Any InRest (sign_at ws Open p s) _ (fair_token (is_sign Open) p s e) λ _ p s e _.
        fair_then Mentions InRest (list_at ws Close p s) _ (fair_list Close p s e) λ ms p s e h. (e, h))
        l)

    fair_line : (cs : List (List ℕ)) (ls : List Line) (w : List ℕ) (q p : ℕ) (s : List ℕ) → q ≤ N → p + length s ≡ N → InLines ls → Fair InLines (line_at ws cs ls w q p s)
    fair_line cs ls w q p s l e h =
        fair_cond InLines (ltb (length ls) 64) _ _
        (fair_cond InLines (has (line_names ls) w) _ _ l
        (fair_then Any InLines (sign_at ws Colon p s) _ (fair_token (is_sign Colon) p s e) λ _ p s e _.
        fair_then InRest InLines (rest_at ws cs p s) _ (fair_rest cs p s e) λ r p s e k.
        fair_then Any InLines (sign_at ws Semi p s) _ (fair_token (is_sign Semi) p s e) λ _ p s e _. (e, lines_push ls (record { name = w; rest = r }) h k)))
        l

    fair_as_line : (cs : List (List ℕ)) (ls : List Line) (t : Tok) (q p : ℕ) (s : List ℕ) → q ≤ N → p + length s ≡ N → InLines ls → Fair (λ (r : List Line × Bool). InLines r.0) (as_line ws cs ls t q p s)
    fair_as_line cs ls (name w) q p s l e h = fair_then InLines (λ (r : List Line × Bool). InLines r.0) (line_at ws cs ls w q p s) _ (fair_line cs ls w q p s l e h) λ ls p s e h. (e, h)
    fair_as_line cs ls (word k) q p s l e h = fair_cond (λ (r : List Line × Bool). InLines r.0) (is_key keyword.Endmsc (word k) && ltb 0 (length ls)) _ _ (e, h) l
    fair_as_line cs ls (sign x) q p s l e h = l
    fair_as_line cs ls end q p s l e h = l

    fair_line_turn : (cs : List (List ℕ)) (ls : List Line) (p : ℕ) (s : List ℕ) → p + length s ≡ N → InLines ls → Fair (λ (r : List Line × Bool). InLines r.0) (line_turn ws cs ls p s)
    fair_line_turn cs ls p s e h = fair_then Inside (λ (r : List Line × Bool). InLines r.0) (next_of ws p s) _ (fair_next p s e) λ t p s e l. fair_as_line cs ls t.0 t.1 p s l e h

    abbrev InRead : Read → Type 0
    InRead r = Mentions r.start × InLines r.lines

    fair_graph : (title : List ℕ) (d : Draft) (w : List ℕ) (p : ℕ) (s : List ℕ) → p + length s ≡ N → Fair InRead (graph_at ws title d w p s)
    fair_graph title d w p s e =
        fair_then Mentions InRead (list_at ws Semi p s) _ (fair_list Semi p s e) λ ms p s e h.
        fair_then InLines InRead (lines_at ws (chart_names d.charts) p s) _ (fair_repeat InLines (line_turn ws (chart_names d.charts)) (fair_line_turn (chart_names d.charts)) 65 [] p s e tt) λ ls p s e k.
        fair_then Any InRead (sign_at ws Semi p s) _ (fair_token (is_sign Semi) p s e) λ _ p s e _.
        fair_then Any InRead (word_at ws keyword.Endmscdocument p s) _ (fair_token (is_key keyword.Endmscdocument) p s e) λ _ p s e _.
        fair_then Any InRead (sign_at ws Semi p s) _ (fair_token (is_sign Semi) p s e) λ _ p s e _.
        fair_then Any InRead (end_at ws p s) _ (fair_token is_end p s e) λ _ p s e _. (e, (h, k))

    fair_forms : (p : ℕ) (s : List ℕ) → p + length s ≡ N → Fair InRead (forms_at ws p s)
    fair_forms p s e =
        fair_then Any InRead (word_at ws keyword.Mscdocument p s) _ (fair_token (is_key keyword.Mscdocument) p s e) λ _ p s e _.
        fair_then Inside InRead (name_at ws p s) _ (fair_name p s e) λ n p s e _.
        fair_then Any InRead (sign_at ws Semi p s) _ (fair_token (is_sign Semi) p s e) λ _ p s e _.
        fair_then Any InRead (instances_at ws p s) _ (fair_instances p s e) λ d p s e _.
        fair_then Any InRead (charts_at ws d p s) _ (fair_repeat Any (chart_turn ws) fair_chart_turn 65 (d, []) p s e tt) λ x p s e _.
        fair_graph n.0 x.0 x.1 p s e

    -- looking labels up
    abbrev FairResult : {A : Type 0} → Result A Refusal → Type 0
    FairResult (Ok a) = Unit {0}
    FairResult (Err e) = value_of e ≤ N

    fair_follow : {A B : Type 0} (x : Result A Refusal) (k : A → Result B Refusal) → FairResult x → ((a : A) → FairResult (k a)) → FairResult (follow x k)
    fair_follow (Ok a) k h f = f a
    fair_follow (Err e) k h f = h

    fair_label : (o : Option ℕ) (q : ℕ) → q ≤ N → FairResult (label_at o q)
    fair_label None q l = l
    fair_label (Some k) q l = tt

    fair_resolve : (ns : List (List ℕ)) (ms : List Mention) → Mentions ms → FairResult (resolve ns ms)
    fair_resolve ns [] h = tt
    fair_resolve ns (m ∷ ms) h = fair_follow (label_at (place ns m.name) m.at) _ (fair_label (place ns m.name) m.at h.0) λ l. fair_follow (resolve ns ms) _ (fair_resolve ns ms h.1) λ ls. tt

    fair_resolve_rest : (ns : List (List ℕ)) (r : Rest) → InRest r → FairResult (resolve_rest ns r)
    fair_resolve_rest ns final h = tt
    fair_resolve_rest ns (node c ms) h = fair_follow (resolve ns ms) _ (fair_resolve ns ms h) λ ls. tt

    fair_resolve_lines : (ns : List (List ℕ)) (ls : List Line) → InLines ls → FairResult (resolve_lines ns ls)
    fair_resolve_lines ns [] h = tt
    fair_resolve_lines ns (l ∷ ls) h = fair_follow (resolve_rest ns l.rest) _ (fair_resolve_rest ns l.rest h.0) λ b. fair_follow (resolve_lines ns ls) _ (fair_resolve_lines ns ls h.1) λ r. tt

    fair_finish : (m : Step Read) → Fair InRead m → FairResult (finish ws m)
    fair_finish (got r p s) (e, (h, k)) =
        fair_follow (resolve (line_names r.lines) r.start) _ (fair_resolve (line_names r.lines) r.start h) λ start.
        fair_follow (resolve_lines (line_names r.lines) r.lines) _ (fair_resolve_lines (line_names r.lines) r.lines k) λ labels. tt
    fair_finish (bad e) h = h

pub spots_inside : SpotsInside
unfolding read_of
spots_inside ws text e h = subst (FairResult (length text) ws) h (by (leb (length text) most) refl)
  where
    by : (b : Bool) → leb (length text) most ≡ b → FairResult (length text) ws (cond b (finish ws (forms_at ws 0 text)) (Err refusal.TooLong))
    by true l = let z : 0 + length text ≡ length text = omega arith in fair_finish (length text) ws (forms_at ws 0 text) (fair_forms (length text) ws 0 text z)
    by false l = let k = leb-false (length text) most l in omega arith
