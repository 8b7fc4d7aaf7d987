-- Forwards, up to the graph: a text that begins with the tokens of instances and charts is read as them. Assumes nothing.
use Rattle.std.proofs.Common.{◌≡◌, ℕ, zero, suc, ◌+◌, ◌-◌, ◌<◌, ◌≤◌, max, true, false, cond, not, ◌&&◌, eqb, ltb, leb, List, [], ◌∷◌, ◌++◌, length, get_or, take, replicate, Some, sym, refl, ap, ◌∙◌, inl, inr, append_assoc, append-nil, arith, length-append}
use lib.ListN.{length-replicate}
use Rattle.std.specs.List.{flat_map}
use Rattle.std.proofs.lemmas.List.{replicate_more}
use Rattle.std.proofs.lemmas.Bool.{and_parts, and_from, not-true, eqb-true, ltb-true, leb-true, lt-ltb, le-ltb}
use Rattle.msc.specs.Doc.{Chart, all_events, chart_events, chart_names, out_count}
use Rattle.msc.specs.Shortest.{inst_tokens, event_tokens, block_tokens}
use Rattle.msc.specs.Sound.{partner, parts, chart, numbered}
use Rattle.msc.specs.Spelling.{every, has, place, distinct, is_vocabulary}
use Rattle.msc.specs.Tokens.{Tok, name, word, sign}
use Rattle.msc.specs.declared.event.Event.{Event}
use Rattle.msc.specs.declared.event.Event.TheVariants.{Out, In, Action}
use Rattle.msc.specs.declared.symbol.Symbol.TheVariants.{Semi}
use Rattle.msc.specs.declared.words.Keyword.{Keyword}
use Rattle.msc.specs.declared.words.Keyword.TheVariants as keyword
use Rattle.lexis.specs.Lexing.{next_of, is_key}
use Rattle.lexis.specs.Steps.{repeat}
use Rattle.forms.specs.Drafts.{Draft, padded}
use Rattle.forms.specs.Reading.{inst_at, inst_turn, instances_at, message_at, action_at, message_event_at, action_event_at, has_room, has_room_out, event_turn, block_at, block_turn, chart_at, chart_turn}
use Rattle.forms.specs.Writes.{Blocks, ChartForms}
use Rattle.forms.proofs.Names.{place_found, distinct_at}
use Rattle.forms.proofs.Steps.{Comes, comes_as, and_then_lem, comes_when, comes_unless, turn_last, turn_more}
use Rattle.forms.proofs.Cuts.{Cut}
use Rattle.forms.proofs.Takes.{Takes, done, then, takes-split, takes_join, takes_mid, takes_one, takes_head, takes_two, takes_as, word_comes, sign_comes, next_comes, new_name_comes, old_name_comes}
use Rattle.forms.proofs.Goods.{numbers_in}
use Rattle.forms.proofs.Tables.{table_comes}

pub outs_append : (xs ys : List Event) → out_count (xs ++ ys) ≡ out_count xs + out_count ys
outs_append [] ys = omega arith
outs_append (Out n q ∷ xs) ys = let e = outs_append xs ys in omega arith
outs_append (In n q ∷ xs) ys = outs_append xs ys
outs_append (Action n ∷ xs) ys = outs_append xs ys

pub joined_append : {X Y : Type 0} (f : X → List Y) (xs ys : List X) → flat_map f (xs ++ ys) ≡ flat_map f xs ++ flat_map f ys
joined_append f [] ys = refl
joined_append f (x ∷ xs) ys = ap (λ zs. f x ++ zs) (joined_append f xs ys) ∙ sym (append_assoc (f x) (flat_map f xs) (flat_map f ys))

pub chart_names_append : (cs ds : List Chart) → chart_names (cs ++ ds) ≡ chart_names cs ++ chart_names ds
chart_names_append [] ds = refl
chart_names_append (c ∷ cs) ds = ap (λ ns. c.name ∷ ns) (chart_names_append cs ds)

-- parts that are padded: as many as wanted, and one more
pub padded_more : (i : ℕ) (P : List (List Event)) → length P ≤ i → padded (suc i) P ≡ padded i P ++ ([] ∷ [])
padded_more i P l =
    let e : suc i - length P ≡ (i - length P) + 1 = omega arith in
    ap (λ n. P ++ replicate n []) e ∙ ap (λ x. P ++ x) (sym (replicate_more (i - length P) [])) ∙ sym (append_assoc P (replicate (i - length P) []) ([] ∷ []))

pub padded_full : (i : ℕ) (P : List (List Event)) → length P ≡ i → padded i P ≡ P
padded_full i P l =
    let e : i - length P ≡ 0 = omega arith in
    ap (λ n. P ++ replicate n []) e ∙ append-nil P

pub length-padded : (i : ℕ) (P : List (List Event)) → length P ≤ i → length (padded i P) ≡ i
length-padded i P l =
    let a = length-append P (replicate (i - length P) []) in
    let b : length {A = List Event} (replicate (i - length P) []) ≡ i - length P = length-replicate (i - length P) [] in
    omega arith

-- the events of some parts and one part more
pub events_push : (D : List (List Event)) (p : List Event) → flat_map (λ x. x) (D ++ (p ∷ [])) ≡ flat_map (λ x. x) D ++ p
events_push D p = joined_append (λ x. x) D (p ∷ []) ∙ ap (λ z. flat_map (λ x. x) D ++ z) (append-nil p)

module _ (ws : List (List ℕ)) (v : is_vocabulary ws ≡ true) where
  -- instance lines
  abbrev first : List (List ℕ) → Draft
  first xs = record { instances = xs; messages = []; actions = []; charts = []; parts = []; part = [] }

  inst_comes : (xs : List (List ℕ)) (w : List ℕ) (q : ℕ) {s r : List ℕ} → length xs < 8 → has xs w ≡ false → Takes ws (name w ∷ sign Semi ∷ []) s r → (p : ℕ) → Comes (inst_at ws (first xs) q p s) (first (xs ++ w ∷ [])) r
  inst_comes xs w q l h (then c (then c' done)) p =
      comes_when _ _ _ (lt-ltb _ _ l)
      (and_then_lem _ _ (new_name_comes ws v xs c h p) λ p.
      and_then_lem _ _ (sign_comes ws v Semi c' p) λ p. (p, refl))

  insts_comes : (ys xs : List (List ℕ)) (n : ℕ) {s r : List ℕ} → length ys ≤ n → length xs + length ys ≤ 8 → distinct (xs ++ ys) ≡ true → Takes ws (flat_map inst_tokens ys ++ (word keyword.Msc ∷ [])) s r → (p : ℕ) → Comes (repeat (inst_turn ws) (suc n) (first xs) p s) (first (xs ++ ys)) r
  insts_comes [] xs n {s} l k d (then c done) p =
      let (q, e) = next_comes ws v (word keyword.Msc) c p in
      comes_as (ap first (sym (append-nil xs))) (turn_last (inst_turn ws) n (first xs) p s (and_then_lem _ _ e λ p. (p, refl)))
  insts_comes (y ∷ ys) xs zero l k d t p = absurd (omega arith)
  insts_comes (y ∷ ys) xs (suc n) {s} l k d (then c (then c' (then c'' t))) p =
      let (q, e) = next_comes ws v (word keyword.Inst) c p in
      let d' : distinct ((xs ++ y ∷ []) ++ ys) ≡ true = ap distinct (append_assoc xs (y ∷ []) ys) ∙ d in
      let l' : length (xs ++ y ∷ []) + length ys ≤ 8 = omega (arith, length-append xs (y ∷ [])) in
      comes_as (ap first (append_assoc xs (y ∷ []) ys))
      (turn_more (inst_turn ws) (suc n) (first xs) p s (first (xs ++ y ∷ [])) (and_then_lem _ _ e λ p. and_then_lem _ _ (inst_comes xs y q (omega arith) (distinct_at xs y ys d) (then c' (then c'' done)) p) λ p. (p, refl))
      (insts_comes ys (xs ++ y ∷ []) n (omega arith) l' d' t))

  -- from the first instance line to the word msc
  pub instances_come : (I : List (List ℕ)) {s r : List ℕ} → 1 ≤ length I → length I ≤ 8 → distinct I ≡ true → Takes ws (flat_map inst_tokens I ++ (word keyword.Msc ∷ [])) s r → (p : ℕ) → Comes (instances_at ws p s) (first I) r
  instances_come [] l k d t p = absurd (omega arith)
  instances_come (y ∷ ys) l k d (then c (then c' (then c'' t))) p =
      and_then_lem _ _ (word_comes ws v keyword.Inst c p) λ p.
      and_then_lem _ _ (inst_comes [] y 0 (omega arith) refl (then c' (then c'' done)) p) λ p.
      insts_comes ys (y ∷ []) 7 (omega arith) (omega arith) d t p

  module _ (I M A : List (List ℕ)) (di : distinct I ≡ true) (dm : distinct M ≡ true) (da : distinct A ≡ true) (lm : length M ≤ 128) (la : length A ≤ 128) where
    -- with m message and a action names seen, charts C declared, parts P closed and the part p open
    abbrev pub state : ℕ → ℕ → List Chart → List (List Event) → List Event → Draft
    state m a C P p = record { instances = I; messages = take m M; actions = take a A; charts = C; parts = P; part = p }

    module _ (C : List Chart) (P : List (List Event)) where
      message_comes : (p : List Event) (n m a : ℕ) {s r : List ℕ} → n ≤ m → max m (suc n) ≤ length M → Cut ws (name (get_or M n [])) s r → (pl : ℕ) → Comes (message_at ws (state m a C P p) pl s) (state (max m (suc n)) a C P p, n) r
      message_comes p n m a = table_comes ws v (λ xs. record { instances = I; messages = xs; actions = take a A; charts = C; parts = P; part = p }) M n m dm lm

      action_comes : (p : List Event) (n m a : ℕ) {s r : List ℕ} → n ≤ a → max a (suc n) ≤ length A → Cut ws (name (get_or A n [])) s r → (pl : ℕ) → Comes (action_at ws (state m a C P p) pl s) (state m (max a (suc n)) C P p, n) r
      action_comes p n m a = table_comes ws v (λ xs. record { instances = I; messages = take m M; actions = xs; charts = C; parts = P; part = p }) A n a da la

      -- name, to or from, partner, semicolon
      message_event_comes : (k : Keyword) (made : ℕ → ℕ → Event) (i : ℕ) (p : List Event) (n q m a : ℕ) {s r : List ℕ} → n ≤ m → max m (suc n) ≤ length M → (ltb q (length I) && not (eqb q i)) ≡ true
          → Takes ws (name (get_or M n []) ∷ word k ∷ name (get_or I q []) ∷ sign Semi ∷ []) s r → (pl : ℕ) → Comes (message_event_at ws k made i (state m a C P p) pl s) (state (max m (suc n)) a C P (p ++ made n q ∷ [])) r
      message_event_comes k made i p n q m a le lim h (then c (then c' (then c'' (then c''' done)))) pl =
          let (x, y) = and_parts (ltb q (length I)) (not (eqb q i)) h in
          let at : place I (get_or I q []) ≡ Some q = place_found 0 I q di (ltb-true _ _ x) ∙ ap Some (omega arith) in
          and_then_lem _ _ (message_comes p n m a le lim c pl) λ pl.
          and_then_lem _ _ (word_comes ws v k c' pl) λ pl.
          and_then_lem _ _ (let (u, e) = old_name_comes ws v I q c'' at pl in and_then_lem _ _ e λ pl. comes_unless _ _ _ (not-true _ y) (pl, refl)) λ pl.
          and_then_lem _ _ (sign_comes ws v Semi c''' pl) λ pl. (pl, refl)

      action_event_comes : (p : List Event) (n m a : ℕ) {s r : List ℕ} → n ≤ a → max a (suc n) ≤ length A → Takes ws (name (get_or A n []) ∷ sign Semi ∷ []) s r → (pl : ℕ) → Comes (action_event_at ws (state m a C P p) pl s) (state m (max a (suc n)) C P (p ++ Action n ∷ [])) r
      action_event_comes p n m a le lim (then c (then c' done)) pl =
          and_then_lem _ _ (action_comes p n m a le lim c pl) λ pl.
          and_then_lem _ _ (sign_comes ws v Semi c' pl) λ pl. (pl, refl)

      room_has : (p : List Event) (m a : ℕ) → length (flat_map (λ x. x) P) + length p < 64 → length (all_events C) + (length (flat_map (λ x. x) P) + length p) < 1024 → has_room ws (state m a C P p) ≡ true
      room_has p m a h k =
          let l = length-append (flat_map (λ x. x) P) p in
          and_from _ _ (lt-ltb (length (flat_map (λ x. x) P ++ p)) 64 (omega arith)) (lt-ltb (length (all_events C) + length (flat_map (λ x. x) P ++ p)) 1024 (omega arith))

      has_room_out_lem : (p : List Event) (m a : ℕ) → length (flat_map (λ x. x) P) + length p < 64 → length (all_events C) + (length (flat_map (λ x. x) P) + length p) < 1024 → out_count (flat_map (λ x. x) P) + out_count p < 32 → has_room_out ws (state m a C P p) ≡ true
      has_room_out_lem p m a h k o =
          let l = outs_append (flat_map (λ x. x) P) p in
          and_from _ _ (room_has p m a h k) (lt-ltb (out_count (flat_map (λ x. x) P ++ p)) 32 (omega arith))

      -- one event, with the numbers of names that it leaves: its name is one of those seen or the next, and the limits leave room
      event_comes : (e : Event) (i : ℕ) (p : List Event) (m a : ℕ) (fut : List Event) {s r : List ℕ} → partner (length I) i e ≡ true → numbered (length M) (length A) m a (e ∷ fut) ≡ true
          → length (flat_map (λ x. x) P) + length p < 64 → length (all_events C) + (length (flat_map (λ x. x) P) + length p) < 1024 → out_count (flat_map (λ x. x) P) + out_count p + out_count (e ∷ []) ≤ 32
          → Takes ws (event_tokens I M A e) s r
          → (m' a' : ℕ) × (numbered (length M) (length A) m' a' fut ≡ true) × ((pl : ℕ) → Comes (event_turn ws i (state m a C P p) pl s) (state m' a' C P (p ++ e ∷ []), false) r)
      event_comes (Out n q) i p m a fut {s} {r} pa nu h k o (then c t) =
          let (x, y) = and_parts (leb n m) (numbered (length M) (length A) (max m (suc n)) a fut) nu in
          let lim = (numbers_in (length M) (length A) fut (max m (suc n)) a y).1 in (
            max m (suc n),
            a,
            y,
            λ pl. let (u, e) = next_comes ws v (word keyword.Out) c pl in
                and_then_lem (next_of ws pl s) _ e λ pl. comes_when _ _ _ (has_room_out_lem p m a h k (omega arith))
                (and_then_lem _ _ (message_event_comes keyword.To Out i p n q m a (leb-true n m x) lim pa t pl) λ pl. (pl, refl)),
          )
      event_comes (In n q) i p m a fut {s} {r} pa nu h k o (then c t) =
          let (x, y) = and_parts (leb n m) (numbered (length M) (length A) (max m (suc n)) a fut) nu in
          let lim = (numbers_in (length M) (length A) fut (max m (suc n)) a y).1 in (
            max m (suc n),
            a,
            y,
            λ pl. let (u, e) = next_comes ws v (word keyword.In) c pl in
                and_then_lem (next_of ws pl s) _ e λ pl. comes_when _ _ _ (room_has p m a h k)
                (and_then_lem _ _ (message_event_comes keyword.From In i p n q m a (leb-true n m x) lim pa t pl) λ pl. (pl, refl)),
          )
      event_comes (Action n) i p m a fut {s} {r} pa nu h k o (then c t) =
          let (x, y) = and_parts (leb n a) (numbered (length M) (length A) m (max a (suc n)) fut) nu in
          let lim = (numbers_in (length M) (length A) fut m (max a (suc n)) y).2 in (
            m,
            max a (suc n),
            y,
            λ pl. let (u, e) = next_comes ws v (word keyword.Action) c pl in
                and_then_lem (next_of ws pl s) _ e λ pl. comes_when _ _ _ (room_has p m a h k)
                (and_then_lem _ _ (action_event_comes p n m a (leb-true n a x) lim t pl) λ pl. (pl, refl)),
          )

      -- the events of a block, up to the word endinstance
      events_come : (es : List Event) (i : ℕ) (p : List Event) (m a n : ℕ) (fut : List Event) {s r : List ℕ} → length es ≤ n → every (partner (length I) i) es ≡ true → numbered (length M) (length A) m a (es ++ fut) ≡ true
          → length (flat_map (λ x. x) P) + length p + length es ≤ 64 → length (all_events C) + (length (flat_map (λ x. x) P) + length p) + length es ≤ 1024 → out_count (flat_map (λ x. x) P) + out_count p + out_count es ≤ 32
          → Takes ws (flat_map (event_tokens I M A) es ++ (word keyword.Endinstance ∷ [])) s r
          → (m' a' : ℕ) × (numbered (length M) (length A) m' a' fut ≡ true) × ((pl : ℕ) → Comes (repeat (event_turn ws i) (suc n) (state m a C P p) pl s) (state m' a' C P (p ++ es)) r)
      events_come [] i p m a n fut {s} l pa nu h k o (then c done) = (
        m,
        a,
        nu,
        λ pl. let (u, e) = next_comes ws v (word keyword.Endinstance) c pl in
            comes_as (ap (state m a C P) (sym (append-nil p))) (turn_last (event_turn ws i) n (state m a C P p) pl s (and_then_lem (next_of ws pl s) _ e λ pl. (pl, refl))),
      )
      events_come (x ∷ es) i p m a zero fut l pa nu h k o t = absurd (omega arith)
      events_come (x ∷ es) i p m a (suc n) fut {s} l pa nu h k o t =
          let (s', t1, t2) = takes-split ws (event_tokens I M A x) (takes_as ws (append_assoc (event_tokens I M A x) (flat_map (event_tokens I M A) es) (word keyword.Endinstance ∷ [])) t) in
          let (pa1, pa2) = and_parts (partner (length I) i x) (every (partner (length I) i) es) pa in
          let o1 = outs_append (x ∷ []) es in
          let (m1, a1, nu1, one) = event_comes x i p m a (es ++ fut) pa1 nu (omega arith) (omega arith) (omega arith) t1 in
          let l2 = length-append p (x ∷ []) in
          let o2 = outs_append p (x ∷ []) in
          let (m2, a2, nu2, more) = events_come es i (p ++ x ∷ []) m1 a1 n fut (omega arith) pa2 nu1 (omega arith) (omega arith) (omega arith) t2 in
          (m2, a2, nu2, λ pl. comes_as (ap (state m2 a2 C P) (append_assoc p (x ∷ []) es)) (turn_more (event_turn ws i) (suc n) (state m a C P p) pl s (state m1 a1 C P (p ++ x ∷ [])) (one pl) more))

    module _ (C : List Chart) where
      -- name ; events endinstance ;
      block_comes : (p : List Event) (i m a : ℕ) (P : List (List Event)) (fut : List Event) {s r : List ℕ} → length P ≤ i → i < length I → every (partner (length I) i) p ≡ true → numbered (length M) (length A) m a (p ++ fut) ≡ true
          → length (flat_map (λ x. x) (padded i P)) + length p ≤ 64 → length (all_events C) + length (flat_map (λ x. x) (padded i P)) + length p ≤ 1024 → out_count (flat_map (λ x. x) (padded i P)) + out_count p ≤ 32
          → Takes ws (name (get_or I i []) ∷ sign Semi ∷ (flat_map (event_tokens I M A) p ++ (word keyword.Endinstance ∷ sign Semi ∷ []))) s r
          → (m' a' : ℕ) × (numbered (length M) (length A) m' a' fut ≡ true) × ((pl : ℕ) → Comes (block_at ws (state m a C P []) pl s) (state m' a' C (padded i P ++ (p ∷ [])) []) r)
      block_comes p i m a P fut l li pa nu h k o (then c (then c' t)) =
          let (x, y, t1, ce, t2) = takes_mid ws (flat_map (event_tokens I M A) p) t in
          let at : place I (get_or I i []) ≡ Some i = place_found 0 I i di li ∙ ap Some (omega arith) in
          let (m1, a1, nu1, all) = events_come C (padded i P) p i [] m a 64 fut (omega arith) pa nu (omega arith) (omega arith) (omega arith) (takes_join ws t1 (then ce done)) in (
            m1,
            a1,
            nu1,
            λ pl.
                let (u, e) = old_name_comes ws v I i c at pl in
                and_then_lem _ _ e λ pl. comes_unless _ _ _ (le-ltb i (length P) l)
                (and_then_lem _ _ (sign_comes ws v Semi c' pl) λ pl.
                and_then_lem _ _ (all pl) λ pl.
                and_then_lem _ _ (sign_comes ws v Semi (takes_one ws t2) pl) λ pl. (pl, refl)),
          )

      -- blocks, up to the word endmsc. By the parts from instance i on: P are the parts that the draft has closed, and padded to i they are all parts ahead of i.
      -- A part that is left out lengthens the padding; a block closes the parts up to its own. Each turn takes one block, so that length ps turns and one more are enough.
      blocks_come : (ps : List (List Event)) (i m a n : ℕ) (P : List (List Event)) (us : List Tok) (fut : List Event) {s r : List ℕ} → length P ≤ i → length ps ≤ n → Blocks I M A i ps us → parts (length I) i ps ≡ true
          → numbered (length M) (length A) m a (flat_map (λ x. x) ps ++ fut) ≡ true
          → length (flat_map (λ x. x) (padded i P)) + length (flat_map (λ x. x) ps) ≤ 64 → length (all_events C) + length (flat_map (λ x. x) (padded i P)) + length (flat_map (λ x. x) ps) ≤ 1024 → out_count (flat_map (λ x. x) (padded i P)) + out_count (flat_map (λ x. x) ps) ≤ 32
          → Takes ws (us ++ (word keyword.Endmsc ∷ [])) s r
          → (m' a' : ℕ) × (P' : List (List Event)) × (padded (i + length ps) P' ≡ padded i P ++ ps) × (numbered (length M) (length A) m' a' fut ≡ true) × ((pl : ℕ) → Comes (repeat (block_turn ws) (suc n) (state m a C P []) pl s) (state m' a' C P' []) r)
      blocks_come [] i m a n P us fut {s} lp l b pa nu h k o t =
          let c = takes_one ws (takes_as ws (ap (λ us. us ++ (word keyword.Endmsc ∷ [])) b) t) in
          let e0 : i + 0 ≡ i = omega arith in (
            m,
            a,
            P,
            ap (λ i. padded i P) e0 ∙ sym (append-nil (padded i P)),
            nu,
            λ pl.
                let (u, e) = next_comes ws v (word keyword.Endmsc) c pl in
                turn_last (block_turn ws) n (state m a C P []) pl s (and_then_lem (next_of ws pl s) _ e λ pl. (pl, refl)),
          )
      blocks_come ([] ∷ ps) i m a n P us fut lp l (inl (z, b)) pa nu h k o t =
          let y = (and_parts (cond (ltb i (length I)) true true) (parts (length I) (suc i) ps) pa).1 in
          let same : flat_map (λ x. x) (padded (suc i) P) ≡ flat_map (λ x. x) (padded i P) = ap (flat_map (λ x. x)) (padded_more i P lp) ∙ events_push (padded i P) [] ∙ append-nil (flat_map (λ x. x) (padded i P)) in
          let len = ap length same in
          let out = ap out_count same in
          let (m1, a1, P1, e, nu1, all) = blocks_come ps (suc i) m a n P us fut (omega arith) (omega arith) b y nu (omega arith) (omega arith) (omega arith) t in
          let e0 : i + suc (length ps) ≡ suc i + length ps = omega arith in
          (m1, a1, P1, ap (λ j. padded j P1) e0 ∙ e ∙ ap (λ x. x ++ ps) (padded_more i P lp) ∙ append_assoc (padded i P) ([] ∷ []) ps, nu1, all)
      blocks_come ((x ∷ xs) ∷ ps) i m a n P us fut lp l (inl (z, b)) pa nu h k o t = absurd (omega (arith, ap length z))
      blocks_come (p ∷ ps) i m a zero P us fut lp l (inr b) pa nu h k o t = absurd (omega arith)
      blocks_come (p ∷ ps) i m a (suc n) P us fut {s} lp l (inr (vs, li, e, b)) pa nu h k o t =
          let block = block_tokens I M A i p in
          let fin = word keyword.Endmsc ∷ [] in
          let (x, tb, tv) = takes-split ws block (takes_as ws (ap (λ us. us ++ fin) e ∙ append_assoc block vs fin) t) in
          let (s1, c, t1) = takes_head ws tb in
          let (pa1, pa2) = and_parts (every (partner (length I) i) p) (cond (ltb i (length I)) true (eqb (length p) 0) && parts (length I) (suc i) ps) pa in
          let pa3 = (and_parts (cond (ltb i (length I)) true (eqb (length p) 0)) (parts (length I) (suc i) ps) pa2).1 in
          let lj = length-append p (flat_map (λ x. x) ps) in
          let oj = outs_append p (flat_map (λ x. x) ps) in
          let nu0 = ap (numbered (length M) (length A) m a) (sym (append_assoc p (flat_map (λ x. x) ps) fut)) ∙ nu in
          let (m1, a1, nu1, one) = block_comes p i m a P (flat_map (λ x. x) ps ++ fut) lp li pa1 nu0 (omega (arith, lj, h)) (omega (arith, lj, k)) (omega (arith, oj, o)) t1 in
          let P1 = padded i P ++ (p ∷ []) in
          let lp1 : length P1 ≡ suc i = length-append (padded i P) (p ∷ []) ∙ (let z = length-padded i P lp in omega arith) in
          let full = padded_full (suc i) P1 lp1 in
          let same : flat_map (λ x. x) (padded (suc i) P1) ≡ flat_map (λ x. x) (padded i P) ++ p = ap (flat_map (λ x. x)) full ∙ events_push (padded i P) p in
          let len = ap length same ∙ length-append (flat_map (λ x. x) (padded i P)) p in
          let out = ap out_count same ∙ outs_append (flat_map (λ x. x) (padded i P)) p in
          let (m2, a2, P2, eq, nu2, more) = blocks_come ps (suc i) m1 a1 n P1 vs fut (omega (arith, lp1)) (omega (arith, l)) b pa3 nu1 (omega (arith, lj, h, len)) (omega (arith, lj, k, len)) (omega (arith, oj, o, out)) tv in
          let e0 : i + suc (length ps) ≡ suc i + length ps = omega arith in (
            m2,
            a2,
            P2,
            ap (λ j. padded j P2) e0 ∙ eq ∙ ap (λ x. x ++ ps) full ∙ append_assoc (padded i P) (p ∷ []) ps,
            nu2,
            λ pl.
                let (u, g) = next_comes ws v (word keyword.Instance) c pl in
                turn_more (block_turn ws) (suc n) (state m a C P []) pl s (state m1 a1 C P1 []) (and_then_lem (next_of ws pl s) _ g λ pl. and_then_lem _ _ (one pl) λ pl. (pl, refl)) more,
          )

    -- a chart does not begin with the word expr
    peek : (ps : List (List Event)) (i : ℕ) (us vs : List Tok) {s r : List ℕ} → Blocks I M A i ps us → Takes ws (us ++ (word keyword.Endmsc ∷ vs)) s r → (t : Tok) × (m : List ℕ) × Cut ws t s m × (is_key keyword.Expr t ≡ false)
    peek [] i us vs b t = let (m, c, k) = takes_head ws (takes_as ws (ap (λ us. us ++ (word keyword.Endmsc ∷ vs)) b) t) in (word keyword.Endmsc, m, c, refl)
    peek (p ∷ ps) i us vs (inl (z, b)) t = peek ps (suc i) us vs b t
    peek (p ∷ ps) i us vs (inr (xs, l, e, b)) t = let (m, c, k) = takes_head ws (takes_as ws (ap (λ us. us ++ (word keyword.Endmsc ∷ vs)) e) t) in (word keyword.Instance, m, c, refl)

    -- blocks endmsc ; msc
    chart_comes : (c : Chart) (m a : ℕ) (C : List Chart) (us : List Tok) (fut : List Event) {s r : List ℕ} → chart (length I) c ≡ true → Blocks I M A 0 c.parts us → numbered (length M) (length A) m a (chart_events c ++ fut) ≡ true
        → length (all_events C) + length (chart_events c) ≤ 1024 → Takes ws (us ++ (word keyword.Endmsc ∷ sign Semi ∷ [])) s r
        → (m' a' : ℕ) × (numbered (length M) (length A) m' a' fut ≡ true) × ((x : List ℕ) → Cut ws (word keyword.Msc) r x → (pl : ℕ) → Comes (chart_at ws (state m a C [] []) c.name pl s) (state m' a' (C ++ (c ∷ [])) [] []) x)
    chart_comes c m a C us fut ch b nu k t =
        let limits = leb (length (chart_events c)) 64 && leb (out_count (chart_events c)) 32 in
        let (e8, q) = and_parts (eqb (length c.parts) 8) (parts (length I) 0 c.parts && limits) ch in
        let (pa, q2) = and_parts (parts (length I) 0 c.parts) limits q in
        let (q3, q4) = and_parts (leb (length (chart_events c)) 64) (leb (out_count (chart_events c)) 32) q2 in
        let eight = eqb-true (length c.parts) 8 e8 in
        let l64 = leb-true (length (chart_events c)) 64 q3 in
        let l32 = leb-true (out_count (chart_events c)) 32 q4 in
        let (x, y, t1, ce, t2) = takes_mid ws us t in
        let cs = takes_one ws t2 in
        let (m1, a1, P1, eq, nu1, all) = blocks_come C c.parts 0 m a 8 [] us fut (omega arith) (omega (arith, eight)) b pa nu (omega (arith, l64)) (omega (arith, k)) (omega (arith, l32)) (takes_join ws t1 (then ce done)) in
        let e0 : 0 + length c.parts ≡ 8 = omega (arith, eight) in
        let whole : padded 8 P1 ≡ c.parts = ap (λ j. padded j P1) (sym e0) ∙ eq in (
          m1,
          a1,
          nu1,
          λ x cm pl.
              comes_as (ap (λ ps. state m1 a1 (C ++ (record { name = c.name; parts = ps } ∷ [])) [] []) whole)
              (and_then_lem _ _ (all pl) λ pl.
              and_then_lem _ _ (sign_comes ws v Semi cs pl) λ pl.
              and_then_lem _ _ (word_comes ws v keyword.Msc cm pl) λ pl. (pl, refl)),
        )

    -- charts and the graph's name, from the word msc to the word expr: by the charts still to come, with C already declared. The word msc behind a chart is read with it,
    -- so that the text of the charts is taken at s₀, ahead of the word msc, and the turns begin at s, behind it.
    pub charts_come : (cs C : List Chart) (m a n : ℕ) (g g' : List ℕ) (vs : List Tok) {s₀ r : List ℕ} → length cs ≤ n → length C + length cs ≤ 64 → distinct (chart_names C ++ (chart_names cs ++ (g ∷ []))) ≡ true
        → every (chart (length I)) cs ≡ true → numbered (length M) (length A) m a (all_events cs) ≡ true → length (all_events C) + length (all_events cs) ≤ 1024 → ChartForms I M A cs vs
        → Takes ws (vs ++ (word keyword.Msc ∷ name g ∷ sign Semi ∷ word keyword.Expr ∷ [])) s₀ r
        → (s : List ℕ) × Cut ws (word keyword.Msc) s₀ s × ((pl : ℕ) → Comes (repeat (chart_turn ws) (suc n) (state m a C [] [], g') pl s) (state (length M) (length A) (C ++ cs) [] [], g) r)
    charts_come [] C m a n g g' vs l l64 d ch nu k f t =
        let (s, c, t1) = takes_head ws (takes_as ws (ap (λ vs. vs ++ (word keyword.Msc ∷ name g ∷ sign Semi ∷ word keyword.Expr ∷ [])) f) t) in
        let (s1, c1, t2) = takes_head ws t1 in
        let (s2, c2, c3) = takes_two ws t2 in
        let (x, y) = and_parts (eqb m (length M)) (eqb a (length A)) nu in
        let end_is : ◌≡◌ {A = Draft × List ℕ} (state m a C [] [], g) (state (length M) (length A) (C ++ []) [] [], g) =
        ap (λ m. (state m a C [] [], g)) (eqb-true m (length M) x) ∙ ap (λ a. (state (length M) a C [] [], g)) (eqb-true a (length A) y) ∙ ap (λ C. (state (length M) (length A) C [] [], g)) (sym (append-nil C)) in (
          s,
          c,
          λ pl. comes_as end_is (turn_last (chart_turn ws) n (state m a C [] [], g') pl s
              (and_then_lem _ _ (new_name_comes ws v (chart_names C) c1 (distinct_at (chart_names C) g [] d) pl) λ pl.
              and_then_lem _ _ (sign_comes ws v Semi c2 pl) λ pl.
              let (u, e) = next_comes ws v (word keyword.Expr) c3 pl in and_then_lem _ _ e λ pl. (pl, refl))),
        )
    charts_come (c ∷ cs) C m a zero g g' vs l l64 d ch nu k f t = absurd (omega arith)
    charts_come (c ∷ cs) C m a (suc n) g g' vs l l64 d ch nu k (us, xs, (bs, b, e), f, ev) t =
        let tail = word keyword.Msc ∷ name g ∷ sign Semi ∷ word keyword.Expr ∷ [] in
        let form = word keyword.Msc ∷ name c.name ∷ sign Semi ∷ (bs ++ (word keyword.Endmsc ∷ sign Semi ∷ [])) in
        let (y, tf, tr) = takes-split ws form (takes_as ws (ap (λ vs. vs ++ tail) (ev ∙ ap (λ us. us ++ xs) e) ∙ append_assoc form xs tail) t) in
        let (s, c0, t1) = takes_head ws tf in
        let (s1, c1, t2) = takes_head ws t1 in
        let (s2, c2, t3) = takes_head ws t2 in
        let (ch1, ch2) = and_parts (chart (length I) c) (every (chart (length I)) cs) ch in
        let lk = length-append (chart_events c) (all_events cs) in
        let (m1, a1, nu1, one) = chart_comes c m a C bs (all_events cs) ch1 b nu (omega (arith, lk, k)) t3 in
        let C1 = C ++ (c ∷ []) in
        let lc = length-append C (c ∷ []) in
        let names1 : chart_names C1 ++ (chart_names cs ++ (g ∷ [])) ≡ chart_names C ++ (chart_names (c ∷ cs) ++ (g ∷ [])) =
        ap (λ ns. ns ++ (chart_names cs ++ (g ∷ []))) (chart_names_append C (c ∷ [])) ∙ append_assoc (chart_names C) (c.name ∷ []) (chart_names cs ++ (g ∷ [])) in
        let evs = ap length (joined_append chart_events C (c ∷ [])) ∙ length-append (all_events C) (chart_events c ++ []) ∙ ap (λ x. length (all_events C) + length x) (append-nil (chart_events c)) in
        let (s3, c3, more) = charts_come cs C1 m1 a1 n g g' xs (omega (arith, l)) (omega (arith, l64, lc)) (ap distinct names1 ∙ d) ch2 nu1 (omega (arith, lk, k, evs)) f tr in
        let (pt, ps, pc, pe) = peek c.parts 0 bs (sign Semi ∷ []) b t3 in (
          s,
          c0,
          λ pl.
              comes_as (ap (λ C. (state (length M) (length A) C [] [], g)) (append_assoc C (c ∷ []) cs))
              (turn_more (chart_turn ws) (suc n) (state m a C [] [], g') pl s (state m1 a1 C1 [] [], g')
              (and_then_lem _ _ (new_name_comes ws v (chart_names C) c1 (distinct_at (chart_names C) c.name (chart_names cs ++ (g ∷ [])) d) pl) λ pl.
              and_then_lem _ _ (sign_comes ws v Semi c2 pl) λ pl.
              let (u, e) = next_comes ws v pt pc pl in
              and_then_lem _ _ e λ _.
              comes_unless _ _ _ pe
              (comes_when _ _ _ (lt-ltb (length C) 64 (omega (arith, l64)))
              (and_then_lem _ _ (one s3 c3 pl) λ pl. (pl, refl))))
              more),
        )
