-- No spelling of tokens is shorter than the one with the fewest spaces, and no form of a document than the one without empty blocks. Assumes nothing.
use Rattle.std.proofs.Common.{◌≡◌, ℕ, suc, ◌+◌, ◌≤◌, Bool, true, false, cond, ◌&&◌, eqb, ltb, List, [], ◌∷◌, ◌++◌, length, sym, refl, ap, ◌∙◌, subst, inl, inr, arith, length-append}
use Rattle.std.specs.List.{flat_map, prefix_len}
use Rattle.std.proofs.lemmas.Bool.{false≢true, and_parts, or_left, cond-true}
use Rattle.msc.specs.Doc.{Doc, Chart}
use Rattle.msc.specs.Shortest.{inst_tokens, event_tokens, block_tokens, parts_tokens, chart_tokens, graph_tokens, doc_tokens, text_of}
use Rattle.msc.specs.Spelling.{wordy, letter, inner, is_word, is_vocabulary}
use Rattle.msc.specs.Tokens.{Tok, name, word, sign, end, spelled, is_word_tok, gap, spell_from}
use Rattle.msc.specs.declared.event.Event.{Event}
use Rattle.msc.specs.declared.symbol.Symbol.TheVariants.{Semi}
use Rattle.msc.specs.declared.words.Keyword.TheVariants as keyword
use Rattle.forms.specs.Writes.{Spelled, Blocks, ChartForm, ChartForms, Form}
use Rattle.forms.proofs.Cuts.{Good, key_word}
use Rattle.forms.proofs.Takes.{AllGood}

-- a word begins with a byte of a word
word_first : (w r : List ℕ) → is_word w ≡ true → prefix_len wordy (w ++ r) ≡ 0 → ⊥
word_first [] r h e = false≢true h
word_first (b ∷ w) r h e =
    let first = (and_parts (letter b) (eqb (prefix_len wordy w) (length w) && ltb (length w) 16) h).0 in
    let k : prefix_len wordy (b ∷ (w ++ r)) ≡ 1 + prefix_len wordy (w ++ r) = cond-true (wordy b) (1 + prefix_len wordy (w ++ r)) 0 (or_left (letter b) (inner b) first) in
    omega (arith, e, k)

module _ (ws : List (List ℕ)) (v : is_vocabulary ws ≡ true) where
  good_word : (t : Tok) → Good ws t → is_word_tok t ≡ true → is_word (spelled ws t) ≡ true
  good_word (name w) g h = (and_parts _ _ g).0
  good_word (word k) g h = key_word ws v k
  good_word (sign x) g h = absurd (false≢true h)
  good_word end g h = absurd g

  -- a separator must stand where a word follows a word
  gap_least : (after w : Bool) (x b : List ℕ) → (w ≡ true → is_word x ≡ true) → (r : List ℕ) → (after ≡ true → prefix_len wordy (b ++ (x ++ r)) ≡ 0) → length {A = ℕ} (cond (after && w) (32 ∷ []) []) ≤ length b
  gap_least false w x b h r stop = omega arith
  gap_least true false x b h r stop = omega arith
  gap_least true true x [] h r stop = absurd (word_first x r (h refl) (stop refl))
  gap_least true true x (y ∷ b) h r stop = omega arith

  pub least : (ts : List Tok) (after : Bool) (s : List ℕ) → AllGood ws ts → (after ≡ true → prefix_len wordy s ≡ 0) → Spelled ws s ts → length (spell_from ws after ts) ≤ length s
  least [] after s g stop h = omega arith
  least (t ∷ ts) after s g stop (b, r, h, e, a, k) =
      let one : length (gap after t) ≤ length b = gap_least after (is_word_tok t) (spelled ws t) b (good_word t g.0) r (λ z. ap (prefix_len wordy) (sym e) ∙ stop z) in
      let more : length (spell_from ws (is_word_tok t) ts) ≤ length r = least ts (is_word_tok t) r g.1 a k in
      let whole : length s ≡ length b + (length (spelled ws t) + length r) = ap length e ∙ length-append b (spelled ws t ++ r) ∙ ap (λ n. length b + n) (length-append (spelled ws t) r) in
      let here : length (spell_from ws after (t ∷ ts)) ≡ length (gap after t) + (length (spelled ws t) + length (spell_from ws (is_word_tok t) ts)) =
      length-append (gap after t) (spelled ws t ++ spell_from ws (is_word_tok t) ts) ∙ ap (λ n. length (gap after t) + n) (length-append (spelled ws t) (spell_from ws (is_word_tok t) ts)) in
      omega (arith, one, more, whole, here)

-- whether a word stands at the end of tokens
abbrev after-all : Bool → List Tok → Bool
after-all b [] = b
after-all b (t ∷ ts) = after-all (is_word_tok t) ts

after_join : (b : Bool) (ts us : List Tok) → after-all b (ts ++ us) ≡ after-all (after-all b ts) us
after_join b [] us = refl
after_join b (t ∷ ts) us = after_join (is_word_tok t) ts us

module _ (ws : List (List ℕ)) where
  abbrev size : Bool → List Tok → ℕ
  size b ts = length (spell_from ws b ts)

  size_step : (b : Bool) (t : Tok) (ts : List Tok) → size b (t ∷ ts) ≡ length (gap b t) + (length (spelled ws t) + size (is_word_tok t) ts)
  size_step b t ts = length-append (gap b t) (spelled ws t ++ spell_from ws (is_word_tok t) ts) ∙ ap (λ n. length (gap b t) + n) (length-append (spelled ws t) (spell_from ws (is_word_tok t) ts))

  size_join : (b : Bool) (ts us : List Tok) → size b (ts ++ us) ≡ size b ts + size (after-all b ts) us
  size_join b [] us = omega arith
  size_join b (t ∷ ts) us =
      let k = size_join (is_word_tok t) ts us in
      let l = size_step b t (ts ++ us) in
      let r = size_step b t ts in
      omega (arith, k, l, r)

  -- tokens that end in a symbol, the first no longer than the second
  pub record Shorter (ts us : List Tok) : Type 0 where
    pub less : size false ts ≤ size false us
    pub ends : after-all false ts ≡ false
    pub ends' : after-all false us ≡ false

  same : (ts : List Tok) → after-all false ts ≡ false → Shorter ts ts
  same ts h = record { less = omega arith; ends = h; ends' = h }

  join : (ts us ts' us' : List Tok) → Shorter ts us → Shorter ts' us' → Shorter (ts ++ ts') (us ++ us')
  join ts us ts' us' h k =
      let l : size false (ts ++ ts') ≡ size false ts + size false ts' = size_join false ts ts' ∙ ap (λ b. size false ts + size b ts') h.ends in
      let r : size false (us ++ us') ≡ size false us + size false us' = size_join false us us' ∙ ap (λ b. size false us + size b us') h.ends' in
      record {
        less = omega (arith, l, r, h.less, k.less);
        ends = after_join false ts ts' ∙ ap (λ b. after-all b ts') h.ends ∙ k.ends;
        ends' = after_join false us us' ∙ ap (λ b. after-all b us') h.ends' ∙ k.ends';
      }

  -- a longer one still
  beyond : (ts us vs : List Tok) → Shorter ts us → after-all false vs ≡ false → Shorter ts (vs ++ us)
  beyond ts us vs h e = record { less = omega (arith, (join [] [] vs vs (same [] refl) (same vs e)).less, h.less, size_join false vs us ∙ ap (λ b. size false vs + size b us) e); ends = h.ends; ends' = after_join false vs us ∙ ap (λ b. after-all b us) e ∙ h.ends' }

  module _ (I M A : List (List ℕ)) where
    block_ends : (i : ℕ) (es : List Event) → after-all false (block_tokens I M A i es) ≡ false
    block_ends i es = after_join false (flat_map (event_tokens I M A) es) _

    blocks_shorter : (ps : List (List Event)) (i : ℕ) (us : List Tok) → Blocks I M A i ps us → Shorter (parts_tokens I M A i ps) us
    blocks_shorter [] i us e = subst (Shorter []) (sym e) (same [] refl)
    blocks_shorter ([] ∷ ps) i us (inl (z, k)) = blocks_shorter ps (suc i) us k
    blocks_shorter ((e ∷ es) ∷ ps) i us (inl (z, k)) = absurd (omega (arith, ap length z))
    blocks_shorter ([] ∷ ps) i us (inr (vs, l, e, k)) = subst (Shorter (parts_tokens I M A (suc i) ps)) (sym e) (beyond _ _ (block_tokens I M A i []) (blocks_shorter ps (suc i) vs k) (block_ends i []))
    blocks_shorter ((x ∷ xs) ∷ ps) i us (inr (vs, l, e, k)) =
        let b = block_tokens I M A i (x ∷ xs) in
        subst (Shorter (b ++ parts_tokens I M A (suc i) ps)) (sym e) (join b b _ _ (same b (block_ends i (x ∷ xs))) (blocks_shorter ps (suc i) vs k))

    chart_shorter : (c : Chart) (us : List Tok) → ChartForm I M A c us → Shorter (chart_tokens I M A c) us
    chart_shorter c us (bs, k, e) =
        let head = word keyword.Msc ∷ name c.name ∷ sign Semi ∷ [] in
        let tail = word keyword.Endmsc ∷ sign Semi ∷ [] in
        subst (Shorter (chart_tokens I M A c)) (sym e) (join head head _ _ (same head refl) (join (parts_tokens I M A 0 c.parts) bs tail tail (blocks_shorter c.parts 0 bs k) (same tail refl)))

    charts_shorter : (cs : List Chart) (us : List Tok) → ChartForms I M A cs us → Shorter (flat_map (chart_tokens I M A) cs) us
    charts_shorter [] us e = subst (Shorter []) (sym e) (same [] refl)
    charts_shorter (c ∷ cs) us (vs, xs, h, k, e) = subst (Shorter _) (sym e) (join _ vs _ xs (chart_shorter c vs h) (charts_shorter cs xs k))

  insts_end : (ns : List (List ℕ)) → after-all false (flat_map inst_tokens ns) ≡ false
  insts_end [] = refl
  insts_end (n ∷ ns) = insts_end ns

  graph_end : (d : Doc) → after-all false (graph_tokens d ++ (word keyword.Endmscdocument ∷ sign Semi ∷ [])) ≡ false
  graph_end d = after_join false (graph_tokens d) _

  pub form_shorter : (d : Doc) (ts : List Tok) → Form ts d → Shorter (doc_tokens d) ts
  form_shorter d ts (us, k, e) =
      let head = word keyword.Mscdocument ∷ name d.title ∷ sign Semi ∷ [] in
      let insts = flat_map inst_tokens d.instances in
      let tail = graph_tokens d ++ (word keyword.Endmscdocument ∷ sign Semi ∷ []) in
      subst (Shorter (doc_tokens d)) (sym e)
      (join head head _ _ (same head refl)
      (join insts insts _ _ (same insts (insts_end d.instances))
      (join _ us tail tail (charts_shorter d.instances d.messages d.actions d.charts us k) (same tail (graph_end d)))))

pub shortest : (d : Doc) → is_vocabulary d.words ≡ true → (text : List ℕ) (ts : List Tok) → Form ts d → AllGood d.words ts → Spelled d.words text ts → length (text_of d) ≤ length text
unfolding text_of
shortest d v text ts f g s =
    let a = least d.words v ts false text g (λ z. absurd (false≢true z)) s in
    let b = (form_shorter d.words d ts f).less in
    omega (arith, a, b)
