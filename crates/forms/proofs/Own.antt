-- The shortest text of a document is a writing of it. Assumes nothing.
use Rattle.std.proofs.Common.{◌≡◌, ℕ, suc, Bool, true, false, cond, ◌&&◌, eqb, ltb, leb, List, [], ◌∷◌, length, refl, ap, ◌∙◌, inl, inr, arith}
use Rattle.std.specs.List.{flat_map, prefix_len}
use Rattle.std.proofs.lemmas.Bool.{and_parts, eqb-true, ltb-true}
use Rattle.msc.specs.Doc.{Doc, Chart, chart_events, out_count}
use Rattle.msc.specs.Shortest.{parts_tokens, chart_tokens, doc_tokens, text_of}
use Rattle.msc.specs.Sound.{partner, parts, chart}
use Rattle.msc.specs.Spelling.{wordy, every}
use Rattle.msc.specs.Tokens.{Tok, name, word, sign, end, is_word_tok, gap, spell_from}
use Rattle.msc.specs.declared.event.Event.{Event}
use Rattle.msc.specs.declared.symbol.Symbol.TheVariants.{Open, Close, Colon, Semi}
use Rattle.forms.specs.Writes.{Blank, Spelled, Blocks, ChartForms, Form, Writes}
use Rattle.forms.proofs.Takes.{AllGood}
use Rattle.forms.proofs.Facts.{Facts}
use Rattle.forms.proofs.Goods.{good_form}

module _ (ws : List (List ℕ)) where
  -- after a word, what is spelled next begins with no byte of a word
  stops : (ts : List Tok) → AllGood ws ts → prefix_len wordy (spell_from ws true ts) ≡ 0
  stops [] g = refl
  stops (name w ∷ ts) g = refl
  stops (word k ∷ ts) g = refl
  stops (sign Open ∷ ts) g = refl
  stops (sign Close ∷ ts) g = refl
  stops (sign Colon ∷ ts) g = refl
  stops (sign Semi ∷ ts) g = refl
  stops (end ∷ ts) g = absurd g.0

  gap-blank : (after w : Bool) → Blank (cond (after && w) (32 ∷ []) [])
  gap-blank true true = refl
  gap-blank true false = refl
  gap-blank false w = refl

  spells : (ts : List Tok) (after : Bool) → AllGood ws ts → Spelled ws (spell_from ws after ts) ts
  spells [] after g = refl
  spells (t ∷ ts) after g =
      (gap after t, spell_from ws (is_word_tok t) ts, gap-blank after (is_word_tok t), refl, (λ z. ap (λ b. prefix_len wordy (spell_from ws b ts)) z ∙ stops ts g.1), spells ts (is_word_tok t) g.1)

module _ (I M A : List (List ℕ)) where
  own_blocks : (ps : List (List Event)) (i : ℕ) → parts (length I) i ps ≡ true → Blocks I M A i ps (parts_tokens I M A i ps)
  own_blocks [] i h = refl
  own_blocks ([] ∷ ps) i h = inl (refl, own_blocks ps (suc i) (and_parts (cond (ltb i (length I)) true true) (parts (length I) (suc i) ps) h).1)
  own_blocks ((e ∷ es) ∷ ps) i h =
      let some = eqb (length (e ∷ es)) 0 in
      let (x, y) = and_parts (every (partner (length I) i) (e ∷ es)) (cond (ltb i (length I)) true some && parts (length I) (suc i) ps) h in
      let (z, w) = and_parts (cond (ltb i (length I)) true some) (parts (length I) (suc i) ps) y in
      inr (parts_tokens I M A (suc i) ps, ltb-true i (length I) (held (ltb i (length I)) some (λ n. let n' = eqb-true (length (e ∷ es)) 0 n in omega arith) z), refl, own_blocks ps (suc i) w)
    where
      held : (b c : Bool) → (c ≡ true → ⊥) → cond b true c ≡ true → b ≡ true
      held true c no_c h = refl
      held false c no_c h = absurd (no_c h)

  own_charts : (cs : List Chart) → every (chart (length I)) cs ≡ true → ChartForms I M A cs (flat_map (chart_tokens I M A) cs)
  own_charts [] h = refl
  own_charts (c ∷ cs) h =
      let (x, y) = and_parts (chart (length I) c) (every (chart (length I)) cs) h in
      let limits = leb (length (chart_events c)) 64 && leb (out_count (chart_events c)) 32 in
      let p = (and_parts (parts (length I) 0 c.parts) limits (and_parts (eqb (length c.parts) 8) (parts (length I) 0 c.parts && limits) x).1).0 in
      (chart_tokens I M A c, flat_map (chart_tokens I M A) cs, (parts_tokens I M A 0 c.parts, own_blocks c.parts 0 p, refl), own_charts cs y, refl)

pub own_writing : (d : Doc) → Facts d → Writes (text_of d) d
unfolding text_of
own_writing d f =
    let form : Form (doc_tokens d) d = (flat_map (chart_tokens d.instances d.messages d.actions) d.charts, own_charts d.instances d.messages d.actions d.charts f.charts, refl) in
    (doc_tokens d, form, spells d.words (doc_tokens d) false (good_form d (doc_tokens d) f form))
