-- Reading a text, exit by exit: what each call says makes up what reading means.
use Rattle.std.proofs.Common.{◌≡◌, ℕ, ◌<◌, ◌≤◌, true, leb, List, length, Ok, Err, Result, sym, ap, ◌∙◌, subst, arith, le-leb, MatchResult}
use borrow.Author.Tests.{lt-leb}
use Rattle.std.specs.Result.{IsErrAnd, result_map_both}
use Rattle.std.proofs.lemmas.Bool.{cond-true, cond-false}
use Rattle.std.proofs.lemmas.Result.{err_from_is_err_and}
use Rattle.msc.specs.Doc.{Doc, chart_names}
use Rattle.msc.specs.Sound.{well_formed, most}
use Rattle.msc.specs.declared.label.Label.{Label}
use Rattle.msc.specs.declared.symbol.Symbol.TheVariants.{Semi}
use Rattle.msc.specs.declared.words.Keyword.TheVariants as keyword
use Rattle.lexis.specs.Lexing.{name_at, word_at, sign_at, end_at}
use Rattle.lexis.specs.Readers.{Reads, from}
use Rattle.lexis.specs.Steps.{Step, got, bad}
use Rattle.lexis.specs.Spots.{Spot}
use Rattle.lexis.specs.declared.refusal.Refusal.{Refusal}
use Rattle.lexis.specs.declared.refusal.Refusal.TheVariants.{TooLong}
use Rattle.forms.specs.Drafts.{Draft, Mention, Line, line_names}
use Rattle.forms.specs.Reading.{Read, instances_at, charts_at, list_at, lines_at, forms_at, follow, resolve, resolve_lines, linked, finish, read_of}
use Rattle.forms.specs.Writes.{Writes}
use Rattle.forms.proofs.Facts.{to_facts}
use Rattle.forms.proofs.ReadsGraph.{reads}
use Rattle.draft.specs.Drafting.{document_of}
use Rattle.reading.specs.Pieces.{head_at, tail_at}
use Rattle.reading.proofs.Regroup.{whole, chain, bad_head, bad_insts, bad_charts, bad_tail, got_tail}

-- all that is read
abbrev all : List ℕ → Draft × List ℕ → List Mention × List Line → Read
all t e g = record { title = t; draft = e.0; graph = e.1; start = g.0; lines = g.1 }

abbrev declared : Draft → List (List ℕ)
declared d = chart_names d.charts

-- the pieces of a text, one after the other
abbrev pieces : List (List ℕ) → ℕ → List ℕ → Step Read
pieces ws p s = chain head_at instances_at charts_at tail_at declared all ws p s

forms_are : (ws : List (List ℕ)) (p : ℕ) (s : List ℕ) → pieces ws p s ≡ forms_at ws p s
unfolding chain head_at tail_at
forms_are ws p s =
    whole (word_at ws keyword.Mscdocument) (name_at ws) (sign_at ws Semi) (instances_at ws) (charts_at ws) (list_at ws Semi) (λ e. lines_at ws (declared e.0)) (word_at ws keyword.Endmscdocument) (end_at ws) all p s

pub too_long : (ws : List (List ℕ)) (text : List ℕ) → most < length text → Err TooLong ≡ read_of ws text
unfolding read_of
too_long ws text h = sym (cond-false (leb (length text) most) (finish ws (forms_at ws 0 text)) (Err TooLong) (lt-leb (length text) most h))

-- a text that is not too long, and a reader at its start
module _ (ws : List (List ℕ)) (text : List ℕ) (start : Spot) (short : length text ≤ most) (begins : start ≡ record { words = ws; text = text; at = 0; rest = text; place = 0 }) where
  -- what the pieces come to, with labels looked up, is what reading the text means
  ended : (m : Step Read) → m ≡ pieces start.words start.at start.rest → finish ws m ≡ read_of ws text
  unfolding read_of
  ended m is =
      ap (finish ws) (is ∙ ap (λ (r : Spot). pieces r.words r.at r.rest) begins ∙ forms_are ws 0 text)
      ∙ sym (cond-true (leb (length text) most) (finish ws (forms_at ws 0 text)) (Err TooLong) (le-leb (length text) most short))

  pub at_title : (e : Refusal) → bad e ≡ from head_at start → Err e ≡ read_of ws text
  at_title e h = ended (bad e) (bad_head head_at instances_at charts_at tail_at declared all _ _ _ e h)

  -- behind the title
  module _ (title : List ℕ) (r : Spot) (h : Reads head_at (λ n. n) (Ok title) start r) where
    pub at_draft : (e : Refusal) → bad e ≡ from instances_at r → Err e ≡ read_of ws text
    at_draft e i = ended (bad e) (bad_insts head_at instances_at charts_at tail_at declared all _ _ _ title r.words _ _ h.says h.words e i)

    -- behind the instances
    module _ (d : Draft) (q : Spot) (i : Reads instances_at (λ d. d) (Ok d) r q) where
      pub at_graph : (e : Refusal) → bad e ≡ charts_at q.words d q.at q.rest → Err e ≡ read_of ws text
      at_graph e c = ended (bad e) (bad_charts head_at instances_at charts_at tail_at declared all _ _ _ title r.words _ _ h.says h.words d q.words _ _ i.says i.words e c)

      -- behind the charts
      module _ (b : Draft) (w : List ℕ) (us : List (List ℕ)) (p : ℕ) (s : List ℕ) (c : got (b, w) p s ≡ charts_at q.words d q.at q.rest) (same : us ≡ q.words) (names : List (List ℕ)) (are : names ≡ declared b) where
        pub at_list : (e : Refusal) → bad e ≡ tail_at us names p s → Err e ≡ read_of ws text
        at_list e g = ended (bad e) (bad_tail head_at instances_at charts_at tail_at declared all _ _ _ title r.words _ _ h.says h.words d q.words _ _ i.says i.words b w us p s c same names are e g)

        -- behind the text's end
        module _ (ms : List Mention) (ls : List Line) (p' : ℕ) (s' : List ℕ) (g : got (ms, ls) p' s' ≡ tail_at us names p s) where
          read_all : linked ws (all title (b, w) (ms, ls)) ≡ read_of ws text
          read_all = ended (got (all title (b, w) (ms, ls)) p' s') (got_tail head_at instances_at charts_at tail_at declared all _ _ _ title r.words _ _ h.says h.words d q.words _ _ i.says i.words b w us p s c same names are (ms, ls) p' s' g)

          abbrev labels_then : Result (List ℕ) Refusal → Result Doc Refusal
          labels_then x = follow x λ first. follow (resolve_lines (line_names ls) ls) λ rows. Ok (document_of b ws title w first rows)

          pub at_start : (e : Refusal) → Err e ≡ resolve (line_names ls) ms → Err e ≡ read_of ws text
          at_start e h = ap labels_then h ∙ read_all

          -- with the start list looked up
          module _ (first : List ℕ) (l : Ok first ≡ resolve (line_names ls) ms) where
            abbrev rows_then : Result (List Label) Refusal → Result Doc Refusal
            rows_then x = follow x λ rows. Ok (document_of b ws title w first rows)

            pub at_labels : (e : Refusal) → Err e ≡ resolve_lines (line_names ls) ls → Err e ≡ read_of ws text
            at_labels e h = ap rows_then h ∙ ap labels_then l ∙ read_all

            pub at_end : (rows : List Label) → Ok rows ≡ resolve_lines (line_names ls) ls → Ok (document_of b ws title w first rows) ≡ read_of ws text
            at_end rows h = ap rows_then h ∙ ap labels_then l ∙ read_all

-- a call that was refused, handed on
pub refused : {X A : Type 0} (f : X → A) (result : Result X Refusal) (meant : Result A Refusal) (e : Refusal) → IsErrAnd result (λ d. d ≡ e) → Err e ≡ meant → result_map_both f (λ e. e) result ≡ meant
refused f result meant e is h = let r = err_from_is_err_and result is in ap (result_map_both f (λ e. e)) (r.1 ∙ ap Err r.2) ∙ h

-- of a refusal, what is said of refusals
pub by_err : {X : Type 0} (r : Result X Refusal) (e : Refusal) (P : X → Type 0) (Q : Refusal → Type 0) → IsErrAnd r (λ d. d ≡ e) → Q e → MatchResult r P Q
by_err r e P Q is q = let p = err_from_is_err_and r is in subst (λ x. MatchResult x P Q) (sym (p.1 ∙ ap Err p.2)) q

-- a text that is refused writes no document
pub writes_none : (ws : List (List ℕ)) (text : List ℕ) (e : Refusal) → Err e ≡ read_of ws text → (d : Doc) → length text ≤ most → well_formed d ≡ true → d.words ≡ ws → Writes text d → ⊥
writes_none ws text e h d le well same w =
    let ok : read_of ws text ≡ Ok d = ap (λ x. read_of x text) (sym same) ∙ reads d (to_facts d well).0 text le w in
    let z : ◌≡◌ {A = ℕ} 0 1 = cc in omega arith
