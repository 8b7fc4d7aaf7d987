-- The whole text, and what the caller is given.
use Rattle.std.proofs.Common.{◌≡◌, ℕ, ◌-◌, ◌<◌, ◌≤◌, true, false, leb, List, ◌++◌, length, drop, Ok, Err, Result, sym, ap, ◌∙◌, arith, le-leb}
use borrow.Author.Tests.{lt-leb}
use Rattle.std.proofs.lemmas.List.{take_all}
use Rattle.std.proofs.lemmas.Bool.{cond-true, cond-false}
use Rattle.msc.specs.Doc.{Doc}
use Rattle.msc.specs.Shortest.{text_of, doc_tokens}
use Rattle.msc.specs.Sound.{well_formed, most}
use Rattle.lexis.specs.declared.refusal.Refusal.{Refusal}
use Rattle.lexis.specs.declared.refusal.Refusal.TheVariants.{Short}
use Rattle.forms.proofs.Facts.{to_facts}
use Rattle.writing.specs.Fit.{fit}
use Rattle.writing.specs.Pens.{Page, penned, blank}
use Rattle.writing.specs.Writing.{write_of, after_write}
use Rattle.writing.proofs.Pages.{penned_bytes}

-- a blank page with the tokens of a document has its text
pub whole : (d : Doc) (p : Page) → well_formed d ≡ true → p ≡ penned (blank d) (doc_tokens d) → length p.bytes ≤ most → p.bytes ≡ text_of d
unfolding text_of
whole d p sound e few =
    sym (take_all most p.bytes few)
    ∙ ap (λ (q : Page). fit q.bytes) e
    ∙ penned_bytes (blank d) (doc_tokens d)
    ∙ take_all most (text_of d) (to_facts d sound).1

pub refused : (d : Doc) (out text : List ℕ) → text ≡ text_of d → length out < length text → (◌≡◌ {A = Result ℕ Refusal} (Err (Short (length text))) (write_of d out)) × (out ≡ after_write d out)
refused d out text e h =
    let no_room : leb (length (text_of d)) (length out) ≡ false = lt-leb (length (text_of d)) (length out) (omega (arith, ap length e)) in (
      ap (λ (t : List ℕ). Err (Short (length t))) e ∙ sym (cond-false (leb (length (text_of d)) (length out)) _ _ no_room),
      sym (cond-false (leb (length (text_of d)) (length out)) _ _ no_room),
    )

pub written : (d : Doc) (out text ys : List ℕ) → text ≡ text_of d → ys ≡ text → length text ≤ length out → (◌≡◌ {A = Result ℕ Refusal} (Ok (length text)) (write_of d out)) × (ys ++ drop (length text - 0) out ≡ after_write d out)
written d out text ys e f h =
    let room : leb (length (text_of d)) (length out) ≡ true = le-leb (length (text_of d)) (length out) (omega (arith, ap length e)) in
    let z : length text - 0 ≡ length (text_of d) = omega (arith, ap length e) in (
      ap (λ (t : List ℕ). Ok (length t)) e ∙ sym (cond-true (leb (length (text_of d)) (length out)) _ _ room),
      (λ i. (f ∙ e) i ++ drop (z i) out) ∙ sym (cond-true (leb (length (text_of d)) (length out)) _ _ room),
    )
