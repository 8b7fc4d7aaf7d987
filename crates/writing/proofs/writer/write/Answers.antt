use Rattle.std.proofs.Common.{◌≡◌, ℕ, ◌≤◌, List, length, ap, ◌∙◌}
use Rattle.msc.specs.Shortest.{text_of, doc_tokens}
use Rattle.msc.specs.Sound.{most}
use Rattle.msc.specs.Stored.{doc_of}
use Rattle.msc.specs.declared.document.Document.{Document}
use Rattle.forms.proofs.Laws.{back, is_shortest}
use Rattle.writing.specs.Pens.{Page, penned, blank}
use Rattle.writing.proofs.Whole.{whole, refused, written}
use Rattle.writing.proofs.writer.write.Goals as goal

-- what the pen has written, from the calls' clauses
text_is : (document : Document) (new pen : Page) (text : List ℕ) → new ≡ blank (doc_of document.tables) → pen ≡ penned new (doc_tokens new.document) → text ≡ pen.bytes → length pen.bytes ≤ most → text ≡ text_of (doc_of document.tables)
text_is document new pen text e f g few = g ∙ whole (doc_of document.tables) pen document.sound (f ∙ ap (λ (q : Page). penned q (doc_tokens q.document)) e) few

pub returns-then-needed-out : goal.returns-then-needed-out
returns-then-needed-out c =
    let d = c.args.document.now in
    let is = text_is d _ _ c.text-text.result.now c.new-pen.ensures c.document.ensures c.text-text.ensures.is c.text-text.ensures.few in
    let both = refused (doc_of d.tables) c.args.out.now c.text-text.result.now is c.if-needed-out.true in
    record { answer = both.0; output = both.1; back = back (doc_of d.tables) d.sound; shortest = (is_shortest (doc_of d.tables) d.sound).1 }

pub returns : goal.returns
returns c =
    let d = c.args.document.now in
    let is = text_is d _ _ c.text-text.result.now c.new-pen.ensures c.document.ensures c.text-text.ensures.is c.text-text.ensures.few in
    let both = written (doc_of d.tables) c.args.out.now c.text-text.result.now c.copy_from_slice.new.self is c.copy_from_slice.ensures.after c.if-needed-out.false in
    record { answer = both.0; output = both.1; back = back (doc_of d.tables) d.sound; shortest = (is_shortest (doc_of d.tables) d.sound).1 }
