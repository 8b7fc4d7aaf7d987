use Rattle.std.proofs.Common.{refl}
use Rattle.msc.specs.Doc.{label_names}
use Rattle.writing.specs.Walks.{alt_tokens}
use Rattle.writing.proofs.Forms.{list_written}
use Rattle.writing.proofs.Pages.{goes_on, document_with}
use Rattle.writing.proofs.pen.Pen.list.Goals as goal

pub loop-other-preserved : goal.loop-other-preserved
loop-other-preserved c =
    goes_on (λ d. alt_tokens (label_names d.labels)) _ c.loop-other.other-index 0 c.word.new.self c.loop-other.self _ c.loop-other-test.true c.loop-other.invariant (rw (c.word-in-loop-other.ensures, c.label_name-in-loop-other.ensures, c.keyword.ensures) (simp document_with))

pub returns-after-loop-other : goal.returns-after-loop-other
returns-after-loop-other c =
    list_written c.args.list.now _ c.loop-other.other-index c.args.self.now c.word.new.self _ c.in-len1-up.len_at_least refl c.loop-other-test.false (rw (← c.label_name.ensures) c.word.ensures) c.loop-other.invariant
