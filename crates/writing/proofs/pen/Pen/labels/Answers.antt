use Rattle.writing.specs.Walks.{label_of}
use Rattle.writing.proofs.Pages.{goes_on_item}
use Rattle.writing.proofs.pen.Pen.labels.Goals as goal

pub loop-label-preserved : goal.loop-label-preserved
loop-label-preserved c = goes_on_item label_of c.as_slice-label-items.result.now c.loop-label.label-index c.label-item.result c.args.self.now c.loop-label.self _ c.loop-label-test.true c.label-item.is c.loop-label.invariant c.label.ensures
