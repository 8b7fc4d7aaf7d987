use Rattle.msc.specs.Shortest.{inst_tokens}
use Rattle.writing.proofs.Pages.{goes_on_item}
use Rattle.writing.proofs.pen.Pen.instances.Goals as goal

pub loop-name-preserved : goal.loop-name-preserved
loop-name-preserved c = goes_on_item (λ d. inst_tokens) c.args.names.now c.loop-name.name-index c.name-item.result c.args.self.now c.loop-name.self _ c.loop-name-test.true c.name-item.is c.loop-name.invariant (rw (← c.as_bytes.ensures.is) c.titled.ensures)
