use Rattle.writing.specs.Walks.{event_of}
use Rattle.writing.proofs.Pages.{goes_on}
use Rattle.writing.proofs.pen.Pen.events.Goals as goal

pub loop-e-preserved : goal.loop-e-preserved
loop-e-preserved c = goes_on event_of c.args.events.now c.loop-e.e-index _ c.args.self.now c.loop-e.self _ c.loop-e-test.true c.loop-e.invariant c.event.ensures
