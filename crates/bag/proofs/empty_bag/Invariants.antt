use Rattle.bag.proofs.Emptying.{Left}
use Rattle.bag.proofs.empty_bag.Given as goal

abbrev pub invariant-loop-done : goal.invariant-loop-done
invariant-loop-done g l = g.B.Bag.sound l.initial.bag → Left g.B.Bag.sound g.B.Bag.held g.B.Bag.space l.initial.bag l.bag l._done
