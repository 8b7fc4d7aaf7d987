use Rattle.std.proofs.Common.{arith}
use Rattle.bag.proofs.Emptying.{left_none, left_more, left_all}
use Rattle.bag.proofs.empty_bag.Goals as goal

pub loop-done-init : goal.loop-done-init
loop-done-init g c = λ s. left_none g.B.Bag.sound g.B.Bag.held g.B.Bag.space c.args.bag.now s

pub loop-done-preserved : goal.loop-done-preserved
loop-done-preserved g c = λ s.
    let b = g.B.Bag in
    let n = c.count-n.ensures s in
    let l = c.loop-done.invariant s in
    left_more b.sound b.held b.space c.args.bag.now c.loop-done.bag _ c.loop-done._done _ l (omega arith) (c.take.ensures l.stays)

pub returns : goal.returns
returns g c = λ s.
    let b = g.B.Bag in
    let n = c.count-n.ensures s in
    left_all b.sound b.held b.space c.args.bag.now c.loop-done.bag c.loop-done._done (c.loop-done.invariant s) (omega arith)
