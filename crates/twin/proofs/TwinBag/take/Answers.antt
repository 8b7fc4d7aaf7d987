use Rattle.std.proofs.Common.{arith}
use Rattle.twin.proofs.Twins.{take-first, take_second, removed_first, removed_second}
use Rattle.twin.proofs.TwinBag.take.Goals as goal

pub returns-then-i-n : goal.returns-then-i-n
returns-then-i-n g c =
    let a = g.A.Bag in
    let b = g.B.Bag in
    let t = c.args.self.now in
    let i = c.args.i in
    record {
      take = λ s. let n = c.count-n.ensures s.first in take-first a b t s _ i _ (omega arith) (c.take.ensures s.first);
      exact = λ s. let n = c.count-n.ensures s.first in removed_first a b t s _ i _ (omega arith) (c.take.ensures s.first);
    }

pub returns-else-i-n : goal.returns-else-i-n
returns-else-i-n g c =
    let a = g.A.Bag in
    let b = g.B.Bag in
    let t = c.args.self.now in
    let i = c.args.i in
    record {
      take = λ s. let n = c.count-n.ensures s.first in take_second a b t s _ i _ _ n (omega arith) (c.take-else-i-n.ensures s.second);
      exact = λ s. let n = c.count-n.ensures s.first in removed_second a b t s _ i _ _ n (omega arith) (c.take-else-i-n.ensures s.second);
    }
