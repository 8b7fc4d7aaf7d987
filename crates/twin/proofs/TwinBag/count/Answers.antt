use Rattle.std.proofs.Common.{arith, length-append}
use Rattle.twin.proofs.TwinBag.count.Goals as goal

pub returns : goal.returns
returns g c = λ s.
    let t = c.args.self.now in
    let m = c.count.ensures s.first in
    let n = c.count-2.ensures s.second in
    let k = length-append (g.A.Bag.held t.first) (g.B.Bag.held t.second) in
    let w = s.within in
    omega arith
