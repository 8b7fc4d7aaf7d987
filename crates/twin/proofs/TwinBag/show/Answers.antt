use Rattle.std.proofs.Common.{◌-◌, ap, ◌∙◌, arith}
use Rattle.bag.specs.Held.{shown_at}
use Rattle.twin.proofs.Links.{shown_left, shown_right}
use Rattle.twin.proofs.TwinBag.show.Goals as goal

pub returns-then-i-n : goal.returns-then-i-n
returns-then-i-n g c = λ s.
    let t = c.args.self.now in
    let n = c.count-n.ensures s.first in
    c.show.ensures s.first ∙ shown_left (g.A.Bag.held t.first) (g.B.Bag.held t.second) c.args.i (omega arith)

pub returns-else-i-n : goal.returns-else-i-n
returns-else-i-n g c = λ s.
    let t = c.args.self.now in
    let n = c.count-n.ensures s.first in
    c.show-else-i-n.ensures s.second
    ∙ ap (λ k. shown_at (g.B.Bag.held t.second) (c.args.i - k)) n
    ∙ shown_right (g.A.Bag.held t.first) (g.B.Bag.held t.second) c.args.i (omega arith)
