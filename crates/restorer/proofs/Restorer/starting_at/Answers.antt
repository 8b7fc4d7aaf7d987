use Rattle.std.proofs.Common.{arith, rules}
use Rattle.restorer.proofs.Start.{start_made}
use Rattle.restorer.proofs.Restorer.starting_at.Goals as goal

pub returns : goal.returns
returns g c = λ s. rw c.starting_at.ensures (start_made c.args.stamp (omega arith) g.B.Bag c.args.bag _ (search rules))
