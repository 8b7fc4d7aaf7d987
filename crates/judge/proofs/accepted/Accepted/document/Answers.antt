use Rattle.std.proofs.Common.{refl}
use Rattle.judge.proofs.Judged.{accepted_fair, accepted_leaders}
use Rattle.judge.proofs.accepted.Accepted.document.Goals as goal

pub returns : goal.returns
returns c = record { same = refl; fair = accepted_fair c.args.self.now; leaders = accepted_leaders c.args.self.now }
