use Rattle.judge.proofs.Judged.{built_in_fair}
use Rattle.judge.proofs.accepted.Accepted.built_in.Goals as goal

pub invariant_of-result : goal.invariant_of-result
invariant_of-result c = record { fair = built_in_fair c.built_in-document.result c.built_in-document.ensures; right = c.leaders_of-leaders.ensures }
