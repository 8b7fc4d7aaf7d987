use Rattle.std.proofs.Common.{refl}
use Rattle.msc.specs.Meaning.{part}
use Rattle.theory.proofs.idle_rule.Goals as goal
use Rattle.theory.proofs.Idle.{idle}

pub returns : goal.returns
returns g c = record { law = refl; rule = λ m G freight P e K. idle (part m) G.paired P e K freight }
