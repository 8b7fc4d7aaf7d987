use Rattle.std.proofs.Common.{refl}
use Rattle.judge.proofs.Unique.{determined}
use Rattle.judge.proofs.results.judge_is_determined.Goals as goal

pub returns : goal.returns
returns c = record { answer = refl; theorem = determined }
