use Rattle.std.proofs.Common.{refl}
use Rattle.msc.specs.Meaning.{part}
use Rattle.theory.proofs.event_by_event.Goals as goal
use Rattle.theory.proofs.Complete.{completion, begun_ordered}
use Rattle.theory.proofs.Plays.{plays_iff}

pub returns : goal.returns
returns c = record {
  law = refl;
  played = λ m G P L. (
    λ b. (plays_iff (part m) P G.paired L).0 (begun_ordered (part m) P L b),
    λ h. completion (part m) G.listed P L ((plays_iff (part m) P G.paired L).1 h),
  );
}
