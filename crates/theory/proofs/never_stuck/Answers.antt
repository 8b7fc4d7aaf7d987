use Rattle.std.proofs.Common.{refl}
use Rattle.msc.specs.Meaning.{part}
use Rattle.theory.proofs.never_stuck.Goals as goal
use Rattle.theory.proofs.PlaysOut.{played_out, nothing_waits}
use Rattle.theory.proofs.Progress.{progress}

pub returns : goal.returns
returns g c = record {
  law = refl;
  progress = λ m G P e. progress (part m) G.paired G.listed e P;
  out = λ m G. played_out (part m) G.paired G.listed;
  nothing = λ m G freight P e. nothing_waits (part m) G.paired P freight e;
}
