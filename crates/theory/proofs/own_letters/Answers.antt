use Rattle.std.proofs.Common.{refl}
use Rattle.msc.specs.Meaning.{part}
use Rattle.theory.proofs.own_letters.Goals as goal
use Rattle.theory.proofs.Own.{own}
use Rattle.theory.proofs.Queues.{header_law}

pub returns : goal.returns
returns g c = record {
  law = refl;
  taken = λ m G freight P e K. header_law (part m) P freight e G.paired K;
  own = λ m G freight P e K. own (part m) P freight G.paired e K;
}
