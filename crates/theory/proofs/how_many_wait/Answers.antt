use Rattle.std.proofs.Common.{refl}
use Rattle.msc.specs.Meaning.{part}
use Rattle.theory.proofs.how_many_wait.Goals as goal
use Rattle.theory.proofs.Counting.{how_many, outs-split}

pub returns : goal.returns
returns g c = record { law = refl; waiting = λ m G freight P e. how_many (part m) G.paired G.few P freight e; outs = λ m. outs-split (part m) }
