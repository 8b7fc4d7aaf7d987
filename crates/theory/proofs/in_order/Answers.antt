use Rattle.std.proofs.Common.{refl}
use Rattle.msc.specs.Meaning.{part}
use Rattle.theory.proofs.in_order.Goals as goal
use Rattle.theory.proofs.Complete.{completion, begun_ordered}

pub returns : goal.returns
returns c = record { law = refl; completion = λ m G P L. (completion (part m) G.listed P L, begun_ordered (part m) P L) }
