use Rattle.std.proofs.Common.{refl}
use Rattle.joined.proofs.one_accepted.Goals as goal
use Rattle.joined.proofs.Pings.{ping_accepted}

pub returns : goal.returns
returns c = record { accepted = ping_accepted; instances = refl }
