use Rattle.theory.proofs.places_to_end.Goals as goal
use Rattle.theory.proofs.Ends.{end_near}

pub returns : goal.returns
returns c = record { near = end_near }
