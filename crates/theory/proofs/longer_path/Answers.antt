use Rattle.std.proofs.Common.{[], ◌∷◌, refl}
use Rattle.msc.specs.Meaning.{part}
use Rattle.theory.proofs.longer_path.Goals as goal
use Rattle.theory.proofs.Longer.{turns_longer, turn_snoc, within_longer, consistent_longer, waiting_longer}
use Rattle.theory.proofs.PlaysLonger.{plays_longer}
use Rattle.theory.proofs.Projections.{proj_snoc}

pub returns : goal.returns
returns g c = record {
  law = refl;
  projection = λ m. proj_snoc (part m);
  turns = λ m P l. (turns_longer (part m) P (l ∷ []), λ i. turn_snoc (part m) i P l);
  plays = λ m. plays_longer (part m);
  waiting = λ m freight P l e w. (within_longer (part m) P (l ∷ []) e w, consistent_longer (part m) P (l ∷ []) e w, waiting_longer (part m) P (l ∷ []) e w freight);
}
