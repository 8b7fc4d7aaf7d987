use Rattle.msc.specs.Meaning.{meaning_of}
use Rattle.joined.proofs.accepted_gives.Goals as goal
use Rattle.joined.proofs.Gives.{fair_gives}
use Rattle.joined.proofs.Sounds.{sound_limits, lists}

pub returns : goal.returns
returns c = record { fair = fair_gives; limits = sound_limits; labels = lists; given = λ d w f. fair_gives (meaning_of d) (sound_limits d w) f }
