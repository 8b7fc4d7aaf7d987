use Rattle.std.proofs.Common.{refl}
use Rattle.forms.proofs.Laws.{exactly, back, is_shortest, no_shorter}
use Rattle.forms.proofs.Spots.{spots_inside}
use Rattle.forms.proofs.forms_stand.Goals as goal

pub returns : goal.returns
returns c = record { answer = refl; exactly = exactly; back = back; shortest = is_shortest; no_shorter = no_shorter; spots = spots_inside }
