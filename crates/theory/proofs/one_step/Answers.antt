use Rattle.std.proofs.Common.{refl}
use Rattle.msc.specs.Meaning.{part}
use Rattle.msc.specs.Order.{occ, spot}
use Rattle.theory.specs.Theorems.{StepWaiting, StepCut}
use Rattle.theory.proofs.one_step.Goals as goal
use Rattle.theory.proofs.Own.{freight_done}
use Rattle.theory.proofs.Steps.{step_law, step_consistent, step_within}

step_waiting : (F : Type 0) → StepWaiting F
step_waiting F m G freight P e K (occ j (spot i k)) l v xs N R = step_law (part m) P e i j (spot i k) l v xs N freight K R

step_cut : StepCut
step_cut m G P e w K (occ j (spot i k)) (l, v, xs, N, R) = (step_within (part m) P e i j (spot i k) l v xs N w, step_consistent (part m) P e i j (spot i k) l v xs N K R)

pub returns : goal.returns
returns g c = record { law = refl; waiting = step_waiting _; cut = step_cut; freight = λ m freight freight' P e. freight_done (part m) P freight freight' e }
