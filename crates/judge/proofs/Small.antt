-- Small drawings: their checks compute.
use Rattle.std.proofs.Common.{◌≡◌, true, Result, Ok, Err, refl, subst}
use Rattle.msc.specs.BuiltIn.{built_in}
use Rattle.msc.specs.Doc.{Doc}
use Rattle.msc.specs.Meaning.{meaning_of}
use Rattle.msc.specs.Shortest.{text_of}
use Rattle.msc.specs.Sound.{well_formed}
use Rattle.order.specs.Charts.{played}
use Rattle.order.specs.Scans.{repeat}
use Rattle.judge.specs.Checks.{marked, broken}
use Rattle.judge.specs.Results.{two_actions, crossed, Drawings}
use Rattle.judge.specs.Verdict.{verdict, Said}
use Rattle.judge.specs.declared.refusal.Refusal.{Refusal}
use Rattle.judge.specs.declared.refusal.Refusal.TheVariants.{Cyclic, NotOneFirst}
use Rattle.order.proofs.Bounds.{limits}
use Rattle.judge.proofs.Verdicts.{verdict-says}

judged : (d : Doc) (r : Result (Unit {0}) Refusal) → well_formed d ≡ true → verdict (meaning_of d) ≡ r → Said (meaning_of d) r
judged d r w e = subst (Said (meaning_of d)) e (verdict-says (meaning_of d) (limits d w))

two_sound : well_formed two_actions ≡ true
unfolding well_formed text_of
two_sound = refl

one_sound : well_formed built_in ≡ true
unfolding well_formed text_of
one_sound = refl

crossed_sound : well_formed crossed ≡ true
unfolding well_formed text_of
crossed_sound = refl

two-refused : verdict (meaning_of two_actions) ≡ Err (NotOneFirst 0)
unfolding verdict broken played marked repeat
two-refused = refl

one_accepted_lem : verdict (meaning_of built_in) ≡ Ok tt
unfolding verdict broken played marked repeat
one_accepted_lem = refl

crossed-refused : verdict (meaning_of crossed) ≡ Err (Cyclic 0)
unfolding verdict broken played marked repeat
crossed-refused = refl

pub drawings : Drawings
drawings = (judged two_actions (Err (NotOneFirst 0)) two_sound two-refused, judged built_in (Ok tt) one_sound one_accepted_lem, judged crossed (Err (Cyclic 0)) crossed_sound crossed-refused)
