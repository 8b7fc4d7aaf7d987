use Rattle.std.proofs.Common.{◌∷◌, ◌++◌, refl}
use Rattle.theory.proofs.place_by_place.Goals as goal
use Rattle.theory.proofs.Places.{begun_front, first_at, leader_ahead, leads_free, one_leads, has_leader}

pub returns : goal.returns
returns c = record {
  law = refl;
  front = λ m G P v L w. begun_front m G P v L w;
  first = λ m G A l B v ys i k zs w. first_at m G (A ++ l ∷ B) v _ w A l B refl ys i k zs refl;
  ahead = λ m G. leader_ahead m G;
  leader = λ m G l r n. (has_leader m G l r n, one_leads m G l r, λ i. (λ h. ((leads_free m G l i).0 h).1, λ b. (leads_free m G l i).1 (n, b)));
}
