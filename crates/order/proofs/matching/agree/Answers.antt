use Rattle.std.proofs.Common.{◌≡◌, refl, subst, rules}
use Rattle.std.specs.Option.{option_to_list}
use Rattle.std.proofs.lemmas.Iterator.{YieldsList, YieldsList-from_slice}
use Rattle.std.proofs.lemmas.Iterator.Adapters.{YieldsList-from_flat_map, YieldsList-from_once}
use Rattle.msc.specs.Events.{in_from, out_to}
use Rattle.order.proofs.Alike.{eq_from_yields_List}
use Rattle.order.proofs.matching.agree.Goals as goal

pub returns : goal.returns
returns c = eq_from_yields_List (λ x y. y ≡ x) _ _ c.eq.ensures.ran
    (YieldsList-from_flat_map _ _ _ (λ x. x) (out_to c.args.receiver) _
    (λ x u q k. (search rules, λ j b. let e : option_to_list u ≡ out_to c.args.receiver x.now = search rules in subst (YieldsList _ (λ y. y) j) e (YieldsList-from_once u b.0)))
    (YieldsList-from_slice c.args.outs.now (cc)) refl (cc) (cc) (cc))
    (λ it e. YieldsList-from_flat_map _ _ _ (λ x. x) (in_from c.args.sender) _
    (λ x u q k. (search rules, λ j b. let e : option_to_list u ≡ in_from c.args.sender x.now = search rules in subst (YieldsList _ (λ y. y) j) e (YieldsList-from_once u b.0)))
    (YieldsList-from_slice c.args.ins.now (cc)) refl (cc) (cc) (cc))
