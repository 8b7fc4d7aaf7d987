use Rattle.std.proofs.Common.{rules, refl}
use Rattle.std.proofs.lemmas.Iterator.{YieldsList-from_range}
use Rattle.std.proofs.lemmas.Iterator.Search.{find_from_yields_List}
use Rattle.restorer.specs.Stamps.{carries_at}
use Rattle.restorer.proofs.Seeks.{found_in}
use Rattle.restorer.proofs.seek.Goals as goal

pub returns : goal.returns
returns g c = λ s.
    let xs = g.B.Bag.held c.args.bag.now in
    found_in c.args.from c.args.to c.args.stamp xs c.count.result _ (c.count.ensures s)
    (find_from_yields_List (carries_at c.args.from c.args.to c.args.stamp xs) _ _ _ c.find.ensures.ran (YieldsList-from_range 0 c.count.result _ refl refl) (λ x b q k. search rules))
