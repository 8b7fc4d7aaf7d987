use Rattle.std.proofs.Common.{cond, refl, ◌∙◌, rules, tests}
use Rattle.std.proofs.lemmas.Iterator.{YieldsList-from_range}
use Rattle.std.proofs.lemmas.Iterator.Consumers.{fold_from_yields_List}
use Rattle.order.specs.Charts.{instances, starts, joined_by}
use Rattle.order.specs.Meant.{parts}
use Rattle.order.proofs.Tallies.{gathered_where}
use Rattle.order.proofs.drawing.Drawing.leaders.Goals as goal

pub returns : goal.returns
returns c = fold_from_yields_List _ (λ a i. cond (starts (parts c.args.self.now i)) (joined_by a i) a) c.args.others c.fold.result c.fold.ensures.ran (YieldsList-from_range 0 8 8 (cc) refl) (λ a x b q k. (search rules, search (rules, tests)))
    ∙ gathered_where (λ i. starts (parts c.args.self.now i)) c.args.others instances
