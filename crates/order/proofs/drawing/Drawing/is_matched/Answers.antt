use Rattle.std.proofs.Common.{refl, rules}
use borrow.Author.Tests.{tests}
use Rattle.std.proofs.lemmas.Iterator.{YieldsList-from_range}
use Rattle.std.proofs.lemmas.Iterator.Search.{all_from_yields_List}
use Rattle.order.specs.Charts.{sends_match}
use Rattle.order.specs.Meant.{parts}
use Rattle.order.proofs.Bounds.{matched_rule}
use Rattle.order.proofs.drawing.Drawing.is_matched.Goals as goal

pub returns-clause-rule : goal.returns-clause-rule
returns-clause-rule c = matched_rule c.args.self.now.document.now c.args.self.now.chart _
    (all_from_yields_List (sends_match (parts c.args.self.now)) _ _ c.all.result c.all.ensures.ran (YieldsList-from_range 0 8 8 (cc) refl) (λ x b q k. search (rules, tests)))
