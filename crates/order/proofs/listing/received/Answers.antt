use Rattle.std.proofs.Common.{◌+◌, length, sym, ◌∙◌, rules, tests, arith}
use Rattle.std.proofs.lemmas.Iterator.{YieldsList-from_slice}
use Rattle.std.proofs.lemmas.Iterator.Adapters.{serves_from_total}
use Rattle.std.proofs.lemmas.Iterator.Consumers.{fold_from_yields_List}
use Rattle.std.proofs.lemmas.List.Concat.{length-flat_map}
use Rattle.msc.specs.Events.{in_from}
use Rattle.order.proofs.Walks.{picked_fits, one_in_from}
use Rattle.order.proofs.listing.received.Goals as goal

pub fold-requires-clause-callable : goal.fold-requires-clause-callable
fold-requires-clause-callable c = serves_from_total (YieldsList-from_slice c.args.events.now (cc)) (λ e. length (in_from c.args.sender e)) (λ n x q k. (search rules, search (rules, tests, arith))) (λ n x h. let fits = picked_fits (in_from c.args.sender) c.args.events.now (one_in_from c.args.sender) (search rules) in search (rules, tests, arith))

pub returns : goal.returns
returns c = fold_from_yields_List _ (λ n e. n + length (in_from c.args.sender e)) 0 c.fold.result c.fold.ensures.ran (YieldsList-from_slice c.args.events.now (cc)) (λ n x b q k. (search rules, search (rules, tests, arith)))
    ∙ sym (length-flat_map (in_from c.args.sender) c.args.events.now)
