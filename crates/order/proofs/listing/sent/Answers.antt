use Rattle.std.proofs.Common.{◌+◌, length, sym, ◌∙◌, rules, tests, arith}
use Rattle.std.proofs.lemmas.Iterator.{YieldsList-from_slice}
use Rattle.std.proofs.lemmas.Iterator.Adapters.{serves_from_total}
use Rattle.std.proofs.lemmas.Iterator.Consumers.{fold_from_yields_List}
use Rattle.std.proofs.lemmas.List.Concat.{length-flat_map}
use Rattle.msc.specs.Events.{out_to}
use Rattle.order.proofs.Walks.{picked_fits, one_out_to}
use Rattle.order.proofs.listing.sent.Goals as goal

pub fold-requires-clause-callable : goal.fold-requires-clause-callable
fold-requires-clause-callable c = serves_from_total (YieldsList-from_slice c.args.events.now (cc)) (λ e. length (out_to c.args.receiver e)) (λ n x q k. (search rules, search (rules, tests, arith))) (λ n x h. let fits = picked_fits (out_to c.args.receiver) c.args.events.now (one_out_to c.args.receiver) (search rules) in search (rules, tests, arith))

pub returns : goal.returns
returns c = fold_from_yields_List _ (λ n e. n + length (out_to c.args.receiver e)) 0 c.fold.result c.fold.ensures.ran (YieldsList-from_slice c.args.events.now (cc)) (λ n x b q k. (search rules, search (rules, tests, arith)))
    ∙ sym (length-flat_map (out_to c.args.receiver) c.args.events.now)
