use Rattle.std.proofs.Common.{◌≡◌, ◌≤◌, ◌^◌, length, rules, tests, arith}
use Rattle.std.specs.List.{count_by}
use Rattle.std.proofs.lemmas.Iterator.{YieldsList-from_slice}
use Rattle.std.proofs.lemmas.Iterator.Adapters.{fits_from_length, at_most_from_yields_List}
use Rattle.draft.specs.Outs.{is_out}
use Rattle.draft.proofs.Counted.{counted}
use Rattle.draft.proofs.counts.outs.Goals as goal

-- no slice is longer, and each event adds at most one
pub sum-requires-clause-fits : goal.sum-requires-clause-fits
sum-requires-clause-fits c =
    let few : length c.args.events.now ≤ 2 ^ 63 = search (rules, arith) in
    fits_from_length _ _ (2 ^ 63) (2 ^ 64) (at_most_from_yields_List (YieldsList-from_slice c.args.events.now cc) few) c.map.ensures.closure (omega arith) (λ x r q k. search (rules, tests))

pub returns : goal.returns
returns c = let h : c.sum.result ≡ count_by is_out c.args.events.now = search (rules, tests) in omega (arith, h, counted c.args.events.now)
