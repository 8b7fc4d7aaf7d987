use Rattle.std.proofs.Common.{◌≡◌, Err, rules, sym, ◌∙◌}
use Rattle.channel.proofs.Makes.{head_done}
use Rattle.lanes.specs.Lanes.{waits_of}
use Rattle.lanes.proofs.Places.{placed_pair, placed_first, placed_none}
use Rattle.lanes.proofs.LanesChannel.head.Goals as goal

pub returns-in_err-at : goal.returns-in_err-at
returns-in_err-at c = λ _.
    let same : c.from_residual.result ≡ Err c.in_err-at.field-0.0 = search rules in
    same ∙ sym (placed_none c.args.self.now c.args.from c.args.to _ (sym c.place.ensures ∙ c.in_err-at.was))

pub returns : goal.returns
returns c = λ _.
    let l = c.args.self.now in
    let at = sym c.place.ensures ∙ c.in_ok-at.was in
    head_done (waits_of l) c.args.from c.args.to _ (placed_pair l c.args.from c.args.to c.in_ok-at.at at).0
    (rw c.deref.ensures.0 (placed_first l c.args.from c.args.to c.in_ok-at.at _ at))
