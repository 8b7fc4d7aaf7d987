use Rattle.std.proofs.Common.{sym, ◌∙◌}
use Rattle.lanes.specs.Rows.{total-rows}
use Rattle.lanes.proofs.LanesChannel.count.Goals as goal

pub returns : goal.returns
returns c = λ _. let l = c.args.self.now in c.len.ensures.value ∙ sym (total-rows l.slots.items l.pairs)
