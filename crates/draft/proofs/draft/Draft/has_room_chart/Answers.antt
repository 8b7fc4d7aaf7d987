use Rattle.std.proofs.Common.{ltb, sym, ap, ◌∙◌}
use Rattle.draft.proofs.Ending.{length_charts}
use Rattle.draft.proofs.draft.Draft.has_room_chart.Goals as goal

pub returns : goal.returns
returns c = let d = c.self.inside in rw (← c.self.view_is) (ap (λ n. ltb n 64) (c.len.ensures.is ∙ sym (length_charts d.events 0 d.charts)))
