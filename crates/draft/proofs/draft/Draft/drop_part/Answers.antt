use Rattle.std.proofs.Common.{ap, ◌∙◌}
use Rattle.draft.proofs.Held.{over, over_front}
use Rattle.draft.proofs.draft.Draft.drop_part.Goals as goal

pub returns : goal.returns
returns c =
    let d = c.self.inside in
    let l = c.self.invariant in
    rw (← c.self.view_is) (ap (over d l) c.truncate.ensures ∙ over_front d l d.events l.within)
