use Rattle.std.proofs.Common.{sym, ◌∙◌, arith}
use Rattle.draft.proofs.Held.{so_far_lem}
use Rattle.draft.proofs.draft.Draft.so_far.Goals as goal

pub returns : goal.returns
returns c = rw (← c.self.view_is) (record { is = c.len.ensures.is ∙ sym (so_far_lem c.self.inside c.self.invariant); few = omega (arith, c.len.ensures.is, c.len.ensures.few) })
