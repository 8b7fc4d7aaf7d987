use Rattle.std.proofs.Common.{sym, ◌∙◌, arith}
use Rattle.draft.proofs.Tiling.{length_cut}
use Rattle.draft.proofs.draft.Draft.parts.Goals as goal

pub returns : goal.returns
returns c = let d = c.self.inside in rw (← c.self.view_is) (record { is = c.len.ensures.is ∙ sym (length_cut d.events d.first d.ends); few = omega (arith, c.len.ensures.is, c.len.ensures.few) })
