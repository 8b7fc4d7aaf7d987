use Rattle.std.proofs.Common.{ltb, sym, ap, ◌∙◌}
use Rattle.draft.proofs.Held.{so_far_lem, over_pushed}
use Rattle.draft.proofs.draft.Draft.push_event.Goals as goal

pub returns-clause-done : goal.returns-clause-done
returns-clause-done c = rw (← c.self.view_is) (c.push.ensures.done ∙ ap (λ n. ltb n 1024) (sym (so_far_lem c.self.inside c.self.invariant)))

pub returns-clause-is : goal.returns-clause-is
returns-clause-is c = rw (← c.self.view_is) (over_pushed c.self.inside c.self.invariant c.push.result _ c.args.e c.push.ensures.items)
