use Rattle.std.proofs.Common.{◌≡◌, [], length}
use Rattle.forms.specs.Drafts.{opened}
use Rattle.draft.proofs.draft.Draft.open_part.Given as goal

-- the count goes by the parts, nothing is open, and with the parts that are still wanted the draft is what it comes to
abbrev pub invariant-loop : goal.invariant-loop
invariant-loop l = (l.counter ≡ length l.self.parts) × (l.self.part ≡ []) × (opened l.self l.i ≡ opened l.initial.self l.i)
