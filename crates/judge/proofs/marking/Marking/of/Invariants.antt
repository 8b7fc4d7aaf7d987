use Rattle.std.proofs.Common.{◌≡◌, ◌-◌, true, length, set}
use Rattle.judge.specs.Checks.{next_mark, marked}
use Rattle.order.specs.Meant.{meant}
use Rattle.order.specs.Scans.{repeat}
use Rattle.judge.proofs.marking.Marking.of.Given as goal

abbrev pub invariant-loop : goal.invariant-loop
invariant-loop l = (repeat (next_mark (meant l.document)) (λ marks x. set marks x true) (64 - l.counter) l.marking.marks ≡ marked (meant l.document)) × (length l.marking.marks ≡ 65) × (l.marking.document.now ≡ l.document)
