use Rattle.std.proofs.Common.{◌≡◌, ℕ, ◌-◌, ◌≤◌, length, get_or}
use Rattle.order.specs.Charts.{ready, advanced, played}
use Rattle.order.specs.Meant.{parts}
use Rattle.order.specs.Scans.{repeat}
use Rattle.order.proofs.drawing.Drawing.played.Given as goal

abbrev pub invariant-loop : goal.invariant-loop
invariant-loop l = (repeat (ready (parts l.self)) (advanced (parts l.self)) (64 - l.counter) l.done ≡ played (parts l.self))
    × (length l.done ≡ 8) × ((j : ℕ) → get_or l.done j 0 ≤ l.counter)
