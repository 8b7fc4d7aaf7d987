use Rattle.std.proofs.Common.{◌+◌, get_or, sym, refl, ◌∙◌, arith, length-set}
use Rattle.order.specs.Charts.{ready, can_play, advanced, played}
use Rattle.order.specs.Meant.{parts}
use Rattle.order.proofs.Greedy.{nothing}
use Rattle.order.proofs.Scanned.{find_lowest, repeat_next, repeat_stop, repeat_end}
use Rattle.order.proofs.Walks.{raised}
use Rattle.order.proofs.drawing.Drawing.played.Goals as goal

pub loop-init : goal.loop-init
unfolding played
loop-init c = (refl, refl, λ j. omega (arith, nothing j))

pub bounds-done-i : goal.bounds-done-i
bounds-done-i c = let f = find_lowest (can_play (parts c.args.self.now) c.loop.done) 0 8 c.in-Some.i (sym c.in-Some.ensures) in omega (arith, f.to)

pub overflow_add-done : goal.overflow_add-done
overflow_add-done c = omega (arith, c.loop.invariant.2 c.in-Some.i, c.loop-test.true)

pub bounds-done-i-in-Some : goal.bounds-done-i-in-Some
bounds-done-i-in-Some c = let f = find_lowest (can_play (parts c.args.self.now) c.loop.done) 0 8 c.in-Some.i (sym c.in-Some.ensures) in omega (arith, f.to)

pub returns-in-None : goal.returns-in-None
returns-in-None c = repeat_stop (ready (parts c.args.self.now)) (advanced (parts c.args.self.now)) c.loop.counter 64 c.loop.done (sym c.in-None.ensures) ∙ c.loop.invariant.0

pub loop-preserved : goal.loop-preserved
loop-preserved c = (
  repeat_next (ready (parts c.args.self.now)) (advanced (parts c.args.self.now)) c.loop.counter 64 c.loop.done c.in-Some.i c.loop-test.true (sym c.in-Some.ensures) ∙ c.loop.invariant.0,
  length-set c.loop.done c.in-Some.i (get_or c.loop.done c.in-Some.i 0 + 1) ∙ c.loop.invariant.1,
  raised c.loop.done c.in-Some.i c.loop.counter c.loop.invariant.2,
)

pub returns : goal.returns
returns c = repeat_end (ready (parts c.args.self.now)) (advanced (parts c.args.self.now)) c.loop.counter 64 c.loop.done c.loop-test.false ∙ c.loop.invariant.0
