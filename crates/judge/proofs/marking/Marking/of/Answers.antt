use Rattle.std.proofs.Common.{◌≡◌, true, set, Some, None, sym, refl, ap, ◌∙◌, arith, length-set}
use Rattle.judge.specs.Checks.{next_mark, unmarked, marked}
use Rattle.order.specs.Meant.{meant}
use Rattle.order.proofs.Scanned.{find_lowest, repeat_next, repeat_stop, repeat_end}
use Rattle.judge.proofs.marking.Marking.of.Goals as goal

pub loop-init : goal.loop-init
unfolding marked
loop-init c = (refl, refl, refl)

pub bounds-marking-x : goal.bounds-marking-x
bounds-marking-x c = let f = find_lowest (unmarked (meant c.loop.marking.document.now) c.loop.marking.marks) 0 65 c.in-Some.x (sym c.in-Some.ensures) in omega (arith, f.to)

pub returns-in-None : goal.returns-in-None
returns-in-None c =
    let n : next_mark (meant c.args.document.now) c.loop.marking.marks ≡ None = ap (λ d. next_mark (meant d) c.loop.marking.marks) (sym c.loop.invariant.2) ∙ sym c.in-None.ensures in
    record { document = c.loop.invariant.2; marks = repeat_stop (next_mark (meant c.args.document.now)) (λ marks x. set marks x true) c.loop.counter 64 c.loop.marking.marks n ∙ c.loop.invariant.0 }

pub loop-preserved : goal.loop-preserved
loop-preserved c =
    let n : next_mark (meant c.args.document.now) c.loop.marking.marks ≡ Some c.in-Some.x = ap (λ d. next_mark (meant d) c.loop.marking.marks) (sym c.loop.invariant.2) ∙ sym c.in-Some.ensures in (
      repeat_next (next_mark (meant c.args.document.now)) (λ marks x. set marks x true) c.loop.counter 64 c.loop.marking.marks c.in-Some.x c.loop-test.true n ∙ c.loop.invariant.0,
      length-set c.loop.marking.marks c.in-Some.x true ∙ c.loop.invariant.1,
      c.loop.invariant.2,
    )

pub returns : goal.returns
returns c = record {
  document = c.loop.invariant.2;
  marks = repeat_end (next_mark (meant c.args.document.now)) (λ marks x. set marks x true) c.loop.counter 64 c.loop.marking.marks c.loop-test.false ∙ c.loop.invariant.0;
}
