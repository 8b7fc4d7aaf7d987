use Rattle.std.proofs.Common.{◌+◌, ◌-◌, true, false, [], List, ℕ, sym, refl, ap, ◌∙◌, arith}
use Rattle.std.specs.declared.ops.ControlFlow.{ControlFlow}
use Rattle.lexis.specs.Steps.{got}
use Rattle.charts.specs.Turns.{chart_turn_in, named}
use Rattle.draft.proofs.Repeat.{ends}
use Rattle.parts.proofs.Loops.{goes_on, gives_up, stops}
use Rattle.charts.proofs.Opened.{same_charts}
use Rattle.charts.proofs.charts.charts.Goals as goal

pub loop-init : goal.loop-init
loop-init c = let r = c.args.reading.now in (same_charts r.reader.words r.draft r.reader.at r.reader.rest, refl, refl)

pub returns-in_err-name-clause-says : goal.returns-in_err-name-clause-says
returns-in_err-name-clause-says c = gives_up chart_turn_in _ (65 - c.loop.counter) (c.loop.reading.draft, []) _ _ _ c.loop.invariant.0 (64 - c.loop.counter) (omega arith) _ c.in_err-name.ensures.says _ _ _ c.from_residual.ensures.1

pub returns-in-Break-clause-says : goal.returns-in-Break-clause-says
returns-in-Break-clause-says c =
    let r = c.chart_turn.new.reading in
    ends (chart_turn_in c.loop.reading.reader.words) (65 - c.loop.counter) (c.loop.reading.draft, []) _ _ _ c.loop.invariant.0 (64 - c.loop.counter) (omega arith) (r.draft, c.in-Break.name) true refl _ _
    (ap (λ (f : ControlFlow (List ℕ) (Unit {0})). got (named r.draft f) r.reader.at r.reader.rest) (sym c.in-Break.is) ∙ c.in_ok-name.ensures.says)

pub loop-preserved : goal.loop-preserved
loop-preserved c =
    let r = c.chart_turn.new.reading in (
      goes_on chart_turn_in _ (65 - c.loop.counter) (c.loop.reading.draft, []) _ _ _ c.loop.invariant.0 (65 - (c.loop.counter + 1)) (omega arith) _ c.chart_turn.ensures.words (r.draft, []) false refl _ _
          (ap (λ (f : ControlFlow (List ℕ) (Unit {0})). got (named r.draft f) r.reader.at r.reader.rest) (sym c.in_default.is) ∙ c.in_ok-name.ensures.says),
      c.chart_turn.ensures.words ∙ c.loop.invariant.1,
      c.chart_turn.ensures.text ∙ c.loop.invariant.2,
    )

pub returns-clause-says : goal.returns-clause-says
returns-clause-says c = stops chart_turn_in c.loop.reading.reader.words (65 - c.loop.counter) (c.loop.reading.draft, []) _ _ _ c.loop.invariant.0 (omega arith) _ c.at.ensures
