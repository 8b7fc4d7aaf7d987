use Rattle.std.proofs.Common.{◌-◌, refl, sym, ◌∙◌, arith}
use Rattle.charts.specs.Turns.{block_turn_in, blocks_in}
use Rattle.parts.proofs.Loops.{goes_on, gives_up}
use Rattle.charts.proofs.blocks.blocks.Goals as goal

pub loop-init : goal.loop-init
unfolding blocks_in
loop-init c = (refl, record { words = refl; text = refl; charts = refl })

pub returns-in_err-block_turn-clause-says : goal.returns-in_err-block_turn-clause-says
returns-in_err-block_turn-clause-says c =
    gives_up block_turn_in _ (9 - c.loop.counter) c.loop.reading.draft _ _ _ c.loop.invariant.0 (8 - c.loop.counter) (omega arith) _ c.in_err-block_turn.ensures.says _ _ _ c.from_residual.ensures.1

pub loop-preserved : goal.loop-preserved
loop-preserved c =
    let k = c.block_turn.ensures.stays in
    let l = c.loop.invariant.1 in (
      goes_on block_turn_in _ (9 - c.loop.counter) _ _ _ _ c.loop.invariant.0 _ (omega arith) _ k.words _ _ (sym c.is_break.ensures ∙ c.if-is_break.false) _ _ c.in_ok-block_turn.ensures.says,
      record { words = k.words ∙ l.words; text = k.text ∙ l.text; charts = k.charts ∙ l.charts },
    )
