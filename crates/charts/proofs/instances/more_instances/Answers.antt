use Rattle.std.proofs.Common.{◌-◌, refl, sym, ◌∙◌, arith}
use Rattle.forms.specs.Reading.{inst_turn}
use Rattle.charts.specs.Turns.{instances_in}
use Rattle.draft.proofs.Repeat.{ends}
use Rattle.parts.proofs.Loops.{goes_on, gives_up}
use Rattle.charts.proofs.instances.more_instances.Goals as goal

pub loop-init : goal.loop-init
unfolding instances_in
loop-init c = (refl, refl, refl)

pub returns-in_err-instance_turn : goal.returns-in_err-instance_turn
returns-in_err-instance_turn c = record {
  says = gives_up inst_turn _ (8 - c.loop.counter) c.loop.draft _ _ _ c.loop.invariant.0 (7 - c.loop.counter) (omega arith) _ c.in_err-instance_turn.ensures.says _ _ _ c.from_residual.ensures.1;
  words = c.instance_turn.ensures.words ∙ c.loop.invariant.1;
  text = c.instance_turn.ensures.text ∙ c.loop.invariant.2;
}

pub returns-then-is_break : goal.returns-then-is_break
returns-then-is_break c = record {
  says = ends (inst_turn c.loop.reader.words) (8 - c.loop.counter) _ _ _ _ c.loop.invariant.0 (7 - c.loop.counter) (omega arith) _ _ (sym c.is_break.ensures ∙ c.if-is_break.true) _ _ c.in_ok-instance_turn.ensures.says;
  words = c.instance_turn.ensures.words ∙ c.loop.invariant.1;
  text = c.instance_turn.ensures.text ∙ c.loop.invariant.2;
}

pub loop-preserved : goal.loop-preserved
loop-preserved c = (
  goes_on inst_turn _ (8 - c.loop.counter) _ _ _ _ c.loop.invariant.0 _ (omega arith) _ c.instance_turn.ensures.words _ _ (sym c.is_break.ensures ∙ c.if-is_break.false) _ _ c.in_ok-instance_turn.ensures.says,
  c.instance_turn.ensures.words ∙ c.loop.invariant.1,
  c.instance_turn.ensures.text ∙ c.loop.invariant.2,
)
