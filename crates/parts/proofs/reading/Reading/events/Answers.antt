use Rattle.std.proofs.Common.{◌-◌, refl, sym, ◌∙◌, arith}
use Rattle.forms.specs.Reading.{event_turn}
use Rattle.parts.specs.Turns.{events_in}
use Rattle.draft.proofs.Repeat.{ends}
use Rattle.parts.proofs.Loops.{goes_on, gives_up}
use Rattle.parts.proofs.reading.Reading.events.Goals as goal

pub loop-init : goal.loop-init
unfolding events_in
loop-init c = (refl, record { words = refl; text = refl; parts = refl; charts = refl })

pub returns-in_err-event_turn-clause-says : goal.returns-in_err-event_turn-clause-says
returns-in_err-event_turn-clause-says c =
    gives_up (λ ws. event_turn ws c.args.own) _ (65 - c.loop.counter) c.loop.self.draft _ _ _ c.loop.invariant.0 (64 - c.loop.counter) (omega arith) _ c.in_err-event_turn.ensures.says _ _ _ c.from_residual.ensures.1

pub loop-preserved : goal.loop-preserved
loop-preserved c =
    let k = c.event_turn.ensures.keeps in
    let l = c.loop.invariant.1 in (
      goes_on (λ ws. event_turn ws c.args.own) _ (65 - c.loop.counter) _ _ _ _ c.loop.invariant.0 _ (omega arith) _ k.words _ _ (sym c.is_break.ensures ∙ c.if-is_break.false) _ _ c.in_ok-event_turn.ensures.says,
      record { words = k.words ∙ l.words; text = k.text ∙ l.text; parts = k.parts ∙ l.parts; charts = k.charts ∙ l.charts },
    )

pub returns-then-is_break-clause-says : goal.returns-then-is_break-clause-says
returns-then-is_break-clause-says c =
    ends (event_turn c.loop.self.reader.words c.args.own) (65 - c.loop.counter) _ _ _ _ c.loop.invariant.0 (64 - c.loop.counter) (omega arith) _ _ (sym c.is_break.ensures ∙ c.if-is_break.true) _ _ c.in_ok-event_turn.ensures.says
