use Rattle.std.proofs.Common.{◌≡◌, ◌-◌}
use Rattle.lexis.specs.Steps.{repeat}
use Rattle.forms.specs.Reading.{event_turn}
use Rattle.parts.specs.Turns.{events_in}
use Rattle.parts.specs.Readings.{here, Keeps}
use Rattle.parts.proofs.reading.Reading.events.Given as goal

-- what is left comes to what the whole comes to; words, text, closed parts and charts are as they were
abbrev pub invariant-loop : goal.invariant-loop
invariant-loop l =
    (here (λ ws. repeat (event_turn ws l.own) (65 - l.counter)) l.self ≡ here (λ ws. events_in ws l.own) l.initial.self)
    × Keeps l.initial.self l.self
