use Rattle.std.proofs.Common.{◌≡◌, ◌-◌, []}
use Rattle.lexis.specs.Steps.{repeat}
use Rattle.forms.specs.Reading.{charts_at}
use Rattle.parts.specs.Readings.{here}
use Rattle.charts.specs.Turns.{chart_turn_in}
use Rattle.charts.proofs.charts.charts.Given as goal

-- what is left comes to what the whole comes to; words and text are as they were
abbrev pub invariant-loop : goal.invariant-loop
invariant-loop l =
    (here (λ ws d. repeat (chart_turn_in ws) (65 - l.counter) (d, [])) l.reading ≡ here charts_at l.initial.reading)
    × (l.reading.reader.words ≡ l.initial.reading.reader.words)
    × (l.reading.reader.text ≡ l.initial.reading.reader.text)
