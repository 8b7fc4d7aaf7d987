use Rattle.std.proofs.Common.{◌≡◌, ◌-◌}
use Rattle.lexis.specs.Steps.{repeat}
use Rattle.lexis.specs.Readers.{from}
use Rattle.forms.specs.Reading.{inst_turn}
use Rattle.charts.specs.Turns.{instances_in}
use Rattle.charts.proofs.instances.more_instances.Given as goal

-- what is left comes to what the whole comes to; words and text are as they were
abbrev pub invariant-loop : goal.invariant-loop
invariant-loop l =
    (from (λ ws. repeat (inst_turn ws) (8 - l.counter) l.draft) l.reader ≡ from (λ ws. instances_in ws l.initial.draft) l.initial.reader)
    × (l.reader.words ≡ l.initial.reader.words)
    × (l.reader.text ≡ l.initial.reader.text)
