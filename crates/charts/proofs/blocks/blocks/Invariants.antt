use Rattle.std.proofs.Common.{◌≡◌, ◌-◌}
use Rattle.lexis.specs.Steps.{repeat}
use Rattle.parts.specs.Readings.{here}
use Rattle.charts.specs.Turns.{block_turn_in, blocks_in, Stays}
use Rattle.charts.proofs.blocks.blocks.Given as goal

-- what is left comes to what the whole comes to; words, text and charts are as they were
abbrev pub invariant-loop : goal.invariant-loop
invariant-loop l =
    (here (λ ws. repeat (block_turn_in ws) (9 - l.counter)) l.reading ≡ here blocks_in l.initial.reading)
    × Stays l.initial.reading l.reading
