use Rattle.std.proofs.Common.{◌≡◌, ◌-◌}
use Rattle.lexis.specs.Readers.{from}
use Rattle.lexis.specs.Steps.{repeat}
use Rattle.forms.specs.Reading.{line_turn, lines_at}
use Rattle.graph.specs.Parts.{names_of}
use Rattle.graph.proofs.grammar.lines.Given as goal

-- what is left comes to what the whole comes to, under the same words and charts and in the same text
abbrev pub invariant-loop : goal.invariant-loop
invariant-loop l = record {
  says : from (λ ws. repeat (line_turn ws (names_of l.fn.charts)) (65 - l.counter) l.lines.lines) l.reader ≡ from (λ ws. lines_at ws (names_of l.fn.charts)) l.initial.reader;
  words : l.reader.words ≡ l.initial.reader.words;
  text : l.reader.text ≡ l.initial.reader.text;
  charts : l.lines.charts.now ≡ l.fn.charts;
}
