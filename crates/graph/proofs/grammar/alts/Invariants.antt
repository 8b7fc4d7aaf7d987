use Rattle.std.proofs.Common.{◌≡◌, ◌-◌, [], ◌∷◌}
use Rattle.lexis.specs.Readers.{from}
use Rattle.lexis.specs.Steps.{repeat}
use Rattle.forms.specs.Reading.{alt_turn}
use Rattle.graph.proofs.grammar.alts.Given as goal

-- what is left comes to what the whole comes to, under the same words and in the same text
abbrev pub invariant-loop : goal.invariant-loop
invariant-loop l = record {
  says : from (λ ws. repeat (alt_turn ws l.close) (8 - l.counter) l.list) l.reader ≡ from (λ ws. repeat (alt_turn ws l.close) 8 (l.fn.first ∷ [])) l.initial.reader;
  words : l.reader.words ≡ l.initial.reader.words;
  text : l.reader.text ≡ l.initial.reader.text;
}
