-- The repetitions, opened: instances and charts are read as the definition of reading says.
use Rattle.std.proofs.Common.{◌≡◌, ℕ, List, [], refl}
use Rattle.msc.specs.declared.words.Keyword.TheVariants as keyword
use Rattle.lexis.specs.Lexing.{word_at}
use Rattle.lexis.specs.Steps.{Step, and_then, repeat}
use Rattle.forms.specs.Drafts.{Draft, no_draft}
use Rattle.forms.specs.Reading.{inst_at, instances_at, charts_at}
use Rattle.parts.specs.Turns.{events_in}
use Rattle.charts.specs.Turns.{instances_in, blocks_in, chart_turn_in}

module _ (ws : List (List ℕ)) where
  pub by_lines : (p : ℕ) (s : List ℕ) (x : Step Draft) → x ≡ and_then (word_at ws keyword.Inst p s) (λ _ p s. and_then (inst_at ws no_draft 0 p s) (instances_in ws)) → x ≡ instances_at ws p s
  unfolding instances_in
  by_lines p s x h = h

  pub same_charts : (d : Draft) (p : ℕ) (s : List ℕ) → repeat (chart_turn_in ws) 65 (d, []) p s ≡ charts_at ws d p s
  unfolding events_in blocks_in
  same_charts d p s = refl
