-- The same reading of instances and charts, where a repetition is a definition that stays shut.
use Rattle.std.specs.Prelude.{◌≡◌, ℕ, Bool, true, false, cond, List, [], length, nat_lt}
use Rattle.std.specs.declared.ops.ControlFlow.{ControlFlow}
use Rattle.std.specs.declared.ops.ControlFlow.TheVariants.{Continue, Break}
use Rattle.msc.specs.Doc.{chart_names}
use Rattle.msc.specs.declared.symbol.Symbol.TheVariants.{Semi}
use Rattle.msc.specs.declared.words.Keyword.TheVariants as keyword
use Rattle.lexis.specs.Lexing.{next_of, is_key, word_at, sign_at}
use Rattle.lexis.specs.Steps.{Step, got, bad, and_then, repeat}
use Rattle.lexis.specs.declared.refusal.Refusal.TheVariants.{Unexpected, Twice}
use Rattle.forms.specs.Drafts.{Draft, opened, closed, charted}
use Rattle.forms.specs.Reading.{new_name_at, old_name_at, inst_turn}
use Rattle.parts.specs.Turns.{events_in}
use Rattle.parts.specs.declared.reading.Reading.{Reading}

module _ (ws : List (List ℕ)) where
  -- instance lines behind the first
  unfoldable pub instances_in : Draft → ℕ → List ℕ → Step Draft
  instances_in d p s = repeat (inst_turn ws) 8 d p s

  -- a part behind its instance's name
  abbrev pub part_in : ℕ → Draft → ℕ → List ℕ → Step Draft
  part_in i d p s =
      and_then (sign_at ws Semi p s) λ _ p s.
      and_then (events_in ws i (opened d i) p s) λ d p s.
      and_then (sign_at ws Semi p s) λ _ p s.
      got (closed d) p s

  abbrev pub block_in : Draft → ℕ → List ℕ → Step Draft
  block_in d p s =
      and_then (old_name_at ws d.instances p s) λ i p s.
      cond (nat_lt i.0 (length d.parts)) (bad (Twice i.1)) (part_in i.0 d p s)

  abbrev pub block_turn_in : Draft → ℕ → List ℕ → Step (Draft × Bool)
  block_turn_in d p s = and_then (next_of ws p s) λ t p s.
      cond (is_key keyword.Instance t.0) (and_then (block_in d p s) λ d p s. got (d, false) p s)
      (cond (is_key keyword.Endmsc t.0) (got (d, true) p s) (bad (Unexpected t.1)))

  -- the blocks of a chart
  unfoldable pub blocks_in : Draft → ℕ → List ℕ → Step Draft
  blocks_in d p s = repeat block_turn_in 9 d p s

  abbrev pub chart_in : Draft → List ℕ → ℕ → List ℕ → Step Draft
  chart_in d w p s =
      and_then (blocks_in d p s) λ d p s.
      and_then (sign_at ws Semi p s) λ _ p s.
      and_then (word_at ws keyword.Msc p s) λ _ p s.
      got (charted d w) p s

  abbrev pub chart_turn_in : Draft × List ℕ → ℕ → List ℕ → Step ((Draft × List ℕ) × Bool)
  chart_turn_in d p s =
      and_then (new_name_at ws (chart_names d.0.charts) p s) λ w p s.
      and_then (sign_at ws Semi p s) λ _ p s.
      and_then (next_of ws p s) λ t p' s'.
      cond (is_key keyword.Expr t.0) (got ((d.0, w), true) p' s')
      (cond (nat_lt (length d.0.charts) 64) (and_then (chart_in d.0 w p s) λ e p s. got ((e, d.1), false) p s) (bad (Unexpected t.1)))

-- what a turn says of a draft: the graph's name, which is the last, or that a chart was read
abbrev pub named : Draft → ControlFlow (List ℕ) (Unit {0}) → (Draft × List ℕ) × Bool
named d (Break n) = ((d, n), true)
named d (Continue x) = ((d, []), false)

-- words, text and charts are as they were
pub record Stays (old new : Reading) : Type 0 where
  pub words : new.reader.words ≡ old.reader.words
  pub text : new.reader.text ≡ old.reader.text
  pub charts : new.draft.charts ≡ old.draft.charts
