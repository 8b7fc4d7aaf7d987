-- The forms of a text ahead of the instances and behind the charts, each shut.
use Rattle.std.specs.Prelude.{ℕ, List}
use Rattle.msc.specs.declared.symbol.Symbol.TheVariants.{Semi}
use Rattle.msc.specs.declared.words.Keyword.TheVariants as keyword
use Rattle.lexis.specs.Lexing.{name_at, word_at, sign_at, end_at}
use Rattle.lexis.specs.Steps.{Step, got, and_then}
use Rattle.forms.specs.Drafts.{Mention, Line}
use Rattle.forms.specs.Reading.{list_at, lines_at}

module _ (ws : List (List ℕ)) where
  -- mscdocument name ;
  unfoldable pub head_at : ℕ → List ℕ → Step (List ℕ)
  head_at p s =
      and_then (word_at ws keyword.Mscdocument p s) λ _ p s.
      and_then (name_at ws p s) λ n p s.
      and_then (sign_at ws Semi p s) λ _ p s.
      got n.0 p s

  -- list ; label lines endmsc ; endmscdocument ; and the text's end, where charts have these names
  unfoldable pub tail_at : List (List ℕ) → ℕ → List ℕ → Step (List Mention × List Line)
  tail_at charts p s =
      and_then (list_at ws Semi p s) λ ms p s.
      and_then (lines_at ws charts p s) λ ls p s.
      and_then (sign_at ws Semi p s) λ _ p s.
      and_then (word_at ws keyword.Endmscdocument p s) λ _ p s.
      and_then (sign_at ws Semi p s) λ _ p s.
      and_then (end_at ws p s) λ _ p s.
      got (ms, ls) p s
