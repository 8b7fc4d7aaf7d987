-- Where a reader stands.
use Rattle.std.specs.Prelude.{ℕ, List}

-- the reserved words in force, the whole text, the place of the next byte, the bytes from there on, and the place of the token that was read last
pub record Spot : Type 0 where
  pub words : List (List ℕ)
  pub text : List ℕ
  pub at : ℕ
  pub rest : List ℕ
  pub place : ℕ
