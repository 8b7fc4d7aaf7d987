-- One step of a reader.
use Rattle.std.specs.Prelude.{ℕ, zero, suc, Bool, cond, List, is_some}
use Rattle.std.specs.declared.ops.ControlFlow.{ControlFlow}
use Rattle.std.specs.ControlFlow.{break_value}
use Rattle.lexis.specs.declared.refusal.Refusal.{Refusal}
use Rattle.lexis.specs.declared.refusal.Refusal.TheVariants.{Limit}

-- what a reader comes to at a place of a text: a value, the place after it and the rest of the text, or a refusal
pub data Step (A : Type 0) : Type 0 where
  got : A → ℕ → List ℕ → Step A
  bad : Refusal → Step A

-- one step and then, where it came to a value, another
abbrev pub and_then : {A B : Type 0} → Step A → (A → ℕ → List ℕ → Step B) → Step B
and_then (got a p s) k = k a p s
and_then (bad e) k = bad e

-- at most n turns, each from what the one ahead came to, until one says that it is the last
abbrev pub repeat : {A : Type 0} → (A → ℕ → List ℕ → Step (A × Bool)) → ℕ → A → ℕ → List ℕ → Step A
repeat f zero a p s = bad (Limit p)
repeat f (suc n) a p s = and_then (f a p s) λ r p s. cond r.1 (got r.0 p s) (repeat f n r.0 p s)

-- whether a turn is the last
abbrev pub is_last : {B C : Type 0} → ControlFlow B C → Bool
is_last f = is_some (break_value f)
