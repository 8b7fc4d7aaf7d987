-- Repetitions that the checks are made of.
use Rattle.std.specs.Prelude.{ℕ, zero, suc, Some, None, Option}

-- what follows where there is something more to do
abbrev pub onward : {S : Type 0} → Option ℕ → S → (ℕ → S) → S
onward None s go = s
onward (Some x) s go = go x

-- at most n times, adds to the state what is next, until there is nothing more
unfoldable pub repeat : {S : Type 0} → (S → Option ℕ) → (S → ℕ → S) → ℕ → S → S
repeat next add zero s = s
repeat next add (suc n) s = onward (next s) s (λ x. repeat next add n (add s x))
