-- How many messages have gone out and come in.
use Rattle.std.specs.Prelude.{ℕ, zero, suc, ◌+◌, List, [], ◌∷◌}
use Rattle.msc.specs.declared.event.Event.TheVariants.{Out, In, Action}
use Rattle.theory.specs.Projection.{Placed, at}

-- f 0 and so on up to f (n - 1), added
abbrev pub sum_to : ℕ → (ℕ → ℕ) → ℕ
sum_to zero f = 0
sum_to (suc n) f = sum_to n f + f n

-- how many of the events are outs, and how many are ins
abbrev pub outs : List Placed → ℕ
outs [] = 0
outs (at x l (Out n q) ∷ xs) = suc (outs xs)
outs (at x l (In n p) ∷ xs) = outs xs
outs (at x l (Action n) ∷ xs) = outs xs

abbrev pub ins : List Placed → ℕ
ins [] = 0
ins (at x l (Out n q) ∷ xs) = ins xs
ins (at x l (In n p) ∷ xs) = suc (ins xs)
ins (at x l (Action n) ∷ xs) = ins xs
