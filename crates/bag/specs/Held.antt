-- What the questions to a bag answer, over the list that it holds.
use Rattle.std.specs.Prelude.{ℕ, cond, List, length, Ok, Err, Result, ◌==◌, slice_get, ok_or}
use Rattle.channel.specs.declared.Refusal.{Refusal}
use Rattle.channel.specs.declared.Refusal.TheVariants.{Full, Empty}
use Rattle.bag.specs.declared.Stamped.{Stamped}

-- the i-th letter, or the refusal where there is none
abbrev pub shown_at : List Stamped → ℕ → Result Stamped Refusal
shown_at xs i = ok_or (slice_get xs i) Empty

-- what a put answers: it is refused at the limit, and else never
abbrev pub put_of : List Stamped → ℕ → Result (Unit {0}) Refusal
put_of xs space = cond (length xs == space) (Err Full) (Ok tt)
