-- The numbers under which refusals are reported.
use Rattle.std.specs.Prelude.{ℕ}
use Rattle.channel.specs.declared.Refusal.{Refusal}
use Rattle.channel.specs.declared.Refusal.TheVariants.{NotAPair, Full, Empty}

abbrev pub number_of : Refusal → ℕ
number_of NotAPair = 41
number_of Full = 42
number_of Empty = 43
