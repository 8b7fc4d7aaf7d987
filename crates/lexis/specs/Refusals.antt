-- The number and the value of a refusal.
use Rattle.std.specs.Prelude.{ℕ}
use Rattle.msc.specs.Sound.{most}
use Rattle.lexis.specs.declared.refusal.Refusal.{Refusal}
use Rattle.lexis.specs.declared.refusal.Refusal.TheVariants.{TooLong, Illegal, Unexpected, Limit, Twice, Undeclared, Itself, Short}

abbrev pub number_of : Refusal → ℕ
number_of TooLong = 1
number_of (Illegal p) = 2
number_of (Unexpected p) = 3
number_of (Limit p) = 4
number_of (Twice p) = 5
number_of (Undeclared p) = 6
number_of (Itself p) = 7
number_of (Short n) = 8

-- the longest text, the spot, or the length needed
abbrev pub value_of : Refusal → ℕ
value_of TooLong = most
value_of (Illegal p) = p
value_of (Unexpected p) = p
value_of (Limit p) = p
value_of (Twice p) = p
value_of (Undeclared p) = p
value_of (Itself p) = p
value_of (Short n) = n
