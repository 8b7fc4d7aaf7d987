-- The class of each byte.
use Rattle.std.specs.Prelude.{ℕ, Bool, cond, ◌||◌, ◌==◌}
use Rattle.msc.specs.Spelling.{letter, inner}
use Rattle.lexis.specs.declared.class.Class.{Class}
use Rattle.lexis.specs.declared.class.Class.TheVariants.{Separator, Letter, Inner, Open, Close, Colon, Semi, Illegal}

-- tab, line feed, carriage return, space
abbrev pub separator : ℕ → Bool
separator b = b == 9 || (b == 10 || (b == 13 || b == 32))

abbrev pub class_of : ℕ → Class
class_of b =
    cond (letter b) Letter
    (cond (inner b) Inner
    (cond (separator b) Separator
    (cond (b == 40) Open
    (cond (b == 41) Close
    (cond (b == 58) Colon
    (cond (b == 59) Semi Illegal))))))
