-- What a tray means, as a bag, and the order that it keeps.
use Rattle.std.specs.Prelude.{ℕ, ◌-◌, cond, List, [], ◌∷◌, ◌++◌, length, take, ◌==◌, nat_lt}
use Rattle.std.specs.List.{swap}
use Rattle.bag.specs.declared.Stamped.{Stamped}
use Rattle.tray.specs.declared.table.Tray.{Tray}

abbrev pub letters_in : Tray → List Stamped
letters_in t = t.items.items

abbrev pub space_of : Tray → ℕ
space_of t = 32

-- the type itself keeps a tray's invariant, so that each tray is sound
abbrev pub Sound : Tray → Type 0
Sound t = Unit {0}

-- the list that a put leaves: the new letter comes last, and a full tray stays as it is
abbrev pub after_put : List Stamped → Stamped → List Stamped
after_put xs x = cond (length xs == 32) xs (xs ++ (x ∷ []))

-- a list without its i-th letter: it changes places with the last one, which is then cut off
abbrev pub gap_filled : {X : Type 0} → List X → ℕ → List X
gap_filled xs i = take (length xs - 1) (swap xs i (length xs - 1))

-- the list that a take leaves
abbrev pub after_take : List Stamped → ℕ → List Stamped
after_take xs i = cond (nat_lt i (length xs)) (gap_filled xs i) xs
