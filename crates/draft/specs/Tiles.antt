-- How parts lie in the table of events, one behind the other.
use Rattle.std.specs.Prelude.{ℕ, Bool, ◌&&◌, List, [], ◌∷◌, ◌==◌, nat_le, slice_index}
use Rattle.msc.specs.declared.chart.Chart.{Chart}

-- parts that begin at a and end in turn at the given places, the last at b
abbrev pub tiles : ℕ → List ℕ → ℕ → Bool
tiles a [] b = a == b
tiles a (e ∷ ends) b = nat_le a e && tiles e ends b

-- charts whose parts do so
abbrev pub rows : ℕ → List Chart → ℕ → Bool
rows a [] b = a == b
rows a (c ∷ cs) b = tiles a c.ends (slice_index c.ends 7) && rows (slice_index c.ends 7) cs b
