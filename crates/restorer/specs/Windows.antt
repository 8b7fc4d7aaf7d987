-- The stamps of each pair.
use Rattle.std.specs.Prelude.{ℕ, ◌+◌, ◌-◌, ◌%◌, [], replicate, slice_index_or}
use Rattle.restorer.specs.declared.Window.{Window}
use Rattle.restorer.specs.declared.Windows.{Windows}
use Rattle.restorer.specs.Stamps.{Cells}

abbrev pub window_of : Windows → ℕ → ℕ → Window
window_of w f t = slice_index_or (slice_index_or w.rows f []) t (record { due = 0; next = 0 })

-- the stamps that are due
abbrev pub due_in : Windows → Cells
due_in w f t = (window_of w f t).due

-- how many stamps lie from the one that is due to the next to be given
abbrev pub between : Windows → Cells
between w f t = ((window_of w f t).next + (4294967296 - due_in w f t)) % 4294967296

-- for each pair one stamp is due and next
abbrev pub all_from : ℕ → Windows
all_from stamp = record { rows = replicate 8 (replicate 8 (record { due = stamp; next = stamp })) }
