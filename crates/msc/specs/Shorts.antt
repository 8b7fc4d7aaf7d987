-- A short list's fields are given back by the list of its bytes.
use Rattle.std.specs.Prelude.{ℕ, ◌≡◌, List, length, take}
use Rattle.std.proofs.Common.{sym, ap, ◌∙◌}
use Rattle.msc.specs.Padded.{padded, Holds, length_held}
use Rattle.msc.specs.declared.short.ShortList.TheInside.{Inside}

pub same : (n : ℕ) (a : Inside n) → Holds n a.len a.items → record { items = padded n (take a.len a.items); len = length (take a.len a.items) } ≡ a
same n a h =
    ap (λ (b : List ℕ). record { items = b; len = length (take a.len a.items) }) (sym h.rest)
    ∙ ap (λ (k : ℕ). record { items = a.items; len = k }) (length_held n a.len a.items h)
