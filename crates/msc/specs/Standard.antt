-- The standard reserved words, in the order of the keywords.
use Rattle.std.specs.Prelude.{ℕ, List, [], ◌∷◌, codes}

abbrev pub standard_words : List (List ℕ)
standard_words =
    codes "mscdocument" ∷ codes "endmscdocument" ∷ codes "inst" ∷ codes "msc" ∷ codes "endmsc" ∷ codes "instance" ∷ codes "endinstance" ∷ codes "out"
    ∷ codes "in" ∷ codes "to" ∷ codes "from" ∷ codes "action" ∷ codes "expr" ∷ codes "seq" ∷ codes "alt" ∷ codes "end" ∷ []
