-- What writing a document into a lent output answers and leaves.
use Rattle.std.specs.Prelude.{ℕ, cond, List, ◌++◌, length, drop, Ok, Err, Result, nat_le}
use Rattle.msc.specs.Doc.{Doc}
use Rattle.msc.specs.Shortest.{text_of}
use Rattle.lexis.specs.declared.refusal.Refusal.{Refusal}
use Rattle.lexis.specs.declared.refusal.Refusal.TheVariants.{Short}

-- the length of the text, or the refusal with the length that it needs
abbrev pub write_of : Doc → List ℕ → Result ℕ Refusal
write_of d out = cond (nat_le (length (text_of d)) (length out)) (Ok (length (text_of d))) (Err (Short (length (text_of d))))

-- the text stands at the front and the rest is untouched; a refusal leaves all as it was
abbrev pub after_write : Doc → List ℕ → List ℕ
after_write d out = cond (nat_le (length (text_of d)) (length out)) (text_of d ++ drop (length (text_of d)) out) out
