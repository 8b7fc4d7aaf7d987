-- What a page takes of a text.
use Rattle.std.specs.Prelude.{ℕ, List, take}
use Rattle.msc.specs.Sound.{most}

-- a page has room for the longest text of a document
abbrev pub fit : List ℕ → List ℕ
fit bs = take most bs
