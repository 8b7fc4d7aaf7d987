-- The page that tokens are written on, one after the other.
use Rattle.std.specs.Prelude.{ℕ, Bool, false, List, [], ◌∷◌, ◌++◌}
use Rattle.msc.specs.Doc.{Doc}
use Rattle.msc.specs.Tokens.{Tok, is_word_tok, spelled, gap}
use Rattle.writing.specs.Fit.{fit}

-- the document that is written, what stands on the page so far, and whether a word stands last
pub record Page : Type 0 where
  pub document : Doc
  pub bytes : List ℕ
  pub after : Bool

-- a token more, with one space ahead where a word follows a word
unfoldable pub with : Page → Tok → Page
with p t = record { document = p.document; bytes = fit (p.bytes ++ (gap p.after t ++ spelled p.document.words t)); after = is_word_tok t }

-- tokens more
abbrev pub penned : Page → List Tok → Page
penned p [] = p
penned p (t ∷ ts) = penned (with p t) ts

abbrev pub blank : Doc → Page
blank d = record { document = d; bytes = []; after = false }
