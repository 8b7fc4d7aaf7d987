-- The tokens of a text, under a table of reserved words.
use Rattle.std.specs.Prelude.{ℕ, ◌+◌, Bool, true, false, cond, List, [], ◌∷◌, take, drop, Some, None, Option, ◌==◌, nat_lt, slice_index_or}
use Rattle.std.specs.List.{prefix_len}
use Rattle.msc.specs.Spelling.{wordy, place}
use Rattle.msc.specs.Tokens.{Tok, name, word, sign, end, keywords, rank, sign_byte}
use Rattle.msc.specs.declared.symbol.Symbol.{Symbol}
use Rattle.msc.specs.declared.symbol.Symbol.TheVariants as symbol
use Rattle.msc.specs.declared.words.Keyword.{Keyword}
use Rattle.msc.specs.declared.words.Keyword.TheVariants as keyword
use Rattle.lexis.specs.Classes.{separator, class_of}
use Rattle.lexis.specs.Steps.{Step, got, bad, and_then}
use Rattle.lexis.specs.declared.class.Class.{Class}
use Rattle.lexis.specs.declared.class.Class.TheVariants.{Separator, Letter, Inner, Open, Close, Colon, Semi, Illegal}
use Rattle.lexis.specs.declared.refusal.Refusal.TheVariants as refusal

-- a word is the keyword at its place in the table, or a name
abbrev pub at_place : Option ℕ → List ℕ → Tok
at_place None w = name w
at_place (Some k) w = word (slice_index_or keywords k keyword.Mscdocument)

module _ (ws : List (List ℕ)) where
  abbrev pub tok_of : List ℕ → Tok
  tok_of w = at_place (place ws w) w

  -- the word of n bytes at the front of s, which is at p
  abbrev pub word_of : ℕ → List ℕ → ℕ → Step (Tok × ℕ)
  word_of p s n = cond (nat_lt 16 n) (bad (refusal.Illegal p)) (got (tok_of (take n s), p) (p + n) (drop n s))

  -- the token that the first byte begins
  abbrev pub by_class : Class → ℕ → ℕ → List ℕ → Step (Tok × ℕ)
  by_class Separator p b s = bad (refusal.Illegal p)
  by_class Letter p b s = word_of p (b ∷ s) (prefix_len wordy (b ∷ s))
  by_class Inner p b s = bad (refusal.Illegal p)
  by_class Open p b s = got (sign symbol.Open, p) (p + 1) s
  by_class Close p b s = got (sign symbol.Close, p) (p + 1) s
  by_class Colon p b s = got (sign symbol.Colon, p) (p + 1) s
  by_class Semi p b s = got (sign symbol.Semi, p) (p + 1) s
  by_class Illegal p b s = bad (refusal.Illegal p)

  -- the token at the very front, with its place
  abbrev pub first_of : ℕ → List ℕ → Step (Tok × ℕ)
  first_of p [] = got (end, p) p []
  first_of p (b ∷ s) = by_class (class_of b) p b s

  -- the token after the separators in front
  abbrev pub next_of : ℕ → List ℕ → Step (Tok × ℕ)
  next_of p s = first_of (p + prefix_len separator s) (drop (prefix_len separator s) s)

  -- a name, with its place
  abbrev pub as_name : Tok → ℕ → ℕ → List ℕ → Step (List ℕ × ℕ)
  as_name (name w) q p s = got (w, q) p s
  as_name (word k) q p s = bad (refusal.Unexpected q)
  as_name (sign x) q p s = bad (refusal.Unexpected q)
  as_name end q p s = bad (refusal.Unexpected q)

  abbrev pub name_at : ℕ → List ℕ → Step (List ℕ × ℕ)
  name_at p s = and_then (next_of p s) λ t. as_name t.0 t.1

-- whether a token is the keyword k
abbrev pub is_key : Keyword → Tok → Bool
is_key k (name w) = false
is_key k (word j) = rank j == rank k
is_key k (sign x) = false
is_key k end = false

-- whether a token is the symbol x
abbrev pub is_sign : Symbol → Tok → Bool
is_sign x (name w) = false
is_sign x (word k) = false
is_sign x (sign y) = sign_byte y == sign_byte x
is_sign x end = false

abbrev pub is_end : Tok → Bool
is_end (name w) = false
is_end (word k) = false
is_end (sign y) = false
is_end end = true

module _ (ws : List (List ℕ)) where
  -- a token that passes a test, and no other
  abbrev pub token_at : (Tok → Bool) → ℕ → List ℕ → Step (Unit {0})
  token_at f p s = and_then (next_of ws p s) λ t p s. cond (f t.0) (got tt p s) (bad (refusal.Unexpected t.1))

  abbrev pub word_at : Keyword → ℕ → List ℕ → Step (Unit {0})
  word_at k = token_at (is_key k)

  abbrev pub sign_at : Symbol → ℕ → List ℕ → Step (Unit {0})
  sign_at x = token_at (is_sign x)

  -- the text's end
  abbrev pub end_at : ℕ → List ℕ → Step (Unit {0})
  end_at = token_at is_end
