-- What the calls of a reader say, by the place where it stands and the rest of its text.
use Rattle.std.specs.Prelude.{◌≡◌, ℕ, ◌+◌, ◌≤◌, Bool, true, false, cond, List, length, drop, Some, None, Ok, Err, Option, Result, ◌==◌}
use Rattle.msc.specs.Tokens.{Tok, name, word, sign, end}
use Rattle.msc.specs.declared.symbol.Symbol.{Symbol}
use Rattle.msc.specs.declared.symbol.Symbol.TheVariants.{Open, Close, Colon, Semi}
use Rattle.std.specs.List.{prefix_len}
use Rattle.lexis.specs.Classes.{separator}
use Rattle.lexis.specs.Lexing.{next_of}
use Rattle.lexis.specs.Steps.{Step, got, bad}
use Rattle.lexis.specs.Spots.{Spot}
use Rattle.lexis.specs.declared.refusal.Refusal.{Refusal}
use Rattle.lexis.specs.declared.refusal.Refusal.TheVariants.{Illegal}
use Rattle.lexis.specs.declared.class.Class.{Class}
use Rattle.lexis.specs.declared.class.Class.TheVariants as class
use Rattle.lexis.specs.declared.token.Token.{Token}
use Rattle.lexis.specs.declared.token.Token.TheVariants as token

abbrev pub meant : Token → Tok
meant (token.Name w) = name w.now
meant (token.Word k) = word k
meant (token.Sign x) = sign x
meant token.End = end

-- what a call says, with the reader that it leaves behind
abbrev pub step_of : {X A : Type 0} → (X → A) → Result X Refusal → Spot → Step A
step_of f (Ok x) after = got (f x) after.at after.rest
step_of f (Err e) after = bad e

-- a step at the place where a reader stands, under its words
abbrev pub from : {A : Type 0} → (List (List ℕ) → ℕ → List ℕ → Step A) → Spot → Step A
from f r = f r.words r.at r.rest

-- what a call reads: it comes to what the step f says (g of its answer), and leaves the reader there, under the same words and in the same text
pub record Reads {X A : Type 0} (f : List (List ℕ) → ℕ → List ℕ → Step A) (g : X → A) (result : Result X Refusal) (before after : Spot) : Type 0 where
  pub says : step_of g result after ≡ from f before
  pub words : after.words ≡ before.words
  pub text : after.text ≡ before.text

-- the same behind the separators, where a token begins
abbrev pub begun : Spot → Spot
begun r = let n = prefix_len separator r.rest in record r { at = r.at + n; rest = drop n r.rest; place = r.at + n }

-- a reader behind the token that a step comes to; where there is none it stays
abbrev pub moved : Step (Tok × ℕ) → Spot → Spot
moved (got t p s) r = record r { at = p; rest = s }
moved (bad e) r = r

-- a reader behind its next token, or, where none begins, at the byte at fault
abbrev pub passed : Spot → Spot
passed r = moved (from next_of r) (begun r)

-- the symbol that a byte is
abbrev pub sign_of : ℕ → Option Symbol
sign_of b = cond (b == 40) (Some Open) (cond (b == 41) (Some Close) (cond (b == 58) (Some Colon) (cond (b == 59) (Some Semi) None)))

abbrev pub symbol_of : Class → Option Symbol
symbol_of class.Separator = None
symbol_of class.Letter = None
symbol_of class.Inner = None
symbol_of class.Open = Some Open
symbol_of class.Close = Some Close
symbol_of class.Colon = Some Colon
symbol_of class.Semi = Some Semi
symbol_of class.Illegal = None

abbrev pub is_wordy : Class → Bool
is_wordy class.Separator = false
is_wordy class.Letter = true
is_wordy class.Inner = true
is_wordy class.Open = false
is_wordy class.Close = false
is_wordy class.Colon = false
is_wordy class.Semi = false
is_wordy class.Illegal = false

abbrev pub is_separator : Class → Bool
is_separator class.Separator = true
is_separator class.Letter = false
is_separator class.Inner = false
is_separator class.Open = false
is_separator class.Close = false
is_separator class.Colon = false
is_separator class.Semi = false
is_separator class.Illegal = false

-- the token of a symbol at p, with s behind it
abbrev pub symbol_at : Option Symbol → ℕ → List ℕ → Step (Tok × ℕ)
symbol_at None p s = bad (Illegal p)
symbol_at (Some x) p s = got (sign x, p) (p + 1) s

-- a name has at most sixteen bytes
abbrev pub Short : Tok → Type 0
Short (name w) = length w ≤ 16
Short (word k) = Unit {0}
Short (sign x) = Unit {0}
Short end = Unit {0}
