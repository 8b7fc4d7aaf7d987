-- Tokens, and how they are spelled.
use Rattle.std.specs.Prelude.{ℕ, Bool, true, false, cond, ◌&&◌, List, [], ◌∷◌, ◌++◌, slice_index_or}
use Rattle.msc.specs.declared.symbol.Symbol.{Symbol}
use Rattle.msc.specs.declared.symbol.Symbol.TheVariants.{Open, Close, Colon, Semi}
use Rattle.msc.specs.declared.words.Keyword.{Keyword}
use Rattle.msc.specs.declared.words.Keyword.TheVariants as keyword

-- the keywords, in the order of a table of reserved words
abbrev pub keywords : List Keyword
keywords =
    keyword.Mscdocument ∷ keyword.Endmscdocument ∷ keyword.Inst ∷ keyword.Msc ∷ keyword.Endmsc ∷ keyword.Instance ∷ keyword.Endinstance ∷ keyword.Out
    ∷ keyword.In ∷ keyword.To ∷ keyword.From ∷ keyword.Action ∷ keyword.Expr ∷ keyword.Seq ∷ keyword.Alt ∷ keyword.End ∷ []

-- the place of a keyword in a table of reserved words
abbrev pub rank : Keyword → ℕ
rank keyword.Mscdocument = 0
rank keyword.Endmscdocument = 1
rank keyword.Inst = 2
rank keyword.Msc = 3
rank keyword.Endmsc = 4
rank keyword.Instance = 5
rank keyword.Endinstance = 6
rank keyword.Out = 7
rank keyword.In = 8
rank keyword.To = 9
rank keyword.From = 10
rank keyword.Action = 11
rank keyword.Expr = 12
rank keyword.Seq = 13
rank keyword.Alt = 14
rank keyword.End = 15

abbrev pub spelling : List (List ℕ) → Keyword → List ℕ
spelling ws k = slice_index_or ws (rank k) []

abbrev pub sign_byte : Symbol → ℕ
sign_byte Open = 40
sign_byte Close = 41
sign_byte Colon = 58
sign_byte Semi = 59

-- what a text is cut into; `end` stands for the text's end
pub data Tok : Type 0 where
  name : List ℕ → Tok
  word : Keyword → Tok
  sign : Symbol → Tok
  end : Tok

abbrev pub spelled : List (List ℕ) → Tok → List ℕ
spelled ws (name w) = w
spelled ws (word k) = spelling ws k
spelled ws (sign x) = sign_byte x ∷ []
spelled ws end = []

abbrev pub is_word_tok : Tok → Bool
is_word_tok (name w) = true
is_word_tok (word k) = true
is_word_tok (sign x) = false
is_word_tok end = false

-- one space where a word follows a word
abbrev pub gap : Bool → Tok → List ℕ
gap after t = cond (after && is_word_tok t) (32 ∷ []) []

-- the shortest text of a list of tokens; `after` tells whether a word stands just ahead
abbrev pub spell_from : List (List ℕ) → Bool → List Tok → List ℕ
spell_from ws after [] = []
spell_from ws after (t ∷ ts) = gap after t ++ (spelled ws t ++ spell_from ws (is_word_tok t) ts)

abbrev pub spell : List (List ℕ) → List Tok → List ℕ
spell ws ts = spell_from ws false ts
