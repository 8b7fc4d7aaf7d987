-- Words: which byte lists are words, which of them are reserved, and which are names.
use Rattle.std.specs.Prelude.{ℕ, suc, Bool, true, false, cond, not, ◌&&◌, ◌||◌, List, [], ◌∷◌, length, Some, None, Option, ◌==◌, nat_le, nat_lt}
use Rattle.std.specs.List.{prefix_len, list_all, list_any}
use Rattle.std.specs.Str.{bytes_eq}

abbrev pub within : ℕ → ℕ → ℕ → Bool
within low high b = nat_le low b && nat_le b high

-- an ASCII letter
abbrev pub letter : ℕ → Bool
letter b = within 97 122 b || within 65 90 b

-- a digit or the underscore, which stand inside a word only
abbrev pub inner : ℕ → Bool
inner b = within 48 57 b || b == 95

abbrev pub wordy : ℕ → Bool
wordy b = letter b || inner b

-- a letter, then letters, digits or underscores, at most sixteen bytes in all
abbrev pub is_word : List ℕ → Bool
is_word [] = false
is_word (b ∷ w) = letter b && (prefix_len wordy w == length w && nat_lt (length w) 16)

-- the first place at which a word stands in a list of words, the first of them counted as k
abbrev pub place_from : ℕ → List (List ℕ) → List ℕ → Option ℕ
place_from k [] w = None
place_from k (x ∷ xs) w = cond (bytes_eq w x) (Some k) (place_from (suc k) xs w)

abbrev pub place : List (List ℕ) → List ℕ → Option ℕ
place xs w = place_from 0 xs w

abbrev pub has : List (List ℕ) → List ℕ → Bool
has xs w = list_any (bytes_eq w) xs

abbrev pub every : {A : Type 0} → (A → Bool) → List A → Bool
every p xs = list_all p xs

-- no word stands twice
abbrev pub distinct : List (List ℕ) → Bool
distinct [] = true
distinct (x ∷ xs) = not (has xs x) && distinct xs

-- a table of reserved words: sixteen words, all different
abbrev pub is_vocabulary : List (List ℕ) → Bool
is_vocabulary ws = length ws == 16 && (every is_word ws && distinct ws)

-- a name is a word that is not reserved
abbrev pub is_name : List (List ℕ) → List ℕ → Bool
is_name ws w = is_word w && not (has ws w)
