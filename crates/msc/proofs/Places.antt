-- The search for a word among rows that have names.
use Rattle.std.proofs.Common.{◌≡◌, ℕ, suc, Bool, true, false, cond, ◌||◌, List, [], ◌∷◌, map, is_some, Some, Option, sym, refl, ap, ◌∙◌, add-one}
use Rattle.std.specs.Str.{bytes_eq}
use Rattle.std.specs.List.{position, position_from}
use Rattle.std.proofs.lemmas.Iterator.Adapters.{position_from-zero}
use Rattle.msc.specs.Spelling.{place_from, place, has}

-- a list has a word where the word has a place in it
found_here : (k : ℕ) (b t : Bool) (o : Option ℕ) → is_some o ≡ t → is_some (cond b (Some k) o) ≡ b || t
found_here k true t o h = refl
found_here k false t o h = h

pub place-has : (k : ℕ) (xs : List (List ℕ)) (w : List ℕ) → is_some (place_from k xs w) ≡ has xs w
place-has k [] w = refl
place-has k (x ∷ xs) w = found_here k (bytes_eq w x) (has xs w) (place_from (suc k) xs w) (place-has (suc k) xs w)

-- the search for a word is the search for a row that is called so
place-position_from : {T : Type 0} (called : T → List ℕ) (w : List ℕ) (k : ℕ) (rows : List T) → place_from k (map called rows) w ≡ position_from (λ row. bytes_eq w (called row)) k rows
place-position_from called w k [] = refl
place-position_from called w k (x ∷ xs) =
    ap (cond (bytes_eq w (called x)) (Some k)) (place-position_from called w (suc k) xs ∙ ap (λ j. position_from (λ row. bytes_eq w (called row)) j xs) (sym (add-one k)))

pub place-position : {T : Type 0} (called : T → List ℕ) (w : List ℕ) (rows : List T) → place (map called rows) w ≡ position (λ row. bytes_eq w (called row)) rows
place-position called w rows = place-position_from called w 0 rows ∙ sym (position_from-zero (λ row. bytes_eq w (called row)) rows)

pub has_from_place : (xs : List (List ℕ)) (w : List ℕ) → is_some (place xs w) ≡ has xs w
has_from_place xs w = place-has 0 xs w
