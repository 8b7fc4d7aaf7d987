-- The names of rows, by the lists that they stand for.
use Rattle.std.proofs.Common.{◌≡◌, List, [], ◌∷◌, map, refl, ap}
use Rattle.forms.specs.Drafts.{Mention, mentioned, Line, line_names}

pub mention_names : (ms : List Mention) → map (λ (m : Mention). m.name) ms ≡ mentioned ms
mention_names [] = refl
mention_names (m ∷ ms) = ap (λ xs. m.name ∷ xs) (mention_names ms)

pub line_names_lem : (ls : List Line) → map (λ (l : Line). l.name) ls ≡ line_names ls
line_names_lem [] = refl
line_names_lem (l ∷ ls) = ap (λ xs. l.name ∷ xs) (line_names_lem ls)
