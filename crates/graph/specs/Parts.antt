-- Steps inside the forms of lists and label lines.
use Rattle.std.specs.Prelude.{ℕ, Bool, false, cond, List, [], ◌∷◌, ◌++◌, length, nat_lt, map}
use Rattle.msc.specs.Spelling.{has}
use Rattle.msc.specs.declared.chart.Chart.{Chart}
use Rattle.lexis.specs.Lexing.{name_at}
use Rattle.lexis.specs.Steps.{Step, got, bad, and_then}
use Rattle.lexis.specs.declared.refusal.Refusal.TheVariants.{Limit, Twice}
use Rattle.forms.specs.Drafts.{Mention, mentioned, Line}
use Rattle.forms.specs.Reading.{mention, line_at}

-- the names of charts
abbrev pub names_of : List Chart → List (List ℕ)
names_of cs = map (λ (c : Chart). c.name) cs

-- another name of a list, which then goes on
abbrev pub another_at : List (List ℕ) → List Mention → ℕ → List ℕ → Step (List Mention × Bool)
another_at ws ms p s = and_then (name_at ws p s) λ n p s.
    cond (nat_lt (length ms) 8) (cond (has (mentioned ms) n.0) (bad (Twice n.1)) (got (ms ++ (mention ws n ∷ []), false) p s)) (bad (Limit n.1))

-- a label line behind its name, after which lines go on
abbrev pub named_at : List (List ℕ) → List (List ℕ) → List Line → List ℕ → ℕ → ℕ → List ℕ → Step (List Line × Bool)
named_at ws charts ls w q p s = and_then (line_at ws charts ls w q p s) λ ls p s. got (ls, false) p s
