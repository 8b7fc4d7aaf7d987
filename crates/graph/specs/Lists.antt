-- Lists of at most n mentions, held in n places: the rest of the places are blank, so that a list is held in one way.
use Rattle.std.specs.Prelude.{ℕ, ◌≡◌, ◌≤◌, ◌-◌, List, [], ◌++◌, length, take, replicate}
use Rattle.forms.specs.Drafts.{Mention}

-- no name, which no list has
abbrev pub blank : Mention
blank = record { name = []; at = 0 }

abbrev pub padded : ℕ → List Mention → List Mention
padded n ms = ms ++ replicate (n - length ms) blank

-- the first k of n places hold a list
pub record Holds (n k : ℕ) (places : List Mention) : Type 0 where
  pub few : k ≤ n
  pub rest : places ≡ padded n (take k places)
