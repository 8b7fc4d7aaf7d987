-- What holds of the judge's rules.
use Rattle.msc.specs.declared.label.Body.TheVariants.{End as final, Node as node}
use Rattle.std.specs.Prelude.{◌≡◌, ℕ, List, [], ◌∷◌, codes}
use Rattle.msc.specs.BuiltIn.{built_in}
use Rattle.msc.specs.Doc.{Doc}
use Rattle.msc.specs.Meaning.{Meaning, meaning_of}
use Rattle.msc.specs.Standard.{standard_words}
use Rattle.msc.specs.declared.event.Event.{Event}
use Rattle.msc.specs.declared.event.Event.TheVariants.{Out, In, Action}
use Rattle.judge.specs.Rules.{Fair, Breaks}
use Rattle.judge.specs.declared.refusal.Refusal.{Refusal}
use Rattle.judge.specs.declared.refusal.Refusal.TheVariants.{Cyclic, NotOneFirst}

-- the answer is determined: what is fair breaks nothing, and nothing breaks two rules first, or one first at two spots
abbrev pub Determined : Type 0
Determined = (m : Meaning) → ((e : Refusal) → Breaks m e → Fair m → ⊥) × ((e e' : Refusal) → Breaks m e → Breaks m e' → e ≡ e')

-- a document of two instances p and q and one chart, which is played once
abbrev pub drawing : List (List ℕ) → List (List ℕ) → List Event → List Event → Doc
drawing messages actions p q = record {
  words = standard_words;
  title = codes "D";
  instances = codes "p" ∷ codes "q" ∷ [];
  messages = messages;
  actions = actions;
  charts = record { name = codes "C"; parts = p ∷ q ∷ [] ∷ [] ∷ [] ∷ [] ∷ [] ∷ [] ∷ [] } ∷ [];
  graph = codes "H";
  start = 0 ∷ [];
  labels = record { name = codes "N"; body = node 0 (1 ∷ []) } ∷ record { name = codes "E"; body = final } ∷ [];
}

-- one action each
abbrev pub two_actions : Doc
two_actions = drawing [] (codes "x" ∷ []) (Action 0 ∷ []) (Action 0 ∷ [])

-- p: in a from q, out b to q; q: in b from p, out a to p
abbrev pub crossed : Doc
crossed = drawing (codes "a" ∷ codes "b" ∷ []) [] (In 0 1 ∷ Out 1 1 ∷ []) (In 1 0 ∷ Out 0 0 ∷ [])

-- two instances with one action each break 13, one alone breaks nothing; two that wait for each other break 12
abbrev pub Drawings : Type 0
Drawings = Breaks (meaning_of two_actions) (NotOneFirst 0) × Fair (meaning_of built_in) × Breaks (meaning_of crossed) (Cyclic 0)
