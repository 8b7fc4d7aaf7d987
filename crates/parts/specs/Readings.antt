-- What the calls of a reading say.
use Rattle.std.specs.Prelude.{◌≡◌, ℕ, Bool, List, Result}
use Rattle.std.specs.declared.ops.ControlFlow.{ControlFlow}
use Rattle.lexis.specs.Steps.{Step, is_last}
use Rattle.lexis.specs.Readers.{step_of}
use Rattle.lexis.specs.declared.refusal.Refusal.{Refusal}
use Rattle.forms.specs.Drafts.{Draft}
use Rattle.parts.specs.declared.reading.Reading.{Reading}

-- a call's answer, with the draft that it leaves behind
abbrev pub drafted : {X : Type 0} → Result X Refusal → Reading → Step (Draft × X)
drafted result after = step_of (λ x. (after.draft, x)) result after.reader

-- a turn's answer, likewise: whether it is the last
abbrev pub turned : Result (ControlFlow (Unit {0}) (Unit {0})) Refusal → Reading → Step (Draft × Bool)
turned result after = step_of (λ x. (after.draft, is_last x)) result after.reader

-- a step at the place where a reading stands, under its words and over its draft
abbrev pub here : {A : Type 0} → (List (List ℕ) → Draft → ℕ → List ℕ → Step A) → Reading → Step A
here f r = f r.reader.words r.draft r.reader.at r.reader.rest

-- words, text, closed parts and charts are as they were
pub record Keeps (old new : Reading) : Type 0 where
  pub words : new.reader.words ≡ old.reader.words
  pub text : new.reader.text ≡ old.reader.text
  pub parts : new.draft.parts ≡ old.draft.parts
  pub charts : new.draft.charts ≡ old.draft.charts
