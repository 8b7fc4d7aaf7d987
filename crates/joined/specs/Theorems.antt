-- What the judge accepts is what the order of events asks for.
use Rattle.std.specs.Prelude.{◌≡◌, ℕ, ◌<◌, true}
use Rattle.msc.specs.Doc.{Doc}
use Rattle.msc.specs.Listing.{Mem}
use Rattle.msc.specs.Meaning.{Meaning, meaning_of}
use Rattle.msc.specs.Sound.{well_formed}
use Rattle.judge.specs.Rules.{Fair}
use Rattle.theory.specs.Given.{Given}
use Rattle.joined.specs.Limits.{Limits}

-- a meaning within the limits that breaks no rule of the judge gives what is asked
abbrev pub FairGives : Type 0
FairGives = (m : Meaning) → Limits m → Fair m → Given m

-- the meaning of a well-formed document keeps within the limits
abbrev pub SoundKeepsLimits : Type 0
SoundKeepsLimits = (d : Doc) → well_formed d ≡ true → Limits (meaning_of d)

-- its labels are below n
abbrev pub LabelsBelow : ℕ → Type 0
LabelsBelow n = (d : Doc) → well_formed d ≡ true → (x l : ℕ) → Mem l ((meaning_of d).list x) → l < n

-- so an accepted document gives what is asked
abbrev pub AcceptedGives : Type 0
AcceptedGives = (d : Doc) → well_formed d ≡ true → Fair (meaning_of d) → Given (meaning_of d)

-- a document that is well formed and breaks no rule
abbrev pub Acceptable : Doc → Type 0
Acceptable d = (well_formed d ≡ true) × Fair (meaning_of d)
