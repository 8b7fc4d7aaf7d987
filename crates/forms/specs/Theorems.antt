-- What is shown of reading and of the shortest text.
use Rattle.std.specs.Prelude.{◌≡◌, ℕ, ◌≤◌, true, ◌↔◌, List, length, Ok, Err}
use Rattle.msc.specs.Doc.{Doc}
use Rattle.msc.specs.Shortest.{text_of}
use Rattle.msc.specs.Sound.{well_formed, most}
use Rattle.msc.specs.Spelling.{is_vocabulary}
use Rattle.lexis.specs.Refusals.{value_of}
use Rattle.lexis.specs.declared.refusal.Refusal.{Refusal}
use Rattle.forms.specs.Reading.{read_of}
use Rattle.forms.specs.Writes.{Writes}

-- reading accepts exactly the texts that write some well-formed document, and gives that document
abbrev pub ReadsExactly : Type 0
ReadsExactly = (ws : List (List ℕ)) → is_vocabulary ws ≡ true → (text : List ℕ) (d : Doc)
    → (read_of ws text ≡ Ok d) ↔ ((length text ≤ most) × (well_formed d ≡ true) × (d.words ≡ ws) × Writes text d)

-- the shortest text of a well-formed document is read as that document
abbrev pub ReadsBack : Type 0
ReadsBack = (d : Doc) → well_formed d ≡ true → read_of d.words (text_of d) ≡ Ok d

-- the shortest text is a writing of its document, and none is shorter
abbrev pub IsShortest : Type 0
IsShortest = (d : Doc) → well_formed d ≡ true → Writes (text_of d) d × ((text : List ℕ) → Writes text d → length (text_of d) ≤ length text)

-- no text that is read as a document is shorter than its shortest text
abbrev pub NoShorter : Type 0
NoShorter = (ws : List (List ℕ)) → is_vocabulary ws ≡ true → (text : List ℕ) (d : Doc) → read_of ws text ≡ Ok d → length (text_of d) ≤ length text

-- the value of a refusal, which is the spot at fault or the longest text there may be, is at most the text's length
abbrev pub SpotsInside : Type 0
SpotsInside = (ws : List (List ℕ)) (text : List ℕ) (e : Refusal) → read_of ws text ≡ Err e → value_of e ≤ length text
