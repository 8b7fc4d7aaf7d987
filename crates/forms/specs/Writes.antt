-- When a text is a writing of a document: the forms in their order, with separators anywhere between tokens.
use Rattle.std.specs.Prelude.{◌≡◌, ℕ, suc, ◌<◌, true, ◌⊎◌, List, [], ◌∷◌, ◌++◌, length}
use Rattle.std.specs.List.{prefix_len, flat_map}
use Rattle.msc.specs.Doc.{Doc, Chart}
use Rattle.msc.specs.Shortest.{inst_tokens, block_tokens, graph_tokens}
use Rattle.msc.specs.Spelling.{wordy, every}
use Rattle.msc.specs.Tokens.{Tok, name, word, sign, spelled, is_word_tok}
use Rattle.msc.specs.declared.event.Event.{Event}
use Rattle.msc.specs.declared.symbol.Symbol.TheVariants.{Semi}
use Rattle.msc.specs.declared.words.Keyword.TheVariants as keyword
use Rattle.lexis.specs.Classes.{separator}

-- nothing but separators
abbrev pub Blank : List ℕ → Type 0
Blank s = every separator s ≡ true

-- a word ends where it does: no byte of a word follows it
abbrev pub Apart : Tok → List ℕ → Type 0
Apart t rest = is_word_tok t ≡ true → prefix_len wordy rest ≡ 0

-- the bytes spell the tokens in order, with any separators ahead of each and after the last, and nothing of a word straight behind a word
abbrev pub Spelled : List (List ℕ) → List ℕ → List Tok → Type 0
Spelled ws bytes [] = Blank bytes
Spelled ws bytes (t ∷ ts) = (blank : List ℕ) × (rest : List ℕ) × Blank blank × (bytes ≡ blank ++ (spelled ws t ++ rest)) × Apart t rest × Spelled ws rest ts

module _ (instances messages actions : List (List ℕ)) where
  -- blocks of the parts from instance i on, in order; a block may be left out where its part is empty, and an instance that is not declared has none
  abbrev pub Blocks : ℕ → List (List Event) → List Tok → Type 0
  Blocks i [] ts = ts ≡ []
  Blocks i (p ∷ ps) ts = ((p ≡ []) × Blocks (suc i) ps ts)
      ⊎ ((us : List Tok) × (i < length instances) × (ts ≡ block_tokens instances messages actions i p ++ us) × Blocks (suc i) ps us)

  -- msc name ; blocks endmsc ;
  abbrev pub ChartForm : Chart → List Tok → Type 0
  ChartForm c ts = (us : List Tok) × Blocks 0 c.parts us × (ts ≡ word keyword.Msc ∷ name c.name ∷ sign Semi ∷ (us ++ (word keyword.Endmsc ∷ sign Semi ∷ [])))

  abbrev pub ChartForms : List Chart → List Tok → Type 0
  ChartForms [] ts = ts ≡ []
  ChartForms (c ∷ cs) ts = (us : List Tok) × (vs : List Tok) × ChartForm c us × ChartForms cs vs × (ts ≡ us ++ vs)

-- mscdocument name ; instances charts graph endmscdocument ;
abbrev pub Form : List Tok → Doc → Type 0
Form ts d = (us : List Tok) × ChartForms d.instances d.messages d.actions d.charts us
    × (ts ≡ word keyword.Mscdocument ∷ name d.title ∷ sign Semi ∷ (flat_map inst_tokens d.instances ++ (us ++ (graph_tokens d ++ (word keyword.Endmscdocument ∷ sign Semi ∷ [])))))

-- the text is a writing of the document, under the document's reserved words
abbrev pub Writes : List ℕ → Doc → Type 0
Writes bytes d = (ts : List Tok) × Form ts d × Spelled d.words bytes ts
