-- What two tests of a byte say alike, computed once over all 256 bytes.
use Rattle.std.proofs.Common.{◌≡◌, ℕ, ◌<◌, map, get_or, sym, refl, ap, ◌∙◌, arith}
use Rattle.std.specs.List.{range_with_len}
use Rattle.std.proofs.lemmas.List.FromFn.{get_or-map-range_with_len}
use Rattle.msc.specs.Spelling.{wordy}
use Rattle.lexis.specs.Classes.{class_of, separator}
use Rattle.lexis.specs.Readers.{is_separator, is_wordy, sign_of, symbol_of}

agree : {A : Type 0} (f g : ℕ → A) → map f (range_with_len 0 256) ≡ map g (range_with_len 0 256) → (b : ℕ) → b < 256 → f b ≡ g b
agree f g e b h = sym (get_or-map-range_with_len f 0 256 b b (f b) h (omega arith)) ∙ ap (λ xs. get_or xs b (f b)) e ∙ get_or-map-range_with_len g 0 256 b b (f b) h (omega arith)

pub separates : (b : ℕ) → b < 256 → is_separator (class_of b) ≡ separator b
separates = agree (λ b. is_separator (class_of b)) separator refl

pub in_words : (b : ℕ) → b < 256 → is_wordy (class_of b) ≡ wordy b
in_words = agree (λ b. is_wordy (class_of b)) wordy refl

pub signs : (b : ℕ) → b < 256 → sign_of b ≡ symbol_of (class_of b)
signs = agree sign_of (λ b. symbol_of (class_of b)) refl
