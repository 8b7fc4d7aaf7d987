-- Pages: how writes follow one another, and what a whole text comes to.
use Rattle.std.proofs.Common.{◌≡◌, ℕ, zero, suc, ◌+◌, ◌<◌, true, false, List, [], ◌∷◌, ◌++◌, length, get_or, take, sym, refl, ap, ◌∙◌, add-one, append_assoc}
use Rattle.std.proofs.Math.Seq.{take-suc}
use Rattle.std.proofs.lemmas.List.{append-nil}
use Rattle.std.proofs.lemmas.Grind.{flat_map-append}
use Rattle.std.specs.List.{flat_map}
use Rattle.msc.specs.Doc.{Doc}
use Rattle.msc.specs.Sound.{most}
use Rattle.msc.specs.Tokens.{Tok, name, is_word_tok, spelled, gap, spell_from}
use Rattle.writing.specs.Fit.{fit}
use Rattle.writing.specs.Pens.{Page, with, penned}

-- what was left out stays left out
pub take_again : {A : Type 0} (n : ℕ) (xs ys : List A) → take n (take n xs ++ ys) ≡ take n (xs ++ ys)
take_again zero xs ys = refl
take_again (suc n) [] ys = refl
take_again (suc n) (x ∷ xs) ys = ap (λ l. x ∷ l) (take_again n xs ys)

-- one list of tokens after another
pub penned_append : (p : Page) (ts us : List Tok) → penned p (ts ++ us) ≡ penned (penned p ts) us
penned_append p [] us = refl
penned_append p (t ∷ ts) us = penned_append (with p t) ts us

-- the document stays
pub document_with : (p : Page) (t : Tok) → (with p t).document ≡ p.document
unfolding with
document_with p t = refl

pub document_penned : (p : Page) (ts : List Tok) → (penned p ts).document ≡ p.document
document_penned p [] = refl
document_penned p (t ∷ ts) = document_penned (with p t) ts ∙ document_with p t

-- the tokens of one item more
pub walked : {X : Type 0} (f : X → List Tok) (xs : List X) (i : ℕ) (d : X) → i < length xs → flat_map f (take (i + 1) xs) ≡ flat_map f (take i xs) ++ f (get_or xs i d)
walked f xs i d h = rw (add-one, take-suc xs i d h, flat_map-append) (ap (λ ts. flat_map f (take i xs) ++ ts) (append-nil (f (get_or xs i d))))

-- tokens after tokens, by the document
pub then_more : (f g : Doc → List Tok) (p q r : Page) → q ≡ penned p (f p.document) → r ≡ penned q (g q.document) → r ≡ penned p (f p.document ++ g p.document)
then_more f g p q r e h =
    h
    ∙ ap (λ (o : Doc). penned q (g o)) (ap (λ (x : Page). x.document) e ∙ document_penned p (f p.document))
    ∙ ap (λ (x : Page). penned x (g p.document)) e
    ∙ sym (penned_append p (f p.document) (g p.document))

-- a loop that writes the tokens of each item: one item more
pub goes_on : {X : Type 0} (f : Doc → X → List Tok) (xs : List X) (i : ℕ) (d : X) (p q r : Page) → i < length xs → q ≡ penned p (flat_map (f p.document) (take i xs)) → r ≡ penned q (f q.document (get_or xs i d))
    → r ≡ penned p (flat_map (f p.document) (take (i + 1) xs))
goes_on f xs i d p q r h e g = then_more (λ o. flat_map (f o) (take i xs)) (λ o. f o (get_or xs i d)) p q r e g ∙ sym (ap (penned p) (walked (f p.document) xs i d h))

-- the same, by the item
pub goes_on_item : {X : Type 0} (f : Doc → X → List Tok) (xs : List X) (i : ℕ) (x : X) (p q r : Page) → i < length xs → x ≡ get_or xs i x → q ≡ penned p (flat_map (f p.document) (take i xs)) → r ≡ penned q (f q.document x)
    → r ≡ penned p (flat_map (f p.document) (take (i + 1) xs))
goes_on_item f xs i x p q r h is e g = goes_on f xs i x p q r h e (g ∙ ap (λ y. penned q (f q.document y)) is)

-- a word with a space ahead, and a word with none
pub word_spaced : (p q : Page) (bs w : List ℕ) → p.after ≡ true → q.document ≡ p.document → q.after ≡ true → bs ≡ fit (p.bytes ++ 32 ∷ []) → q.bytes ≡ fit (bs ++ w) → q ≡ with p (name w)
unfolding with
word_spaced p q bs w h d a e f =
    let all : q.bytes ≡ fit (p.bytes ++ (32 ∷ w)) = f ∙ ap (λ l. fit (l ++ w)) e ∙ take_again most (p.bytes ++ 32 ∷ []) w ∙ ap fit (append_assoc p.bytes (32 ∷ []) w) in
    rw h (λ i. record { document = d i; bytes = all i; after = a i })

pub word_plain : (p q : Page) (w : List ℕ) → p.after ≡ false → q.document ≡ p.document → q.after ≡ true → q.bytes ≡ fit (p.bytes ++ w) → q ≡ with p (name w)
unfolding with
word_plain p q w h d a f = rw h (λ i. record { document = d i; bytes = f i; after = a i })

-- the bytes of a page are the spelling, as far as it fits
pub penned_bytes : (p : Page) (ts : List Tok) → fit (penned p ts).bytes ≡ fit (p.bytes ++ spell_from p.document.words p.after ts)
unfolding with
penned_bytes p [] = ap fit (sym (append-nil p.bytes))
penned_bytes p (t ∷ ts) =
    let ws = p.document.words in
    let piece = gap p.after t ++ spelled ws t in
    penned_bytes (with p t) ts
    ∙ take_again most (p.bytes ++ piece) (spell_from ws (is_word_tok t) ts)
    ∙ ap fit (append_assoc p.bytes piece (spell_from ws (is_word_tok t) ts) ∙ ap (λ l. p.bytes ++ l) (append_assoc (gap p.after t) (spelled ws t) (spell_from ws (is_word_tok t) ts)))

-- what the functions that write one form after another go by
pub ruleset follow = (penned_append, document_with, document_penned)
