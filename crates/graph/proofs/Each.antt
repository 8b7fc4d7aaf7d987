-- A loop that turns each row of a list into one of another, or stops at the first refusal.
use Rattle.std.proofs.Common.{◌≡◌, ℕ, ◌+◌, ◌<◌, ◌≤◌, Bool, cond, List, [], ◌∷◌, ◌++◌, length, get_or, drop, Ok, Err, Result, sym, refl, ap, ◌∙◌, append_assoc, append-nil}
use Rattle.std.specs.Prelude.{nat_lt}
use Rattle.std.proofs.lemmas.List.{at_drop_more, at_drop_all}
use Rattle.std.proofs.lemmas.Bool.{lt-ltb, cond-true}
use Rattle.lexis.specs.declared.refusal.Refusal.{Refusal}
use Rattle.forms.specs.Reading.{follow}

joins : {B : Type 0} (x : Result (List B) Refusal) (acc : List B) (b : B) → follow (follow x (λ r. Ok (b ∷ r))) (λ r. Ok (acc ++ r)) ≡ follow x (λ r. Ok ((acc ++ (b ∷ [])) ++ r))
joins (Ok r) acc b = ap Ok (sym (append_assoc acc (b ∷ []) r))
joins (Err e) acc b = refl

-- where there is room, an item more stands at the end
pub pushed : {B : Type 0} (n : ℕ) (acc : List B) (b : B) (done : Bool) (new : List B) → length acc < n → done ≡ nat_lt (length acc) n → new ≡ cond done (acc ++ (b ∷ [])) acc → new ≡ acc ++ (b ∷ [])
pushed n acc b done new few is items = items ∙ cond-true _ _ _ (is ∙ lt-ltb _ _ few)

-- F turns each x into mk x b, where g answers b for it
module _ {A B C : Type 0} (F : List A → Result (List B) Refusal) (g : A → Result C Refusal) (mk : A → C → B)
    (cons : (x : A) (xs : List A) → F (x ∷ xs) ≡ follow (g x) (λ b. follow (F xs) (λ r. Ok (mk x b ∷ r)))) where
  -- with acc made of the rows below i, what is left comes to the whole
  module _ (xs : List A) (i : ℕ) (acc : List B) (whole : Result (List B) Refusal) (inv : follow (F (drop i xs)) (λ r. Ok (acc ++ r)) ≡ whole) where
    on : (x : A) → i < length xs → x ≡ get_or xs i x → follow (follow (g x) (λ b. follow (F (drop (i + 1) xs)) (λ r. Ok (mk x b ∷ r)))) (λ r. Ok (acc ++ r)) ≡ whole
    on x h is =
        ap (λ y. follow y (λ r. Ok (acc ++ r)))
        (sym (at_drop_more F xs i x h ∙ ap (λ y. F (y ∷ drop (i + 1) xs)) (sym is) ∙ cons x (drop (i + 1) xs)))
        ∙ inv

    pub more : (x : A) → i < length xs → x ≡ get_or xs i x → (b : C) → Ok b ≡ g x → follow (F (drop (i + 1) xs)) (λ r. Ok ((acc ++ (mk x b ∷ [])) ++ r)) ≡ whole
    more x h is b e =
        sym (joins (F (drop (i + 1) xs)) acc (mk x b))
        ∙ ap (λ y. follow (follow y (λ b. follow (F (drop (i + 1) xs)) (λ r. Ok (mk x b ∷ r)))) (λ r. Ok (acc ++ r))) e
        ∙ on x h is

    pub stops : (x : A) → i < length xs → x ≡ get_or xs i x → (e : Refusal) → Err e ≡ g x → Err e ≡ whole
    stops x h is e r = ap (λ y. follow (follow y (λ b. follow (F (drop (i + 1) xs)) (λ r. Ok (mk x b ∷ r)))) (λ r. Ok (acc ++ r))) r ∙ on x h is

    pub all : F [] ≡ Ok [] → length xs ≤ i → Ok acc ≡ whole
    all none h =
        ap Ok (sym (append-nil acc))
        ∙ ap (λ y. follow y (λ r. Ok (acc ++ r))) (sym (at_drop_all F xs i h ∙ none))
        ∙ inv
