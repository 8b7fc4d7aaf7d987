-- Laws of plain lists.
use Rattle.std.proofs.Common.{◌≡◌, ℕ, zero, suc, ◌<◌, ◌≤◌, List, [], ◌∷◌, ◌++◌, length, take, drop, sym, refl, ap, ◌∙◌, arith, length-append, length-drop, take-append-drop, take-take}
use lib.Seq.{drop-append-le, drop-append_seam}
use Rattle.std.specs.List.{flat_map}
use Rattle.std.proofs.lemmas.Grind.{flat_map-append}

pub drop-has : {A : Type 0} (k : ℕ) (xs : List A) → k < length xs → (x : A) × (ys : List A) × (drop k xs ≡ x ∷ ys)
drop-has k [] h = absurd (let z : ⊥ = omega arith in z)
drop-has zero (x ∷ xs) h = (x, xs, refl)
drop-has (suc k) (x ∷ xs) h = drop-has k xs (omega arith)

pub drop_lt : {A : Type 0} (k : ℕ) (xs : List A) (x : A) (ys : List A) → drop k xs ≡ x ∷ ys → k < length xs
drop_lt k xs x ys h = let n : length (drop k xs) ≡ suc (length ys) = ap length h in omega (arith, length-drop k xs)

pub take_next : {A : Type 0} (xs : List A) (a : ℕ) (x : A) (ys : List A) → drop a xs ≡ x ∷ ys → take (suc a) xs ≡ take a xs ++ x ∷ []
take_next [] zero x ys h = cc
take_next [] (suc a) x ys h = cc
take_next (y ∷ xs) zero x ys h = cc
take_next (y ∷ xs) (suc a) x ys h = ap (λ r. y ∷ r) (take_next xs a x ys h)

-- of one list cut in two ways, what the longer front has more, then its rest, is the other rest
pub cut : {A : Type 0} (a b c d : List A) → a ++ b ≡ c ++ d → length c ≤ length a → drop (length c) a ++ b ≡ d
cut a b c d e h = sym (drop-append-le (length c) a b h) ∙ ap (drop (length c)) e ∙ drop-append_seam c d

-- as many as ys and bs have fall off: first those of ys, which cs has, then those of bs
pub drop_past : {A B : Type 0} (ys bs : List A) (cs ds : List B) → length ys ≤ length cs → drop (length (ys ++ bs)) (cs ++ ds) ≡ drop (length bs) (drop (length ys) cs ++ ds)
drop_past [] bs cs ds h = refl
drop_past (a ∷ ys) bs [] ds h = absurd (let z : ⊥ = omega arith in z)
drop_past (a ∷ ys) bs (c ∷ cs) ds h = drop_past ys bs cs ds (omega arith)

module _ {X A : Type 0} (f : X → List A) where
  pub joined_cut : (n : ℕ) (xs : List X) → flat_map f (take n xs) ++ flat_map f (drop n xs) ≡ flat_map f xs
  joined_cut n xs = sym (flat_map-append f (take n xs) (drop n xs)) ∙ ap (flat_map f) (take-append-drop n xs)

  pub joined_mono : (a b : ℕ) (xs : List X) → a ≤ b → length (flat_map f (take a xs)) ≤ length (flat_map f (take b xs))
  joined_mono a b xs h =
      let k = joined_cut a (take b xs) in
      let t = take-take a b xs h in
      omega (arith, simp (length-append, t) at (ap length k))
