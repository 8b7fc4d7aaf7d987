-- Lists that respect an order.
use Rattle.std.specs.Prelude.{◌≡◌, ◌⊎◌, List, [], ◌∷◌}

module _ {A : Type 0} where
  abbrev pub Mem : A → List A → Type 0
  Mem x [] = ⊥
  Mem x (y ∷ ys) = (x ≡ y) ⊎ Mem x ys

  -- nothing stands twice
  abbrev pub NoRep : List A → Type 0
  NoRep [] = Unit {0}
  NoRep (x ∷ L) = (Mem x L → ⊥) × NoRep L

  -- each of the list comes after all that R puts before it, those already seen included
  abbrev pub After : (A → A → Type 0) → List A → List A → Type 0
  After R seen [] = Unit {0}
  After R seen (x ∷ L) = ((y : A) → R y x → Mem y seen) × After R (x ∷ seen) L

  -- R, and chains of it
  pub data Chain (R : A → A → Type 0) : A → A → Type 0 where
    link : {x y : A} → R x y → Chain R x y
    chain : {x y z : A} → Chain R x y → Chain R y z → Chain R x z

  -- all that Is holds of, once each, each after all that R puts before it
  pub record Whole (Is : A → Type 0) (R : A → A → Type 0) (L : List A) : Type 0 where
    pub real : (x : A) → Mem x L → Is x
    pub complete : (x : A) → Is x → Mem x L
    pub norep : NoRep L
    pub order : After R [] L
