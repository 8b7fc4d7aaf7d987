-- Laws of paths of a document.
use Rattle.std.proofs.Common.{◌≡◌, ℕ, ◌⊎◌, List, [], ◌∷◌, ◌++◌, Some, refl, ap, inl, inr, ⊎_elim}
use Rattle.msc.specs.Choice.{IsNode, PathFrom, Path, last_from, Reached}
use Rattle.msc.specs.Meaning.{Meaning, start, part}

-- none, or a last
pub last_of : {A : Type 0} (E : List A) → (E ≡ []) ⊎ ((F : List A) × (a : A) × (E ≡ F ++ a ∷ []))
last_of [] = inl refl
last_of (x ∷ E) = inr (⊎_elim (λ e. ([], x, ap (λ z. x ∷ z) e)) (λ r. (x ∷ r.0, r.1, ap (λ z. x ∷ z) r.2)) (last_of E))

module _ (m : Meaning) where
  pub path_front : (x : ℕ) (A B : List ℕ) → PathFrom m x (A ++ B) → PathFrom m x A
  path_front x [] B v = tt
  path_front x (a ∷ A) B v = (v.0, v.1, path_front a A B v.2)

  pub path_back : (x : ℕ) (A B : List ℕ) → PathFrom m x (A ++ B) → PathFrom m (last_from m x A) B
  path_back x [] B v = v
  path_back x (a ∷ A) B v = path_back a A B v.2

  pub path_joined : (x : ℕ) (A B : List ℕ) → PathFrom m x A → PathFrom m (last_from m x A) B → PathFrom m x (A ++ B)
  path_joined x [] B v w = w
  path_joined x (a ∷ A) B v w = (v.0, v.1, path_joined a A B v.2 w)

  pub last_joined : (x : ℕ) (A B : List ℕ) → last_from m x (A ++ B) ≡ last_from m (last_from m x A) B
  last_joined x [] B = refl
  last_joined x (a ∷ A) B = last_joined a A B

  -- the label behind a path's places A is reached
  pub reached_mid : (A : List ℕ) (l : ℕ) (B : List ℕ) → Path m (A ++ l ∷ B) → Reached m l
  reached_mid A l B v = (A, path_front start A (l ∷ B) v, (path_back start A (l ∷ B) v).0)

  pub node_mid : (A : List ℕ) (l : ℕ) (B : List ℕ) → Path m (A ++ l ∷ B) → IsNode m l
  node_mid A l B v = (path_back start A (l ∷ B) v).1

  -- the part in a node is the part in its chart
  pub part_is : (l c : ℕ) → m.chart l ≡ Some c → (i : ℕ) → part m l i ≡ m.drawn c i
  part_is l c h i = rw h
