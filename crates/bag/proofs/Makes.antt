-- What a bag shows of each answer, to have kept the promise of the call.
use Rattle.std.proofs.Common.{◌≡◌, ℕ, List, ◌∷◌, length, Ok, refl}
use Rattle.std.specs.List.Sorted.{IsPermutation}
use Rattle.std.proofs.lemmas.Bool.{ne_eqb}
use Rattle.bag.specs.declared.Stamped.{Stamped}
use Rattle.bag.specs.Calls.{Put}

module _ {B : Type 0} (sound : B → Type 0) (held : B → List Stamped) (space : B → ℕ) (b b' : B) where
  pub put_done : (x : Stamped) → (length (held b) ≡ space b → ⊥) → sound b' → space b' ≡ space b → IsPermutation (x ∷ held b) (held b') → Put sound held space b b' x (Ok tt)
  put_done x ne s l m = record { stays = s; limit = l; answer = rw (ne_eqb (length (held b)) (space b) ne) refl; after = m }
