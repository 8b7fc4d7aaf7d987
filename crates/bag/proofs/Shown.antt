-- Laws of the i-th letter of a bag.
use Rattle.std.proofs.Common.{◌≡◌, ℕ, zero, suc, ◌<◌, List, [], ◌∷◌, length, get_or, Ok, refl, arith}
use Rattle.bag.specs.declared.Stamped.{Stamped}
use Rattle.bag.specs.Held.{shown_at}

pub shown_there : (xs : List Stamped) (i : ℕ) → i < length xs → (x : Stamped) × (shown_at xs i ≡ Ok x)
shown_there [] i lt = absurd (omega arith)
shown_there (y ∷ ys) zero lt = (y, refl)
shown_there (y ∷ ys) (suc i) lt = shown_there ys i (omega arith)

pub shown_at_lem : (xs : List Stamped) (i : ℕ) (x : Stamped) → shown_at xs i ≡ Ok x → (i < length xs) × ((d : Stamped) → get_or xs i d ≡ x)
shown_at_lem [] i x e = absurd (let z : ◌≡◌ {A = ℕ} 0 1 = cc in omega arith)
shown_at_lem (y ∷ ys) zero x e = (omega arith, λ d. cc)
shown_at_lem (y ∷ ys) (suc i) x e = let h = shown_at_lem ys i x e in (omega arith, h.1)
