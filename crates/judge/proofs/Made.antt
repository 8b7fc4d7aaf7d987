-- What an array holds that a function makes, number by number.
use Rattle.std.proofs.Common.{◌≡◌, ℕ, zero, suc, ◌+◌, ◌<◌, ◌≤◌, List, map, get_or, ◌∙◌, subst, ⊎_elim, arith}
use denote.Param.Members.{Mut, Called}
use Rattle.std.specs.Array.{IsFromFnResult, IsFromFnResultFrom}
use Rattle.std.specs.List.{range_with_len}
use Rattle.std.proofs.lemmas.Bool.{cases_order}
use Rattle.std.proofs.lemmas.List.FromFn.{fill_by_all}

module _ {F B : Type 0} (g : Mut F (ℕ × Unit {0}) B) (f : F) (h : ℕ → B) (top : ℕ) (gives : (k : ℕ) (y : B) (q : F) → k < top → Called g f (k, tt) y q → (q ≡ f) × (y ≡ h k)) where
  made_at : (ys : List B) (i n : ℕ) → i + n ≤ top → IsFromFnResultFrom g f ys i n → (k : ℕ) (d : B) → i ≤ k → k < i + n → get_or ys k d ≡ h k
  made_at ys i zero t r k d a b = absurd (omega arith)
  made_at ys i (suc n) t (q, y, e, c, r) k d a b =
      let same = gives i y q (omega arith) c in
      ⊎_elim (λ (s : i ≡ k). subst (λ z. get_or ys z d ≡ h z) s (e.1 d ∙ same.1))
      (⊎_elim (λ (l : i < k). made_at ys (i + 1) n (omega arith) (subst (λ z. IsFromFnResultFrom g z ys (i + 1) n) same.0 r) k d (omega arith) (omega arith)) (λ (l : k < i). absurd (let z : ⊥ = omega arith in z)))
      (cases_order i k)

  pub made_is : (ys : List B) (d : B) → IsFromFnResult g f ys top → ys ≡ map h (range_with_len 0 top)
  made_is ys d r = fill_by_all h ys top d r.long (λ k l. made_at ys 0 top (omega arith) r.each k d (omega arith) (omega arith))
