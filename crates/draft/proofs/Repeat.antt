-- A loop that takes turns until one says that it is the last.
use Rattle.std.proofs.Common.{◌≡◌, ℕ, zero, suc, Bool, true, false, cond, List, sym, ap, ◌∙◌, subst}
use Rattle.lexis.specs.Steps.{Step, got, bad, and_then, repeat}
use Rattle.lexis.specs.declared.refusal.Refusal.{Refusal}
use Rattle.lexis.specs.declared.refusal.Refusal.TheVariants.{Limit}

-- with n turns left, what is left comes to what the whole comes to
module _ {A : Type 0} (f : A → ℕ → List ℕ → Step (A × Bool)) (n : ℕ) (a : A) (p : ℕ) (s : List ℕ) (whole : Step A) (inv : repeat f n a p s ≡ whole) where
  on : (m : ℕ) → n ≡ suc m → and_then (f a p s) (λ r p s. cond r.1 (got r.0 p s) (repeat f m r.0 p s)) ≡ whole
  on m e = subst (λ k. repeat f k a p s ≡ whole) e inv

  -- the turn came to b and says whether it was the last
  came : (m : ℕ) → n ≡ suc m → (b : A) (l : Bool) (p' : ℕ) (s' : List ℕ) → got (b, l) p' s' ≡ f a p s → cond l (got b p' s') (repeat f m b p' s') ≡ whole
  came m e b l p' s' h = ap (λ k. and_then k (λ r p s. cond r.1 (got r.0 p s) (repeat f m r.0 p s))) h ∙ on m e

  pub more : (m : ℕ) → n ≡ suc m → (b : A) (l : Bool) → l ≡ false → (p' : ℕ) (s' : List ℕ) → got (b, l) p' s' ≡ f a p s → repeat f m b p' s' ≡ whole
  more m e b l is p' s' h = ap (λ x. cond x (got b p' s') (repeat f m b p' s')) (sym is) ∙ came m e b l p' s' h

  pub ends : (m : ℕ) → n ≡ suc m → (b : A) (l : Bool) → l ≡ true → (p' : ℕ) (s' : List ℕ) → got (b, l) p' s' ≡ f a p s → got b p' s' ≡ whole
  ends m e b l is p' s' h = ap (λ x. cond x (got b p' s') (repeat f m b p' s')) (sym is) ∙ came m e b l p' s' h

  pub refuses : (m : ℕ) → n ≡ suc m → (x : Refusal) → bad x ≡ f a p s → bad x ≡ whole
  refuses m e x h = ap (λ k. and_then k (λ r p s. cond r.1 (got r.0 p s) (repeat f m r.0 p s))) h ∙ on m e

  pub runs_out : n ≡ zero → bad (Limit p) ≡ whole
  runs_out e = subst (λ k. repeat f k a p s ≡ whole) e inv
