-- A loop that takes turns at a reading, under words that stay as they are.
use Rattle.std.proofs.Common.{◌≡◌, ℕ, zero, suc, Bool, false, List, Result, ap, ◌∙◌}
use Rattle.std.specs.Result.{IsErrAnd}
use Rattle.std.proofs.lemmas.Result.{err_from_is_err_and}
use Rattle.lexis.specs.Readers.{step_of}
use Rattle.lexis.specs.Spots.{Spot}
use Rattle.lexis.specs.Steps.{Step, got, bad, repeat}
use Rattle.lexis.specs.declared.refusal.Refusal.{Refusal}
use Rattle.lexis.specs.declared.refusal.Refusal.TheVariants.{Limit}
use Rattle.draft.proofs.Repeat.{more, refuses, runs_out}

-- with n turns left, what is left comes to what the whole comes to
module _ {A : Type 0} (f : List (List ℕ) → A → ℕ → List ℕ → Step (A × Bool)) (ws : List (List ℕ)) (n : ℕ) (a : A) (p : ℕ) (s : List ℕ) (whole : Step A) (inv : repeat (f ws) n a p s ≡ whole) where
  -- a turn that is not the last came to b
  pub goes_on : (m : ℕ) → n ≡ suc m → (us : List (List ℕ)) → us ≡ ws → (b : A) (l : Bool) → l ≡ false → (p' : ℕ) (s' : List ℕ) → got (b, l) p' s' ≡ f ws a p s → repeat (f us) m b p' s' ≡ whole
  goes_on m e us k b l is p' s' h = ap (λ vs. repeat (f vs) m b p' s') k ∙ more (f ws) n a p s whole inv m e b l is p' s' h

  -- a turn came to a refusal, which is the answer
  pub gives_up : (m : ℕ) → n ≡ suc m → (x : Refusal) → bad x ≡ f ws a p s → {X : Type 0} (g : X → A) (result : Result X Refusal) (after : Spot) → IsErrAnd result (λ y. y ≡ x) → step_of g result after ≡ whole
  gives_up m e x h g result after is =
      let r = err_from_is_err_and result is in
      ap (λ y. step_of g y after) r.1 ∙ (ap (λ y. bad y) r.2 ∙ refuses (f ws) n a p s whole inv m e x h)

  -- no turn is left
  pub stops : n ≡ zero → (q : ℕ) → q ≡ p → bad (Limit q) ≡ whole
  stops e q is = ap (λ k. bad (Limit k)) is ∙ runs_out (f ws) n a p s whole inv e
