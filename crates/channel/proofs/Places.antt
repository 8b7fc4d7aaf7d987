-- What the place of a pair's oldest letter tells.
use Rattle.std.proofs.Common.{◌≡◌, ℕ, true, false, Ok, Err, Some, None, Option, ok_or, refl, ap, ◌∙◌, ⊎_elim, arith}
use Rattle.std.proofs.lemmas.Bool.{cases_Bool}
use Rattle.channel.specs.declared.Refusal.{Refusal}
use Rattle.channel.specs.declared.Refusal.TheVariants.{NotAPair, Empty}
use Rattle.channel.specs.Waits.{Waits, is_pair, first_of, head_of, place_of}

found : (o : Option ℕ) (i : ℕ) → ok_or o Empty ≡ Ok i → o ≡ Some i
found None i e = absurd (let z : ◌≡◌ {A = ℕ} 0 1 = cc in omega arith)
found (Some j) i e = cc

not_found : (o : Option ℕ) (w : Refusal) → ok_or o Empty ≡ Err w → (o ≡ None) × (Empty ≡ w)
not_found None w h = (refl, cc)
not_found (Some j) w h = absurd (let z : ◌≡◌ {A = ℕ} 0 1 = cc in omega arith)

module _ (from to : ℕ) (o : Option ℕ) where
  pub placed : (i : ℕ) → place_of from to o ≡ Ok i → (is_pair from to ≡ true) × (o ≡ Some i)
  placed i h =
      ⊎_elim
      (λ (e : is_pair from to ≡ true). (e, found o i (rw e at h)))
      (λ (e : is_pair from to ≡ false). let h' = rw e at h in absurd (let z : ◌≡◌ {A = ℕ} 0 1 = cc in omega arith))
      (cases_Bool (is_pair from to))

  pub not_placed : (waits : Waits) (w : Refusal) → (is_pair from to ≡ true → o ≡ None → first_of (waits from to) ≡ Err Empty) → place_of from to o ≡ Err w → head_of waits from to ≡ Err w
  not_placed waits w none h =
      ⊎_elim
      (λ (e : is_pair from to ≡ true). let n = not_found o w (rw e at h) in rw e (none e n.0 ∙ ap Err n.1))
      (λ (e : is_pair from to ≡ false). let h' = rw e at h in let same : NotAPair ≡ w = cc in rw e (ap Err same))
      (cases_Bool (is_pair from to))
