-- What a call that changes a bag promises, of the bag before (b) and after (b') and of the answer (r).
-- The order is the bag's own: `IsPermutation xs ys` says that ys has the elements of xs, in any order.
use Rattle.std.specs.Prelude.{◌≡◌, ℕ, List, [], ◌∷◌, Result, MatchResult}
use Rattle.std.specs.List.Sorted.{IsPermutation}
use Rattle.channel.specs.declared.Refusal.{Refusal}
use Rattle.bag.specs.declared.Stamped.{Stamped}
use Rattle.bag.specs.Held.{shown_at, put_of}

module _ {B : Type 0} (sound : B → Type 0) (held : B → List Stamped) (space : B → ℕ) where
  pub record Put (b b' : B) (x : Stamped) (r : Result (Unit {0}) Refusal) : Type 0 where
    pub stays : sound b'
    pub limit : space b' ≡ space b
    pub answer : r ≡ put_of (held b) (space b)
    pub after : MatchResult r (λ _. IsPermutation (x ∷ held b) (held b')) (λ _. held b' ≡ held b)

  pub record Take (b b' : B) (i : ℕ) (r : Result Stamped Refusal) : Type 0 where
    pub stays : sound b'
    pub limit : space b' ≡ space b
    pub answer : r ≡ shown_at (held b) i
    pub after : MatchResult r (λ x. IsPermutation (held b) (x ∷ held b')) (λ _. held b' ≡ held b)

  pub record Emptied (b b' : B) : Type 0 where
    pub stays : sound b'
    pub limit : space b' ≡ space b
    pub after : held b' ≡ []
