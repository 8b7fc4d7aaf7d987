-- Lists of at most n numbers, held in n places: the rest of the places are zero, so that a list is held in one way.
use Rattle.std.specs.Prelude.{ℕ, ◌≡◌, ◌≤◌, ◌-◌, List, ◌++◌, length, take, replicate}
use Rattle.std.proofs.Common.{arith, ap}
use Rattle.std.proofs.lemmas.List.{length-take, length-append, length-replicate}

abbrev pub padded : ℕ → List ℕ → List ℕ
padded n w = w ++ replicate (n - length w) 0

-- the first k of n places hold a list
pub record Holds (n k : ℕ) (places : List ℕ) : Type 0 where
  pub few : k ≤ n
  pub rest : places ≡ padded n (take k places)

pub length_held : (n k : ℕ) (places : List ℕ) → Holds n k places → length (take k places) ≡ k
length_held n k places h =
    omega (arith, h.few, ap length h.rest, length-take k places, length-append (take k places) (replicate (n - length (take k places)) 0), length-replicate {A = ℕ} (n - length (take k places)) 0)
