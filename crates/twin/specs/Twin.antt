-- What a twin means, as a bag, and which of its links each call goes to.
use Rattle.std.specs.Prelude.{◌≡◌, ℕ, ◌+◌, ◌-◌, ◌≤◌, min, Bool, true, false, ◌&&◌, ◌||◌, List, [], ◌++◌, length, Result, ◌==◌, nat_le, nat_lt}
use Rattle.channel.specs.declared.Refusal.{Refusal}
use Rattle.bag.specs.declared.Stamped.{Stamped}
use Rattle.bag.specs.declared.Bag.{Ghosts}
use Rattle.bag.specs.Calls.{Put, Take, Emptied}
use Rattle.twin.specs.declared.Twin.{Twin}

-- the limit of two bags together, at most 1,024
abbrev pub limit_of : ℕ → ℕ → ℕ
limit_of p q = min (p + q) 1024

-- a letter goes to the link with fewer letters that has space, the first on a tie:
-- m letters and the limit p in the first, n and q in the second
abbrev pub prefers_first : ℕ → ℕ → ℕ → ℕ → Bool
prefers_first m p n q = nat_lt m p && (nat_le q n || nat_le m n)

-- a and b are what the two links mean, as bags
module _ {A B : Type 0} (a : Ghosts A) (b : Ghosts B) where
  -- the first link's list comes first
  abbrev pub held_by : Twin A B → List Stamped
  held_by t = a.held t.first ++ b.held t.second

  abbrev pub space_of : Twin A B → ℕ
  space_of t = limit_of (a.space t.first) (b.space t.second)

  pub record Sound (t : Twin A B) : Type 0 where
    pub first : a.sound t.first
    pub second : b.sound t.second
    pub within : length (held_by t) ≤ space_of t

  abbrev pub is_full : Twin A B → Bool
  is_full t = length (held_by t) == space_of t

  abbrev pub first_takes : Twin A B → Bool
  first_takes t = prefers_first (length (a.held t.first)) (a.space t.first) (length (b.held t.second)) (b.space t.second)

  -- whether the i-th letter of all is in the first link
  abbrev pub in_first : Twin A B → ℕ → Bool
  in_first t i = nat_lt i (length (a.held t.first))

  -- a twin made of two bags
  pub record Made (x : A) (y : B) (t : Twin A B) : Type 0 where
    pub sound : Sound t
    pub first : Emptied a.sound a.held a.space x t.first
    pub second : Emptied b.sound b.held b.space y t.second
    pub empty : held_by t ≡ []
    pub limit : space_of t ≡ limit_of (a.space x) (b.space y)

  -- a put into the full twin, into the first link, or into the second, which leaves the other link as it was
  abbrev pub PlacedIf : Bool → Bool → Twin A B → Twin A B → Stamped → Result (Unit {0}) Refusal → Type 0
  PlacedIf true f t t' x r = t' ≡ t
  PlacedIf false true t t' x r = Put a.sound a.held a.space t.first t'.first x r × (t'.second ≡ t.second)
  PlacedIf false false t t' x r = (t'.first ≡ t.first) × Put b.sound b.held b.space t.second t'.second x r

  abbrev pub Placed : Twin A B → Twin A B → Stamped → Result (Unit {0}) Refusal → Type 0
  Placed t = PlacedIf (is_full t) (first_takes t) t

  -- a take from the first link, or from the second, which leaves the other link as it was
  abbrev pub RemovedIf : Bool → Twin A B → Twin A B → ℕ → Result Stamped Refusal → Type 0
  RemovedIf true t t' i r = Take a.sound a.held a.space t.first t'.first i r × (t'.second ≡ t.second)
  RemovedIf false t t' i r = (t'.first ≡ t.first) × Take b.sound b.held b.space t.second t'.second (i - length (a.held t.first)) r

  abbrev pub Removed : Twin A B → Twin A B → ℕ → Result Stamped Refusal → Type 0
  Removed t t' i = RemovedIf (in_first t i) t t' i
