-- A bag's letters by pair and stamp, and the queues that they make in the order of their stamps.
use Rattle.std.specs.Prelude.{◌≡◌, ℕ, suc, ◌+◌, ◌%◌, ◌<◌, Bool, true, cond, ◌&&◌, List, [], ◌∷◌, map, length, Some, None, Option, ◌==◌, nat_lt, false, slice_get, option_map, unwrap_or}
use Rattle.std.specs.List.{range_with_len}
use Rattle.channel.specs.declared.Letter.{Letter}
use Rattle.channel.specs.Waits.{Waits, is_pair, same_pair, total}
use Rattle.bag.specs.declared.Stamped.{Stamped}

-- whether x is the letter of the pair with the stamp s
abbrev pub carries : ℕ → ℕ → ℕ → Stamped → Bool
carries f t s x = same_pair x.from x.to f t && s == x.stamp

-- whether the i-th is
abbrev pub carries_at : ℕ → ℕ → ℕ → List Stamped → ℕ → Bool
carries_at f t s xs i = unwrap_or (option_map (carries f t s) (slice_get xs i)) false

abbrev pub later : Option ℕ → Option ℕ
later None = None
later (Some i) = Some (suc i)

-- the place of the first letter of the pair with the stamp s
abbrev pub sought_in : ℕ → ℕ → ℕ → List Stamped → Option ℕ
sought_in f t s [] = None
sought_in f t s (x ∷ xs) = cond (carries f t s x) (Some 0) (later (sought_in f t s xs))

-- how many letters of the pair have the stamp s
abbrev pub tally : ℕ → ℕ → ℕ → List Stamped → ℕ
tally f t s [] = 0
tally f t s (x ∷ xs) = cond (carries f t s x) 1 0 + tally f t s xs

-- what stands for a letter where there is none
abbrev pub blank : Letter
blank = record { label = 0; name = 0; place = 0; turns = [] }

-- the first letter of the pair with the stamp s
abbrev pub letter_at : ℕ → ℕ → ℕ → List Stamped → Letter
letter_at f t s [] = blank
letter_at f t s (x ∷ xs) = cond (carries f t s x) x.letter (letter_at f t s xs)

-- a number for each sender and receiver
abbrev pub Cells : Type 0
Cells = ℕ → ℕ → ℕ

-- the stamp that comes k after the one that is due: stamps have 32 bits, and go round
abbrev pub stamp_at : Cells → ℕ → ℕ → ℕ → ℕ
stamp_at due f t k = (due f t + k) % 4294967296

-- the queues: of each pair as many letters as wait, by their stamps, from the one that is due on
abbrev pub waits_from : Cells → Cells → List Stamped → Waits
waits_from due many xs f t = cond (is_pair f t) (map (λ k. letter_at f t (stamp_at due f t k) xs) (range_with_len 0 (many f t))) []

-- the bag holds just the letters that wait: of each pair the `many` stamps from `due` on stand in it
-- once each, and no other stamp does
pub record Kept (due many : Cells) (xs : List Stamped) : Type 0 where
  pub small : (f t : ℕ) → is_pair f t ≡ true → due f t < 4294967296
  pub marks : (f t k : ℕ) → is_pair f t ≡ true → k < 4294967296 → tally f t (stamp_at due f t k) xs ≡ cond (nat_lt k (many f t)) 1 0
  pub count : total (waits_from due many xs) ≡ length xs
