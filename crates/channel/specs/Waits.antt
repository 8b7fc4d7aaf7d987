-- The queues of a channel, and what its calls answer and leave, over those queues.
use Rattle.std.specs.Prelude.{ℕ, zero, suc, ◌+◌, Bool, cond, not, ◌&&◌, List, [], ◌∷◌, ◌++◌, length, Ok, Err, Option, Result, ok_or, ◌==◌, nat_lt}
use Rattle.channel.specs.declared.Letter.{Letter}
use Rattle.channel.specs.declared.Refusal.{Refusal}
use Rattle.channel.specs.declared.Refusal.TheVariants.{NotAPair, Full, Empty}

-- the waiting letters, by sender and receiver, the oldest first
abbrev pub Waits : Type 0
Waits = ℕ → ℕ → List Letter

-- a sender and a receiver: two different numbers below 8
abbrev pub is_pair : ℕ → ℕ → Bool
is_pair f t = nat_lt f 8 && (nat_lt t 8 && not (f == t))

-- whether f and t are the sender and the receiver named first
abbrev pub same_pair : ℕ → ℕ → ℕ → ℕ → Bool
same_pair from to f t = f == from && t == to

-- the sum of g 0 up to g (n - 1)
abbrev pub sum_to : ℕ → (ℕ → ℕ) → ℕ
sum_to zero g = 0
sum_to (suc n) g = sum_to n g + g n

-- how many letters wait in all
unfoldable pub total : Waits → ℕ
total w = sum_to 8 (λ f. sum_to 8 (λ t. length (w f t)))

-- the oldest letter of a queue, or the refusal of an empty one
abbrev pub first_of : List Letter → Result Letter Refusal
first_of [] = Err Empty
first_of (x ∷ xs) = Ok x

-- a queue without its oldest letter
abbrev pub rest_of : List Letter → List Letter
rest_of [] = []
rest_of (x ∷ xs) = xs

-- the queues with one letter more, at the end of its pair's
abbrev pub added : Waits → ℕ → ℕ → Letter → Waits
added w from to l f t = cond (same_pair from to f t) (w f t ++ (l ∷ [])) (w f t)

-- the queues without the oldest letter of one pair
abbrev pub headless : Waits → ℕ → ℕ → Waits
headless w from to f t = cond (same_pair from to f t) (rest_of (w f t)) (w f t)

-- what head and take answer
abbrev pub head_of : Waits → ℕ → ℕ → Result Letter Refusal
head_of w from to = cond (is_pair from to) (first_of (w from to)) (Err NotAPair)

-- where a pair's oldest letter stands, of which o is the place, or the refusal where there is none
abbrev pub place_of : ℕ → ℕ → Option ℕ → Result ℕ Refusal
place_of from to o = cond (is_pair from to) (ok_or o Empty) (Err NotAPair)

-- what put answers: a pair is refused for want of room alone
abbrev pub put_of : Waits → ℕ → ℕ → ℕ → Result (Unit {0}) Refusal
put_of w room from to = cond (is_pair from to) (cond (total w == room) (Err Full) (Ok tt)) (Err NotAPair)

-- the queues that a put leaves
abbrev pub after_put : Waits → ℕ → ℕ → ℕ → Letter → Waits
after_put w room from to l = cond (is_pair from to) (cond (total w == room) w (added w from to l)) w

-- the queues that a take leaves
abbrev pub after_take : Waits → ℕ → ℕ → Waits
after_take w from to = cond (is_pair from to) (headless w from to) w
