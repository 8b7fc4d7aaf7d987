-- How far a bag is emptied after i takes, and that each take empties it further.
use Rattle.std.proofs.Common.{◌≡◌, ℕ, ◌+◌, ◌-◌, ◌<◌, ◌≤◌, List, [], ◌∷◌, length, Ok, Err, Result, refl, ◌∙◌, arith, MatchResult}
use Rattle.std.specs.List.Sorted.{IsPermutation}
use Rattle.std.proofs.lemmas.List.Sorted.{length_permutation}
use Rattle.channel.specs.declared.Refusal.{Refusal}
use Rattle.bag.specs.declared.Stamped.{Stamped}
use Rattle.bag.specs.Held.{shown_at}
use Rattle.bag.specs.Calls.{Take, Emptied}
use Rattle.bag.proofs.Shown.{shown_there}

length_none : (xs : List Stamped) → length xs ≡ 0 → xs ≡ []
length_none [] e = refl
length_none (x ∷ xs) e = absurd (omega arith)

-- a take of a letter that is there leaves one letter less
one_less : (xs ys : List Stamped) (i : ℕ) (r : Result Stamped Refusal) → i < length xs → r ≡ shown_at xs i
    → MatchResult r (λ x. IsPermutation xs (x ∷ ys)) (λ _. ys ≡ xs) → length xs ≡ length ys + 1
one_less xs ys i (Ok x) lt e a = let n = length_permutation xs (x ∷ ys) a in omega arith
one_less xs ys i (Err w) lt e a = let y = shown_there xs i lt in let z : ◌≡◌ {A = ℕ} 0 1 = cc (e, y.1) in absurd (omega arith)

module _ {B : Type 0} (sound : B → Type 0) (held : B → List Stamped) (space : B → ℕ) where
  pub record Left (b b' : B) (n : ℕ) : Type 0 where
    pub stays : sound b'
    pub limit : space b' ≡ space b
    pub count : length (held b') ≡ length (held b) - n

  pub left_none : (b : B) → sound b → Left b b 0
  left_none b s = record { stays = s; limit = refl; count = omega arith }

  pub left_more : (b c d : B) (n : ℕ) (r : Result Stamped Refusal) → Left b c n → n < length (held b) → Take sound held space c d 0 r → Left b d (n + 1)
  left_more b c d n r l lt t =
      let k = l.count in
      let o = one_less (held c) (held d) 0 r (omega arith) t.answer t.after in
      record { stays = t.stays; limit = t.limit ∙ l.limit; count = omega arith }

  pub left_all : (b c : B) (n : ℕ) → Left b c n → length (held b) ≤ n → Emptied sound held space b c
  left_all b c n l le = let k = l.count in record { stays = l.stays; limit = l.limit; after = length_none (held c) (omega arith) }
