-- What a call to one link does to the lists of both together.
use Rattle.std.proofs.Common.{◌≡◌, ℕ, zero, suc, ◌+◌, ◌-◌, ◌<◌, ◌≤◌, true, false, List, [], ◌∷◌, ◌++◌, length, refl, ap, ◌∙◌, arith}
use Rattle.std.specs.List.Sorted.{IsPermutation}
use Rattle.std.proofs.lemmas.List.Sorted.{IsPermutation-trans, IsPermutation-sym}
use Rattle.std.proofs.lemmas.Bool.Decides.{nat_tests}
use Rattle.bag.specs.declared.Stamped.{Stamped}
use Rattle.bag.specs.Held.{shown_at}
use Rattle.twin.specs.Twin.{limit_of, prefers_first}
use Rattle.twin.proofs.Shuffles.{shuffled_before, shuffled_after, shuffled_middle}

-- the link that a letter goes to has space
pub first_space : (m p n q : ℕ) → prefers_first m p n q ≡ true → m ≡ p → ⊥
first_space m p n q e h = grind (arith, nat_tests)

pub second_space : (m p n q : ℕ) → m ≤ p → m + n ≤ limit_of p q → (m + n ≡ limit_of p q → ⊥) → prefers_first m p n q ≡ false → n ≡ q → ⊥
second_space m p n q hm le ne e h = grind (arith, nat_tests)

pub shown_left : (xs ys : List Stamped) (i : ℕ) → i < length xs → shown_at xs i ≡ shown_at (xs ++ ys) i
shown_left [] ys i lt = absurd (omega arith)
shown_left (x ∷ xs) ys zero lt = refl
shown_left (x ∷ xs) ys (suc i) lt = shown_left xs ys i (omega arith)

pub shown_right : (xs ys : List Stamped) (i : ℕ) → length xs ≤ i → shown_at ys (i - length xs) ≡ shown_at (xs ++ ys) i
shown_right [] ys i le = ap (shown_at ys) (omega arith)
shown_right (x ∷ xs) ys zero le = absurd (omega arith)
shown_right (x ∷ xs) ys (suc i) le = ap (shown_at ys) (omega arith) ∙ shown_right xs ys i (omega arith)

pub put_left : (x : Stamped) (xs xs' ys : List Stamped) → IsPermutation (x ∷ xs) xs' → IsPermutation (x ∷ (xs ++ ys)) (xs' ++ ys)
put_left x xs xs' ys s = shuffled_before (x ∷ xs) xs' ys s

pub put_right : (x : Stamped) (xs ys ys' : List Stamped) → IsPermutation (x ∷ ys) ys' → IsPermutation (x ∷ (xs ++ ys)) (xs ++ ys')
put_right x xs ys ys' s = IsPermutation-trans _ (xs ++ x ∷ ys) _ (shuffled_middle x xs ys) (shuffled_after xs (x ∷ ys) ys' s)

pub take_left : (x : Stamped) (xs xs' ys : List Stamped) → IsPermutation xs (x ∷ xs') → IsPermutation (xs ++ ys) (x ∷ (xs' ++ ys))
take_left x xs xs' ys s = shuffled_before xs (x ∷ xs') ys s

pub take_right : (x : Stamped) (xs ys ys' : List Stamped) → IsPermutation ys (x ∷ ys') → IsPermutation (xs ++ ys) (x ∷ (xs ++ ys'))
take_right x xs ys ys' s = IsPermutation-trans _ (xs ++ x ∷ ys') _ (shuffled_after xs ys (x ∷ ys') s) (IsPermutation-sym _ _ (shuffled_middle x xs ys'))
