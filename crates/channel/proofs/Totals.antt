-- What one letter more or less does to the number of all waiting letters.
use Rattle.std.proofs.Common.{◌≡◌, ℕ, zero, suc, ◌+◌, ◌<◌, ◌≤◌, true, false, eqb, List, [], ◌∷◌, length, sym, refl, ap, subst, ⊎_elim, le_trans, arith}
use Rattle.channel.specs.declared.Letter.{Letter}
use Rattle.std.proofs.lemmas.List.{length_push}
use Rattle.std.proofs.lemmas.Bool.{cases_eq, and_left, and_right, ne_eqb}
use Rattle.channel.proofs.Pairs.{same_pair_self, pair_parts}
use Rattle.channel.specs.Waits.{Waits, is_pair, same_pair, sum_to, total, rest_of, added, headless}

-- two functions that agree below n
pub sum_to_same : (n : ℕ) (g h : ℕ → ℕ) → ((k : ℕ) → k < n → g k ≡ h k) → sum_to n g ≡ sum_to n h
sum_to_same zero g h e = refl
sum_to_same (suc n) g h e =
    let a = sum_to_same n g h (λ k lt. e k (omega arith)) in
    let b = e n (omega arith) in
    omega arith

-- h is g, but one more at i
pub sum_to_more : (n i : ℕ) (g h : ℕ → ℕ) → i < n → h i ≡ g i + 1 → ((k : ℕ) → (k ≡ i → ⊥) → h k ≡ g k) → sum_to n h ≡ sum_to n g + 1
sum_to_more zero i g h lt here other = absurd (omega arith)
sum_to_more (suc n) i g h lt here other =
    ⊎_elim
    (λ e.
    let a = sum_to_same n h g (λ k l. other k (omega arith)) in
    let b : h n ≡ g n + 1 = subst (λ (x : ℕ). h x ≡ g x + 1) (sym e) here in
    omega arith)
    (λ ne.
    let a = sum_to_more n i g h (omega arith) here other in
    let b = other n ne in
    omega arith)
    (cases_eq n i)

-- w' is w, but one letter more waits from one to the other
pub total_more : (w w' : Waits) (from to : ℕ) → from < 8 → to < 8
    → length (w' from to) ≡ length (w from to) + 1
    → ((f t : ℕ) → same_pair from to f t ≡ false → length (w' f t) ≡ length (w f t))
    → total w' ≡ total w + 1
unfolding total
total_more w w' from to f8 t8 here other =
    sum_to_more 8 from (λ f. sum_to 8 (λ t. length (w f t))) (λ f. sum_to 8 (λ t. length (w' f t))) f8
    (sum_to_more 8 to (λ t. length (w from t)) (λ t. length (w' from t)) t8 here (λ t ne. other from t (and_right (eqb from from) (eqb t to) (ne_eqb t to ne))))
    (λ f ne. sum_to_same 8 (λ t. length (w' f t)) (λ t. length (w f t)) (λ t _. other f t (and_left (eqb f from) (eqb t to) (ne_eqb f from ne))))

pub total-added : (w : Waits) (from to : ℕ) (l : Letter) → is_pair from to ≡ true → total (added w from to l) ≡ total w + 1
total-added w from to l e =
    let p = pair_parts from to e in
    total_more w (added w from to l) from to p.0 p.1
    (rw (same_pair_self from to) (length_push (w from to) l))
    (λ f t ne. rw ne refl)

length-rest_of : (xs : List Letter) → 0 < length xs → length xs ≡ length (rest_of xs) + 1
length-rest_of [] h = absurd (omega arith)
length-rest_of (x ∷ xs) h = omega arith

pub total-headless : (w : Waits) (from to : ℕ) → is_pair from to ≡ true → 0 < length (w from to) → total w ≡ total (headless w from to) + 1
total-headless w from to e some =
    let p = pair_parts from to e in
    total_more (headless w from to) w from to p.0 p.1
    (rw (same_pair_self from to) (length-rest_of (w from to) some))
    (λ f t ne. rw ne refl)

sum_to-zero : (n : ℕ) (g : ℕ → ℕ) → ((k : ℕ) → g k ≡ 0) → sum_to n g ≡ 0
sum_to-zero zero g e = refl
sum_to-zero (suc n) g e = let a = sum_to-zero n g e in let b = e n in omega arith

pub total_none : (w : Waits) → ((f t : ℕ) → w f t ≡ []) → total w ≡ 0
unfolding total
total_none w e = sum_to-zero 8 (λ f. sum_to 8 (λ t. length (w f t))) (λ f. sum_to-zero 8 (λ t. length (w f t)) (λ t. ap length (e f t)))

sum_to_le : (n i : ℕ) (g : ℕ → ℕ) → i < n → g i ≤ sum_to n g
sum_to_le zero i g lt = absurd (omega arith)
sum_to_le (suc n) i g lt =
    ⊎_elim
    (λ e. let a : g n ≡ g i = ap g e in omega arith)
    (λ ne. let a = sum_to_le n i g (omega arith) in omega arith)
    (cases_eq n i)

-- no list is longer than all together
pub length_le_total : (w : Waits) (f t : ℕ) → f < 8 → t < 8 → length (w f t) ≤ total w
unfolding total
length_le_total w f t f8 t8 =
    le_trans (sum_to_le 8 t (λ u. length (w f u)) t8) (sum_to_le 8 f (λ v. sum_to 8 (λ u. length (w v u))) f8)
