-- Joined lists, one part of which changes its order.
use Rattle.std.proofs.Common.{◌≡◌, ℕ, ◌<◌, List, [], ◌∷◌, ◌++◌, length, get_or, set, sym, ap, ◌∙◌, subst, arith, length-append}
use Rattle.std.specs.List.{swap}
use Rattle.std.specs.List.Sorted.{IsPermutation}
use Rattle.std.proofs.lemmas.List.Edits.{swap_is}
use Rattle.std.proofs.lemmas.List.{append_assoc, get_or_append_left, set-append_left, length-set}
use Rattle.std.proofs.lemmas.List.Sorted.{IsPermutation-refl, IsPermutation-sym, IsPermutation-cons, IsPermutation-swap, IsPermutation-trans, IsPermutation-to_front, IsPermutation-keeps}

module _ {X : Type 0} where
  exchanged_append : (xs zs : List X) (d : X) (i j : ℕ) → i < length xs → j < length xs → swap xs i j ++ zs ≡ swap (xs ++ zs) i j
  exchanged_append xs zs d i j hi hj =
      let long = length-append xs zs in
      let v = get_or xs j d in
      let w = get_or xs i d in
      let k = length-set xs i v in
      ap (λ l. l ++ zs) (sym (swap_is xs i j d hi hj))
      ∙ sym (set-append_left (set xs i v) zs j w (omega arith))
      ∙ ap (λ l. set l j w) (sym (set-append_left xs zs i v hi))
      ∙ ap (λ y. set (set (xs ++ zs) i y) j w) (sym (get_or_append_left xs zs d j hj))
      ∙ ap (λ y. set (set (xs ++ zs) i (get_or (xs ++ zs) j d)) j y) (sym (get_or_append_left xs zs d i hi))
      ∙ swap_is (xs ++ zs) i j d (omega arith) (omega arith)

  one_swap : (xs zs : List X) (i j : ℕ) → i < length xs → j < length xs → IsPermutation (xs ++ zs) (swap xs i j ++ zs)
  one_swap [] zs i j hi hj = absurd (omega arith)
  one_swap (x ∷ xs) zs i j hi hj =
      let long = length-append (x ∷ xs) zs in
      IsPermutation-swap ((x ∷ xs) ++ zs) (swap (x ∷ xs) i j ++ zs) i j (omega arith) (omega arith) (exchanged_append (x ∷ xs) zs x i j hi hj)

  pub shuffled_before : (xs ys zs : List X) → IsPermutation xs ys → IsPermutation (xs ++ zs) (ys ++ zs)
  shuffled_before xs ys zs =
      IsPermutation-keeps xs (λ l. IsPermutation (xs ++ zs) (l ++ zs)) (IsPermutation-refl (xs ++ zs))
      (λ l i j hi hj s. IsPermutation-trans (xs ++ zs) (l ++ zs) (swap l i j ++ zs) s (one_swap l zs i j hi hj)) ys

  pub shuffled_after : (zs xs ys : List X) → IsPermutation xs ys → IsPermutation (zs ++ xs) (zs ++ ys)
  shuffled_after [] xs ys s = s
  shuffled_after (z ∷ zs) xs ys s = IsPermutation-cons z (zs ++ xs) (zs ++ ys) (shuffled_after zs xs ys s)

  -- an element goes from the front to the middle
  pub shuffled_middle : (x : X) (xs ys : List X) → IsPermutation (x ∷ (xs ++ ys)) (xs ++ x ∷ ys)
  shuffled_middle x xs ys =
      let s = shuffled_before (x ∷ xs) (xs ++ x ∷ []) ys (IsPermutation-sym (xs ++ x ∷ []) (x ∷ xs) (IsPermutation-to_front xs x)) in
      subst (λ (l : List X). IsPermutation (x ∷ (xs ++ ys)) l) (append_assoc xs (x ∷ []) ys) s
