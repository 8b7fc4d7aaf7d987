-- A tray that leaves the list that its clauses name keeps the promises of a bag.
use Rattle.std.proofs.Common.{◌≡◌, ℕ, ◌-◌, ◌<◌, true, false, eqb, List, [], ◌∷◌, length, get_or, take, set, Ok, Result, MatchResult, sym, refl, ap, ◌∙◌, ⊎_elim, arith}
use Rattle.std.specs.List.Sorted.{IsPermutation}
use Rattle.std.proofs.lemmas.Bool.{cases_Bool, cond-true, lt-ltb}
use Rattle.std.proofs.lemmas.List.{take-set-le, get_or_default, length-set}
use Rattle.std.proofs.lemmas.List.Edits.{swap_is}
use Rattle.std.proofs.lemmas.List.Sorted.{IsPermutation-sym, IsPermutation-to_front, IsPermutation-swap_remove}
use Rattle.channel.specs.declared.Refusal.{Refusal}
use Rattle.bag.specs.declared.Stamped.{Stamped}
use Rattle.bag.specs.Held.{put_of, shown_at}
use Rattle.bag.proofs.Shown.{shown_at_lem}
use Rattle.std.specs.List.{swap_remove}
use Rattle.arrayvec.specs.ArrayVec.{ArrayVec, with_items}
use Rattle.arrayvec.proofs.ArrayVecLemmas.{items-with_items}
use Rattle.tray.specs.Tray.{after_put, after_take, gap_filled}

pub put_shuffled : (xs ys : List Stamped) (x : Stamped) (r : Result (Unit {0}) Refusal) → r ≡ put_of xs 32 → ys ≡ after_put xs x
    → MatchResult r (λ _. IsPermutation (x ∷ xs) ys) (λ _. ys ≡ xs)
put_shuffled xs ys x r answer left =
    ⊎_elim
    (λ (e : eqb (length xs) 32 ≡ true). rw (answer, left, e) refl)
    (λ (e : eqb (length xs) 32 ≡ false). rw (answer, left, e) (IsPermutation-sym _ _ (IsPermutation-to_front xs x)))
    (cases_Bool (eqb (length xs) 32))

abbrev blank : Stamped
blank = record { from = 0; to = 0; stamp = 0; letter = record { label = 0; name = 0; place = 0; turns = [] } }

-- a vector whose last element is written at i, and then cut off
pub popped : (v w : ArrayVec Stamped) (us vs : List Stamped) (n i : ℕ) → us ≡ v.items → vs ≡ v.items → n ≡ length v.items
    → w.items ≡ take (length (with_items v (set vs i (get_or us (n - 1) blank))).items - 1) (with_items v (set vs i (get_or us (n - 1) blank))).items
    → w.items ≡ take (length v.items - 1) (set v.items i (get_or v.items (length v.items - 1) blank))
popped v w us vs n i ea eb en left =
    let ys = set v.items i (get_or v.items (length v.items - 1) blank) in
    let k = length-set v.items i (get_or v.items (length v.items - 1) blank) in
    let written : set vs i (get_or us (n - 1) blank) ≡ ys = rw (ea, eb, en) refl in
    let kept : (with_items v (set vs i (get_or us (n - 1) blank))).items ≡ ys = ap (λ l. (with_items v l).items) written ∙ items-with_items v ys k in
    left ∙ ap (λ l. take (length l - 1) l) kept ∙ ap (λ m. take (m - 1) ys) k

-- the list that is left then
module _ (xs ys : List Stamped) (i : ℕ) (x : Stamped) (here : shown_at xs i ≡ Ok x) (left : ys ≡ take (length xs - 1) (set xs i (get_or xs (length xs - 1) blank))) where
  there : (i < length xs) × ((d : Stamped) → get_or xs i d ≡ x)
  there = shown_at_lem xs i x here

  pub take_filled : ys ≡ after_take xs i
  take_filled =
      let n = length xs - 1 in
      left
      ∙ sym (take-set-le n (set xs i (get_or xs n blank)) n (get_or xs i blank) (omega arith))
      ∙ ap (take n) (swap_is xs i n blank there.0 (omega (arith, there.0)))
      ∙ sym (cond-true _ (gap_filled xs i) xs (lt-ltb i (length xs) there.0))

  pub take_shuffled : IsPermutation xs (x ∷ ys)
  take_shuffled =
      let n = length xs - 1 in
      let same : ys ≡ swap_remove xs i x = left ∙ ap (λ v. take n (set xs i v)) (get_or_default xs n blank x (omega (arith, there.0))) in
      rw same (IsPermutation-swap_remove xs i x there.0 (sym (there.1 x)))
