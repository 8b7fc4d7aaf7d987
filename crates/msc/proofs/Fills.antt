-- Items written behind a list, as many as there is room for.
use Rattle.std.proofs.Common.{◌≡◌, ℕ, ◌+◌, ◌-◌, ◌<◌, ◌≤◌, min, List, ◌++◌, length, take, sym, refl, ap, ◌∙◌, ⊎_elim, arith}
use borrow.Rule.Slice.PartMut.{put_mid}
use Rattle.std.proofs.lemmas.List.{take_all, length-take-le}
use Rattle.std.proofs.lemmas.Slice.{take-put_mid}
use Rattle.std.proofs.lemmas.Bool.{cases_lt}
use Rattle.std.proofs.Math.Seq.{take-append-add}

take_fewer : {A : Type 0} (ys : List A) (n k : ℕ) → n ≡ min (length ys) k → take n ys ≡ take k ys
take_fewer {A} ys n k e = ⊎_elim short long (cases_lt k (length ys))
  where
    short : k < length ys → take n ys ≡ take k ys
    short h = let is : n ≡ k = omega arith in rw is refl

    long : length ys ≤ k → take n ys ≡ take k ys
    long h = take_all n ys (omega arith) ∙ sym (take_all k ys (omega arith))

-- the items bs over a list of length m from place a on
pub filled : {A : Type 0} (o bs ys : List A) (m a n : ℕ) → length o ≡ m → a ≤ m → n ≡ min (length bs) (m - a) → ys ≡ take (n - 0) bs → take (a + n) (put_mid a (a + n - a) o ys) ≡ take m (take a o ++ bs)
filled o bs ys m a n long h e is =
    let z : n - 0 ≡ n = omega arith in
    let same : ys ≡ take n bs = is ∙ ap (λ j. take j bs) z in
    let front : length (take a o) ≡ a = length-take-le a o (omega arith) in
    let many : length ys ≡ n = ap length same ∙ length-take-le n bs (omega arith) in
    let all : length (take a o) + (m - a) ≡ m = omega arith in
    take-put_mid a (a + n - a) o ys (a + n) (omega arith) (omega arith)
    ∙ ap (λ l. take a o ++ l) (same ∙ take_fewer bs n (m - a) e)
    ∙ sym (take-append-add (take a o) bs (m - a))
    ∙ ap (λ j. take j (take a o ++ bs)) all
