-- The names that are picked, by the library's word, and one more event done.
use Rattle.std.proofs.Common.{◌≡◌, ℕ, zero, suc, ◌+◌, ◌≤◌, Bool, true, false, cond, eqb, List, [], ◌∷◌, ◌++◌, ◌<◌, ◌^◌, length, get_or, set, refl, ap, arith}
use Rattle.std.specs.List.{flat_map, sum_by}
use Rattle.std.proofs.lemmas.List.Sums.{sum_by-le}
use Rattle.msc.specs.Events.{out_to, in_from, picked}
use Rattle.msc.specs.declared.event.Event.{Event}
use Rattle.msc.specs.declared.event.Event.TheVariants.{Out, In, Action}

pub picked_is : (f : Event → List ℕ) (es : List Event) → flat_map f es ≡ picked f es
picked_is f [] = refl
picked_is f (e ∷ es) = ap (λ r. f e ++ r) (picked_is f es)

-- one name is picked of an event at most
one_if : (b : Bool) (n : ℕ) → length (cond b (n ∷ []) []) ≤ 1
one_if true n = omega arith
one_if false n = omega arith

pub one_out_to : (q : ℕ) (e : Event) → length (out_to q e) ≤ 1
one_out_to q (Out n t) = one_if (eqb t q) n
one_out_to q (In n t) = omega arith
one_out_to q (Action n) = omega arith

pub one_in_from : (p : ℕ) (e : Event) → length (in_from p e) ≤ 1
one_in_from p (Out n t) = omega arith
one_in_from p (In n t) = one_if (eqb t p) n
one_in_from p (Action n) = omega arith

-- where f picks one name of an event at most, there are no more names than events
pub picked_fits : (f : Event → List ℕ) (es : List Event) → ((e : Event) → length (f e) ≤ 1) → length es < 2 ^ 64 → sum_by (λ e. length (f e)) es < 2 ^ 64
picked_fits f es h l = omega (arith, sum_by-le (λ e. length (f e)) 1 es (λ k d i. h (get_or es k d)))

-- one more event of i done
pub raised : (d : List ℕ) (i k : ℕ) → ((j : ℕ) → get_or d j 0 ≤ k) → (j : ℕ) → get_or (set d i (get_or d i 0 + 1)) j 0 ≤ k + 1
raised [] i k h j = omega arith
raised (x ∷ d) zero k h zero = omega (arith, h 0)
raised (x ∷ d) zero k h (suc j) = omega (arith, h (suc j))
raised (x ∷ d) (suc i) k h zero = omega (arith, h 0)
raised (x ∷ d) (suc i) k h (suc j) = raised d i k (λ n. h (suc n)) j
