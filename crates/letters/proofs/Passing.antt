-- A channel in which nothing waits has room for a letter.
use Rattle.std.proofs.Common.{◌≡◌, ℕ, ◌≤◌, true, [], Ok, Err, Result, refl, arith}
use Rattle.std.proofs.lemmas.Bool.{ne_eqb}
use Rattle.channel.specs.declared.Refusal.{Refusal}
use Rattle.channel.specs.Waits.{Waits, is_pair, total, put_of}
use Rattle.channel.proofs.Totals.{total_none}

pub put_taken : (w : Waits) (room from to : ℕ) (e : Refusal) → is_pair from to ≡ true → ((f t : ℕ) → w f t ≡ []) → 1 ≤ room → ◌≡◌ {A = Result (Unit {0}) Refusal} (Err e) (put_of w room from to) → ⊥
put_taken w room from to e pair none some h =
    let n = total_none w none in
    let k = ne_eqb (total w) room (λ q. omega arith) in
    let a : put_of w room from to ≡ Ok tt = rw (pair, k) refl in
    let z : ◌≡◌ {A = ℕ} 0 1 = cc in
    omega arith
