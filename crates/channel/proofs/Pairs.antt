-- Laws of pairs: a sender and a receiver.
use Rattle.std.proofs.Common.{◌≡◌, ℕ, ◌<◌, true, not, ◌&&◌, eqb, ltb, refl}
use Rattle.std.proofs.lemmas.Bool.{and_from, and_parts, eq-eqb, eqb-true, eqb-false, ltb-true, not-true}
use Rattle.channel.specs.Waits.{is_pair, same_pair}

pub same_pair_self : (from to : ℕ) → same_pair from to from to ≡ true
same_pair_self from to = and_from (eqb from from) (eqb to to) (eq-eqb from from refl) (eq-eqb to to refl)

pub same_pair-true : (from to f t : ℕ) → same_pair from to f t ≡ true → (f ≡ from) × (t ≡ to)
same_pair-true from to f t e =
    let p = and_parts (eqb f from) (eqb t to) e in
    (eqb-true f from p.0, eqb-true t to p.1)

pub pair_parts : (f t : ℕ) → is_pair f t ≡ true → (f < 8) × (t < 8) × (f ≡ t → ⊥)
pair_parts f t e =
    let p = and_parts (ltb f 8) (ltb t 8 && not (eqb f t)) e in
    let q = and_parts (ltb t 8) (not (eqb f t)) p.1 in
    (ltb-true f 8 p.0, ltb-true t 8 q.0, eqb-false f t (not-true (eqb f t) q.1))
