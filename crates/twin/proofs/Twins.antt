-- A twin keeps a bag's promises if the link that it calls does.
use Rattle.std.proofs.Common.{◌≡◌, ℕ, ◌-◌, ◌<◌, ◌≤◌, true, false, List, ◌∷◌, ◌++◌, length, Ok, Err, Result, sym, refl, ap, ◌∙◌, subst, arith, length-append}
use Rattle.std.proofs.lemmas.List.Sorted.{length_permutation}
use Rattle.std.proofs.lemmas.Bool.{ne_eqb, lt-ltb, le-ltb}
use Rattle.channel.specs.declared.Refusal.{Refusal}
use Rattle.bag.specs.declared.Stamped.{Stamped}
use Rattle.bag.specs.declared.Bag.{Ghosts}
use Rattle.bag.specs.Held.{put_of, shown_at}
use Rattle.bag.specs.Calls.{Put, Take}
use Rattle.bag.proofs.Makes.{put_done}
use Rattle.twin.specs.declared.Twin.{Twin}
use Rattle.twin.specs.Twin.{limit_of, held_by, space_of, Sound, first_takes, Placed, Removed}
use Rattle.twin.proofs.Links.{shown_left, shown_right, put_left, put_right, take_left, take_right}

-- a put into a list that has space is not refused
put_taken : (n space : ℕ) (w : Refusal) (xs : List Stamped) → length xs ≡ n → (n ≡ space → ⊥) → ◌≡◌ {A = Result (Unit {0}) Refusal} (Err w) (put_of xs space) → ⊥
put_taken n space w xs long ne e =
    let t : put_of xs space ≡ Ok tt = rw (ne_eqb (length xs) space (λ h. ne (sym long ∙ h))) refl in
    let z : ◌≡◌ {A = ℕ} 0 1 = cc in
    omega arith

module _ {A B : Type 0} (a : Ghosts A) (b : Ghosts B) (t : Twin A B) (s : Sound a b t) where
  abbrev with_first : A → Twin A B
  with_first f = record { first = f; second = t.second }

  abbrev with_second : B → Twin A B
  with_second g = record { first = t.first; second = g }

  module _ (x : Stamped) (space : length (held_by a b t) ≡ space_of a b t → ⊥) where
    pub put_first : (f : A) (r : Result (Unit {0}) Refusal) → (length (a.held t.first) ≡ a.space t.first → ⊥)
        → Put a.sound a.held a.space t.first f x r → Put (Sound a b) (held_by a b) (space_of a b) t (with_first f) x r
    put_first f (Err w) ne p = absurd (put_taken _ (a.space t.first) w (a.held t.first) refl ne p.answer)
    put_first f (Ok tt) ne p =
        let n = length_permutation (x ∷ a.held t.first) (a.held f) p.after in
        let k = length-append (a.held t.first) (b.held t.second) in
        let k' = length-append (a.held f) (b.held t.second) in
        let l : space_of a b (with_first f) ≡ space_of a b t = ap (λ v. limit_of v (b.space t.second)) p.limit in
        put_done (Sound a b) (held_by a b) (space_of a b) t (with_first f) x space
        (record { first = p.stays; second = s.second; within = omega (arith, s.within) })
        l
        (put_left x (a.held t.first) (a.held f) (b.held t.second) p.after)

    pub put_second : (g : B) (r : Result (Unit {0}) Refusal) → (length (b.held t.second) ≡ b.space t.second → ⊥)
        → Put b.sound b.held b.space t.second g x r → Put (Sound a b) (held_by a b) (space_of a b) t (with_second g) x r
    put_second g (Err w) ne p = absurd (put_taken _ (b.space t.second) w (b.held t.second) refl ne p.answer)
    put_second g (Ok tt) ne p =
        let n = length_permutation (x ∷ b.held t.second) (b.held g) p.after in
        let k = length-append (a.held t.first) (b.held t.second) in
        let k' = length-append (a.held t.first) (b.held g) in
        let l : space_of a b (with_second g) ≡ space_of a b t = ap (limit_of (a.space t.first)) p.limit in
        put_done (Sound a b) (held_by a b) (space_of a b) t (with_second g) x space
        (record { first = s.first; second = p.stays; within = omega (arith, s.within) })
        l
        (put_right x (a.held t.first) (b.held t.second) (b.held g) p.after)

    pub placed_first : (f : A) (r : Result (Unit {0}) Refusal) → first_takes a b t ≡ true → Put a.sound a.held a.space t.first f x r → Placed a b t (with_first f) x r
    placed_first f r e p = rw (ne_eqb (length (held_by a b t)) (space_of a b t) space, e) (p, refl)

    pub placed_second : (g : B) (r : Result (Unit {0}) Refusal) → first_takes a b t ≡ false → Put b.sound b.held b.space t.second g x r → Placed a b t (with_second g) x r
    placed_second g r e p = rw (ne_eqb (length (held_by a b t)) (space_of a b t) space, e) (refl, p)

  pub take-first : (f : A) (i : ℕ) (r : Result Stamped Refusal) → i < length (a.held t.first)
      → Take a.sound a.held a.space t.first f i r → Take (Sound a b) (held_by a b) (space_of a b) t (with_first f) i r
  take-first f i (Ok x) lt p =
      let n = length_permutation (a.held t.first) (x ∷ a.held f) p.after in
      let k = length-append (a.held t.first) (b.held t.second) in
      let k' = length-append (a.held f) (b.held t.second) in
      let l : space_of a b (with_first f) ≡ space_of a b t = ap (λ v. limit_of v (b.space t.second)) p.limit in
      record {
        stays = record { first = p.stays; second = s.second; within = omega (arith, s.within) };
        limit = l;
        answer = p.answer ∙ shown_left (a.held t.first) (b.held t.second) i lt;
        after = take_left x (a.held t.first) (a.held f) (b.held t.second) p.after;
      }
  take-first f i (Err w) lt p =
      let l : space_of a b (with_first f) ≡ space_of a b t = ap (λ v. limit_of v (b.space t.second)) p.limit in
      let h : held_by a b (with_first f) ≡ held_by a b t = ap (λ v. v ++ b.held t.second) p.after in
      record {
        stays = record { first = p.stays; second = s.second; within = omega (arith, s.within, ap length h) };
        limit = l;
        answer = p.answer ∙ shown_left (a.held t.first) (b.held t.second) i lt;
        after = h;
      }

  pub take_second : (g : B) (i n : ℕ) (r : Result Stamped Refusal) → n ≡ length (a.held t.first) → n ≤ i
      → Take b.sound b.held b.space t.second g (i - n) r → Take (Sound a b) (held_by a b) (space_of a b) t (with_second g) i r
  take_second g i n (Ok x) e le p =
      let m = length_permutation (b.held t.second) (x ∷ b.held g) p.after in
      let k = length-append (a.held t.first) (b.held t.second) in
      let k' = length-append (a.held t.first) (b.held g) in
      let l : space_of a b (with_second g) ≡ space_of a b t = ap (limit_of (a.space t.first)) p.limit in
      record {
        stays = record { first = s.first; second = p.stays; within = omega (arith, s.within) };
        limit = l;
        answer = p.answer ∙ ap (λ k. shown_at (b.held t.second) (i - k)) e ∙ shown_right (a.held t.first) (b.held t.second) i (omega arith);
        after = take_right x (a.held t.first) (b.held t.second) (b.held g) p.after;
      }
  take_second g i n (Err w) e le p =
      let l : space_of a b (with_second g) ≡ space_of a b t = ap (limit_of (a.space t.first)) p.limit in
      let h : held_by a b (with_second g) ≡ held_by a b t = ap (λ v. a.held t.first ++ v) p.after in
      record {
        stays = record { first = s.first; second = p.stays; within = omega (arith, s.within, ap length h) };
        limit = l;
        answer = p.answer ∙ ap (λ k. shown_at (b.held t.second) (i - k)) e ∙ shown_right (a.held t.first) (b.held t.second) i (omega arith);
        after = h;
      }

  pub removed_first : (f : A) (i : ℕ) (r : Result Stamped Refusal) → i < length (a.held t.first) → Take a.sound a.held a.space t.first f i r → Removed a b t (with_first f) i r
  removed_first f i r lt p = rw (lt-ltb i (length (a.held t.first)) lt) (p, refl)

  pub removed_second : (g : B) (i n : ℕ) (r : Result Stamped Refusal) → n ≡ length (a.held t.first) → n ≤ i
      → Take b.sound b.held b.space t.second g (i - n) r → Removed a b t (with_second g) i r
  removed_second g i n r e le p =
      rw (le-ltb i (length (a.held t.first)) (omega arith))
      (refl, subst (λ (k : ℕ). Take b.sound b.held b.space t.second g (i - k) r) e p)
