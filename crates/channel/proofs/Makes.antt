-- What a channel shows of each answer, to have kept the promise of the call.
use Rattle.std.proofs.Common.{◌≡◌, ℕ, true, false, List, [], ◌∷◌, Ok, Err, Result, sym, refl, ap, ◌∙◌, ⊎_elim, arith}
use mathlib.Core.Path.{fun_ext}
use Rattle.std.proofs.lemmas.Bool.{eq-eqb, ne_eqb, cases_Bool, cond-true, cond-false}
use Rattle.channel.specs.declared.Letter.{Letter}
use Rattle.channel.specs.declared.Refusal.{Refusal}
use Rattle.channel.specs.declared.Refusal.TheVariants.{NotAPair, Full}
use Rattle.channel.proofs.Pairs.{same_pair-true}
use Rattle.channel.specs.Waits.{Waits, is_pair, same_pair, total, first_of, rest_of, added, headless, head_of}
use Rattle.channel.specs.Calls.{Put, Take}

nothing : (xs : List Letter) (w : Refusal) → first_of xs ≡ Err w → xs ≡ []
nothing [] w e = refl
nothing (x ∷ xs) w e = absurd (let z : ◌≡◌ {A = ℕ} 0 1 = cc in omega arith)

-- where a list is empty, nothing is taken from it
unmoved : (w : Waits) (from to : ℕ) → w from to ≡ [] → (f t : ℕ) → w f t ≡ headless w from to f t
unmoved w from to none f t =
    ⊎_elim
    (λ e.
    let q = same_pair-true from to f t e in
    let z : w f t ≡ [] = rw (q.0, q.1) none in
    z ∙ ap rest_of (sym z) ∙ sym (cond-true (same_pair from to f t) (rest_of (w f t)) (w f t) e))
    (λ e. sym (cond-false (same_pair from to f t) (rest_of (w f t)) (w f t) e))
    (cases_Bool (same_pair from to f t))

module _ {C : Type 0} (sound : C → Type 0) (waiting : C → Waits) (room : C → ℕ) (c c' : C) (from to : ℕ) where
  pub put_full : (l : Letter) → is_pair from to ≡ true → total (waiting c) ≡ room c → sound c' → room c' ≡ room c → waiting c' ≡ waiting c
      → Put sound waiting room c c' from to l (Err Full)
  put_full l pair full s r w =
      let e = eq-eqb (total (waiting c)) (room c) full in
      record { stays = s; limit = r; answer = rw (pair, e) refl; after = rw (pair, e) w }

  pub put_done : (l : Letter) → is_pair from to ≡ true → (total (waiting c) ≡ room c → ⊥) → sound c' → room c' ≡ room c → waiting c' ≡ added (waiting c) from to l
      → Put sound waiting room c c' from to l (Ok tt)
  put_done l pair space s r w =
      let e = ne_eqb (total (waiting c)) (room c) space in
      record { stays = s; limit = r; answer = rw (pair, e) refl; after = rw (pair, e) w }

  pub take_done : (l : Letter) → is_pair from to ≡ true → first_of (waiting c from to) ≡ Ok l → sound c' → room c' ≡ room c → waiting c' ≡ headless (waiting c) from to
      → Take sound waiting room c c' from to (Ok l)
  take_done l pair h s r w = record { stays = s; limit = r; answer = rw (pair, h) refl; after = rw pair w }

  pub take_refused : (e : Refusal) → head_of (waiting c) from to ≡ Err e → sound c' → room c' ≡ room c → waiting c' ≡ waiting c
      → Take sound waiting room c c' from to (Err e)
  take_refused e h s r w =
      ⊎_elim
      (λ (pair : is_pair from to ≡ true).
      let none = nothing (waiting c from to) e (rw pair at h) in
      record { stays = s; limit = r; answer = sym h; after = w ∙ rw pair (fun_ext (λ f. fun_ext (λ t. unmoved (waiting c) from to none f t))) })
      (λ (pair : is_pair from to ≡ false). record { stays = s; limit = r; answer = sym h; after = w ∙ rw pair refl })
      (cases_Bool (is_pair from to))

pub head_done : (w : Waits) (from to : ℕ) (r : Result Letter Refusal) → is_pair from to ≡ true → first_of (w from to) ≡ r → r ≡ head_of w from to
head_done w from to r pair h = sym h ∙ sym (cond-true (is_pair from to) (first_of (w from to)) (Err NotAPair) pair)
