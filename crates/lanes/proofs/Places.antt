-- What the place of a pair's first slot tells, and what lanes show of a put.
use Rattle.std.proofs.Common.{◌≡◌, ℕ, ◌-◌, ◌≤◌, take, true, false, eqb, List, [], ◌∷◌, ◌++◌, length, get_or, Ok, Err, Some, None, Result, position, find, slice_get, sym, refl, ap, ◌∙◌, ⊎_elim, arith}
use Rattle.std.specs.List.{remove, position_or_len}
use Rattle.std.proofs.lemmas.Bool.{cases_Bool, eqb-true, eqb-false}
use Rattle.std.proofs.lemmas.Grind.{common_steps}
use Rattle.std.proofs.lemmas.List.Folds.{find_at}
use Rattle.std.proofs.lemmas.List.Quantifiers.{position-Some}
use Rattle.std.proofs.lemmas.Option.{slice_get-get_or, slice_get_past}
use Rattle.channel.specs.declared.Letter.{Letter}
use Rattle.channel.specs.declared.Refusal.{Refusal}
use Rattle.channel.specs.Waits.{is_pair, first_of, head_of, headless}
use Rattle.channel.specs.Calls.{Put}
use Rattle.channel.proofs.Places.{placed, not_placed}
use Rattle.channel.proofs.Makes.{put_full, put_done}
use Rattle.arrayvec.specs.ArrayVec.{ArrayVec, with_items}
use Rattle.arrayvec.proofs.ArrayVecLemmas.{items-with_items}
use Rattle.lanes.specs.declared.slot.Slot.{Slot}
use Rattle.lanes.specs.declared.table.Lanes.{Lanes}
use Rattle.lanes.specs.Lanes.{waits_of, room_of, Sound, place_in, push_of, after_push}
use Rattle.lanes.specs.Slots.{is_of, queue_of}
use Rattle.lanes.specs.Rows.{total-rows, queues_push, find-first, removed_first, blank}

-- slots that are moved down over the one at i, and without the last
pub closed : (v w : ArrayVec Slot) (us vs : List Slot) (i : ℕ) → us ≡ v.items → length vs ≡ length us → take (length us - 1) vs ≡ remove us i
    → w.items ≡ take (length (with_items v vs).items - 1) (with_items v vs).items → w.items ≡ remove v.items i
closed v w us vs i eu len moved left =
    let kept : (with_items v vs).items ≡ vs = items-with_items v vs (len ∙ ap length eu) in
    left ∙ ap (λ l. take (length l - 1) l) kept ∙ ap (λ n. take (n - 1) vs) len ∙ moved ∙ ap (λ l. remove l i) eu

module _ (l : Lanes) (from to : ℕ) where
  abbrev xs : List Slot
  xs = l.slots.items

  pub placed_pair : (i : ℕ) → place_in l from to ≡ Ok i → (is_pair from to ≡ true) × (position (is_of from to) xs ≡ Some i)
  placed_pair i h = placed from to (position (is_of from to) xs) i h

  pub placed_first : (i : ℕ) (d : Slot) → place_in l from to ≡ Ok i → first_of (waits_of l from to) ≡ Ok (get_or xs i d).letter
  placed_first i d h =
      let e : position (is_of from to) xs ≡ Some i = (placed_pair i h).1 in
      let at : position_or_len (is_of from to) xs ≡ i = grind (arith, common_steps) in
      let here : find (is_of from to) xs ≡ Some (get_or xs i d) = find_at (is_of from to) xs ∙ ap (slice_get xs) at ∙ slice_get-get_or xs i d (position-Some (is_of from to) xs i d e).0 in
      sym (find-first from to xs) ∙ rw here refl

  pub placed_without : (i : ℕ) → place_in l from to ≡ Ok i → (λ f t. queue_of f t (remove xs i)) ≡ headless (waits_of l) from to
  placed_without i h = let p = position-Some (is_of from to) xs i blank (placed_pair i h).1 in removed_first from to xs i blank p.0 p.1 p.2

  pub placed_none : (w : Refusal) → place_in l from to ≡ Err w → head_of (waits_of l) from to ≡ Err w
  placed_none w h =
      not_placed from to (position (is_of from to) xs) (waits_of l) w
      (λ pair none.
      let far : length xs ≤ position_or_len (is_of from to) xs = grind (arith, common_steps) in
      let none : find (is_of from to) xs ≡ None = find_at (is_of from to) xs ∙ slice_get_past xs (position_or_len (is_of from to) xs) far in
      sym (find-first from to xs) ∙ rw none refl)
      h

  pub put_kept : (l' : Lanes) (letter : Letter) (r : Result (Unit {0}) Refusal) → is_pair from to ≡ true
      → r ≡ push_of xs
      → l'.slots.items ≡ after_push xs (record { from = from; to = to; letter = letter })
      → Put Sound waits_of room_of l l' from to letter r
  put_kept l' letter r pair answer left =
      let n = total-rows xs l.pairs in
      ⊎_elim
      (λ (e : eqb (length xs) 64 ≡ true).
      let left' : l'.slots.items ≡ xs = rw left (rw e refl) in
      rw (answer, e) (put_full Sound waits_of room_of l l' from to letter pair (n ∙ eqb-true _ _ e) tt refl (ap (λ v f t. queue_of f t v) left')))
      (λ (e : eqb (length xs) 64 ≡ false).
      let left' : l'.slots.items ≡ xs ++ record { from = from; to = to; letter = letter } ∷ [] = rw left (rw e refl) in
      rw (answer, e) (put_done Sound waits_of room_of l l' from to letter pair (λ full. eqb-false _ _ e (sym n ∙ full)) tt refl (ap (λ v f t. queue_of f t v) left' ∙ queues_push xs (record { from = from; to = to; letter = letter }))))
      (cases_Bool (eqb (length xs) 64))
