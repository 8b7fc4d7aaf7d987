-- Where a restorer begins: nothing waits, and for each pair one stamp is due and next.
use Rattle.std.proofs.Common.{◌≡◌, ℕ, ◌+◌, ◌-◌, ◌%◌, ◌<◌, true, false, ltb, List, [], map, length, get_or, replicate, sym, refl, ap, ◌∙◌, ⊎_elim, arith}
use Rattle.std.specs.List.{range_with_len}
use Rattle.std.proofs.lemmas.List.{get_or-replicate}
use Rattle.std.proofs.lemmas.Bool.{cases_Bool, le-ltb, cond-false}
use Rattle.channel.specs.Waits.{is_pair}
use Rattle.channel.proofs.Pairs.{pair_parts}
use Rattle.channel.proofs.Totals.{total_none}
use Rattle.bag.specs.declared.Bag.{Ghosts}
use Rattle.bag.specs.Calls.{Emptied}
use Rattle.restorer.specs.declared.Window.{Window}
use Rattle.restorer.specs.declared.Restorer.{Restorer}
use Rattle.restorer.specs.Stamps.{letter_at, stamp_at, tally}
use Rattle.restorer.specs.Windows.{window_of, due_in, between, all_from}
use Rattle.restorer.specs.Restored.{waits_in, Sound, Made}

module _ (v : ℕ) (small : v < 4294967296) where
  abbrev row : List Window
  row = replicate 8 (record { due = v; next = v })

  columns : (f : ℕ) → f < 8 → length (get_or (all_from v).rows f []) ≡ 8
  columns f lt = ap length (get_or-replicate 8 f row [] lt)

  first_window : (f t : ℕ) → is_pair f t ≡ true → window_of (all_from v) f t ≡ record { due = v; next = v }
  first_window f t p =
      let q = pair_parts f t p in
      ap (λ l. get_or l t (record { due = 0; next = 0 })) (get_or-replicate 8 f row [] q.0) ∙ get_or-replicate 8 t (record { due = v; next = v }) (record { due = 0; next = 0 }) q.1

  first_due : (f t : ℕ) → is_pair f t ≡ true → due_in (all_from v) f t ≡ v
  first_due f t p = ap (λ x. x.due) (first_window f t p)

  none_between : (f t : ℕ) → is_pair f t ≡ true → between (all_from v) f t ≡ 0
  none_between f t p = let e : between (all_from v) f t ≡ _ = ap (λ x. (x.next + (4294967296 - x.due)) % 4294967296) (first_window f t p) in omega arith

  module _ {B : Type 0} (b : Ghosts B) (old bag : B) (m : Emptied b.sound b.held b.space old bag) where
    abbrev start : Restorer B
    start = record { windows = all_from v; bag = bag }

    start_empty : (f t : ℕ) → waits_in b start f t ≡ []
    start_empty f t =
        ⊎_elim
        (λ (p : is_pair f t ≡ true). rw p (ap (λ n. map (λ k. letter_at f t (stamp_at (due_in (all_from v)) f t k) (b.held bag)) (range_with_len 0 n)) (none_between f t p)))
        (λ (p : is_pair f t ≡ false). rw p refl)
        (cases_Bool (is_pair f t))

    start_sound : Sound b start
    start_sound = record {
      bag = m.stays;
      rows = refl;
      columns = columns;
      fits = λ f t p. let e = ap (λ x. x.next) (first_window f t p) in omega arith;
      kept = record {
        small = λ f t p. let e = first_due f t p in omega arith;
        marks = λ f t k p lt.
            ap (tally f t (stamp_at (due_in (all_from v)) f t k)) m.after
            ∙ sym (cond-false (ltb k (between (all_from v) f t)) 1 0 (le-ltb k (between (all_from v) f t) (let e = none_between f t p in omega arith)));
        count = total_none (waits_in b start) start_empty ∙ sym (ap length m.after);
      };
    }

    pub start_made : Made b old v start
    start_made = record { sound = start_sound; empty = start_empty; limit = m.limit; emptied = m; windows = refl }
