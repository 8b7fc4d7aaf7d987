-- What a restorer keeps through a put and a take, each of which writes the window of one pair.
use Rattle.std.proofs.Common.{◌≡◌, ℕ, ◌+◌, ◌-◌, ◌%◌, ◌<◌, ◌≤◌, true, false, cond, eqb, [], ◌∷◌, length, get_or, set, Ok, Err, Result, sym, ap, ◌∙◌, ⊎_elim, arith}
use mathlib.Core.Path.{fun_ext}
use Rattle.std.specs.List.Sorted.{IsPermutation}
use Rattle.std.proofs.lemmas.List.{length-set, get_or-set_same, get_or-set_other}
use Rattle.std.proofs.lemmas.Bool.{cases_Bool, cases_eq, cond-true, cond-false, both_ways, eq-eqb}
use Rattle.channel.specs.declared.Letter.{Letter}
use Rattle.channel.specs.declared.Refusal.{Refusal}
use Rattle.channel.specs.declared.Refusal.TheVariants.{Full}
use Rattle.channel.specs.Waits.{is_pair, same_pair, first_of, head_of, added, headless}
use Rattle.channel.proofs.Places.{placed, not_placed}
use Rattle.channel.proofs.Pairs.{same_pair_self, same_pair-true, pair_parts}
use Rattle.bag.specs.declared.Stamped.{Stamped}
use Rattle.bag.specs.declared.Bag.{Ghosts}
use Rattle.bag.specs.Held.{shown_at}
use Rattle.restorer.specs.declared.Window.{Window}
use Rattle.restorer.specs.declared.Windows.{Windows}
use Rattle.restorer.specs.declared.Restorer.{Restorer}
use Rattle.restorer.specs.Stamps.{carries, sought_in, stamp_at}
use Rattle.restorer.specs.Windows.{window_of, due_in, between}
use Rattle.restorer.specs.Restored.{waits_in, place_in, Sound}
use Rattle.restorer.proofs.Seeks.{sought_none, sought_carries, sought_shown}
use Rattle.restorer.proofs.Queues.{many_few, waits_added, kept_added, waits_less, kept_less, first_due, first_none, first_head}

-- the windows after a write of one
abbrev written : Windows → ℕ → ℕ → Window → Windows
written w from to v = record { rows = set w.rows from (set (get_or w.rows from []) to v) }

module _ (w : Windows) (rows : length w.rows ≡ 8) (columns : (f : ℕ) → f < 8 → length (get_or w.rows f []) ≡ 8) (from to : ℕ) (pair : is_pair from to ≡ true) (v : Window) where
  written_here : window_of (written w from to v) from to ≡ v
  written_here =
      let p = pair_parts from to pair in
      let c = columns from p.0 in
      ap (λ row. get_or row to (record { due = 0; next = 0 })) (get_or-set_same w.rows from (set (get_or w.rows from []) to v) [] (omega arith))
      ∙ get_or-set_same (get_or w.rows from []) to v (record { due = 0; next = 0 }) (omega arith)

  written_there : (f t : ℕ) → same_pair from to f t ≡ false → window_of (written w from to v) f t ≡ window_of w f t
  written_there f t e =
      let p = pair_parts from to pair in
      ⊎_elim
      (λ (q : f ≡ from).
      rw q
      (ap (λ row. get_or row t (record { due = 0; next = 0 })) (get_or-set_same w.rows from (set (get_or w.rows from []) to v) [] (omega arith))
      ∙ get_or-set_other (get_or w.rows from []) to t v (record { due = 0; next = 0 }) (λ h. both_ways (same_pair from to f t) e (rw (q, h) (same_pair_self from to)))))
      (λ (ne : f ≡ from → ⊥). ap (λ row. get_or row t (record { due = 0; next = 0 })) (get_or-set_other w.rows from f (set (get_or w.rows from []) to v) [] ne))
      (cases_eq f from)

  written_rows : length (written w from to v).rows ≡ 8
  written_rows = length-set w.rows from (set (get_or w.rows from []) to v) ∙ rows

  written_columns : (f : ℕ) → f < 8 → length (get_or (written w from to v).rows f []) ≡ 8
  written_columns f lt =
      ⊎_elim
      (λ (q : f ≡ from).
      let lt' : from < 8 = omega arith in
      rw q
      (ap length (get_or-set_same w.rows from (set (get_or w.rows from []) to v) [] (omega arith))
      ∙ length-set (get_or w.rows from []) to v
      ∙ columns from lt'))
      (λ (ne : f ≡ from → ⊥). ap length (get_or-set_other w.rows from f (set (get_or w.rows from []) to v) [] ne) ∙ columns f lt)
      (cases_eq f from)

-- where the letter that is due stands
module _ {B : Type 0} (b : Ghosts B) (r : Restorer B) (from to : ℕ) where
  pub placed_pair : (i : ℕ) → place_in b r from to ≡ Ok i → is_pair from to ≡ true
  placed_pair i h = (placed from to (sought_in from to (due_in r.windows from to) (b.held r.bag)) i h).0

  pub placed_carries : (i : ℕ) (x : Stamped) → place_in b r from to ≡ Ok i → ◌≡◌ {A = Result Stamped Refusal} (Ok x) (shown_at (b.held r.bag) i) → carries from to (due_in r.windows from to) x ≡ true
  placed_carries i x h e =
      let due = due_in r.windows from to in
      let xs = b.held r.bag in
      sought_carries from to due xs i x (sym (placed from to (sought_in from to due xs) i h).1) e

  pub placed_shown : (i : ℕ) (w : Refusal) → place_in b r from to ≡ Ok i → ◌≡◌ {A = Result Stamped Refusal} (Err w) (shown_at (b.held r.bag) i) → ⊥
  placed_shown i w h e =
      let due = due_in r.windows from to in
      let xs = b.held r.bag in
      sought_shown from to due xs i w (sym (placed from to (sought_in from to due xs) i h).1) e

  pub placed_none : Sound b r → length (b.held r.bag) ≤ 1024 → (w : Refusal) → place_in b r from to ≡ Err w → head_of (waits_in b r) from to ≡ Err w
  placed_none s few w h =
      let due = due_in r.windows from to in
      let xs = b.held r.bag in
      not_placed from to (sought_in from to due xs) (waits_in b r) w
      (λ pair none. first_none (due_in r.windows) (between r.windows) xs s.kept few from to pair (sought_none from to due xs none))
      h

-- the next stamp carries the one that is due and as many on as wait
pub stamp_next : (d n : ℕ) → d < 4294967296 → n < 4294967296 → n ≡ (d + (n + (4294967296 - d)) % 4294967296) % 4294967296
stamp_next d n hd hn = omega arith

between_more : (d n : ℕ) → d < 4294967296 → n < 4294967296 → (n + (4294967296 - d)) % 4294967296 ≤ 1024
    → ((n + 1) % 4294967296 + (4294967296 - d)) % 4294967296 ≡ (n + (4294967296 - d)) % 4294967296 + 1
between_more d n hd hn few = omega arith

between_less : (d n : ℕ) → d < 4294967296 → n < 4294967296 → 0 < (n + (4294967296 - d)) % 4294967296
    → (n + (4294967296 - (d + 1) % 4294967296)) % 4294967296 ≡ (n + (4294967296 - d)) % 4294967296 - 1
between_less d n hd hn some = omega arith

pub not_full : (n m : ℕ) → ◌≡◌ {A = Result (Unit {0}) Refusal} (Ok tt) (cond (eqb n m) (Err Full) (Ok tt)) → n ≡ m → ⊥
not_full n m e h =
    let a : ◌≡◌ {A = Result (Unit {0}) Refusal} (Ok tt) (Err Full) = e ∙ cond-true (eqb n m) (Err Full) (Ok tt) (eq-eqb n m h) in
    let z : ◌≡◌ {A = ℕ} 0 1 = cc in
    omega arith

-- a number of the pair that is meant, or of another pair
by_same : (r a b from to f t : ℕ) → (same_pair from to f t ≡ true → r ≡ a) → (same_pair from to f t ≡ false → r ≡ b) → r ≡ cond (same_pair from to f t) a b
by_same r a b from to f t here there =
    ⊎_elim
    (λ e. here e ∙ sym (cond-true (same_pair from to f t) a b e))
    (λ e. there e ∙ sym (cond-false (same_pair from to f t) a b e))
    (cases_Bool (same_pair from to f t))

module _ {B : Type 0} (b : Ghosts B) (r : Restorer B) (s : Sound b r) (few : length (b.held r.bag) ≤ 1024) (from to : ℕ) (pair : is_pair from to ≡ true) where
  abbrev due : ℕ
  due = due_in r.windows from to

  abbrev next : ℕ
  next = (window_of r.windows from to).next

  few_between : (f t : ℕ) → is_pair f t ≡ true → between r.windows f t ≤ 1024
  few_between f t p = many_few (due_in r.windows) (between r.windows) (b.held r.bag) s.kept few f t p

  pub head_waits : (i : ℕ) (x : Stamped) → shown_at (b.held r.bag) i ≡ Ok x → carries from to due x ≡ true → first_of (waits_in b r from to) ≡ Ok x.letter
  head_waits i x e here = first_head (due_in r.windows) (between r.windows) (b.held r.bag) s.kept few from to i x pair e here

  module _ (b' : B) (sound : b.sound b') (l : Letter) (mixed : IsPermutation (record { from = from; to = to; stamp = next; letter = l } ∷ b.held r.bag) (b.held b')) where
    abbrev put_v : Window
    put_v = record { due = due; next = (next + 1) % 4294967296 }

    abbrev put_w : Windows
    put_w = written r.windows from to put_v

    put_here : window_of put_w from to ≡ put_v
    put_here = written_here r.windows s.rows s.columns from to pair put_v

    put_there : (f t : ℕ) → same_pair from to f t ≡ false → window_of put_w f t ≡ window_of r.windows f t
    put_there f t e = written_there r.windows s.rows s.columns from to pair put_v f t e

    same_due : due_in put_w ≡ due_in r.windows
    same_due = fun_ext (λ f. fun_ext (λ t.
        ⊎_elim
        (λ e. let q = same_pair-true from to f t e in rw (q.0, q.1) (ap (λ x. x.due) put_here))
        (λ e. ap (λ x. x.due) (put_there f t e))
        (cases_Bool (same_pair from to f t))))

    more : (f t : ℕ) → is_pair f t ≡ true → between put_w f t ≡ cond (same_pair from to f t) (between r.windows f t + 1) (between r.windows f t)
    more f t p = by_same (between put_w f t) (between r.windows f t + 1) (between r.windows f t) from to f t
        (λ e.
        let q = same_pair-true from to f t e in
        rw (q.0, q.1) (ap (λ x. (x.next + (4294967296 - x.due)) % 4294967296) put_here ∙ between_more due next (s.kept.small from to pair) (s.fits from to pair) (few_between from to pair)))
        (λ e. ap (λ x. (x.next + (4294967296 - x.due)) % 4294967296) (put_there f t e))

    stamp : next ≡ stamp_at (due_in r.windows) from to (between r.windows from to)
    stamp = stamp_next due next (s.kept.small from to pair) (s.fits from to pair)

    abbrev put_r : Restorer B
    put_r = record { windows = put_w; bag = b' }

    pub put_waits : waits_in b put_r ≡ added (waits_in b r) from to l
    put_waits = rw same_due (waits_added (due_in r.windows) (between r.windows) (b.held r.bag) s.kept few (between put_w) (b.held b') from to next l pair stamp more mixed)

    pub put_sound : Sound b put_r
    put_sound = record {
      bag = sound;
      rows = written_rows r.windows s.rows s.columns from to pair put_v;
      columns = written_columns r.windows s.rows s.columns from to pair put_v;
      fits = λ f t p.
          ⊎_elim
          (λ e. let q = same_pair-true from to f t e in rw (q.0, q.1) (let a = ap (λ x. x.next) put_here in omega arith))
          (λ e. let a = ap (λ x. x.next) (put_there f t e) in let c = s.fits f t p in omega arith)
          (cases_Bool (same_pair from to f t));
      kept = rw same_due (kept_added (due_in r.windows) (between r.windows) (b.held r.bag) s.kept few (between put_w) (b.held b') from to next l pair stamp more mixed);
    }

  module _ (b' : B) (sound : b.sound b') (x : Stamped) (found : carries from to due x ≡ true) (mixed : IsPermutation (b.held r.bag) (x ∷ b.held b')) where
    abbrev take_v : Window
    take_v = record { due = (due + 1) % 4294967296; next = next }

    abbrev take_w : Windows
    take_w = written r.windows from to take_v

    take_here : window_of take_w from to ≡ take_v
    take_here = written_here r.windows s.rows s.columns from to pair take_v

    take_there : (f t : ℕ) → same_pair from to f t ≡ false → window_of take_w f t ≡ window_of r.windows f t
    take_there f t e = written_there r.windows s.rows s.columns from to pair take_v f t e

    dues : (f t : ℕ) → is_pair f t ≡ true → due_in take_w f t ≡ cond (same_pair from to f t) ((due_in r.windows f t + 1) % 4294967296) (due_in r.windows f t)
    dues f t p = by_same (due_in take_w f t) ((due_in r.windows f t + 1) % 4294967296) (due_in r.windows f t) from to f t
        (λ e. let q = same_pair-true from to f t e in rw (q.0, q.1) (ap (λ y. y.due) take_here))
        (λ e. ap (λ y. y.due) (take_there f t e))

    less : (f t : ℕ) → is_pair f t ≡ true → 0 < between r.windows from to → between take_w f t ≡ cond (same_pair from to f t) (between r.windows f t - 1) (between r.windows f t)
    less f t p some = by_same (between take_w f t) (between r.windows f t - 1) (between r.windows f t) from to f t
        (λ e.
        let q = same_pair-true from to f t e in
        rw (q.0, q.1) (ap (λ y. (y.next + (4294967296 - y.due)) % 4294967296) take_here ∙ between_less due next (s.kept.small from to pair) (s.fits from to pair) some))
        (λ e. ap (λ y. (y.next + (4294967296 - y.due)) % 4294967296) (take_there f t e))

    abbrev take_r : Restorer B
    take_r = record { windows = take_w; bag = b' }

    pub take-first : first_of (waits_in b r from to) ≡ Ok x.letter
    take-first = first_due (due_in r.windows) (between r.windows) (b.held r.bag) s.kept few (due_in take_w) (between take_w) (b.held b') x from to pair found dues less mixed

    pub take_waits : waits_in b take_r ≡ headless (waits_in b r) from to
    take_waits = waits_less (due_in r.windows) (between r.windows) (b.held r.bag) s.kept few (due_in take_w) (between take_w) (b.held b') x from to pair found dues less mixed

    pub take_sound : Sound b take_r
    take_sound = record {
      bag = sound;
      rows = written_rows r.windows s.rows s.columns from to pair take_v;
      columns = written_columns r.windows s.rows s.columns from to pair take_v;
      fits = λ f t p.
          ⊎_elim
          (λ e. let q = same_pair-true from to f t e in rw (q.0, q.1) (let a = ap (λ y. y.next) take_here in let c = s.fits from to pair in omega arith))
          (λ e. let a = ap (λ y. y.next) (take_there f t e) in let c = s.fits f t p in omega arith)
          (cases_Bool (same_pair from to f t));
      kept = kept_less (due_in r.windows) (between r.windows) (b.held r.bag) s.kept few (due_in take_w) (between take_w) (b.held b') x from to pair found dues less mixed;
    }
