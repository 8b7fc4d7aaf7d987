-- What one slot more or less does to the letters of each pair.
use Rattle.std.specs.Prelude.{◌≡◌, ℕ, zero, suc, ◌+◌, ◌<◌, true, false, cond, List, [], ◌∷◌, ◌++◌, length, get_or, take, drop, find, refl}
use Rattle.std.proofs.Common.{map, filter, option_map, sym, ap, ◌∙◌, ⊎_elim, arith, take-append-drop, drop-cons}
use Rattle.std.proofs.Math.Path.{fun_ext}
use Rattle.std.specs.List.{remove}
use Rattle.std.specs.Option.{ok_or}
use Rattle.std.proofs.lemmas.List.{append-nil, map-append, take_more, get_or_default}
use Rattle.std.proofs.lemmas.List.Folds.{list_all-append}
use Rattle.std.proofs.lemmas.List.Elements.{filter-append}
use Rattle.std.proofs.lemmas.Bool.{cases_Bool, both_ways, and_parts, and_from}
use Rattle.channel.specs.declared.Refusal.TheVariants.{Empty}
use Rattle.channel.specs.Waits.{Waits, is_pair, same_pair, total, first_of, added, headless}
use Rattle.channel.proofs.Totals.{total_more, total_none}
use Rattle.channel.proofs.Pairs.{same_pair_self, same_pair-true, pair_parts}
use Rattle.lanes.specs.declared.slot.Slot.{Slot}
use Rattle.lanes.specs.Slots.{is_of, queue_of, AllPairs}

abbrev queues : List Slot → Waits
queues xs f t = queue_of f t xs

pairs_parts : (x : Slot) (xs : List Slot) → AllPairs (x ∷ xs) → (is_pair x.from x.to ≡ true) × AllPairs xs
pairs_parts x xs p = and_parts _ _ p

pub total-rows : (xs : List Slot) → AllPairs xs → total (queues xs) ≡ length xs
total-rows [] p = total_none (λ f t. []) (λ f t. refl)
total-rows (x ∷ xs) p =
    let h = pairs_parts x xs p in
    let ih = total-rows xs h.1 in
    let q = pair_parts x.from x.to h.0 in
    let m = total_more (queues xs) (queues (x ∷ xs)) x.from x.to q.0 q.1 (rw (same_pair_self x.from x.to) (omega arith)) (λ f t ne. rw ne refl) in
    omega arith

pub letters_append : (f t : ℕ) (xs ys : List Slot) → queue_of f t (xs ++ ys) ≡ queue_of f t xs ++ queue_of f t ys
letters_append f t xs ys =
    ap (map (λ y. y.letter)) (filter-append (is_of f t) xs ys)
    ∙ map-append (λ y. y.letter) (filter (is_of f t) xs) (filter (is_of f t) ys)

pub pairs_append : (xs ys : List Slot) → AllPairs xs → AllPairs ys → AllPairs (xs ++ ys)
pairs_append xs ys p q = list_all-append (λ x. is_pair x.from x.to) xs ys ∙ and_from _ _ p q

pub pairs_take : (i : ℕ) (xs : List Slot) → AllPairs xs → AllPairs (take i xs)
pairs_take zero xs p = refl
pairs_take (suc i) [] p = refl
pairs_take (suc i) (x ∷ xs) p = let h = pairs_parts x xs p in and_from _ _ h.0 (pairs_take i xs h.1)

pub pairs_drop : (i : ℕ) (xs : List Slot) → AllPairs xs → AllPairs (drop i xs)
pairs_drop zero xs p = p
pairs_drop (suc i) [] p = refl
pairs_drop (suc i) (x ∷ xs) p = pairs_drop i xs (pairs_parts x xs p).1

pub pairs_removed : (xs : List Slot) (i : ℕ) → AllPairs xs → AllPairs (remove xs i)
pairs_removed xs i p = pairs_append (take i xs) (drop (suc i) xs) (pairs_take i xs p) (pairs_drop (suc i) xs p)

pub queues_push : (xs : List Slot) (x : Slot) → queues (xs ++ x ∷ []) ≡ added (queues xs) x.from x.to x.letter
queues_push xs x = fun_ext (λ f. fun_ext (λ t.
    letters_append f t xs (x ∷ [])
    ∙ (elim (is_of f t x) as (λ b. queue_of f t xs ++ map (λ y. y.letter) (cond b (x ∷ []) []) ≡ cond b (queue_of f t xs ++ (x.letter ∷ [])) (queue_of f t xs)) [ true ↦ refl | false ↦ append-nil (queue_of f t xs) ])))

pub none_more : (f t : ℕ) (xs : List Slot) (i : ℕ) (d : Slot) → i < length xs → queue_of f t (take i xs) ≡ [] → is_of f t (get_or xs i d) ≡ false → queue_of f t (take (i + 1) xs) ≡ []
none_more f t xs i d lt none other = rw (take_more xs i d lt, letters_append f t (take i xs) (get_or xs i d ∷ []), none, other) refl

pub split : (xs : List Slot) (i : ℕ) (x : Slot) → i < length xs → x ≡ get_or xs i x → xs ≡ take i xs ++ x ∷ drop (suc i) xs
split xs i x lt e = sym (take-append-drop i xs) ∙ ap (λ r. take i xs ++ r) (drop-cons xs i x lt) ∙ ap (λ y. take i xs ++ y ∷ drop (suc i) xs) (sym e)

pub here_any : (f t : ℕ) (xs : List Slot) (i : ℕ) (e : Slot) → i < length xs → is_of f t (get_or xs i e) ≡ true → (d : Slot) → is_of f t (get_or xs i d) ≡ true
here_any f t xs i e lt h d = rw (get_or_default xs i d e lt) h

-- the first slot of the pair has the pair's oldest letter
pub find-first : (from to : ℕ) (xs : List Slot) → ok_or (option_map (λ x. x.letter) (find (is_of from to) xs)) Empty ≡ first_of (queue_of from to xs)
find-first from to [] = refl
find-first from to (x ∷ xs) = ⊎_elim (λ e. rw e refl) (λ e. rw e (find-first from to xs)) (cases_Bool (is_of from to x))

-- the slot at i is the first of the pair
module _ (from to : ℕ) where
  removed_at : (xs : List Slot) (i : ℕ) (d : Slot) → i < length xs → is_of from to (get_or xs i d) ≡ true → ((k : ℕ) → k < i → is_of from to (get_or xs k d) ≡ false)
      → (f t : ℕ) → queue_of f t (remove xs i) ≡ headless (queues xs) from to f t
  removed_at [] i d lt here before f t = absurd (omega arith)
  removed_at (x ∷ xs) zero d lt here before f t =
      let s = same_pair-true x.from x.to from to here in
      ⊎_elim
      (λ (e : same_pair from to f t ≡ true). let o : is_of f t x ≡ true = rw (← s.0, ← s.1) e in rw (e, o) refl)
      (λ (e : same_pair from to f t ≡ false). let o : is_of f t x ≡ false = rw (← s.0, ← s.1) e in rw (e, o) refl)
      (cases_Bool (same_pair from to f t))
  removed_at (x ∷ xs) (suc i) d lt here before f t =
      let ih = removed_at xs i d (omega arith) here (λ k h. before (suc k) (omega arith)) f t in
      let no : is_of from to x ≡ false = before 0 (omega arith) in
      ⊎_elim
      (λ (e : same_pair from to f t ≡ true).
      let s = same_pair-true from to f t e in
      let o : is_of f t x ≡ false = rw (s.0, s.1) no in
      rw (o, ih) refl)
      (λ (e : same_pair from to f t ≡ false). let same : queue_of f t (remove xs i) ≡ queue_of f t xs = ih ∙ rw e refl in rw e (elim (is_of f t x) as (λ b. map (λ y. y.letter) (cond b (x ∷ filter (is_of f t) (remove xs i)) (filter (is_of f t) (remove xs i))) ≡ map (λ y. y.letter) (cond b (x ∷ filter (is_of f t) xs) (filter (is_of f t) xs))) [ true ↦ ap (λ l. x.letter ∷ l) same | false ↦ same ]))
      (cases_Bool (same_pair from to f t))

  pub removed_first : (xs : List Slot) (i : ℕ) (d : Slot) → i < length xs → is_of from to (get_or xs i d) ≡ true → ((k : ℕ) → k < i → is_of from to (get_or xs k d) ≡ false)
      → queues (remove xs i) ≡ headless (queues xs) from to
  removed_first xs i d lt here before = fun_ext (λ f. fun_ext (λ t. removed_at xs i d lt here before f t))

-- what a read past the end would give
abbrev pub blank : Slot
blank = record { from = 0; to = 0; letter = record { label = 0; name = 0; place = 0; turns = [] } }

-- under what is no pair there is nothing
pub queue_none : (xs : List Slot) → AllPairs xs → (f t : ℕ) → is_pair f t ≡ false → queue_of f t xs ≡ []
queue_none [] p f t none = refl
queue_none (x ∷ xs) p f t none =
    let h = pairs_parts x xs p in
    ⊎_elim
    (λ (e : is_of f t x ≡ true).
    let q = same_pair-true x.from x.to f t e in
    absurd (both_ways (is_pair f t) none (rw (q.0, q.1) h.0)))
    (λ (e : is_of f t x ≡ false). rw e (queue_none xs h.1 f t none))
    (cases_Bool (is_of f t x))
