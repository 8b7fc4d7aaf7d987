-- A chart that is played greedily is played whole exactly if its events can be listed.
use Rattle.std.proofs.Common.{◌≡◌, ℕ, zero, suc, ◌+◌, ◌<◌, ◌≤◌, true, false, ◌⊎◌, List, [], ◌∷◌, ◌++◌, length, get_or, take, drop, replicate, Some, None, Option, sum, sym, refl, ap, ◌∙◌, subst, inl, inr, ⊎_elim, arith, length-set, drop-cons, get_or-set_other, get_or-set_same}
use native.Mathlib.Decide.{dec_lt}
use lib.ListN.{get_or-replicate}
use Rattle.std.specs.List.{slice_get}
use Rattle.std.specs.Option.{option_map_or}
use Rattle.std.proofs.lemmas.List.{get_or_past}
use Rattle.std.proofs.lemmas.Option.{slice_get_within, slice_get-get_or, get_or_from_slice_get}
use Rattle.std.proofs.lemmas.List.Sums.{sum_by-set}
use Rattle.std.proofs.lemmas.Bool.{cases_lt, cases_eq, ltb-true, lt-ltb, le-leb, leb-true, both_ways}
use Rattle.msc.specs.Events.{out_to, in_from, picked}
use Rattle.msc.specs.Listing.{Mem, NoRep, After, link}
use Rattle.msc.specs.Order.{Spot, spot, Occ, occ, Belongs, IsOcc, Direct, Before, Linearisation}
use Rattle.msc.specs.declared.event.Event.{Event}
use Rattle.msc.specs.declared.event.Event.TheVariants.{Out, In, Action}
use Rattle.order.specs.Charts.{instances, playable, can_play, ready, advanced, played, is_played, is_listable}
use Rattle.order.proofs.Scanned.{range_has, find_none, find_lowest, all_each, all_from, repeat_keeps, repeat_stuck}
use Rattle.order.proofs.Walks.{picked_is}
use Rattle.order.proofs.Members.{mem_left, mem_right, mem_cases, norep_snoc, after_snoc, after_chain, first_not}
use Rattle.order.proofs.Drawn.{Framed, Pairs, drop_lt, picked_mono, out_more, out_of}

-- nothing is done at first
pub nothing : (i : ℕ) → ◌≡◌ {A = ℕ} (get_or (replicate 8 0) i 0) 0
nothing i = ⊎_elim (λ h. get_or-replicate 8 i 0 0 h) (λ h. get_or_past (replicate 8 0) i 0 h) (cases_lt i 8)

module _ (drawn : ℕ → ℕ → List Event) (c : ℕ) where
  abbrev parts : ℕ → List Event
  parts = drawn c

  abbrev Passed : List ℕ → Occ → Type 0
  Passed done (occ j (spot i k)) = (j ≡ 0) × (k < get_or done i 0)

  -- what has been played is listed, in order
  pub record Listed (done : List ℕ) : Type 0 where
    pub long : length done ≡ 8
    pub within : (i : ℕ) → get_or done i 0 ≤ length (parts i)
    pub list : List Occ
    pub real : (x : Occ) → Mem x list → Passed done x
    pub complete : (i k : ℕ) → k < get_or done i 0 → Mem (occ 0 (spot i k)) list
    pub norep : NoRep list
    pub order : After (Direct drawn (c ∷ [])) [] list

  listed_none : Listed (replicate 8 0)
  listed_none = record {
    long = refl;
    within = λ i. rw (nothing i) (omega arith);
    list = [];
    real = λ x m. absurd m;
    complete = λ i k h. absurd (let z : ⊥ = omega (arith, nothing i) in z);
    norep = tt;
    order = tt;
  }

  -- what can be played
  record Next (done : List ℕ) (i : ℕ) : Type 0 where
    below : i < 8
    inside : get_or done i 0 < length (parts i)
    may : playable parts done i (get_or (parts i) (get_or done i 0) (Out 0 0)) ≡ true

  can_next : (done : List ℕ) (i : ℕ) → can_play parts done i ≡ true → (get_or done i 0 < length (parts i)) × (playable parts done i (get_or (parts i) (get_or done i 0) (Out 0 0)) ≡ true)
  can_next done i h = go (slice_get (parts i) (get_or done i 0)) refl h
    where
      go : (o : Option Event) → slice_get (parts i) (get_or done i 0) ≡ o → option_map_or (playable parts done i) o false ≡ true
          → (get_or done i 0 < length (parts i)) × (playable parts done i (get_or (parts i) (get_or done i 0) (Out 0 0)) ≡ true)
      go (Some v) e h = (slice_get_within (parts i) (get_or done i 0) v e, ap (playable parts done i) (get_or_from_slice_get (parts i) (get_or done i 0) v (Out 0 0) e) ∙ h)
      go None e h = absurd (both_ways false refl h)

  next_of : (done : List ℕ) (i : ℕ) → ready parts done ≡ Some i → Next done i
  next_of done i h = let r = find_lowest (can_play parts done) 0 8 i h in let s = can_next done i r.here in
      record { below = omega (arith, r.to); inside = s.0; may = s.1 }

  -- the out that belongs to what can be played has been played
  out_done : (done : List ℕ) (i p a : ℕ) → Next done i → Belongs parts p a i (get_or done i 0) → a < get_or done p 0
  out_done done i p a t (n, n', xs, ys, out, inn, count) = ⊎_elim (λ (h : a < get_or done p 0). h) (λ (h : get_or done p 0 ≤ a). absurd (late h)) (cases_lt a (get_or done p 0))
    where
      now : get_or (parts i) (get_or done i 0) (Out 0 0) ≡ In n' p
      now = let d : get_or (parts i) (get_or done i 0) (Out 0 0) ∷ drop (suc (get_or done i 0)) (parts i) ≡ In n' p ∷ ys = sym (drop-cons (parts i) (get_or done i 0) (Out 0 0) t.inside) ∙ inn in cc

      more : length (picked (in_from p) (take (get_or done i 0) (parts i))) < length (picked (out_to i) (take (get_or done p 0) (parts p)))
      more = rw (← picked_is (in_from p) (take (get_or done i 0) (parts i)), ← picked_is (out_to i) (take (get_or done p 0) (parts p))) (ltb-true _ _ (ap (playable parts done i) (sym now) ∙ t.may))

      late : get_or done p 0 ≤ a → ⊥
      late h = omega (arith, more, count, picked_mono (out_to i) (get_or done p 0) a (parts p) h)

  module _ (done : List ℕ) (i : ℕ) (u : Listed done) (t : Next done i) where
    abbrev at : ℕ
    at = get_or done i 0

    same : get_or (advanced parts done i) i 0 ≡ at + 1
    same = get_or-set_same done i (at + 1) 0 (omega (arith, t.below, u.long))

    other : (j : ℕ) → (j ≡ i → ⊥) → get_or (advanced parts done i) j 0 ≡ get_or done j 0
    other j h = get_or-set_other done i j (at + 1) 0 h

    later : (j : ℕ) → get_or done j 0 ≤ get_or (advanced parts done i) j 0
    later j = ⊎_elim (λ (e : j ≡ i). subst (λ z. get_or done z 0 ≤ get_or (advanced parts done i) z 0) (sym e) (omega (arith, same))) (λ (n : j ≡ i → ⊥). omega (arith, other j n)) (cases_eq j i)

    before : (y : Occ) → Direct drawn (c ∷ []) y (occ 0 (spot i at)) → Mem y u.list ⊎ Mem y []
    before (occ zero (spot p a)) (r, inl h) = absurd (let z : ⊥ = omega (arith, h.1) in z)
    before (occ zero (spot p a)) (r, inr (e, inl h)) = inl (u.complete p a (subst (λ z. a < get_or done z 0) (sym h.0) h.1))
    before (occ zero (spot p a)) (r, inr (e, inr b)) = inl (u.complete p a (out_done done i p a t b))
    before (occ (suc j) (spot p a)) (r, h) = absurd (let z : ⊥ = omega (arith, r) in z)

    listed_more : Listed (advanced parts done i)
    listed_more = record {
      long = length-set done i (at + 1) ∙ u.long;
      within = λ j. ⊎_elim (λ (e : j ≡ i). subst (λ z. get_or (advanced parts done i) z 0 ≤ length (parts z)) (sym e) (omega (arith, same, t.inside))) (λ (n : j ≡ i → ⊥). omega (arith, other j n, u.within j)) (cases_eq j i);
      list = u.list ++ occ 0 (spot i at) ∷ [];
      real = λ x m. ⊎_elim (λ k. old x (u.real x k)) (⊎_elim (λ e. subst (Passed (advanced parts done i)) (sym e) (refl, rw same (omega arith))) (λ z. absurd z)) (mem_cases x u.list (occ 0 (spot i at) ∷ []) m);
      complete = fill;
      norep = norep_snoc u.list (occ 0 (spot i at)) u.norep (λ m. let z = u.real (occ 0 (spot i at)) m in omega (arith, z.1));
      order = after_snoc (Direct drawn (c ∷ [])) [] u.list (occ 0 (spot i at)) u.order before;
    }
      where
        old : (x : Occ) → Passed done x → Passed (advanced parts done i) x
        old (occ j (spot p a)) h = (h.0, omega (arith, h.1, later p))

        fill : (j k : ℕ) → k < get_or (advanced parts done i) j 0 → Mem (occ 0 (spot j k)) (u.list ++ occ 0 (spot i at) ∷ [])
        fill j k h = ⊎_elim (λ (l : k < get_or done j 0). mem_left _ u.list _ (u.complete j k l))
            (λ (g : get_or done j 0 ≤ k). ⊎_elim
            (λ (e : j ≡ i). let f : k < at + 1 = omega (arith, same, subst (λ z. k < get_or (advanced parts done i) z 0) e h) in
            let g' : at ≤ k = subst (λ z. get_or done z 0 ≤ k) e g in let ek : k ≡ at = omega arith in
            mem_right _ u.list _ (inl (rw (e, ek))))
            (λ (n : j ≡ i → ⊥). absurd (let z : ⊥ = omega (arith, other j n, g, h) in z)) (cases_eq j i))
            (cases_lt k (get_or done j 0))

  listed_keeps : (done : List ℕ) (i : ℕ) → Listed done → ready parts done ≡ Some i → Listed (advanced parts done i)
  listed_keeps done i u h = listed_more done i u (next_of done i h)

  listed_grows : (done : List ℕ) (i : ℕ) → Listed done → ready parts done ≡ Some i → sum (advanced parts done i) ≡ sum done + 1
  listed_grows done i u h = let t = next_of done i h in omega (arith, sum_by-set (λ x. x) done i (get_or done i 0 + 1) 0 (omega (arith, t.below, u.long)))

  listed_all : Listed (played parts)
  unfolding played
  listed_all = repeat_keeps (ready parts) (advanced parts) Listed listed_keeps 64 (replicate 8 0) listed_none

  stuck : Framed parts → ready parts (played parts) ≡ None
  unfolding played
  stuck w = repeat_stuck (ready parts) (advanced parts) Listed listed_keeps (λ d. sum d) listed_grows 64 (λ d u. w.size d u.long u.within) 64 (replicate 8 0) listed_none (omega arith)

  -- all played: the list of what was played is a listing
  pub is_listable_lem : Framed parts → is_listable parts ≡ true → (L : List Occ) × Linearisation drawn (c ∷ []) L
  is_listable_lem w h = (listed_all.list, record { real = real; complete = complete; norep = listed_all.norep; order = after_chain (Direct drawn (c ∷ [])) [] listed_all.list (λ x y m r. m) listed_all.order })
    where
      real : (x : Occ) → Mem x listed_all.list → IsOcc drawn (c ∷ []) x
      real x m = go x (listed_all.real x m)
        where
          go : (x : Occ) → Passed (played parts) x → IsOcc drawn (c ∷ []) x
          go (occ zero (spot i k)) p = omega (arith, p.1, listed_all.within i)
          go (occ (suc j) (spot i k)) p = absurd (let z : ⊥ = omega (arith, p.0) in z)

      whole : (i k : ℕ) → k < length (parts i) → (i < 8) ⊎ (8 ≤ i) → k < get_or (played parts) i 0
      whole i k l (inl b) = omega (arith, leb-true _ _ (all_each (is_played parts (played parts)) instances h i (range_has 0 8 i (omega arith) (omega arith))))
      whole i k l (inr b) = absurd (let z : ⊥ = omega (arith, ap length (w.few i b)) in z)

      complete : (x : Occ) → IsOcc drawn (c ∷ []) x → Mem x listed_all.list
      complete (occ zero (spot i k)) l = listed_all.complete i k (whole i k l (cases_lt i 8))
      complete (occ (suc j) (spot i k)) l = absurd (let z : ⊥ = omega (arith, l) in z)

  passed? : (done : List ℕ) (x : Occ) → Dec (Passed done x)
  passed? done (occ zero (spot i k)) = go (dec_lt k (get_or done i 0))
    where
      go : Dec (k < get_or done i 0) → Dec (Passed done (occ 0 (spot i k)))
      go (yes h) = yes (refl, h)
      go (no h) = no (λ p. h p.1)
  passed? done (occ (suc j) s) = no (λ p. never s p)
    where
      never : (s : Spot) → Passed done (occ (suc j) s) → ⊥
      never (spot i k) p = omega (arith, p.0)

  -- an event that is not played, with all played that are before it, can be played
  module _ (M : Pairs parts) (done : List ℕ) where
    may_play : (i k : ℕ) → get_or done i 0 ≡ k → k < length (parts i) → ((y : Occ) → Before drawn (c ∷ []) y (occ 0 (spot i k)) → Passed done y) → can_play parts done i ≡ true
    may_play i k e l past = rw (e, slice_get-get_or (parts i) k (Out 0 0) l) (go (get_or (parts i) k (Out 0 0)) refl)
      where
        go : (v : Event) → get_or (parts i) k (Out 0 0) ≡ v → playable parts done i v ≡ true
        go (Out n q) h = refl
        go (Action n) h = refl
        go (In n p) h =
            let dk : drop k (parts i) ≡ In n p ∷ drop (suc k) (parts i) = drop-cons (parts i) k (Out 0 0) l ∙ ap (λ v. v ∷ drop (suc k) (parts i)) h in
            let r = out_of parts M p i k n (drop (suc k) (parts i)) dk in
            let b = r.1 in
            let out = drop_lt r.0 (parts p) (Out b.0 i) b.2 b.4 in
            let was = past (occ 0 (spot p r.0)) (link (out, inr (refl, inr b))) in
            let mono = picked_mono (out_to i) (suc r.0) (get_or done p 0) (parts p) (omega (arith, was.1)) in
            lt-ltb _ _ (rw (e, picked_is (in_from p) (take k (parts i)), picked_is (out_to i) (take (get_or done p 0) (parts p))) (omega (arith, out_more (parts p) i r.0 b.0 b.2 b.4, b.6, mono)))

    -- the first event of a listing that is not played
    found : (x : Occ) → IsOcc drawn (c ∷ []) x → (Passed done x → ⊥) → ((y : Occ) → Before drawn (c ∷ []) y x → Passed done y) → (i : ℕ) × (0 < length (parts i)) × (can_play parts done i ≡ true)
    found (occ (suc j) (spot i k)) l n past = absurd (let z : ⊥ = omega (arith, l) in z)
    found (occ zero (spot i k)) l n past = (i, omega (arith, l), may_play i k (next k refl) l past)
      where
        behind : get_or done i 0 ≤ k
        behind = ⊎_elim (λ (h : k < get_or done i 0). absurd (n (refl, h))) (λ (h : get_or done i 0 ≤ k). h) (cases_lt k (get_or done i 0))

        next : (k' : ℕ) → k' ≡ k → get_or done i 0 ≡ k
        next zero e = omega (arith, behind)
        next (suc k') e = let was = past (occ 0 (spot i k')) (link (let z : k' < length (parts i) = omega arith in z, inr (refl, inl (refl, omega arith)))) in omega (arith, was.1, behind)

  pub listable_is : Framed parts → Pairs parts → (L : List Occ) × Linearisation drawn (c ∷ []) L → is_listable parts ≡ true
  listable_is w M (L, W) = ⊎_elim over more (first_not (Before drawn (c ∷ [])) (Passed (played parts)) (passed? (played parts)) [] L W.order (λ x m. absurd m))
    where
      over : ((x : Occ) → Mem x L → Passed (played parts) x) → is_listable parts ≡ true
      over h = all_from (is_played parts (played parts)) instances (λ i _. le-leb _ _
          (⊎_elim (λ (l : get_or (played parts) i 0 < length (parts i)). absurd (let p = h (occ 0 (spot i (get_or (played parts) i 0))) (W.complete (occ 0 (spot i (get_or (played parts) i 0))) l) in let z : ⊥ = omega (arith, p.1) in z))
          (λ (l : length (parts i) ≤ get_or (played parts) i 0). l) (cases_lt (get_or (played parts) i 0) (length (parts i)))))

      low : (i : ℕ) → 0 < length (parts i) → (i < 8) ⊎ (8 ≤ i) → i < 8
      low i l (inl h) = h
      low i l (inr h) = absurd (let z : ⊥ = omega (arith, ap length (w.few i h)) in z)

      more : (x : Occ) × Mem x L × (Passed (played parts) x → ⊥) × ((y : Occ) → Before drawn (c ∷ []) y x → Passed (played parts) y) → is_listable parts ≡ true
      more (x, m, n, past) = let r = found M (played parts) x (W.real x m) n past in
          let b = low r.0 r.1 (cases_lt r.0 8) in
          absurd (both_ways (can_play parts (played parts) r.0) (find_none (can_play parts (played parts)) instances (stuck w) r.0 (range_has 0 8 r.0 (omega arith) (omega arith))) r.2)
