-- What searches find, and where repetitions stop.
use Rattle.std.proofs.Common.{◌≡◌, ℕ, zero, suc, ◌+◌, ◌-◌, ◌<◌, ◌≤◌, Bool, true, false, cond, ◌⊎◌, List, [], ◌∷◌, ◌++◌, Some, None, Option, sym, refl, ap, ◌∙◌, subst, inl, inr, ⊎_elim, arith}
use Rattle.std.specs.List.{find, filter, list_all, range_with_len}
use Rattle.std.proofs.lemmas.Bool.{and_parts, cases_order}
use Rattle.msc.specs.Listing.{Mem}
use Rattle.order.specs.Scans.{onward, repeat}

-- the range that is left, one number taken off
left : (k e : ℕ) → k < e → e - k ≡ suc (e - (k + 1))
left k e h = omega arith

pub range_has : (k n x : ℕ) → k ≤ x → x < k + n → Mem x (range_with_len k n)
range_has k zero x a b = absurd (let z : ⊥ = omega arith in z)
range_has k (suc n) x a b = ⊎_elim (λ (e : k ≡ x). inl (sym e)) (⊎_elim (λ (l : k < x). inr (range_has (k + 1) n x (omega arith) (omega arith))) (λ (l : x < k). absurd (let z : ⊥ = omega arith in z))) (cases_order k x)

module _ (f : ℕ → Bool) where
  pub find_none : (xs : List ℕ) → find f xs ≡ None → (x : ℕ) → Mem x xs → f x ≡ false
  find_none [] h x m = absurd m
  find_none (y ∷ xs) h x m = go (f y) refl h m (find_none xs)
    where
      go : (b : Bool) → f y ≡ b → cond b (Some y) (find f xs) ≡ None → (x ≡ y) ⊎ Mem x xs → (find f xs ≡ None → (z : ℕ) → Mem z xs → f z ≡ false) → f x ≡ false
      go true t h m ih = cc
      go false t h (inl e) ih = ap f e ∙ t
      go false t h (inr m) ih = ih h x m

  -- what is found, with what stands ahead of it
  pub record Met (xs : List ℕ) (x : ℕ) : Type 0 where
    pub before : List ℕ
    pub behind : List ℕ
    pub split : xs ≡ before ++ x ∷ behind
    pub here : f x ≡ true
    pub ahead : (y : ℕ) → Mem y before → f y ≡ false

  pub find_some : (xs : List ℕ) (x : ℕ) → find f xs ≡ Some x → Met xs x
  find_some [] x h = cc
  find_some (y ∷ xs) x h = go (f y) refl h (find_some xs x)
    where
      go : (b : Bool) → f y ≡ b → cond b (Some y) (find f xs) ≡ Some x → (find f xs ≡ Some x → Met xs x) → Met (y ∷ xs) x
      go true t h ih = let e : y ≡ x = cc in record { before = []; behind = xs; split = ap (λ z. z ∷ xs) e; here = ap f (sym e) ∙ t; ahead = λ k m. absurd m }
      go false t h ih = let r = ih h in record { before = y ∷ r.before; behind = r.behind; split = ap (λ z. y ∷ z) r.split; here = r.here; ahead = λ k. ⊎_elim (λ e. ap f e ∙ t) (r.ahead k) }

  -- the lowest of the n numbers from k on that is found
  pub record Found (k n x : ℕ) : Type 0 where
    pub from : k ≤ x
    pub to : x < k + n
    pub here : f x ≡ true
    pub ahead : (y : ℕ) → k ≤ y → y < x → f y ≡ false

  pub find_lowest : (k n x : ℕ) → find f (range_with_len k n) ≡ Some x → Found k n x
  find_lowest k zero x h = cc
  find_lowest k (suc n) x h = go (f k) refl h (find_lowest (k + 1) n x)
    where
      go : (b : Bool) → f k ≡ b → cond b (Some k) (find f (range_with_len (k + 1) n)) ≡ Some x → (find f (range_with_len (k + 1) n) ≡ Some x → Found (k + 1) n x) → Found k (suc n) x
      go true t h ih = let e : k ≡ x = cc in record { from = omega arith; to = omega arith; here = ap f (sym e) ∙ t; ahead = λ y a b. absurd (let z : ⊥ = omega arith in z) }
      go false t h ih = let r = ih h in record {
        from = omega (arith, r.from);
        to = omega (arith, r.to);
        here = r.here;
        ahead = λ y a b. ⊎_elim (λ (e : k ≡ y). ap f (sym e) ∙ t) (⊎_elim (λ (l : k < y). r.ahead y (omega arith) b) (λ (l : y < k). absurd (let z : ⊥ = omega arith in z))) (cases_order k y);
      }

  pub all_each : (xs : List ℕ) → list_all f xs ≡ true → (x : ℕ) → Mem x xs → f x ≡ true
  all_each [] h x m = absurd m
  all_each (y ∷ xs) h x (inl e) = ap f e ∙ (and_parts (f y) (list_all f xs) h).0
  all_each (y ∷ xs) h x (inr m) = all_each xs (and_parts (f y) (list_all f xs) h).1 x m

  pub all_from : (xs : List ℕ) → ((x : ℕ) → Mem x xs → f x ≡ true) → list_all f xs ≡ true
  all_from [] h = refl
  all_from (y ∷ xs) h = rw (h y (inl refl)) (all_from xs (λ x m. h x (inr m)))

  pub kept_passes : (xs : List ℕ) (x : ℕ) → Mem x (filter f xs) → f x ≡ true
  kept_passes [] x m = absurd m
  kept_passes (y ∷ xs) x m = go (f y) refl m (kept_passes xs x)
    where
      go : (b : Bool) → f y ≡ b → Mem x (cond b (y ∷ filter f xs) (filter f xs)) → (Mem x (filter f xs) → f x ≡ true) → f x ≡ true
      go true t (inl e) ih = ap f e ∙ t
      go true t (inr m) ih = ih m
      go false t m ih = ih m

  pub passes_kept : (xs : List ℕ) (x : ℕ) → Mem x xs → f x ≡ true → Mem x (filter f xs)
  passes_kept [] x m p = absurd m
  passes_kept (y ∷ xs) x (inl e) p = let t : f y ≡ true = ap f (sym e) ∙ p in rw t (inl e)
  passes_kept (y ∷ xs) x (inr m) p = go (f y) (passes_kept xs x m p)
    where
      go : (b : Bool) → Mem x (filter f xs) → Mem x (cond b (y ∷ filter f xs) (filter f xs))
      go true k = inr k
      go false k = k

module _ {S : Type 0} (next : S → Option ℕ) (add : S → ℕ → S) where
  repeat_on : (n : ℕ) (s : S) (x : ℕ) → next s ≡ Some x → repeat next add (suc n) s ≡ repeat next add n (add s x)
  unfolding repeat
  repeat_on n s x h = ap (λ o. onward o s (λ x. repeat next add n (add s x))) h

  repeat_nil : (s : S) → repeat next add 0 s ≡ s
  unfolding repeat
  repeat_nil s = refl

  repeat_off : (n : ℕ) (s : S) → next s ≡ None → repeat next add (suc n) s ≡ s
  unfolding repeat
  repeat_off n s h = ap (λ o. onward o s (λ x. repeat next add n (add s x))) h

  repeat_halt : (n : ℕ) (s : S) → next s ≡ None → repeat next add n s ≡ s
  repeat_halt zero s h = repeat_nil s
  repeat_halt (suc n) s h = repeat_off n s h

  -- a loop over the numbers below e: goes on, stops early, ends
  pub repeat_next : (k e : ℕ) (s : S) (x : ℕ) → k < e → next s ≡ Some x → repeat next add (e - (k + 1)) (add s x) ≡ repeat next add (e - k) s
  repeat_next k e s x h n = rw (left k e h) (sym (repeat_on (e - (k + 1)) s x n))

  pub repeat_stop : (k e : ℕ) (s : S) → next s ≡ None → s ≡ repeat next add (e - k) s
  repeat_stop k e s n = sym (repeat_halt (e - k) s n)

  pub repeat_end : (k e : ℕ) (s : S) → e ≤ k → s ≡ repeat next add (e - k) s
  repeat_end k e s h = let z : e - k ≡ 0 = omega arith in rw z (sym (repeat_nil s))

  module _ (I : S → Type 0) (keep : (s : S) (x : ℕ) → I s → next s ≡ Some x → I (add s x)) where
    pub repeat_keeps : (n : ℕ) (s : S) → I s → I (repeat next add n s)
    repeat_keeps zero s i = subst I (sym (repeat_nil s)) i
    repeat_keeps (suc n) s i = go (next s) refl (repeat_keeps n)
      where
        go : (o : Option ℕ) → next s ≡ o → ((t : S) → I t → I (repeat next add n t)) → I (repeat next add (suc n) s)
        go None h ih = subst I (sym (repeat_halt (suc n) s h)) i
        go (Some x) h ih = subst I (sym (repeat_on n s x h)) (ih (add s x) (keep s x i h))

    -- where a size grows with each turn, and is never above n, n turns from size 0 are enough
    module _ (size : S → ℕ) (grow : (s : S) (x : ℕ) → I s → next s ≡ Some x → size (add s x) ≡ size s + 1) (top : ℕ) (most : (s : S) → I s → size s ≤ top) where
      pub repeat_stuck : (n : ℕ) (s : S) → I s → top ≤ size s + n → next (repeat next add n s) ≡ None
      repeat_stuck zero s i h = go (next s) refl
        where
          go : (o : Option ℕ) → next s ≡ o → next (repeat next add 0 s) ≡ None
          go None e = ap next (repeat_nil s) ∙ e
          go (Some x) e = absurd (let z : ⊥ = omega (arith, grow s x i e, most (add s x) (keep s x i e)) in z)
      repeat_stuck (suc n) s i h = go (next s) refl (repeat_stuck n)
        where
          go : (o : Option ℕ) → next s ≡ o → ((t : S) → I t → top ≤ size t + n → next (repeat next add n t) ≡ None) → next (repeat next add (suc n) s) ≡ None
          go None e ih = ap next (repeat_halt (suc n) s e) ∙ e
          go (Some x) e ih = ap next (repeat_on n s x e) ∙ ih (add s x) (keep s x i e) (omega (arith, grow s x i e))
