-- The marked labels are those that lead to an end.
use Rattle.std.proofs.Common.{◌≡◌, ℕ, zero, suc, ◌+◌, ◌<◌, ◌≤◌, Bool, true, false, cond, not, List, [], ◌∷◌, length, get_or, set, replicate, is_some, Some, None, count_by, Option, sym, refl, ap, ◌∙◌, subst, inl, inr, ⊎_elim, arith, length-set, get_or-set_other}
use lib.ListN.{get_or-replicate}
use Rattle.std.proofs.lemmas.List.{get_or_past}
use Rattle.std.proofs.lemmas.List.Sums.{sum_by-set, sum_by-cons, count_by-le-length}
use Rattle.std.proofs.lemmas.Bool.{cases_lt, cases_eq, cases_Bool, both_ways, and_parts, and_cases, or_cases, or_left, or_right, not-true, not-false}
use Rattle.msc.specs.Listing.{Mem}
use Rattle.msc.specs.Meaning.{Meaning}
use Rattle.msc.specs.Choice.{IsEnd, LeadsToEnd, ends, goes}
use Rattle.std.specs.List.{list_any}
use Rattle.judge.specs.Checks.{spots, leads_on, unmarked, next_mark, marked}
use Rattle.order.proofs.Scanned.{range_has, find_none, find_lowest, repeat_keeps, repeat_stuck}
use Rattle.order.proofs.Limits.{Limits}

pub some_of : (o : Option ℕ) → is_some o ≡ true → (x : ℕ) × (o ≡ Some x)
some_of None h = absurd (both_ways false refl h)
some_of (Some x) h = (x, refl)

pub none_of : (o : Option ℕ) → is_some o ≡ false → o ≡ None
none_of None h = refl
none_of (Some x) h = absurd (both_ways true h refl)

-- some one of a list passes a test, or none does
some_any : (f : ℕ → Bool) (xs : List ℕ) → list_any f xs ≡ true → (x : ℕ) × Mem x xs × (f x ≡ true)
some_any f [] h = absurd (both_ways false refl h)
some_any f (y ∷ xs) h = ⊎_elim (λ t. (y, inl refl, t)) (λ t. let r = some_any f xs t in (r.0, inr r.1, r.2)) (or_cases (f y) (list_any f xs) h)

any_some : (f : ℕ → Bool) (xs : List ℕ) (x : ℕ) → Mem x xs → f x ≡ true → list_any f xs ≡ true
any_some f [] x m t = absurd m
any_some f (y ∷ xs) x (inl e) t = or_left (f y) (list_any f xs) (ap f (sym e) ∙ t)
any_some f (y ∷ xs) x (inr m) t = or_right (f y) (list_any f xs) (any_some f xs x m t)

-- where one is false, not all are counted
count_less : (xs : List Bool) (i : ℕ) → i < length xs → get_or xs i false ≡ false → count_by (λ b. b) xs < length xs
count_less [] i h e = absurd (let z : ⊥ = omega arith in z)
count_less (x ∷ xs) zero h e = omega (arith, sum_by-cons (λ (b : Bool). cond b 1 0) x xs, count_by-le-length (λ b. b) xs, ap {B = ℕ} (λ b. cond b 1 0) e)
count_less (true ∷ xs) (suc i) h e = omega (arith, sum_by-cons (λ (b : Bool). cond b 1 0) true xs, count_less xs i (omega arith) e)
count_less (false ∷ xs) (suc i) h e = omega (arith, sum_by-cons (λ (b : Bool). cond b 1 0) false xs, count_less xs i (omega arith) e)

module _ (m : Meaning) (w : Limits m) where
  record Right (marks : List Bool) : Type 0 where
    long : length marks ≡ 65
    leads : (x : ℕ) → get_or marks x false ≡ true → LeadsToEnd m x

  nothing : (x : ℕ) → get_or (replicate 65 false) x false ≡ false
  nothing x = ⊎_elim (λ h. get_or-replicate 65 x false false h) (λ h. get_or_past (replicate 65 false) x false h) (cases_lt x 65)

  right_none : Right (replicate 65 false)
  right_none = record { long = refl; leads = λ x h. absurd (both_ways (get_or (replicate 65 false) x false) (nothing x) h) }

  record Next (marks : List Bool) (x : ℕ) : Type 0 where
    below : x < 65
    fresh : get_or marks x false ≡ false
    leads : LeadsToEnd m x

  leads_on_lem : (marks : List Bool) → Right marks → (x l : ℕ) → Mem l (m.list x) → leads_on m marks l ≡ true → LeadsToEnd m x
  leads_on_lem marks u x l i h = go (m.chart l) refl
    where
      go : (o : Option ℕ) → m.chart l ≡ o → LeadsToEnd m x
      go None e = ends i e
      go (Some c) e = goes i (c, e) (u.leads l (⊎_elim (λ t. absurd (both_ways (is_some (m.chart l)) (not-true (is_some (m.chart l)) t) (ap is_some e))) (λ t. t) (or_cases (not (is_some (m.chart l))) (get_or marks l false) h)))

  next_of : (marks : List Bool) (x : ℕ) → Right marks → next_mark m marks ≡ Some x → Next marks x
  next_of marks x u h =
      let r = find_lowest (unmarked m marks) 0 65 x h in
      let b = and_parts (not (get_or marks x false)) (list_any (leads_on m marks) (m.list x)) r.here in
      let s = some_any (leads_on m marks) (m.list x) b.1 in
      record { below = omega (arith, r.to); fresh = not-true (get_or marks x false) b.0; leads = leads_on_lem marks u x s.0 s.1 s.2 }

  right_more : (marks : List Bool) (x : ℕ) → Right marks → next_mark m marks ≡ Some x → Right (set marks x true)
  right_more marks x u h = let t = next_of marks x u h in
      record {
        long = length-set marks x true ∙ u.long;
        leads = λ y e. ⊎_elim (λ (i : y ≡ x). subst (LeadsToEnd m) (sym i) t.leads) (λ (n : y ≡ x → ⊥). u.leads y (sym (get_or-set_other marks x y true false n) ∙ e)) (cases_eq y x);
      }

  grows : (marks : List Bool) (x : ℕ) → Right marks → next_mark m marks ≡ Some x → count_by (λ b. b) (set marks x true) ≡ count_by (λ b. b) marks + 1
  grows marks x u h = let t = next_of marks x u h in
      omega (arith, sum_by-set (λ (b : Bool). cond b 1 0) marks x true false (omega (arith, t.below, u.long)), ap {B = ℕ} (λ b. cond b 1 0) t.fresh)

  an_end : {x : ℕ} → LeadsToEnd m x → (l : ℕ) × (l < 64) × IsEnd m l
  an_end (ends {x} {l} i e) = (l, w.list-below x l i, e)
  an_end (goes i n r) = an_end r

  some_listed : {x : ℕ} → LeadsToEnd m x → (l : ℕ) × Mem l (m.list x)
  some_listed (ends {x} {l} i e) = (l, i)
  some_listed (goes {x} {l} i n r) = (l, i)

  -- an end label is never marked, so at most 64 are
  most : (marks : List Bool) → Right marks → count_by (λ b. b) marks ≤ 64
  most marks u = ⊎_elim (λ (h : count_by (λ b. b) marks < 65). omega arith) (λ (h : 65 ≤ count_by (λ b. b) marks). absurd (never h)) (cases_lt (count_by (λ b. b) marks) 65)
    where
      each : 65 ≤ count_by (λ b. b) marks → (i : ℕ) → i < 65 → get_or marks i false ≡ true
      each h i l = ⊎_elim (λ (t : get_or marks i false ≡ true). t) (λ (t : get_or marks i false ≡ false). absurd (let z : ⊥ = omega (arith, count_less marks i (omega (arith, u.long)) t, u.long) in z)) (cases_Bool (get_or marks i false))

      never : 65 ≤ count_by (λ b. b) marks → ⊥
      never h =
          let e = an_end (u.leads 64 (each h 64 (omega arith))) in
          let s = some_listed (u.leads e.0 (each h e.0 (omega (arith, e.1)))) in
          subst (Mem s.0) (w.end_list e.0 e.1 e.2) s.1

  right : Right (marked m)
  unfolding marked
  right = repeat_keeps (next_mark m) (λ marks x. set marks x true) Right right_more 64 (replicate 65 false) right_none

  stuck : next_mark m (marked m) ≡ None
  unfolding marked
  stuck = repeat_stuck (next_mark m) (λ marks x. set marks x true) Right right_more (λ marks. count_by (λ b. b) marks) grows 64 most 64 (replicate 65 false) right_none (omega arith)

  pub is_to_end : (x : ℕ) → get_or (marked m) x false ≡ true → LeadsToEnd m x
  is_to_end = right.leads

  -- nothing is left to mark: what leads on is marked
  closed : (x l : ℕ) → x < 65 → Mem l (m.list x) → leads_on m (marked m) l ≡ true → get_or (marked m) x false ≡ true
  closed x l b i h = ⊎_elim (λ (t : get_or (marked m) x false ≡ true). t)
      (λ (t : get_or (marked m) x false ≡ false). ⊎_elim (λ n. not-false (get_or (marked m) x false) n)
      (λ n. absurd (both_ways (list_any (leads_on m (marked m)) (m.list x)) n (any_some (leads_on m (marked m)) (m.list x) l i h)))
      (and_cases (not (get_or (marked m) x false)) (list_any (leads_on m (marked m)) (m.list x)) (find_none (unmarked m (marked m)) spots stuck x (range_has 0 65 x (omega arith) (omega arith)))))
      (cases_Bool (get_or (marked m) x false))

  pub to_end_is : (x : ℕ) → LeadsToEnd m x → x < 65 → get_or (marked m) x false ≡ true
  to_end_is x (ends {l = l} i e) b = closed x l b i (or_left (not (is_some (m.chart l))) (get_or (marked m) l false) (ap (λ o. not (is_some o)) e))
  to_end_is x (goes {l = l} i n r) b = closed x l b i (or_right (not (is_some (m.chart l))) (get_or (marked m) l false) (to_end_is l r (omega (arith, w.list-below x l i))))
