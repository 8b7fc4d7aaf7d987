-- Progress: where a consistent cut lacks an event, some event can be done.
use Rattle.std.proofs.Common.{◌≡◌, ℕ, zero, suc, ◌+◌, ◌<◌, ◌≤◌, Bool, true, false, cond, eqb, ◌↔◌, List, [], ◌∷◌, ◌++◌, length, take, drop, sym, refl, ap, ◌∙◌, subst, inl, inr, ⊎_elim, append_assoc, append-nil, arith, length-append, take-append-drop, eq-eqb, eqb-true}
use mathlib.Core.Path.{fun_ext}
use native.Mathlib.Decide.{dec_lt}
use lib.Seq.{append_snoc, take-append_seam}
use Rattle.msc.specs.Events.{out_to, in_from, picked}
use Rattle.msc.specs.Listing.{Mem, link}
use Rattle.msc.specs.Order.{spot, Occ, occ, Belongs, chart_at, IsOcc, Before}
use Rattle.msc.specs.declared.event.Event.{Event}
use Rattle.msc.specs.declared.event.Event.TheVariants.{Out, In, Action}
use Rattle.theory.specs.Cuts.{done, ahead, Consistent, Ready, Enabled}
use Rattle.theory.specs.Given.{Paired, Listed}
use Rattle.theory.specs.Letters.{outs_to, ins_from}
use Rattle.theory.specs.Projection.{Placed, at, placed, proj_from, proj, pos}
use Rattle.theory.proofs.Listings.{first_not}
use Rattle.theory.proofs.Lists.{drop_lt}
use Rattle.theory.proofs.Projections.{placed-length, dropped, counted, outs-ins, proj_snoc, split, chart_mid, stands_mid}
use Rattle.theory.proofs.Queues.{waits_iff}

pub picked-++ : (f : Event → List ℕ) (xs ys : List Event) → picked f (xs ++ ys) ≡ picked f xs ++ picked f ys
picked-++ f [] ys = refl
picked-++ f (x ∷ xs) ys = rw (picked-++ f xs ys) (sym (append_assoc (f x) (picked f xs) (picked f ys)))

abbrev NthOut : ℕ → List Event → ℕ → Type 0
NthOut q es c = (a : ℕ) × (n : ℕ) × (xs : List Event) × (drop a es ≡ Out n q ∷ xs) × (length (picked (out_to q) (take a es)) ≡ c)

-- the out to q that has c outs to q ahead of it
nth_out : (q : ℕ) (es : List Event) (c : ℕ) → c < length (picked (out_to q) es) → NthOut q es c
nth_out q [] c h = absurd (let z : ⊥ = omega arith in z)
nth_out q (In n t ∷ es) c h = let r = nth_out q es c h in (suc r.0, r.1, r.2, r.3, r.4)
nth_out q (Action n ∷ es) c h = let r = nth_out q es c h in (suc r.0, r.1, r.2, r.3, r.4)
nth_out q (Out n t ∷ es) c h = go (eqb t q) refl c h (λ k. nth_out q es k)
  where
    go : (b : Bool) → eqb t q ≡ b → (c : ℕ) → c < length (cond b (n ∷ []) [] ++ picked (out_to q) es) → ((k : ℕ) → k < length (picked (out_to q) es) → NthOut q es k) → NthOut q (Out n t ∷ es) c
    go true e zero h ih = (0, n, es, ap (λ z. Out n z ∷ es) (eqb-true t q e), refl)
    go true e (suc c) h ih = let r = ih c (omega arith) in (suc r.0, r.1, r.2, r.3, rw e (ap suc r.4))
    go false e c h ih = let r = ih c h in (suc r.0, r.1, r.2, r.3, rw e r.4)

-- in a chart whose outs and ins match, every in has the out that belongs to it
pub own_out : (c : ℕ → List Event) (i p : ℕ) → picked (out_to i) (c p) ≡ picked (in_from p) (c i) → (k n : ℕ) (ys : List Event) → drop k (c i) ≡ In n p ∷ ys → (a : ℕ) × Belongs c p a i k
own_out c i p h k n ys d =
    let ins : picked (out_to i) (c p) ≡ picked (in_from p) (take k (c i)) ++ n ∷ picked (in_from p) ys
    = h ∙ sym (ap (picked (in_from p)) (take-append-drop k (c i))) ∙ rw (picked-++, d, eq-eqb p p refl) in
    let few : length (picked (in_from p) (take k (c i))) < length (picked (out_to i) (c p)) = rw (ins, length-append) (omega arith) in
    let r = nth_out i (c p) (length (picked (in_from p) (take k (c i)))) few in
    (r.0, (r.1, n, r.2, ys, r.3, d, r.4))

module _ (part : ℕ → ℕ → List Event) (H : Paired part) (e : ℕ → ℕ) (A : List ℕ) (l : ℕ) (B : List ℕ) (K : Consistent part (A ++ l ∷ B) e)
    (i k : ℕ) (k_in : k < length (part l i)) (at_k : e i ≡ length (proj part A i) + k) where
  -- event number k of i is next there: something waits from p just if the out that belongs to it is done
  out_waits : (p a : ℕ) → Belongs (part l) p a i k → (length (proj part A p) + a < e p) ↔ Ready part (A ++ l ∷ B) e i (In 0 p)
  out_waits p a (n, m, us, ws, da, dk, same) =
      let k_le : k ≤ length (part l i) = omega arith in
      let a_lt : a < length (part l p) = drop_lt a (part l p) (Out n i) us da in
      let a_le : a ≤ length (part l p) = omega arith in
      let count : length (outs_to i (take (length (proj part A p) + a) (proj part (A ++ l ∷ B) p))) ≡ length (ins_from p (done part (A ++ l ∷ B) e i))
      = rw (at_k, counted part (out_to i) A l B p a a_le, counted part (in_from p) A l B i k k_le, outs-ins part H A p i, same) in
      waits_iff part H (A ++ l ∷ B) e K p i (length (proj part A p) + a) (length A) (spot p a) l n (placed (length A) l p (suc a) us ++ proj_from part (suc (length A)) B p)
      (dropped part A l B p a a_le ∙ ap (λ es. placed (length A) l p a es ++ proj_from part (suc (length A)) B p) da) count

  -- it can be done just if the out that belongs to it, if it is an in, is done
  pub enabled_mid : Enabled part (A ++ l ∷ B) e (occ (length A) (spot i k)) ↔ ((p a : ℕ) → Belongs (part l) p a i k → length (proj part A p) + a < e p)
  enabled_mid = (there, back)
    where
      s : (v : Event) × (ws : List Event) × (drop k (part l i) ≡ v ∷ ws)
          × (drop (length (proj part A i) + k) (proj part (A ++ l ∷ B) i) ≡ at (occ (length A) (spot i k)) l v ∷ (placed (length A) l i (suc k) ws ++ proj_from part (suc (length A)) B i))
      s = stands_mid part (A ++ l ∷ B) A l B i k refl k_in

      v : Event
      v = s.0

      ys : List Placed
      ys = placed (length A) l i (suc k) s.1 ++ proj_from part (suc (length A)) B i

      next : ahead part (A ++ l ∷ B) e i ≡ at (occ (length A) (spot i k)) l v ∷ ys
      next = rw at_k s.3

      there : Enabled part (A ++ l ∷ B) e (occ (length A) (spot i k)) → (p a : ℕ) → Belongs (part l) p a i k → length (proj part A p) + a < e p
      there (l', w, xs, N, R) p a g =
          let both : at (occ (length A) (spot i k)) l v ∷ ys ≡ at (occ (length A) (spot i k)) l' w ∷ xs = sym next ∙ N in
          let head : v ∷ s.1 ≡ In g.1 p ∷ g.3 = sym s.2 ∙ g.5 in
          let w_is : w ≡ In g.1 p = cc in
          (out_waits p a g).1 (subst (Ready part (A ++ l ∷ B) e i) w_is R)

      ready : ((p a : ℕ) → Belongs (part l) p a i k → length (proj part A p) + a < e p) → (w : Event) → v ≡ w → Ready part (A ++ l ∷ B) e i w
      ready outs (Out n q) h = tt
      ready outs (Action n) h = tt
      ready outs (In n p) h =
          let g = own_out (part l) i p (H l p i) k n s.1 (s.2 ∙ ap (λ w. w ∷ s.1) h) in
          (out_waits p g.0 g.1).0 (outs p g.0 g.1)

      back : ((p a : ℕ) → Belongs (part l) p a i k → length (proj part A p) + a < e p) → Enabled part (A ++ l ∷ B) e (occ (length A) (spot i k))
      back outs = (l, v, ys, next, ready outs v refl)

module _ (part : ℕ → ℕ → List Event) (H : Paired part) (e : ℕ → ℕ) where
  -- the same of any occurrence that is next
  abbrev Opens : ℕ → ℕ → List ℕ → ℕ → Type 0
  Opens i k P j = Consistent part P e → k < length (chart_at part P j i) → e i ≡ pos part P (occ j (spot i k))
      → Enabled part P e (occ j (spot i k)) ↔ ((p a : ℕ) → Belongs (chart_at part P j) p a i k → pos part P (occ j (spot p a)) < e p)

  opens_mid : (i k : ℕ) (A : List ℕ) (l : ℕ) (B : List ℕ) → Opens i k (A ++ l ∷ B) (length A)
  opens_mid i k A l B K = rw (fun_ext (chart_mid part A l B), take-append_seam) (λ k_in at_k. enabled_mid part H e A l B K i k k_in at_k)

  pub opens : (i k : ℕ) (P : List ℕ) (j : ℕ) → Opens i k P j
  opens i k P j K k_in = let r = split part P j i k k_in in go r.0 r.1 r.2 r.3 r.4 K k_in
    where
      go : (A : List ℕ) (l : ℕ) (B : List ℕ) → P ≡ A ++ l ∷ B → j ≡ length A → Opens i k P j
      go A l B q w = rw (q, w) (opens_mid i k A l B)

module _ (part : ℕ → ℕ → List Event) (H : Paired part) (G : Listed part) (e : ℕ → ℕ) where
  -- an event of the chart behind the places A is done
  Passed : List ℕ → Occ → Type 0
  Passed A (occ j (spot i k)) = length (proj part A i) + k < e i

  passed? : (A : List ℕ) (x : Occ) → Dec (Passed A x)
  unfolding Passed
  passed? A (occ j (spot i k)) = dec_lt _ _

  -- the first event not done of the first place not done
  here : (A : List ℕ) (l : ℕ) (B : List ℕ) → Consistent part (A ++ l ∷ B) e → ((i : ℕ) → length (proj part A i) ≤ e i)
      → (x : Occ) → IsOcc part (l ∷ []) x → (Passed A x → ⊥) → ((y : Occ) → Before part (l ∷ []) y x → Passed A y) → (x : Occ) × Enabled part (A ++ l ∷ B) e x
  unfolding Passed
  here A l B K past (occ (suc j) (spot i k)) k_in not_yet before = absurd (let z : ⊥ = omega arith in z)
  here A l B K past (occ zero (spot i k)) k_in not_yet before = (
    occ (length A) (spot i k),
    (enabled_mid part H e A l B K i k k_in (at_k k refl)).1
        (λ p a b. before (occ 0 (spot p a)) (link (drop_lt a (part l p) _ _ b.4, inr (refl, inr b)))),
  )
    where
      at_k : (n : ℕ) → n ≡ k → e i ≡ length (proj part A i) + k
      at_k zero h = omega (arith, past i)
      at_k (suc n) h = omega (arith, before (occ 0 (spot i n)) (link (omega arith, inr (refl, inl (refl, omega arith)))))

  all_past : (A : List ℕ) (l : ℕ) → ((i : ℕ) → length (proj part A i) ≤ e i) → ((x : Occ) → Mem x (G l).0 → Passed A x) → (i : ℕ) → length (proj part (A ++ l ∷ []) i) ≤ e i
  unfolding Passed
  all_past A l past all i = rw (proj_snoc part A l i, length-append, placed-length) (go (length (part l i)) refl)
    where
      go : (n : ℕ) → n ≡ length (part l i) → length (proj part A i) + n ≤ e i
      go zero h = omega (arith, past i)
      go (suc n) h = omega (arith, all (occ 0 (spot i n)) ((G l).1.complete (occ 0 (spot i n)) (omega arith)))

  progress_from : (Q A : List ℕ) → Consistent part (A ++ Q) e → ((i : ℕ) → length (proj part A i) ≤ e i) → (i : ℕ) → e i < length (proj part (A ++ Q) i) → (x : Occ) × Enabled part (A ++ Q) e x
  progress_from [] A K past i h = absurd (let z : ⊥ = omega (arith, past i, ap (λ r. length (proj part r i)) (append-nil A)) in z)
  progress_from (l ∷ B) A K past i h = ⊎_elim
      (λ all. rw (← append_snoc A l B) (progress_from B (A ++ l ∷ []) (rw (← append_snoc A l B) at K) (all_past A l past all) i (rw (← append_snoc A l B) at h)))
      (λ r. here A l B K past r.0 ((G l).1.real r.0 r.1) r.2 r.3)
      (first_not (Before part (l ∷ [])) (Passed A) (passed? A) [] (G l).0 (G l).1.order (λ x m. absurd m))

  pub progress : (P : List ℕ) → Consistent part P e → (i : ℕ) → e i < length (proj part P i) → (x : Occ) × Enabled part P e x
  progress P K = progress_from P [] K (λ i. omega arith)
