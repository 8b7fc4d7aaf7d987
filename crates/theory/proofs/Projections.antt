-- Laws of projections: where an occurrence stands among the events of its instance.
use Rattle.std.proofs.Common.{◌≡◌, ℕ, zero, suc, ◌+◌, ◌-◌, ◌<◌, ◌≤◌, ◌⊎◌, List, [], ◌∷◌, ◌++◌, map, length, take, drop, sym, refl, ap, ◌∙◌, inl, inr, ⊎_elim, append_assoc, append-nil, add-zero, add-suc, suc-add, zero-add, arith, length-append}
use mathlib.Core.List.{map-append}
use lib.ListN.{length-map}
use lib.Seq.{drop-append-le, take-append-le, take-append-add, drop-append-add, take-append_seam}
use Rattle.std.proofs.lemmas.Bool.{cases_lt, cases_order}
use Rattle.std.specs.List.{flat_map}
use Rattle.msc.specs.Events.{picked}
use Rattle.msc.specs.Order.{spot, Occ, occ, inst, chart_at, IsOcc}
use Rattle.msc.specs.declared.event.Event.{Event}
use Rattle.theory.specs.Given.{Paired}
use Rattle.theory.specs.Letters.{tag, tags, outs_to, ins_from}
use Rattle.theory.specs.Projection.{Placed, at, placed, proj_from, proj, pos}
use Rattle.theory.proofs.Lists.{drop-has}
use Rattle.std.proofs.lemmas.Grind.{flat_map-append}

pub placed-length : (j l i k : ℕ) (es : List Event) → length (placed j l i k es) ≡ length es
placed-length j l i k [] = refl
placed-length j l i k (v ∷ es) = ap suc (placed-length j l i (suc k) es)

pub placed-sum : (j l i k : ℕ) (es : List Event) (xs : List Placed) → length (placed j l i k es ++ xs) ≡ length es + length xs
placed-sum j l i k es xs = rw (length-append, placed-length)

pub placed-take : (j l i k n : ℕ) (es : List Event) → take n (placed j l i k es) ≡ placed j l i k (take n es)
placed-take j l i k zero [] = refl
placed-take j l i k (suc n) [] = refl
placed-take j l i k zero (v ∷ es) = refl
placed-take j l i k (suc n) (v ∷ es) = ap (λ r. at (occ j (spot i k)) l v ∷ r) (placed-take j l i (suc k) n es)

pub placed-drop : (j l i k n : ℕ) (es : List Event) → drop n (placed j l i k es) ≡ placed j l i (k + n) (drop n es)
placed-drop j l i k zero [] = refl
placed-drop j l i k (suc n) [] = refl
placed-drop j l i k zero (v ∷ es) = rw add-zero
placed-drop j l i k (suc n) (v ∷ es) = placed-drop j l i (suc k) n es ∙ ap (λ r. placed j l i r (drop n es)) (omega arith)

pub tags-placed : (f : Event → List ℕ) (j l i k : ℕ) (es : List Event) → flat_map (tags f) (placed j l i k es) ≡ map (tag j l) (picked f es)
tags-placed f j l i k [] = refl
tags-placed f j l i k (v ∷ es) = rw (tags-placed f j l i (suc k) es) (sym (map-append (tag j l) (f v) (picked f es)))

module _ (part : ℕ → ℕ → List Event) where
  pub proj_from-++ : (j : ℕ) (P Q : List ℕ) (i : ℕ) → proj_from part j (P ++ Q) i ≡ proj_from part j P i ++ proj_from part (j + length P) Q i
  proj_from-++ j [] Q i = rw add-zero refl
  proj_from-++ j (l ∷ P) Q i = rw (proj_from-++ (suc j) P Q i, suc-add, ← add-suc) (sym (append_assoc (placed j l i 0 (part l i)) (proj_from part (suc j) P i) (proj_from part (j + suc (length P)) Q i)))

  pub proj_snoc : (P : List ℕ) (l i : ℕ) → proj part (P ++ l ∷ []) i ≡ proj part P i ++ placed (length P) l i 0 (part l i)
  proj_snoc P l i = proj_from-++ 0 P (l ∷ []) i ∙ simp (append-nil, zero-add)

  -- all messages out from p to q along a path are all messages in at q from p
  pub outs-ins_from : Paired part → (j : ℕ) (P : List ℕ) (p q : ℕ) → outs_to q (proj_from part j P p) ≡ ins_from p (proj_from part j P q)
  outs-ins_from h j [] p q = refl
  outs-ins_from h j (l ∷ P) p q = simp (flat_map-append, tags-placed, h l p q, outs-ins_from h (suc j) P p q)

  pub outs-ins : Paired part → (P : List ℕ) (p q : ℕ) → outs_to q (proj part P p) ≡ ins_from p (proj part P q)
  outs-ins h P p q = outs-ins_from h 0 P p q

  -- event number k of instance i at a place with label l, behind the places A
  pub parted : (A : List ℕ) (l : ℕ) (B : List ℕ) (i : ℕ) → proj part (A ++ l ∷ B) i ≡ proj part A i ++ (placed (length A) l i 0 (part l i) ++ proj_from part (suc (length A)) B i)
  parted A l B i = proj_from-++ 0 A (l ∷ B) i ∙ simp zero-add

  pub taken : (A : List ℕ) (l : ℕ) (B : List ℕ) (i k : ℕ) → k ≤ length (part l i) → take (length (proj part A i) + k) (proj part (A ++ l ∷ B) i) ≡ proj part A i ++ placed (length A) l i 0 (take k (part l i))
  taken A l B i k h =
      let s : k ≤ length (placed (length A) l i 0 (part l i)) = rw placed-length h in
      rw (parted A l B i, take-append-add, take-append-le k (placed (length A) l i 0 (part l i)) (proj_from part (suc (length A)) B i) s, placed-take)

  pub dropped : (A : List ℕ) (l : ℕ) (B : List ℕ) (i k : ℕ) → k ≤ length (part l i) → drop (length (proj part A i) + k) (proj part (A ++ l ∷ B) i) ≡ placed (length A) l i k (drop k (part l i)) ++ proj_from part (suc (length A)) B i
  dropped A l B i k h =
      let s : k ≤ length (placed (length A) l i 0 (part l i)) = rw placed-length h in
      rw (parted A l B i, drop-append-add, drop-append-le k (placed (length A) l i 0 (part l i)) (proj_from part (suc (length A)) B i) s, placed-drop, zero-add)

  -- how many messages f picks ahead of that event
  pub counted : (f : Event → List ℕ) (A : List ℕ) (l : ℕ) (B : List ℕ) (i k : ℕ) → k ≤ length (part l i)
      → length (flat_map (tags f) (take (length (proj part A i) + k) (proj part (A ++ l ∷ B) i))) ≡ length (flat_map (tags f) (proj part A i)) + length (picked f (take k (part l i)))
  counted f A l B i k h = rw (taken A l B i k h, flat_map-append, length-append, tags-placed, length-map)

  -- the events of a place come ahead of those of a later one
  pub mono : (m : ℕ) (P : List ℕ) (j j' i k : ℕ) → j < j' → k < length (chart_at part P j i) → length (proj_from part m (take j P) i) + k < length (proj_from part m (take j' P) i)
  mono m [] j j' i k h r = absurd (let z : ⊥ = omega arith in z)
  mono m (l ∷ P) zero zero i k h r = absurd (let z : ⊥ = omega arith in z)
  mono m (l ∷ P) (suc j) zero i k h r = absurd (let z : ⊥ = omega arith in z)
  mono m (l ∷ P) zero (suc j') i k h r = simp (length-append, placed-length) (omega arith)
  mono m (l ∷ P) (suc j) (suc j') i k h r = let s = mono (suc m) P j j' i k (omega arith) r in simp (length-append, placed-length) (omega arith)

  pub inside : (m : ℕ) (P : List ℕ) (j i k : ℕ) → k < length (chart_at part P j i) → length (proj_from part m (take j P) i) + k < length (proj_from part m P i)
  inside m [] j i k r = absurd (let z : ⊥ = omega arith in z)
  inside m (l ∷ P) zero i k r = simp (length-append, placed-length) (omega arith)
  inside m (l ∷ P) (suc j) i k r = let s = inside (suc m) P j i k r in simp (length-append, placed-length) (omega arith)

  -- each number below the length is an occurrence's
  pub find : (m : ℕ) (P : List ℕ) (i n : ℕ) → n < length (proj_from part m P i) → (j : ℕ) × (k : ℕ) × (k < length (chart_at part P j i)) × (length (proj_from part m (take j P) i) + k ≡ n)
  find m [] i n h = absurd (let z : ⊥ = omega arith in z)
  find m (l ∷ P) i n h = ⊎_elim
      (λ (a : n < length (part l i)). (0, n, a, omega arith))
      (λ (a : length (part l i) ≤ n). let r = find (suc m) P i (n - length (part l i)) (omega (arith, placed-sum m l i 0 (part l i) (proj_from part (suc m) P i))) in
      (suc r.0, r.1, r.2, omega (arith, r.3, placed-sum m l i 0 (part l i) (proj_from part (suc m) (take r.0 P) i))))
      (cases_lt n (length (part l i)))

  -- the label at a place
  pub split : (P : List ℕ) (j i k : ℕ) → k < length (chart_at part P j i) → (A : List ℕ) × (l : ℕ) × (B : List ℕ) × (P ≡ A ++ l ∷ B) × (j ≡ length A)
  split [] j i k h = absurd (let z : ⊥ = omega arith in z)
  split (l ∷ P) zero i k h = ([], l, P, refl, refl)
  split (l ∷ P) (suc j) i k h = let r = split P j i k h in (l ∷ r.0, r.1, r.2, ap (λ s. l ∷ s) r.3, ap suc r.4)

  pub chart_mid : (A : List ℕ) (l : ℕ) (B : List ℕ) (i : ℕ) → chart_at part (A ++ l ∷ B) (length A) i ≡ part l i
  chart_mid [] l B i = refl
  chart_mid (a ∷ A) l B i = chart_mid A l B i

  -- the order of positions is that of places and numbers
  module _ (P : List ℕ) where
    pub ordered : (j j' i k k' : ℕ) → k < length (chart_at part P j i) → k' < length (chart_at part P j' i) → pos part P (occ j (spot i k)) < pos part P (occ j' (spot i k'))
        → (j < j') ⊎ ((j ≡ j') × (k < k'))
    ordered j j' i k k' r r' h = ⊎_elim
        (λ (e : j ≡ j'). inr (e, omega (arith, ap (λ n. length (proj part (take n P) i)) e)))
        (⊎_elim (λ (a : j < j'). inl a) (λ (a : j' < j). absurd (let z : ⊥ = omega (arith, mono 0 P j' j i k' a r') in z)))
        (cases_order j j')

    pub same_pos : (x y : Occ) → IsOcc part P x → IsOcc part P y → inst x ≡ inst y → pos part P x ≡ pos part P y → x ≡ y
    same_pos (occ j (spot i k)) (occ j' (spot i' k')) r r' s h = ⊎_elim
        (λ (e : j ≡ j'). let f : k ≡ k' = omega (arith, ap (λ n. length (proj part (take n P) i)) e, ap (λ n. length (proj part (take j' P) n)) s) in cc)
        (⊎_elim (λ (a : j < j'). absurd (let z : ⊥ = omega (arith, mono 0 P j j' i k a r, ap (λ n. length (proj part (take j' P) n)) s) in z))
        (λ (a : j' < j). absurd (let z : ⊥ = omega (arith, mono 0 P j' j i' k' a r', ap (λ n. length (proj part (take j P) n)) s) in z)))
        (cases_order j j')

    -- where an occurrence stands in the projection, and that what stands there is it
    pub stands_mid : (A : List ℕ) (l : ℕ) (B : List ℕ) (i k : ℕ) → P ≡ A ++ l ∷ B → k < length (part l i)
        → (v : Event) × (ws : List Event) × (drop k (part l i) ≡ v ∷ ws)
        × (drop (length (proj part A i) + k) (proj part P i) ≡ at (occ (length A) (spot i k)) l v ∷ (placed (length A) l i (suc k) ws ++ proj_from part (suc (length A)) B i))
    stands_mid A l B i k p_is h =
        let d = drop-has k (part l i) h in
        let k_le : k ≤ length (part l i) = omega arith in
        (d.0, d.1, d.2, rw (p_is, dropped A l B i k k_le, d.2))

    pub stands : (x : Occ) → IsOcc part P x → (l : ℕ) × (v : Event) × (xs : List Placed) × (drop (pos part P x) (proj part P (inst x)) ≡ at x l v ∷ xs)
    stands (occ j (spot i k)) r = go (split P j i k r)
      where
        go : (A : List ℕ) × (l : ℕ) × (B : List ℕ) × (P ≡ A ++ l ∷ B) × (j ≡ length A) → (l : ℕ) × (v : Event) × (xs : List Placed) × (drop (pos part P (occ j (spot i k))) (proj part P i) ≡ at (occ j (spot i k)) l v ∷ xs)
        go (A, l, B, p_is, j_is) =
            let chart : chart_at part P j i ≡ part l i = ap (λ z. chart_at part z j i) p_is ∙ ap (λ z. chart_at part (A ++ l ∷ B) z i) j_is ∙ chart_mid A l B i in
            let front : take j P ≡ A = ap (λ z. take z P) j_is ∙ ap (take (length A)) p_is ∙ take-append_seam A (l ∷ B) in
            let s = stands_mid A l B i k p_is (omega (arith, ap length chart)) in
            made A l B j_is front s.0 s.1 s.3
          where
            made : (A : List ℕ) (l : ℕ) (B : List ℕ) → j ≡ length A → take j P ≡ A → (v : Event) (ws : List Event)
                → drop (length (proj part A i) + k) (proj part P i) ≡ at (occ (length A) (spot i k)) l v ∷ (placed (length A) l i (suc k) ws ++ proj_from part (suc (length A)) B i)
                → (l : ℕ) × (v : Event) × (xs : List Placed) × (drop (pos part P (occ j (spot i k))) (proj part P i) ≡ at (occ j (spot i k)) l v ∷ xs)
            made A l B w f v ws s = (l, v, placed (length A) l i (suc k) ws ++ proj_from part (suc (length A)) B i, rw (f, s, w))

    -- whatever stands at a number is an occurrence with that position
    pub stands_pos : (i n : ℕ) (x : Occ) (l : ℕ) (v : Event) (xs : List Placed) → drop n (proj part P i) ≡ at x l v ∷ xs → n < length (proj part P i)
        → IsOcc part P x × (inst x ≡ i) × (pos part P x ≡ n)
    stands_pos i n x l v xs h n_lt =
        let f = find 0 P i n n_lt in
        let s = stands (occ f.0 (spot i f.1)) f.2 in
        let both : at (occ f.0 (spot i f.1)) s.0 s.1 ∷ s.2 ≡ at x l v ∷ xs = sym s.3 ∙ ap (λ z. drop z (proj part P i)) f.3 ∙ h in
        let x_is : occ f.0 (spot i f.1) ≡ x = cc in
        rw (← x_is) (f.2, refl, f.3)
