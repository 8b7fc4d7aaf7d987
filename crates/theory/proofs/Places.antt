-- Places begin in order, each with its leader's first event.
use Rattle.std.proofs.Common.{◌≡◌, ℕ, zero, suc, ◌<◌, ◌≤◌, ◌⊎◌, ◌↔◌, List, [], ◌∷◌, ◌++◌, length, drop, Some, sym, refl, ap, ◌∙◌, subst, inl, inr, ⊎_elim, append_assoc, arith, length-append}
use native.Mathlib.Decide.{ℕ_discrete}
use Rattle.std.proofs.lemmas.Bool.{cases_order}
use Rattle.msc.specs.Choice.{IsNode, Path, Reached}
use Rattle.msc.specs.Events.{out_to, in_from, picked}
use Rattle.msc.specs.Listing.{Mem, After, Chain, link, chain}
use Rattle.msc.specs.Meaning.{Meaning, start, part}
use Rattle.msc.specs.Order.{Spot, spot, Occ, occ, inst, chart_at, IsOcc, Direct, Before, First, Begins}
use Rattle.msc.specs.declared.event.Event.{Event}
use Rattle.msc.specs.declared.event.Event.TheVariants.{Out, In, Action}
use Rattle.theory.specs.Cuts.{place, NotIn, BeginsFree, BegunPlace}
use Rattle.theory.specs.Given.{Given, LeadsNode}
use Rattle.theory.proofs.Listings.{mem_left, mem_right, after_mid}
use Rattle.theory.proofs.Lists.{drop-has, drop_lt}
use Rattle.theory.proofs.Paths.{last_of, path_back, reached_mid, node_mid, part_is}
use Rattle.theory.proofs.Progress.{own_out}
use Rattle.theory.proofs.Projections.{split, chart_mid}

-- the last link of a chain
last_link : {A : Type 0} (R : A → A → Type 0) (y x : A) → Chain R y x → (z : A) × R z x
last_link R y x (link r) = (y, r)
last_link R y x (chain {y = z} a b) = last_link R z x b

not_both : (v : Event) (n p : ℕ) → NotIn v → v ≡ In n p → ⊥
not_both v n p f h = subst NotIn h f

-- an event is no in, or an in
in_or_not : (v : Event) → NotIn v ⊎ ((n : ℕ) × (p : ℕ) × (v ≡ In n p))
in_or_not (Out n q) = inl tt
in_or_not (In n p) = inr (n, p, refl)
in_or_not (Action n) = inl tt

module _ (part : ℕ → ℕ → List Event) where
  -- an event that stands first in its part, and is no in, has none before it
  pub free_first : (c i : ℕ) → BeginsFree (part c i) → First part (c ∷ []) (occ 0 (spot i 0))
  free_first c i (v, vs, h, f) = (omega (arith, ap length h), λ y b. let r = last_link (Direct part (c ∷ [])) y (occ 0 (spot i 0)) b in direct r.0 r.1)
    where
      direct : (z : Occ) → Direct part (c ∷ []) z (occ 0 (spot i 0)) → ⊥
      direct (occ j (spot q b)) (r, inl (s, k)) = omega arith
      direct (occ j (spot q b)) (r, inr (s, inl (s', k))) = omega arith
      direct (occ zero (spot q b)) (r, inr (s, inr (n, n', xs, ys, dx, dy, e))) = let z : v ∷ vs ≡ In n' q ∷ ys = sym h ∙ dy in not_both v n' q f (cc)
      direct (occ (suc j) (spot q b)) (r, inr (s, inr g)) = omega arith

  -- and the other way round: an event with none before it stands first in its part, and is no in, for the out that belongs to an in is before it
  pub first_free : (c : ℕ) → ((p q : ℕ) → picked (out_to q) (part c p) ≡ picked (in_from p) (part c q)) → (x : Occ) → First part (c ∷ []) x → BeginsFree (part c (inst x))
  first_free c H (occ (suc j) (spot i k)) (r, none) = absurd (let z : ⊥ = omega arith in z)
  first_free c H (occ zero (spot i (suc k))) (r, none) = absurd (none (occ 0 (spot i 0)) (link (omega arith, inr (refl, inl (refl, omega arith)))))
  first_free c H (occ zero (spot i zero)) (r, none) = go (part c i) refl r
    where
      go : (es : List Event) → part c i ≡ es → 0 < length es → BeginsFree es
      go [] h l = absurd (let z : ⊥ = omega arith in z)
      go (v ∷ vs) h l = ⊎_elim (λ f. (v, vs, refl, f))
          (λ g. let o = own_out (part c) i g.1 (H g.1 i) 0 g.0 vs (h ∙ ap (λ z. z ∷ vs) g.2) in
          absurd (none (occ 0 (spot g.1 o.0)) (link (drop_lt o.0 (part c g.1) _ _ o.1.4, inr (refl, inr o.1)))))
          (in_or_not v)

  -- an event with none before it is the first of its part
  pub first_shape : (c : ℕ) (x : Occ) → First part (c ∷ []) x → x ≡ occ 0 (spot (inst x) 0)
  first_shape c (occ (suc j) (spot i k)) (r, none) = absurd (let z : ⊥ = omega arith in z)
  first_shape c (occ zero (spot i (suc k))) (r, none) = absurd (none (occ 0 (spot i 0)) (link (omega arith, inr (refl, inl (refl, omega arith)))))
  first_shape c (occ zero (spot i zero)) (r, none) = refl

-- the first element of a list of which D holds
first_with : {A : Type 0} (D : A → Type 0) → ((x : A) → Dec (D x)) → (L : List A) (x : A) → Mem x L → D x
    → (ys : List A) × (y : A) × (zs : List A) × (L ≡ ys ++ y ∷ zs) × D y × ((z : A) → Mem z ys → D z → ⊥)
first_with D dec [] x h d = absurd h
first_with D dec (w ∷ L) x h d = go (dec w) h (λ k. first_with D dec L x k d)
  where
    go : Dec (D w) → Mem x (w ∷ L) → (Mem x L → (ys : List _) × (y : _) × (zs : List _) × (L ≡ ys ++ y ∷ zs) × D y × ((z : _) → Mem z ys → D z → ⊥))
        → (ys : List _) × (y : _) × (zs : List _) × (w ∷ L ≡ ys ++ y ∷ zs) × D y × ((z : _) → Mem z ys → D z → ⊥)
    go (yes p) k ih = ([], w, L, refl, p, λ z n. absurd n)
    go (no p) (inl e) ih = absurd (p (subst D e d))
    go (no p) (inr k) ih = let r = ih k in (w ∷ r.0, r.1, r.2, ap (λ z. w ∷ z) r.3, r.4, λ z. ⊎_elim (λ e q. p (subst D e q)) (r.5 z))

module _ (m : Meaning) (G : Given m) where
  -- who leads a node is who begins its chart with no in
  pub leads_free : (l i : ℕ) → LeadsNode m l i ↔ (IsNode m l × BeginsFree (part m l i))
  leads_free l i = (there, back)
    where
      there : LeadsNode m l i → IsNode m l × BeginsFree (part m l i)
      there (c, h, (x, f, s)) = (
        (c, h),
        subst BeginsFree (ap (m.drawn c) s ∙ sym (part_is m l c h i)) (first_free m.drawn c
            (λ p q. rw (← part_is m l c h p, ← part_is m l c h q) (G.paired l p q)) x f),
      )

      back : IsNode m l × BeginsFree (part m l i) → LeadsNode m l i
      back ((c, h), b) = (c, h, (occ 0 (spot i 0), free_first m.drawn c i (subst BeginsFree (part_is m l c h i) b), refl))

  -- a reached node has one leader
  pub one_leads : (l : ℕ) → Reached m l → (i j : ℕ) → LeadsNode m l i → LeadsNode m l j → i ≡ j
  one_leads l r i j (c, h, (x, f, s)) (d, k, (y, g, t)) =
      let (o, of, only) = G.one_first l c r h in
      let d_is : Some d ≡ Some c = sym k ∙ h in
      let same : d ≡ c = cc in
      sym s ∙ ap inst (only x f ∙ sym (only y (subst (λ z. First m.drawn (z ∷ []) y) same g))) ∙ t

  pub has_leader : (l : ℕ) → Reached m l → IsNode m l → (i : ℕ) × LeadsNode m l i
  has_leader l r (c, h) = let (o, of, only) = G.one_first l c r h in (inst o, (c, h, (o, of, refl)))

  -- the leader of a place takes part in the place ahead
  pub leader_ahead : (C : List ℕ) (a l : ℕ) (B : List ℕ) → Path m (C ++ a ∷ l ∷ B) → (i : ℕ) → LeadsNode m l i → 0 < length (part m a i)
  leader_ahead C a l B v i (c, h, lead) =
      let back = path_back m start C (a ∷ l ∷ B) v in
      G.takes_part a (reached_mid m C a (l ∷ B) v) back.1 i (l, c, back.2.0, h, lead)

  module _ (P : List ℕ) (V : Path m P) (xs : List Occ) (W : Begins (part m) P xs) where
    -- what is directly before an event of xs stands ahead of it in xs
    ahead_of : (ys : List Occ) (x : Occ) (zs : List Occ) → xs ≡ ys ++ x ∷ zs → (y : Occ) → Direct (part m) P y x → Mem y ys
    ahead_of ys x zs h y d =
        let all : xs ++ W.0 ≡ ys ++ x ∷ (zs ++ W.0) = ap (λ z. z ++ W.0) h ∙ append_assoc ys (x ∷ zs) W.0 in
        ⊎_elim (λ (k : Mem y ys). k) (λ k. absurd k) (after_mid (Before (part m) P) [] ys x (zs ++ W.0) (subst (After (Before (part m) P) []) all W.1.order) y (link d))

    real_of : (ys : List Occ) (x : Occ) (zs : List Occ) → xs ≡ ys ++ x ∷ zs → IsOcc (part m) P x
    real_of ys x zs h = W.1.real x (mem_left x xs W.0 (subst (Mem x) (sym h) (mem_right x ys (x ∷ zs) (inl refl))))

    -- The first event of its place: nothing before it is at that place, so it stands first in its part, and is no in.
    pub first_at : (A : List ℕ) (l : ℕ) (B : List ℕ) → P ≡ A ++ l ∷ B → (ys : List Occ) (i k : ℕ) (zs : List Occ) → xs ≡ ys ++ occ (length A) (spot i k) ∷ zs
        → (BegunPlace (length A) ys → ⊥) → (k ≡ 0) × LeadsNode m l i
    first_at A l B p_is ys i k zs x_is none = (k_is, (leads_free l i).1 (node_mid m A l B (subst (Path m) p_is V), free d.0 d.1 d.2 (in_or_not d.0)))
      where
        chart : (q : ℕ) → chart_at (part m) P (length A) q ≡ part m l q
        chart q = ap (λ z. chart_at (part m) z (length A) q) p_is ∙ chart_mid (part m) A l B q

        real : k < length (chart_at (part m) P (length A) i)
        real = real_of ys (occ (length A) (spot i k)) zs x_is

        before : (y : Occ) → Direct (part m) P y (occ (length A) (spot i k)) → Mem y ys
        before = ahead_of ys (occ (length A) (spot i k)) zs x_is

        d : (v : Event) × (vs : List Event) × (drop k (chart_at (part m) P (length A) i) ≡ v ∷ vs)
        d = drop-has k (chart_at (part m) P (length A) i) real

        k_zero : (n : ℕ) → n ≡ k → k ≡ 0
        k_zero zero h = sym h
        k_zero (suc n) h = absurd (none (spot i 0, before (occ (length A) (spot i 0)) (omega (arith, real), inr (refl, inl (refl, omega arith)))))

        k_is : k ≡ 0
        k_is = k_zero k refl

        free : (v : Event) (vs : List Event) → drop k (chart_at (part m) P (length A) i) ≡ v ∷ vs → NotIn v ⊎ ((n : ℕ) × (p : ℕ) × (v ≡ In n p)) → BeginsFree (part m l i)
        free v vs h (inl f) = (v, vs, sym (chart i) ∙ sym (ap (λ z. drop z (chart_at (part m) P (length A) i)) k_is) ∙ h, f)
        free v vs h (inr (n, p, v_is)) =
            let o = own_out (chart_at (part m) P (length A)) i p (rw (chart p, chart i) (G.paired l p i)) k n vs (h ∙ ap (λ z. z ∷ vs) v_is) in
            absurd (none (spot p o.0, before (occ (length A) (spot p o.0)) (drop_lt o.0 (chart_at (part m) P (length A) p) _ _ o.1.4, inr (refl, inr o.1))))

    -- where a place is begun, so is the one ahead: its leader has been there
    begun-ahead : (C : List ℕ) (a l : ℕ) (B : List ℕ) → P ≡ C ++ a ∷ l ∷ B → (s : Spot) → Mem (occ (suc (length C)) s) xs → BegunPlace (length C) xs
    begun-ahead C a l B p_is s h = go (first_with (λ x. place x ≡ suc (length C)) (λ x. ℕ_discrete (place x) (suc (length C))) xs (occ (suc (length C)) s) h refl)
      where
        go : (ys : List Occ) × (y : Occ) × (zs : List Occ) × (xs ≡ ys ++ y ∷ zs) × (place y ≡ suc (length C)) × ((z : Occ) → Mem z ys → place z ≡ suc (length C) → ⊥) → BegunPlace (length C) xs
        go (ys, occ j (spot i k), zs, x_is, j_is, none) =
            let A_size : length (C ++ a ∷ []) ≡ suc (length C) = length-append C (a ∷ []) ∙ omega arith in
            let p_is' : P ≡ (C ++ a ∷ []) ++ l ∷ B = p_is ∙ sym (append_assoc C (a ∷ []) (l ∷ B)) in
            let f = first_at (C ++ a ∷ []) l B p_is' ys i k zs (x_is ∙ ap (λ z. ys ++ occ z (spot i k) ∷ zs) (j_is ∙ sym A_size)) (λ (t, w). none (occ (length (C ++ a ∷ [])) t) w A_size) in
            let took : 0 < length (part m a i) = leader_ahead C a l B (subst (Path m) p_is V) i f.1 in
            let there : 0 < length (chart_at (part m) P (length C) i) = omega (arith, ap length (ap (λ z. chart_at (part m) z (length C) i) p_is ∙ chart_mid (part m) C a (l ∷ B) i)) in
            (spot i 0, subst (Mem (occ (length C) (spot i 0))) (sym x_is) (mem_left _ ys (occ j (spot i k) ∷ zs) (ahead_of ys (occ j (spot i k)) zs x_is (occ (length C) (spot i 0)) (there, inl (refl, omega (arith, j_is))))))

    begun_before : (j : ℕ) → BegunPlace (suc j) xs → BegunPlace j xs
    begun_before j (spot i k, h) = go (split (part m) P (suc j) i k (W.1.real _ (mem_left _ xs W.0 h)))
      where
        go : (A : List ℕ) × (l : ℕ) × (B : List ℕ) × (P ≡ A ++ l ∷ B) × (suc j ≡ length A) → BegunPlace j xs
        go (A, l, B, p_is, j_is) = ⊎_elim
            (λ e. absurd (let z : ⊥ = omega (arith, ap length e) in z))
            (λ r. let C = r.0 in let a = r.1 in
            let size : length C ≡ j = omega (arith, j_is, ap length r.2, length-append C (a ∷ [])) in
            subst (λ z. BegunPlace z xs) size (begun-ahead C a l B (p_is ∙ ap (λ z. z ++ l ∷ B) r.2 ∙ append_assoc C (a ∷ []) (l ∷ B)) (spot i k) (subst (λ z. Mem (occ (suc z) (spot i k)) xs) (sym size) h)))
            (last_of A)

    -- begun places are a first portion of the path
    pub begun_front : (j k : ℕ) → k ≤ j → BegunPlace j xs → BegunPlace k xs
    begun_front zero k h b = subst (λ z. BegunPlace z xs) (let e : 0 ≡ k = omega arith in e) b
    begun_front (suc j) k h b = ⊎_elim
        (λ (e : k ≡ suc j). subst (λ z. BegunPlace z xs) (sym e) b)
        (⊎_elim (λ (l : k < suc j). begun_front j k (omega arith) (begun_before j b)) (λ (l : suc j < k). absurd (let z : ⊥ = omega arith in z)))
        (cases_order k (suc j))
