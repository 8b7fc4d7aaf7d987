-- Own letters: a waiting head is the letter of the out that belongs to the receiver's next in.
use Rattle.std.proofs.Common.{◌≡◌, ℕ, zero, suc, ◌+◌, ◌<◌, ◌≤◌, Bool, true, false, cond, eqb, List, [], ◌∷◌, ◌++◌, map, length, take, drop, sym, refl, ap, ◌∙◌, subst, append_assoc, append-nil, arith, length-append, take-append-drop, eqb-true}
use lib.Seq.{drop-append_seam, take-append_seam}
use Rattle.std.specs.List.{flat_map}
use Rattle.msc.specs.Events.{out_to, in_from, picked}
use Rattle.msc.specs.Listing.{Mem}
use Rattle.msc.specs.Order.{Spot, spot, Occ, occ, inst, chart_at, IsOcc}
use Rattle.msc.specs.declared.event.Event.{Event}
use Rattle.msc.specs.declared.event.Event.TheVariants.{Out, In, Action}
use Rattle.theory.specs.Cuts.{done, ahead, Consistent, waiting, Own}
use Rattle.theory.specs.Given.{Paired}
use Rattle.theory.specs.Letters.{Tag, tag, tags, outs_to, ins_from, Letter, header_of, letter_of, posted, letters_to}
use Rattle.theory.specs.Projection.{Placed, at, placed, proj_from, proj, pos}
use Rattle.theory.proofs.Listings.{split_at, joined_same}
use Rattle.std.proofs.lemmas.List.{length-take}
use Rattle.std.proofs.lemmas.Grind.{flat_map-append}
use Rattle.theory.proofs.Projections.{find, split, chart_mid, stands_mid, counted, outs-ins}
use Rattle.theory.proofs.Queues.{queue_law, out_picked}

-- the event of the first message in from p
abbrev FirstIn : ℕ → List Placed → ℕ → ℕ → ℕ → Type 0
FirstIn p zs j l n = (xs : List Placed) × (s : Spot) × (ys : List Placed) × (zs ≡ xs ++ at (occ j s) l (In n p) ∷ ys) × (ins_from p xs ≡ [])

later_in : (p : ℕ) (x : Placed) (zs : List Placed) (j l n : ℕ) → tags (in_from p) x ≡ [] → FirstIn p zs j l n → FirstIn p (x ∷ zs) j l n
later_in p x zs j l n h r = (x ∷ r.0, r.1, r.2, ap (λ z. x ∷ z) r.3, rw (h, r.4))

first_in : (p : ℕ) (zs : List Placed) (j l n : ℕ) (u : List Tag) → ins_from p zs ≡ tag j l n ∷ u → FirstIn p zs j l n
first_in p [] j l n u h = cc
first_in p (at (occ j' s) l' (Out m t) ∷ zs) j l n u h = later_in p (at (occ j' s) l' (Out m t)) zs j l n refl (first_in p zs j l n u h)
first_in p (at (occ j' s) l' (Action m) ∷ zs) j l n u h = later_in p (at (occ j' s) l' (Action m)) zs j l n refl (first_in p zs j l n u h)
first_in p (at (occ j' s) l' (In m t) ∷ zs) j l n u h = go (eqb t p) refl h (first_in p zs j l n u)
  where
    go : (b : Bool) → eqb t p ≡ b → map (tag j' l') (cond b (m ∷ []) []) ++ ins_from p zs ≡ tag j l n ∷ u → (ins_from p zs ≡ tag j l n ∷ u → FirstIn p zs j l n) → FirstIn p (at (occ j' s) l' (In m t) ∷ zs) j l n
    go true e k ih =
        let t_is : t ≡ p = eqb-true t p e in
        let j_is : j' ≡ j = cc in
        let l_is : l' ≡ l = cc in
        let m_is : m ≡ n = cc in
        ([], s, zs, cc, refl)
    go false e k ih = later_in p (at (occ j' s) l' (In m t)) zs j l n (rw e) (ih k)

module _ (part : ℕ → ℕ → List Event) (P : List ℕ) where
  -- how many messages f picks ahead of an occurrence: those of earlier places, and those ahead of it in its chart
  counted_at : (f : Event → List ℕ) (j i k : ℕ) → k < length (chart_at part P j i)
      → length (flat_map (tags f) (take (pos part P (occ j (spot i k))) (proj part P i))) ≡ length (flat_map (tags f) (proj part (take j P) i)) + length (picked f (take k (chart_at part P j i)))
  counted_at f j i k h = let r = split part P j i k h in go r.0 r.1 r.2 r.3 r.4
    where
      go : (A : List ℕ) (l : ℕ) (B : List ℕ) → P ≡ A ++ l ∷ B → j ≡ length A
          → length (flat_map (tags f) (take (pos part P (occ j (spot i k))) (proj part P i))) ≡ length (flat_map (tags f) (proj part (take j P) i)) + length (picked f (take k (chart_at part P j i)))
      go A l B q w =
          let chart : chart_at part P j i ≡ part l i = ap (λ z. chart_at part z j i) q ∙ ap (λ z. chart_at part (A ++ l ∷ B) z i) w ∙ chart_mid part A l B i in
          let k_le : k ≤ length (part l i) = omega (arith, ap length chart) in
          let front : take j P ≡ A = ap (λ z. take z P) w ∙ ap (take (length A)) q ∙ take-append_seam A (l ∷ B) in
          rw (front, chart, ← counted part f A l B i k k_le, q)

  -- where what stands in the middle of a projection stands on the path
  pub record Stands (i : ℕ) (us : List Placed) (x : Occ) (l : ℕ) (v : Event) : Type 0 where
    pub place : ℕ
    pub number : ℕ
    pub is : x ≡ occ place (spot i number)
    pub real : number < length (chart_at part P place i)
    pub size : length us ≡ pos part P (occ place (spot i number))
    pub behind : List Event
    pub event : drop number (chart_at part P place i) ≡ v ∷ behind

  -- the number of events ahead of it is the position of an occurrence, and what stands at that position is the occurrence with its event
  pub placed_mid : (i : ℕ) (us : List Placed) (x : Occ) (l : ℕ) (v : Event) (ws : List Placed) → proj part P i ≡ us ++ at x l v ∷ ws → Stands i us x l v
  placed_mid i us x l v ws h = at_split (split part P f.0 i f.1 f.2)
    where
      size_lt : length us < length (proj part P i)
      size_lt = omega (arith, ap length h, length-append us (at x l v ∷ ws))

      f : (j : ℕ) × (k : ℕ) × (k < length (chart_at part P j i)) × (length (proj part (take j P) i) + k ≡ length us)
      f = find part 0 P i (length us) size_lt

      here : drop (length us) (proj part P i) ≡ at x l v ∷ ws
      here = ap (drop (length us)) h ∙ drop-append_seam us (at x l v ∷ ws)

      at_split : (A : List ℕ) × (l' : ℕ) × (B : List ℕ) × (P ≡ A ++ l' ∷ B) × (f.0 ≡ length A) → Stands i us x l v
      at_split (A, l', B, q, w) = record { place = f.0; number = f.1; is = x_is; real = f.2; size = sym f.3; behind = s.1; event = ap (drop f.1) chart ∙ s.2 ∙ ap (λ z. z ∷ s.1) v_is }
        where
          chart : chart_at part P f.0 i ≡ part l' i
          chart = ap (λ z. chart_at part z f.0 i) q ∙ ap (λ z. chart_at part (A ++ l' ∷ B) z i) w ∙ chart_mid part A l' B i

          front : take f.0 P ≡ A
          front = ap (λ z. take z P) w ∙ ap (take (length A)) q ∙ take-append_seam A (l' ∷ B)

          rest : List Event → List Placed
          rest vs = placed (length A) l' i (suc f.1) vs ++ proj_from part (suc (length A)) B i

          s : (v' : Event) × (vs : List Event) × (drop f.1 (part l' i) ≡ v' ∷ vs) × (drop (length (proj part A i) + f.1) (proj part P i) ≡ at (occ (length A) (spot i f.1)) l' v' ∷ rest vs)
          s = stands_mid part P A l' B i f.1 q (omega (arith, f.2, ap length chart))

          both : at (occ (length A) (spot i f.1)) l' s.0 ∷ rest s.1 ≡ at x l v ∷ ws
          both = sym s.3 ∙ ap (λ z. drop z (proj part P i)) (ap (λ z. length (proj part z i) + f.1) (sym front) ∙ f.3) ∙ here

          x_is : x ≡ occ f.0 (spot i f.1)
          x_is = let b = both in let a : x ≡ occ (length A) (spot i f.1) = cc in a ∙ ap (λ z. occ z (spot i f.1)) (sym w)

          v_is : s.0 ≡ v
          v_is = let b = both in cc

  -- what waits depends on the freight of outs that are done, and on no other
  pub freight_done : {F : Type 0} (freight freight' : Occ → F) (e : ℕ → ℕ) → ((x : Occ) → IsOcc part P x → pos part P x < e (inst x) → freight x ≡ freight' x)
      → (p q : ℕ) → waiting part P freight e p q ≡ waiting part P freight' e p q
  freight_done {F} freight freight' e same p q = ap (drop (length (ins_from p (done part P e q)))) (joined_same (posted part P freight q) (posted part P freight' q) (done part P e p) each)
    where
      here : (x : Occ) (l : ℕ) (v : Event) → freight x ≡ freight' x → posted part P freight q (at x l v) ≡ posted part P freight' q (at x l v)
      here (occ j s) l v h = let made : F → ℕ → Letter F = λ f n. record { header = header_of part P (tag j l n); freight = f } in ap (λ (f : F). map (made f) (out_to q v)) h

      each : (y : Placed) → Mem y (done part P e p) → posted part P freight q y ≡ posted part P freight' q y
      each (at x l v) h = go (split_at (at x l v) (done part P e p) h)
        where
          go : (us : List Placed) × (ws : List Placed) × (done part P e p ≡ us ++ at x l v ∷ ws) → posted part P freight q (at x l v) ≡ posted part P freight' q (at x l v)
          go (us, ws, d) =
              let S = placed_mid p us x l v (ws ++ ahead part P e p) (sym (take-append-drop (e p) (proj part P p)) ∙ ap (λ z. z ++ ahead part P e p) d ∙ append_assoc us (at x l v ∷ ws) (ahead part P e p)) in
              let few : length us < e p = omega (arith, ap length d, length-append us (at x l v ∷ ws), length-take (e p) (proj part P p)) in
              here x l v (subst (λ z. freight z ≡ freight' z) (sym S.is) (same (occ S.place (spot p S.number)) S.real (omega (arith, S.size))))

  module _ {F : Type 0} (freight : Occ → F) where
    -- the out of a letter that has c letters ahead of it
    abbrev Sent : ℕ → List Placed → ℕ → Letter F → Type 0
    Sent q zs c t = (us : List Placed) × (j : ℕ) × (s : Spot) × (l : ℕ) × (n : ℕ) × (ws : List Placed)
        × (zs ≡ us ++ at (occ j s) l (Out n q) ∷ ws) × (length (outs_to q us) ≡ c) × (t ≡ letter_of part P freight (occ j s) l n)

    later_out : (q : ℕ) (x : Placed) (zs : List Placed) (c : ℕ) (t : Letter F) → tags (out_to q) x ≡ [] → Sent q zs c t → Sent q (x ∷ zs) c t
    later_out q x zs c t h r = (x ∷ r.0, r.1, r.2, r.3, r.4, r.5, ap (λ z. x ∷ z) r.6, rw (h, r.7), r.8)

    nth_letter : (q : ℕ) (zs : List Placed) (c : ℕ) (t : Letter F) (ts : List (Letter F)) → drop c (letters_to part P freight q zs) ≡ t ∷ ts → Sent q zs c t
    nth_letter q [] zero t ts h = cc
    nth_letter q [] (suc c) t ts h = cc
    nth_letter q (at (occ j s) l (In m p) ∷ zs) c t ts h = later_out q (at (occ j s) l (In m p)) zs c t refl (nth_letter q zs c t ts h)
    nth_letter q (at (occ j s) l (Action m) ∷ zs) c t ts h = later_out q (at (occ j s) l (Action m)) zs c t refl (nth_letter q zs c t ts h)
    nth_letter q (at (occ j s) l (Out m r) ∷ zs) c t ts h = go (eqb r q) refl c h (λ c' k. nth_letter q zs c' t ts k)
      where
        go : (b : Bool) → eqb r q ≡ b → (c : ℕ) → drop c (map (letter_of part P freight (occ j s) l) (cond b (m ∷ []) []) ++ letters_to part P freight q zs) ≡ t ∷ ts
            → ((c' : ℕ) → drop c' (letters_to part P freight q zs) ≡ t ∷ ts → Sent q zs c' t) → Sent q (at (occ j s) l (Out m r) ∷ zs) c t
        go true e zero k ih =
            let r_is : r ≡ q = eqb-true r q e in
            let t_is : letter_of part P freight (occ j s) l m ≡ t = cc in
            ([], j, s, l, m, zs, ap (λ z. at (occ j s) l (Out m z) ∷ zs) r_is, refl, sym t_is)
        go true e (suc c) k ih = let w = ih c k in
            (at (occ j s) l (Out m r) ∷ w.0, w.1, w.2, w.3, w.4, w.5, ap (λ z. at (occ j s) l (Out m r) ∷ z) w.6, rw e (ap suc w.7), w.8)
        go false e c k ih = later_out q (at (occ j s) l (Out m r)) zs c t (rw e) (ih c k)

    -- The letter's out has as many outs to q ahead of it as ins from p are done at q, and so many are ahead of q's next in from p:
    -- by the law of queues both stand at the same place, and less the messages of earlier places, which match, as many are ahead of each in that chart.
    pub own : Paired part → (e : ℕ → ℕ) → Consistent part P e → (p q : ℕ) (t : Letter F) (ts : List (Letter F)) → waiting part P freight e p q ≡ t ∷ ts → Own part P freight e p q t
    own H e K p q t ts w = with_out (nth_letter q (done part P e p) (length (ins_from p (done part P e q))) t ts w)
      where
        c : ℕ
        c = length (ins_from p (done part P e q))

        with_out : Sent q (done part P e p) c t → Own part P freight e p q t
        with_out (us, j, s, l, n, ws, d, u_size, t_is) = with_in (first_in p (ahead part P e q) j l n _ law)
          where
            law : ins_from p (ahead part P e q) ≡ tag j l n ∷ (outs_to q ws ++ outs_to q (ahead part P e p))
            law = sym (queue_law part H P e K p q) ∙ ap (λ z. z ++ outs_to q (ahead part P e p))
                (ap (drop c) (ap (outs_to q) d ∙ flat_map-append (tags (out_to q)) us (at (occ j s) l (Out n q) ∷ ws) ∙ ap (λ z. outs_to q us ++ z) (out_picked q j s l n ws))
                ∙ ap (λ z. drop z (outs_to q us ++ tag j l n ∷ outs_to q ws)) (sym u_size) ∙ drop-append_seam (outs_to q us) (tag j l n ∷ outs_to q ws))

            whole_p : proj part P p ≡ us ++ at (occ j s) l (Out n q) ∷ (ws ++ ahead part P e p)
            whole_p = sym (take-append-drop (e p) (proj part P p)) ∙ ap (λ z. z ++ ahead part P e p) d ∙ append_assoc us (at (occ j s) l (Out n q) ∷ ws) (ahead part P e p)

            with_in : FirstIn p (ahead part P e q) j l n → Own part P freight e p q t
            with_in (xs, s', ys, d', quiet) = at_both (placed_mid p us (occ j s) l (Out n q) (ws ++ ahead part P e p) whole_p) (placed_mid q vs (occ j s') l (In n p) ys whole_q)
              where
                vs : List Placed
                vs = done part P e q ++ xs

                whole_q : proj part P q ≡ vs ++ at (occ j s') l (In n p) ∷ ys
                whole_q = sym (take-append-drop (e q) (proj part P q)) ∙ ap (λ z. done part P e q ++ z) d' ∙ sym (append_assoc (done part P e q) xs (at (occ j s') l (In n p) ∷ ys))

                v_size : length (ins_from p vs) ≡ c
                v_size = rw (flat_map-append (tags (in_from p)) (done part P e q) xs, quiet, append-nil)

                at_both : Stands p us (occ j s) l (Out n q) → Stands q vs (occ j s') l (In n p) → Own part P freight e p q t
                at_both O I = record {
                  place = J;
                  label = l;
                  name = n;
                  out = O.number;
                  into = I.number;
                  belongs = (n, n, O.behind, I.behind, O.event, rw J_is I.event, same);
                  next = (xs, ys, d' ∙ ap (λ z. xs ++ at z l (In n p) ∷ ys) (I.is ∙ ap (λ z. occ z (spot q I.number)) (sym J_is)), quiet);
                  is = t_is ∙ ap (λ z. letter_of part P freight z l n) O.is;
                }
                  where
                    J : ℕ
                    J = O.place

                    J_is : J ≡ I.place
                    J_is = let a = O.is in let b = I.is in cc

                    out_count_lem : length (outs_to q us) ≡ length (outs_to q (proj part (take J P) p)) + length (picked (out_to q) (take O.number (chart_at part P J p)))
                    out_count_lem = sym (ap (λ z. length (outs_to q z)) (ap (λ z. take z (proj part P p)) (sym O.size) ∙ ap (take (length us)) whole_p ∙ take-append_seam us (at (occ j s) l (Out n q) ∷ (ws ++ ahead part P e p)))) ∙ counted_at (out_to q) J p O.number O.real

                    in_count : length (ins_from p vs) ≡ length (ins_from p (proj part (take I.place P) q)) + length (picked (in_from p) (take I.number (chart_at part P I.place q)))
                    in_count = sym (ap (λ z. length (ins_from p z)) (ap (λ z. take z (proj part P q)) (sym I.size) ∙ ap (take (length vs)) whole_q ∙ take-append_seam vs (at (occ j s') l (In n p) ∷ ys))) ∙ counted_at (in_from p) I.place q I.number I.real

                    same : length (picked (out_to q) (take O.number (chart_at part P J p))) ≡ length (picked (in_from p) (take I.number (chart_at part P J q)))
                    same = let ic : length (ins_from p vs) ≡ length (ins_from p (proj part (take J P) q)) + length (picked (in_from p) (take I.number (chart_at part P J q))) = rw J_is in_count in
                        let oi : length (outs_to q (proj part (take J P) p)) ≡ length (ins_from p (proj part (take J P) q)) = ap length (outs-ins part H (take J P) p q) in
                        let a = u_size in let b = v_size in let oc = out_count_lem in omega arith
