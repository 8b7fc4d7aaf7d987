-- Laws of what waits at a cut.
use Rattle.std.proofs.Common.{◌≡◌, ℕ, suc, ◌+◌, ◌-◌, ◌<◌, ◌↔◌, List, [], ◌∷◌, ◌++◌, map, length, take, drop, sym, refl, ap, ◌∙◌, ⊎_elim, arith, length-append, length-drop, eq-eqb}
use mathlib.Core.List.{map-append}
use lib.ListN.{length-map}
use Rattle.std.proofs.lemmas.List.{drop-map}
use Rattle.std.proofs.lemmas.Bool.{cases_lt}
use Rattle.msc.specs.Events.{out_to, in_from}
use Rattle.msc.specs.Order.{Spot, Occ, occ}
use Rattle.msc.specs.declared.event.Event.{Event}
use Rattle.msc.specs.declared.event.Event.TheVariants.{Out, In}
use Rattle.theory.specs.Cuts.{done, ahead, Consistent, queue, waiting}
use Rattle.theory.specs.Given.{Paired}
use Rattle.theory.specs.Letters.{Tag, tag, tags, outs_to, ins_from, Letter, header_of, letter_of, letters_to}
use Rattle.theory.specs.Projection.{Placed, at, proj}
use Rattle.theory.proofs.Lists.{cut, joined_cut, joined_mono, take_next}
use Rattle.std.proofs.lemmas.Grind.{flat_map-append}
use Rattle.theory.proofs.Projections.{outs-ins}

pub in_picked : (p j : ℕ) (s : Spot) (l n : ℕ) (xs : List Placed) → ins_from p (at (occ j s) l (In n p) ∷ xs) ≡ tag j l n ∷ ins_from p xs
in_picked p j s l n xs = rw (eq-eqb p p refl)

pub out_picked : (q j : ℕ) (s : Spot) (l n : ℕ) (xs : List Placed) → outs_to q (at (occ j s) l (Out n q) ∷ xs) ≡ tag j l n ∷ outs_to q xs
out_picked q j s l n xs = rw (eq-eqb q q refl)

module _ (part : ℕ → ℕ → List Event) (H : Paired part) (P : List ℕ) (e : ℕ → ℕ) (K : Consistent part P e) where
  -- what waits, then what is still to be sent, is what is still to be taken
  pub queue_law : (p q : ℕ) → queue part P e p q ++ outs_to q (ahead part P e p) ≡ ins_from p (ahead part P e q)
  queue_law p q = cut _ _ (ins_from p (done part P e q)) _ (joined_cut (tags (out_to q)) (e p) (proj part P p) ∙ outs-ins part H P p q ∙ sym (joined_cut (tags (in_from p)) (e q) (proj part P q))) (K p q)

  -- a waiting head is the message of the receiver's next in
  pub head_is : (p q : ℕ) (t : Tag) (ts : List Tag) → ins_from p (ahead part P e q) ≡ t ∷ ts → (u : Tag) (us : List Tag) → queue part P e p q ≡ u ∷ us → u ≡ t
  head_is p q t ts n u us w = let both : u ∷ (us ++ outs_to q (ahead part P e p)) ≡ t ∷ ts = rw w at (queue_law p q) ∙ n in cc

  -- an out, with as many outs to q ahead of it as ins from p are done at q: something waits just if it is done
  pub waits_iff : (p q a j : ℕ) (s : Spot) (l n : ℕ) (xs : List Placed) → drop a (proj part P p) ≡ at (occ j s) l (Out n q) ∷ xs
      → length (outs_to q (take a (proj part P p))) ≡ length (ins_from p (done part P e q))
      → (a < e p) ↔ (0 < length (queue part P e p q))
  waits_iff p q a j s l n xs d c =
      let one : length (outs_to q (take (suc a) (proj part P p))) ≡ length (outs_to q (take a (proj part P p))) + 1
      = rw (take_next (proj part P p) a (at (occ j s) l (Out n q)) xs d, flat_map-append, length-append, out_picked q j s l n []) in
      let size : length (queue part P e p q) ≡ length (outs_to q (done part P e p)) - length (ins_from p (done part P e q))
      = length-drop (length (ins_from p (done part P e q))) (outs_to q (done part P e p)) in (
        λ h. omega (arith, joined_mono (tags (out_to q)) (suc a) (e p) (proj part P p) h),
        λ h. ⊎_elim (λ (k : a < e p). k) (λ k. absurd (let z : ⊥ = omega (arith, joined_mono (tags (out_to q)) (e p) a (proj part P p) k) in z)) (cases_lt a (e p)),
      )

module _ (part : ℕ → ℕ → List Event) (P : List ℕ) {F : Type 0} (freight : Occ → F) where
  pub letters_length : (q : ℕ) (xs : List Placed) → length (letters_to part P freight q xs) ≡ length (outs_to q xs)
  letters_length q [] = refl
  letters_length q (at (occ j s) l v ∷ xs) = let r = letters_length q xs in simp (length-append, length-map) (omega arith)

  headers_one : (j : ℕ) (s : Spot) (l : ℕ) (ns : List ℕ) → map (λ (t : Letter F). t.header) (map (letter_of part P freight (occ j s) l) ns) ≡ map (header_of part P) (map (tag j l) ns)
  headers_one j s l [] = refl
  headers_one j s l (n ∷ ns) = ap (λ r. header_of part P (tag j l n) ∷ r) (headers_one j s l ns)

  -- the headers of letters are those of their messages
  pub letters_headers : (q : ℕ) (xs : List Placed) → map (λ (t : Letter F). t.header) (letters_to part P freight q xs) ≡ map (header_of part P) (outs_to q xs)
  letters_headers q [] = refl
  letters_headers q (at (occ j s) l v ∷ xs) = simp (map-append, headers_one j s l (out_to q v), letters_headers q xs)

  module _ (e : ℕ → ℕ) where
    pub waiting_length : (p q : ℕ) → length (waiting part P freight e p q) ≡ length (queue part P e p q)
    waiting_length p q = simp (length-drop, letters_length)

    pub waiting_headers : (p q : ℕ) → map (λ (t : Letter F). t.header) (waiting part P freight e p q) ≡ map (header_of part P) (queue part P e p q)
    waiting_headers p q = let n : ℕ = length (ins_from p (done part P e q)) in
        sym (drop-map (λ (t : Letter F). t.header) n (letters_to part P freight q (done part P e p))) ∙ ap (drop n) (letters_headers q (done part P e p)) ∙ drop-map (header_of part P) n (outs_to q (done part P e p))

    -- with headers: what waits, then what is still to be sent, is what is still to be taken
    pub header_law : Paired part → Consistent part P e → (p q : ℕ)
        → map (λ (t : Letter F). t.header) (waiting part P freight e p q ++ letters_to part P freight q (ahead part P e p)) ≡ map (header_of part P) (ins_from p (ahead part P e q))
    header_law H K p q = rw (map-append, waiting_headers p q, letters_headers q (ahead part P e p), ← map-append, queue_law part H P e K p q)
