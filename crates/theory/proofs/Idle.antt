-- The idle rule: how an instance that is in the middle of nothing recognises its next letter.
use Rattle.std.proofs.Common.{◌≡◌, ℕ, zero, suc, ◌+◌, ◌<◌, ◌≤◌, ◌↔◌, List, [], ◌∷◌, ◌++◌, map, length, get_or, take, sym, refl, ap, ◌∙◌, subst, append_assoc, add-zero, zero-add, arith, length-append, take_at}
use lib.Seq.{drop-append_seam}
use Rattle.msc.specs.Events.{in_from, picked}
use Rattle.msc.specs.Order.{Occ, occ, spot}
use Rattle.msc.specs.declared.event.Event.{Event}
use Rattle.msc.specs.declared.event.Event.TheVariants.{In}
use Rattle.theory.specs.Cuts.{ahead, Consistent, queue, waiting, BeginsIn}
use Rattle.theory.specs.Given.{Paired}
use Rattle.theory.specs.Letters.{Tag, tag, tags, outs_to, ins_from, Header, Letter, header_of}
use Rattle.theory.specs.Projection.{Placed, at, placed, takes, up_to, proj_from, proj, turn, turns_at}
use Rattle.std.proofs.lemmas.Grind.{flat_map-append}
use Rattle.theory.proofs.Longer.{turn-++}
use Rattle.theory.proofs.Projections.{tags-placed, proj_from-++}
use Rattle.theory.proofs.Queues.{queue_law, in_picked, waiting_headers}

up_to_at : (f : ℕ → ℕ) (k n i : ℕ) → i < n → get_or (up_to f k n) i 0 ≡ f (k + i)
up_to_at f k zero i h = omega arith
up_to_at f k (suc n) zero h = rw add-zero refl
up_to_at f k (suc n) (suc i) h = up_to_at f (suc k) n i (omega arith) ∙ ap f (omega arith)

module _ (part : ℕ → ℕ → List Event) where
  pub turns_at_lem : (P : List ℕ) (j i : ℕ) → i < 8 → get_or (turns_at part P j) i 0 ≡ turn part i (take j P)
  turns_at_lem P j i h = up_to_at (λ k. turn part k (take j P)) 0 8 i h ∙ ap (λ k. turn part k (take j P)) (zero-add i)

  -- a message that the projection shows is at its place on the path
  At : ℕ → List ℕ → ℕ → ℕ → Type 0
  At j Q m l = (A : List ℕ) × (B : List ℕ) × (Q ≡ A ++ l ∷ B) × (m ≡ j + length A)

  tagged : (p i j : ℕ) (Q : List ℕ) (m l n : ℕ) (ts : List Tag) → ins_from p (proj_from part j Q i) ≡ tag m l n ∷ ts → At j Q m l
  unfolding At
  tagged p i j [] m l n ts h = cc
  tagged p i j (l' ∷ Q) m l n ts h = go (picked (in_from p) (part l' i)) (sym (flat_map-append (tags (in_from p)) (placed j l' i 0 (part l' i)) (proj_from part (suc j) Q i) ∙ ap (λ r. r ++ ins_from p (proj_from part (suc j) Q i)) (tags-placed (in_from p) j l' i 0 (part l' i))) ∙ h) (tagged p i (suc j) Q m l n ts)
    where
      go : (u : List ℕ) → map (tag j l') u ++ ins_from p (proj_from part (suc j) Q i) ≡ tag m l n ∷ ts
          → (ins_from p (proj_from part (suc j) Q i) ≡ tag m l n ∷ ts → At (suc j) Q m l) → At j (l' ∷ Q) m l
      go [] k ih = let r = ih k in (l' ∷ r.0, r.1, ap (λ s. l' ∷ s) r.2, omega (arith, r.3))
      go (x ∷ u) k ih = let a : j ≡ m = cc in let b : l' ≡ l = cc in ([], Q, ap (λ s. s ∷ Q) b, omega arith)

  -- where i takes no part, nothing is placed
  pub silent : (i j : ℕ) (A Q : List ℕ) → turn part i A ≡ 0 → proj_from part j (A ++ Q) i ≡ proj_from part (j + length A) Q i
  silent i j [] Q h = rw add-zero refl
  silent i j (l ∷ A) Q h = go (part l i) h (silent i (suc j) A Q)
    where
      go : (es : List Event) → takes es + turn part i A ≡ 0 → (turn part i A ≡ 0 → proj_from part (suc j) (A ++ Q) i ≡ proj_from part (suc j + length A) Q i)
          → placed j l i 0 es ++ proj_from part (suc j) (A ++ Q) i ≡ proj_from part (j + suc (length A)) Q i
      go [] k ih = ih (omega arith) ∙ ap (λ n. proj_from part n Q i) (omega arith)
      go (x ∷ es) k ih = absurd (let z : ⊥ = omega arith in z)

  -- places do not fall
  pub from : (i j : ℕ) (Q : List ℕ) (m k l : ℕ) (v : Event) (xs : List Placed) → proj_from part j Q i ≡ at (occ m (spot i k)) l v ∷ xs → j ≤ m
  from i j [] m k l v xs h = cc
  from i j (l' ∷ Q) m k l v xs h = go (part l' i) h (from i (suc j) Q m k l v xs)
    where
      go : (es : List Event) → placed j l' i 0 es ++ proj_from part (suc j) Q i ≡ at (occ m (spot i k)) l v ∷ xs → (proj_from part (suc j) Q i ≡ at (occ m (spot i k)) l v ∷ xs → suc j ≤ m) → j ≤ m
      go [] w ih = omega (arith, ih w)
      go (x ∷ es) w ih = let a : j ≡ m = cc in omega arith

  -- the first event of what is ahead, if it is at the place of l: i takes no part before, and its part of l begins with it
  first : (i j : ℕ) (A : List ℕ) (l : ℕ) (B : List ℕ) (k : ℕ) (v : Event) (xs : List Placed) → proj_from part j (A ++ l ∷ B) i ≡ at (occ (j + length A) (spot i k)) l v ∷ xs
      → (turn part i A ≡ 0) × ((es : List Event) × (part l i ≡ v ∷ es))
  first i j [] l B k v xs h = go (part l i) h
    where
      go : (es : List Event) → placed j l i 0 es ++ proj_from part (suc j) B i ≡ at (occ (j + 0) (spot i k)) l v ∷ xs → (turn part i [] ≡ 0) × ((es' : List Event) × (es ≡ v ∷ es'))
      go [] w = absurd (let z : ⊥ = omega (arith, from i (suc j) B (j + 0) k l v xs w) in z)
      go (x ∷ es) w = (refl, (es, cc))
  first i j (l' ∷ A) l B k v xs h = go (part l' i) h (first i (suc j) A l B k v xs)
    where
      go : (es : List Event) → placed j l' i 0 es ++ proj_from part (suc j) (A ++ l ∷ B) i ≡ at (occ (j + suc (length A)) (spot i k)) l v ∷ xs
          → (proj_from part (suc j) (A ++ l ∷ B) i ≡ at (occ (suc j + length A) (spot i k)) l v ∷ xs → (turn part i A ≡ 0) × ((es : List Event) × (part l i ≡ v ∷ es)))
          → (takes es + turn part i A ≡ 0) × ((es : List Event) × (part l i ≡ v ∷ es))
      go [] w ih = let r = ih (w ∙ ap (λ n. at (occ n (spot i k)) l v ∷ xs) (omega arith)) in (omega (arith, r.0), r.1)
      go (x ∷ es) w ih = absurd (let y : j ≡ j + suc (length A) = cc in let z : ⊥ = omega arith in z)

  -- The message tag m l n stands first among the ins from p that are ahead, behind the places C.
  -- Its turn for i counts the places of C and of A, those between C and its own, in which i takes part; so it is the turn of C just if i takes no part in A.
  core : (C A B : List ℕ) (i p l n : ℕ) (ts : List Tag) → ins_from p (proj_from part (length C) (A ++ l ∷ B) i) ≡ tag (length C + length A) l n ∷ ts
      → ((turn part i (take (length C + length A) (C ++ (A ++ l ∷ B))) ≡ turn part i C) × BeginsIn p (part l i))
      ↔ ((xs : List Placed) × (proj_from part (length C) (A ++ l ∷ B) i ≡ at (occ (length C + length A) (spot i 0)) l (In n p) ∷ xs))
  core C A B i p l n ts h =
      let front : take (length C + length A) (C ++ (A ++ l ∷ B)) ≡ C ++ A
      = rw (← append_assoc C A (l ∷ B)) (take_at (C ++ A) (l ∷ B) _ (length-append C A)) in
      let sum : turn part i (take (length C + length A) (C ++ (A ++ l ∷ B))) ≡ turn part i C + turn part i A = ap (turn part i) front ∙ turn-++ part i C A in
      let m : ℕ = length C + length A in (
        λ g. let none : turn part i A ≡ 0 = omega arith in
            let ys : List Placed = placed m l i 1 g.1.1 ++ proj_from part (suc m) B i in
            let here : proj_from part (length C) (A ++ l ∷ B) i ≡ at (occ m (spot i 0)) l (In g.1.0 p) ∷ ys
            = silent i (length C) A (l ∷ B) none ∙ ap (λ es. placed m l i 0 es ++ proj_from part (suc m) B i) g.1.2 in
            let both : tag m l g.1.0 ∷ ins_from p ys ≡ tag m l n ∷ ts = sym (ap (ins_from p) here ∙ in_picked p m (spot i 0) l g.1.0 ys) ∙ h in
            let same : g.1.0 ≡ n = cc in
            (ys, here ∙ ap (λ k. at (occ m (spot i 0)) l (In k p) ∷ ys) same),
        λ g. let r = first i (length C) A l B 0 (In n p) g.0 g.1 in (omega (arith, r.0), (n, r.1.0, r.1.1)),
      )

  core_at : (C Q : List ℕ) (i p m l n : ℕ) (ts : List Tag) → ins_from p (proj_from part (length C) Q i) ≡ tag m l n ∷ ts
      → ((turn part i (take m (C ++ Q)) ≡ turn part i C) × BeginsIn p (part l i)) ↔ ((xs : List Placed) × (proj_from part (length C) Q i ≡ at (occ m (spot i 0)) l (In n p) ∷ xs))
  unfolding At
  core_at C Q i p m l n ts h = let r = tagged p i (length C) Q m l n ts h in go r.0 r.1 r.2 r.3
    where
      go : (A B : List ℕ) → Q ≡ A ++ l ∷ B → m ≡ length C + length A
          → ((turn part i (take m (C ++ Q)) ≡ turn part i C) × BeginsIn p (part l i)) ↔ ((xs : List Placed) × (proj_from part (length C) Q i ≡ at (occ m (spot i 0)) l (In n p) ∷ xs))
      go A B q k = rw (q, k) (core C A B i p l n ts (rw (q, k) at h))

module _ (part : ℕ → ℕ → List Event) (H : Paired part) (P : List ℕ) (e : ℕ → ℕ) (K : Consistent part P e) {F : Type 0} (freight : Occ → F) where
  -- i has done its events of the places C and no others
  pub idle : (C Q : List ℕ) (i p : ℕ) (t : Letter F) (ts : List (Letter F)) → i < 8 → P ≡ C ++ Q → e i ≡ length (proj part C i) → waiting part P freight e p i ≡ t ∷ ts
      → ((get_or t.header.turns i 0 ≡ turn part i C) × BeginsIn p (part t.header.label i))
      ↔ ((xs : List Placed) × (ahead part P e i ≡ at (occ t.header.place (spot i 0)) t.header.label (In t.header.name p) ∷ xs))
  idle C Q i p t ts i8 split fresh w = go (queue part P e p i) refl
    where
      left : ahead part P e i ≡ proj_from part (length C) Q i
      left = rw (fresh, split, proj_from-++ part 0 C Q i) (drop-append_seam (proj part C i) (proj_from part (0 + length C) Q i) ∙ ap (λ n. proj_from part n Q i) (zero-add (length C)))

      Rule : Header → Type 0
      Rule h = ((get_or h.turns i 0 ≡ turn part i C) × BeginsIn p (part h.label i)) ↔ ((xs : List Placed) × (ahead part P e i ≡ at (occ h.place (spot i 0)) h.label (In h.name p) ∷ xs))

      heads : t.header ∷ map (λ (u : Letter F). u.header) ts ≡ map (header_of part P) (queue part P e p i)
      heads = sym (ap (map (λ (u : Letter F). u.header)) w) ∙ waiting_headers part P freight e p i

      go : (u : List Tag) → queue part P e p i ≡ u → Rule t.header
      go [] h = cc (heads ∙ ap (map (header_of part P)) h)
      go (tag m l n ∷ u) h =
          let z : t.header ∷ map (λ (u : Letter F). u.header) ts ≡ header_of part P (tag m l n) ∷ map (header_of part P) u = heads ∙ ap (map (header_of part P)) h in
          let t_is : header_of part P (tag m l n) ≡ t.header = cc in
          subst Rule t_is (rw (turns_at_lem part P m i i8, left, split) (core_at part C Q i p m l n _ (ap (ins_from p) (sym left) ∙ sym (queue_law part H P e K p i) ∙ ap (λ r. r ++ outs_to i (ahead part P e p)) h)))
