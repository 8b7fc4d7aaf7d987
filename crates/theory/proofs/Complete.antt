-- Completion: the charts' listings, joined in order of places, list the whole path; and what has begun in order can be completed.
use Rattle.std.proofs.Common.{◌≡◌, ℕ, zero, suc, ◌⊎◌, List, [], ◌∷◌, ◌++◌, map, sym, refl, subst, inl, inr, ⊎_elim, arith}
use native.Mathlib.Decide.{ℕ_discrete}
use Rattle.msc.specs.Listing.{Mem, NoRep, After, link}
use Rattle.msc.specs.Order.{Spot, spot, Occ, occ, Spot-discrete, Occ-discrete, IsOcc, Direct, Before, Linearisation, Begins}
use Rattle.msc.specs.declared.event.Event.{Event}
use Rattle.theory.specs.Cuts.{Ordered}
use Rattle.theory.specs.Given.{Listed}
use Rattle.theory.proofs.Listings.{mem_left, mem_right, mem_cases, mem_map, map_mem, norep-++, norep_map, norep_front, onto, mem_onto, after-++, after_map, after_less, after_front, after_chain, completed, minus}

abbrev next : Occ → Occ
next (occ j s) = occ (suc j) s

next_inj : (x y : Occ) → next x ≡ next y → x ≡ y
next_inj (occ j s) (occ j' s') e = let a : j ≡ j' = cc in let b : s ≡ s' = cc in cc

module _ (part : ℕ → ℕ → List Event) (G : Listed part) where
  -- the charts' listings, in the order of their places
  abbrev pub whole : List ℕ → List Occ
  whole [] = []
  whole (l ∷ P) = (G l).0 ++ map next (whole P)

  none : (j : ℕ) (s : Spot) → IsOcc part [] (occ j s) → ⊥
  none j (spot i k) h = omega arith

  -- a chart's listing is all at place 0
  front : (l : ℕ) (P : List ℕ) (x : Occ) → IsOcc part (l ∷ []) x → IsOcc part (l ∷ P) x
  front l P (occ zero (spot i k)) h = h
  front l P (occ (suc j) s) h = absurd (none j s h)

  front_order : (l : ℕ) (P : List ℕ) (y x : Occ) → IsOcc part (l ∷ []) x → Direct part (l ∷ P) y x → Direct part (l ∷ []) y x
  front_order l P (occ zero t) (occ zero s) r d = d
  front_order l P (occ (suc j) t) (occ zero s) r (d, inl h) = absurd (let z : ⊥ = omega arith in z)
  front_order l P (occ (suc j) t) (occ zero s) r (d, inr h) = absurd (let z : ⊥ = omega arith in z)
  front_order l P (occ j t) (occ (suc k) s) r d = absurd (none k s r)

  later : (l : ℕ) (P : List ℕ) (y : Occ) → IsOcc part P y → IsOcc part (l ∷ P) (next y)
  later l P (occ j (spot i k)) h = h

  whole_real : (P : List ℕ) (x : Occ) → Mem x (whole P) → IsOcc part P x
  whole_real [] x h = absurd h
  whole_real (l ∷ P) x h = ⊎_elim
      (λ m. front l P x ((G l).1.real x m))
      (λ m. let r = map_mem next x (whole P) m in subst (IsOcc part (l ∷ P)) (sym r.1) (later l P r.0 (whole_real P r.0 r.2)))
      (mem_cases x (G l).0 (map next (whole P)) h)

  whole_complete : (P : List ℕ) (x : Occ) → IsOcc part P x → Mem x (whole P)
  whole_complete [] (occ j s) h = absurd (none j s h)
  whole_complete (l ∷ P) (occ zero (spot i k)) h = mem_left _ (G l).0 (map next (whole P)) ((G l).1.complete (occ 0 (spot i k)) h)
  whole_complete (l ∷ P) (occ (suc j) s) h = mem_right _ (G l).0 (map next (whole P)) (mem_map next (occ j s) (whole P) (whole_complete P (occ j s) h))

  apart : (l : ℕ) (x y : Occ) → IsOcc part (l ∷ []) x → x ≡ next y → ⊥
  apart l (occ (suc j) s) y h e = none j s h
  apart l (occ zero s) (occ j t) h e = let z : 0 ≡ suc j = cc in omega arith

  whole_norep : (P : List ℕ) → NoRep (whole P)
  whole_norep [] = tt
  whole_norep (l ∷ P) = norep-++ (G l).0 (map next (whole P)) (G l).1.norep (norep_map next next_inj (whole P) (whole_norep P))
      (λ x m k. let b = map_mem next x (whole P) k in apart l x b.0 ((G l).1.real x m) b.1)

  later-place : (l : ℕ) (P : List ℕ) (z x : Occ) → Direct part (l ∷ P) z (next x) → Mem z (onto (G l).0 []) ⊎ ((y : Occ) × (z ≡ next y) × Direct part P y x)
  later-place l P (occ zero (spot i k)) (occ k' s) (r, d) = inl (mem_onto _ (G l).0 [] (inl ((G l).1.complete (occ 0 (spot i k)) r)))
  later-place l P (occ (suc j) t) (occ k s) (r, inl h) = inr (occ j t, refl, (r, inl (h.0, omega arith)))
  later-place l P (occ (suc j) t) (occ k s) (r, inr h) = inr (occ j t, refl, (r, inr (omega arith, h.1)))

  whole_order : (P : List ℕ) → After (Direct part P) [] (whole P)
  whole_order [] = tt
  whole_order (l ∷ P) = after-++ (Direct part (l ∷ P)) [] (G l).0 (map next (whole P))
      (after_less (Before part (l ∷ [])) (Direct part (l ∷ P)) [] (G l).0 (λ y x m d. link (front_order l P y x ((G l).1.real x m) d)) (G l).1.order)
      (after_map next (Direct part P) (Direct part (l ∷ P)) (onto (G l).0 []) (later-place l P) [] (whole P) (whole_order P))

  pub whole_is : (P : List ℕ) → Linearisation part P (whole P)
  whole_is P = record { real = whole_real P; complete = whole_complete P; norep = whole_norep P; order = after_chain (Direct part P) [] (whole P) (λ x y m r. m) (whole_order P) }

  occ? : Discrete Occ
  occ? = Occ-discrete ℕ_discrete (Spot-discrete ℕ_discrete)

  -- what is in order begins a linearisation: itself, then what of the whole listing it lacks
  pub completion : (P : List ℕ) (L : List Occ) → Ordered part P L → Begins part P L
  completion P L b = (minus occ? L (whole P), completed occ? L (IsOcc part P) (Before part P) (whole P) (whole_is P) b.real b.norep b.order)

pub begun_ordered : (part : ℕ → ℕ → List Event) (P : List ℕ) (L : List Occ) → Begins part P L → Ordered part P L
begun_ordered part P L (M, w) = record {
  real = λ x m. w.real x (mem_left x L M m);
  norep = norep_front L M w.norep;
  order = after_front (Before part P) [] L M w.order;
}
