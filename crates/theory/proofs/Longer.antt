-- A longer path: what is done and what waits stay.
use Rattle.std.proofs.Common.{◌≡◌, ℕ, suc, ◌+◌, ◌<◌, ◌≤◌, List, [], ◌∷◌, ◌++◌, map, length, drop, ap, subst, inl, inr, ⊎_elim, arith, length-append, take-append-drop}
use lib.Seq.{take-append-le}
use Rattle.msc.specs.Events.{out_to}
use Rattle.msc.specs.Listing.{Mem}
use Rattle.msc.specs.Order.{Occ, occ}
use Rattle.msc.specs.declared.event.Event.{Event}
use Rattle.theory.specs.Cuts.{done, Within, Consistent, queue, waiting}
use Rattle.theory.specs.Letters.{ins_from, Letter, posted}
use Rattle.theory.specs.Projection.{Placed, at, placed, proj_from, proj, takes, turn, turns_at}
use Rattle.theory.proofs.Listings.{mem_left, mem_cases, joined_same}
use Rattle.theory.proofs.Projections.{proj_from-++}

abbrev place_of : Placed → ℕ
place_of (at (occ j s) l v) = j

placed_at : (j l i k : ℕ) (es : List Event) (x : Placed) → Mem x (placed j l i k es) → place_of x ≡ j
placed_at j l i k [] x m = absurd m
placed_at j l i k (v ∷ es) x (inl e) = ap place_of e
placed_at j l i k (v ∷ es) x (inr m) = placed_at j l i (suc k) es x m

module _ (part : ℕ → ℕ → List Event) where
  placed_below : (j : ℕ) (P : List ℕ) (i : ℕ) (x : Placed) → Mem x (proj_from part j P i) → place_of x < j + length P
  placed_below j [] i x m = absurd m
  placed_below j (l ∷ P) i x m = ⊎_elim
      (λ k. omega (arith, placed_at j l i 0 (part l i) x k))
      (λ k. omega (arith, placed_below (suc j) P i x k))
      (mem_cases x (placed j l i 0 (part l i)) (proj_from part (suc j) P i) m)

  pub turn-++ : (i : ℕ) (P Q : List ℕ) → turn part i (P ++ Q) ≡ turn part i P + turn part i Q
  turn-++ i [] Q = omega arith
  turn-++ i (l ∷ P) Q = omega (arith, turn-++ i P Q)

  pub turn_snoc : (i : ℕ) (P : List ℕ) (l : ℕ) → turn part i (P ++ l ∷ []) ≡ turn part i P + takes (part l i)
  turn_snoc i P l = omega (arith, turn-++ i P (l ∷ []))

  module _ (P Q : List ℕ) where
    pub turns_longer : (j : ℕ) → j ≤ length P → turns_at part (P ++ Q) j ≡ turns_at part P j
    turns_longer j h = rw (take-append-le j P Q h)

    module _ (e : ℕ → ℕ) (fits : Within part P e) where
      pub done_longer : (i : ℕ) → done part (P ++ Q) e i ≡ done part P e i
      done_longer i = let f = fits i in rw (proj_from-++ part 0 P Q i, take-append-le)

      pub within_longer : Within part (P ++ Q) e
      within_longer i = rw (proj_from-++ part 0 P Q i, length-append) (omega (arith, fits i))

      pub consistent_longer : Consistent part P e → Consistent part (P ++ Q) e
      consistent_longer K p q = rw (done_longer p, done_longer q) (K p q)

      pub queue_longer : (p q : ℕ) → queue part (P ++ Q) e p q ≡ queue part P e p q
      queue_longer p q = rw (done_longer p, done_longer q)

      module _ {F : Type 0} (freight : Occ → F) where
        posted_longer : (q : ℕ) (x : Placed) → place_of x ≤ length P → posted part (P ++ Q) freight q x ≡ posted part P freight q x
        posted_longer q (at (occ j s) l v) h =
            let made : List ℕ → ℕ → Letter F = λ t n. record { header = record { label = l; name = n; place = j; turns = t }; freight = freight (occ j s) } in
            ap (λ (t : List ℕ). map (made t) (out_to q v)) (turns_longer j h)

        pub waiting_longer : (p q : ℕ) → waiting part (P ++ Q) freight e p q ≡ waiting part P freight e p q
        waiting_longer p q = rw (done_longer p, done_longer q) (ap (drop (length (ins_from p (done part P e q))))
            (joined_same (posted part (P ++ Q) freight q) (posted part P freight q) (done part P e p)
            (λ x m. posted_longer q x (omega (arith, placed_below 0 P p x (subst (Mem x) (take-append-drop (e p) (proj part P p)) (mem_left x (done part P e p) (drop (e p) (proj part P p)) m)))))))
