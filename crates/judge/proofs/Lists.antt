-- Those who lead a list.
use Rattle.std.proofs.Common.{◌≡◌, ℕ, ◌<◌, true, false, not, List, [], ◌∷◌, length, Some, None, Option, sym, refl, ap, ◌∙◌, subst, inl, inr, ⊎_elim}
use Rattle.std.proofs.lemmas.Bool.{both_ways, ltb-true, lt-ltb}
use Rattle.msc.specs.Listing.{Mem}
use Rattle.msc.specs.Meaning.{Meaning, part}
use Rattle.msc.specs.Choice.{LeadsList, OneLeader, LeaderTakesPart}
use Rattle.judge.specs.Rules.{IsLeader}
use Rattle.order.specs.Charts.{starters, joined_by, gathered, is_several, leader_of}
use Rattle.judge.specs.Checks.{list_leaders, is_present}
use Rattle.msc.specs.declared.event.Event.{Event}
use Rattle.std.specs.List.{cons_option, filter_map, flat_map, fold}
use Rattle.std.proofs.lemmas.List.Sums.{fold-append}
use Rattle.order.specs.declared.leaders.Leaders.{Leaders}
use Rattle.order.specs.declared.leaders.Leaders.TheVariants.{Nobody, One, Several}
use Rattle.order.proofs.Members.{mem_left, mem_right, mem_cases}
use Rattle.order.proofs.Drawn.{Pairs}
use Rattle.order.proofs.Limits.{Limits}
use Rattle.order.proofs.Tallies.{Tally, tally, tally_like}
use Rattle.order.proofs.Fronts.{leads_starter, starter_leads}

gathered_all : (parts : ℕ → ℕ → List Event) (a : Leaders) (cs : List ℕ) → fold (λ b c. gathered b (starters (parts c))) a cs ≡ gathered a (flat_map (λ c. starters (parts c)) cs)
gathered_all parts a [] = refl
gathered_all parts a (c ∷ cs) = gathered_all parts (gathered a (starters (parts c))) cs ∙ sym (fold-append joined_by a (starters (parts c)) (flat_map (λ k. starters (parts k)) cs))

module _ (m : Meaning) where
  -- those who lead the charts of a list's nodes
  abbrev list_starters : List ℕ → List ℕ
  list_starters ls = flat_map (λ c. starters (m.drawn c)) (filter_map m.chart ls)

  abbrev Listed : List ℕ → ℕ → Type 0
  Listed ls i = (l : ℕ) × (c : ℕ) × Mem l ls × (m.chart l ≡ Some c) × Mem i (starters (m.drawn c))

  later : (l : ℕ) (ls : List ℕ) (i : ℕ) → Listed ls i → Listed (l ∷ ls) i
  later l ls i r = (r.0, r.1, inr r.2, r.3, r.4)

  list_mem : (ls : List ℕ) (i : ℕ) → Mem i (list_starters ls) → Listed ls i
  list_mem [] i h = absurd h
  list_mem (l ∷ ls) i h = go (m.chart l) refl h (λ k. later l ls i (list_mem ls i k))
    where
      go : (o : Option ℕ) → m.chart l ≡ o → Mem i (flat_map (λ c. starters (m.drawn c)) (cons_option o (filter_map m.chart ls))) → (Mem i (list_starters ls) → Listed (l ∷ ls) i) → Listed (l ∷ ls) i
      go None e k ih = ih k
      go (Some c) e k ih = ⊎_elim (λ t. (l, c, inl refl, e, t)) ih (mem_cases i (starters (m.drawn c)) (list_starters ls) k)

  mem_list : (ls : List ℕ) (i l c : ℕ) → Mem l ls → m.chart l ≡ Some c → Mem i (starters (m.drawn c)) → Mem i (list_starters ls)
  mem_list [] i l c h e k = absurd h
  mem_list (l' ∷ ls) i l c (inl h) e k = let f : m.chart l' ≡ Some c = ap m.chart (sym h) ∙ e in rw f (mem_left i (starters (m.drawn c)) (list_starters ls) k)
  mem_list (l' ∷ ls) i l c (inr h) e k = go (m.chart l') (mem_list ls i l c h e k)
    where
      go : (o : Option ℕ) → Mem i (list_starters ls) → Mem i (flat_map (λ c. starters (m.drawn c)) (cons_option o (filter_map m.chart ls)))
      go None t = t
      go (Some d) t = mem_right i (starters (m.drawn d)) (list_starters ls) t

  module _ (w : Limits m) (M : (c : ℕ) → c < m.charts → Pairs (m.drawn c)) (x : ℕ) where
    list-tally : Tally (list_leaders m x) (LeadsList m x)
    list-tally = rw (gathered_all m.drawn Nobody (filter_map m.chart (m.list x))) (tally_like (gathered Nobody (list_starters (m.list x))) (λ i. Mem i (list_starters (m.list x))) (LeadsList m x)
        (λ i h. let r = list_mem (m.list x) i h in (r.0, r.1, r.2, r.3, starter_leads m.drawn r.1 (w.framed r.1) (M r.1 (w.chart-below r.0 r.1 r.3)) i r.4))
        (λ i r. mem_list (m.list x) i r.0 r.1 r.2 r.3 (leads_starter m.drawn r.1 (w.framed r.1) (M r.1 (w.chart-below r.0 r.1 r.3)) i r.4))
        (tally (list_starters (m.list x))))

    pub is_one_leader : not (is_several (list_leaders m x)) ≡ true → OneLeader m x
    is_one_leader h = go (list_leaders m x) h list-tally
      where
        go : (a : Leaders) → not (is_several a) ≡ true → Tally a (LeadsList m x) → OneLeader m x
        go Nobody h t = λ i j p q. absurd (t i p)
        go (One k) h t = λ i j p q. t.1 i p ∙ sym (t.1 j q)
        go Several h t = absurd (both_ways false refl h)

    pub one_leader_is : OneLeader m x → not (is_several (list_leaders m x)) ≡ true
    one_leader_is u = go (list_leaders m x) list-tally
      where
        go : (a : Leaders) → Tally a (LeadsList m x) → not (is_several a) ≡ true
        go Nobody t = refl
        go (One k) t = refl
        go Several (i, j, p, q, n) = absurd (n (u i j p q))

    pub is_present_lem : OneLeader m x → is_present m x (list_leaders m x) ≡ true → LeaderTakesPart m x
    is_present_lem u h = go (list_leaders m x) h list-tally
      where
        go : (a : Leaders) → is_present m x a ≡ true → Tally a (LeadsList m x) → LeaderTakesPart m x
        go Nobody h t = λ i p. absurd (t i p)
        go (One k) h t = λ i p. subst (λ z. 0 < length (part m x z)) (sym (t.1 i p)) (ltb-true 0 _ h)
        go Several h (i, j, p, q, n) = absurd (n (u i j p q))

    pub present_is : LeaderTakesPart m x → is_present m x (list_leaders m x) ≡ true
    present_is u = go (list_leaders m x) list-tally
      where
        go : (a : Leaders) → Tally a (LeadsList m x) → is_present m x a ≡ true
        go Nobody t = refl
        go (One k) t = lt-ltb 0 _ (u k t.0)
        go Several t = refl

    pub is_leader : OneLeader m x → IsLeader m x (leader_of (list_leaders m x))
    is_leader u = go (list_leaders m x) list-tally
      where
        go : (a : Leaders) → Tally a (LeadsList m x) → IsLeader m x (leader_of a)
        go Nobody t = t
        go (One k) t = t.0
        go Several (i, j, p, q, n) = absurd (n (u i j p q))
