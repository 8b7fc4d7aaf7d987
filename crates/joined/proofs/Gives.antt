-- From a meaning that breaks no rule to what the order of events asks for.
use Rattle.std.proofs.Common.{◌≡◌, ℕ, zero, suc, ◌<◌, ◌⊎◌, List, [], ◌∷◌, length, Some, None, Option, sym, refl, ap, subst, inl, inr, ⊎_elim, arith}
use Rattle.msc.specs.Choice.{IsNode, PathFrom, last_from}
use Rattle.msc.specs.Events.{out_to, in_from, picked}
use Rattle.msc.specs.Listing.{After, Chain, link, chain}
use Rattle.msc.specs.Meaning.{Meaning, start, part_in, part}
use Rattle.msc.specs.Order.{spot, Occ, occ, IsSpot, Ahead, SameInstance, IsOcc, Direct, Before, Linearisation}
use Rattle.msc.specs.declared.event.Event.{Event}
use Rattle.judge.specs.Rules.{Fair, IsList}
use Rattle.theory.specs.Given.{PathEnd, Given, Paired, Listed}
use Rattle.joined.specs.Limits.{Limits}

chain_map : {A : Type 0} (R S : A → A → Type 0) → ((y x : A) → R y x → S y x) → (y x : A) → Chain R y x → Chain S y x
chain_map R S f y x (link r) = link (f y x r)
chain_map R S f y x (chain {y = z} a b) = chain (chain_map R S f y z a) (chain_map R S f z x b)

after_map : {A : Type 0} (R S : A → A → Type 0) → ((y x : A) → S y x → R y x) → (seen L : List A) → After R seen L → After S seen L
after_map R S f seen [] a = tt
after_map R S f seen (x ∷ L) a = (λ y s. a.0 y (f y x s), after_map R S f (x ∷ seen) L a.1)

-- a path of one place speaks of the chart there alone, by whatever name it goes
module _ (part part' : ℕ → ℕ → List Event) (l l' : ℕ) (same : part l ≡ part' l') where
  real_same : (x : Occ) → IsOcc part (l ∷ []) x → IsOcc part' (l' ∷ []) x
  real_same (occ zero s) h = subst (λ (c : ℕ → List Event). IsSpot c s) same h
  real_same (occ (suc j) s) h = h

  direct_same : (y x : Occ) → Direct part (l ∷ []) y x → Direct part' (l' ∷ []) y x
  direct_same (occ zero s) (occ j s') d = subst (λ (c : ℕ → List Event). IsSpot c s × ((SameInstance s s' × (0 < j)) ⊎ ((0 ≡ j) × Ahead c s s'))) same d
  direct_same (occ (suc k) s) (occ j s') d = d

pub same_listing : (part part' : ℕ → ℕ → List Event) (l l' : ℕ) → part l ≡ part' l' → (L : List Occ) → Linearisation part (l ∷ []) L → Linearisation part' (l' ∷ []) L
same_listing part part' l l' same L w = record {
  real = λ x h. real_same part part' l l' same x (w.real x h);
  complete = λ x h. w.complete x (real_same part' part l' l (sym same) x h);
  norep = w.norep;
  order = after_map (Before part (l ∷ [])) (Before part' (l' ∷ [])) (chain_map _ _ (direct_same part' part l' l (sym same))) [] L w.order;
}

-- a chart with no event is listed by the empty list
empty_listing : (part : ℕ → ℕ → List Event) (l : ℕ) → ((i : ℕ) → length (part l i) ≡ 0) → Linearisation part (l ∷ []) []
empty_listing part l none = record { real = λ x h. absurd h; complete = nothing; norep = tt; order = tt }
  where
    nothing : (x : Occ) → IsOcc part (l ∷ []) x → ⊥
    nothing (occ zero (spot i k)) h = omega (arith, none i)
    nothing (occ (suc j) (spot i k)) h = omega arith

module _ (m : Meaning) (L : Limits m) (F : Fair m) where
  paired : Paired (part m)
  paired l p q = go (m.chart l) refl
    where
      go : (o : Option ℕ) → m.chart l ≡ o → picked (out_to q) (part_in m o p) ≡ picked (in_from p) (part_in m o q)
      go None h = refl
      go (Some c) h = F.matched c (L.charts l c h) p q

  listed : Listed (part m)
  listed l = go (m.chart l) refl
    where
      go : (o : Option ℕ) → m.chart l ≡ o → (M : List Occ) × Linearisation (part m) (l ∷ []) M
      go None h = ([], empty_listing (part m) l (λ i. rw h))
      go (Some c) h = let r = F.listable c (L.charts l c h) in (r.0, same_listing m.drawn (part m) c l (ap (part_in m) (sym h)) r.0 r.1)

  few : (l i : ℕ) → 0 < length (part m l i) → i < 8
  few l i = go (m.chart l)
    where
      go : (o : Option ℕ) → 0 < length (part_in m o i) → i < 8
      go None h = absurd (let z : ⊥ = omega arith in z)
      go (Some c) h = L.parts c i h

  -- where a path ends stands a list that was judged
  last_list : (x : ℕ) (P : List ℕ) → PathFrom m x P → IsNode m (last_from m x P) ⊎ (last_from m x P ≡ x)
  last_list x [] v = inr refl
  last_list x (l ∷ P) v = inl (⊎_elim (λ n. n) (λ e. subst (IsNode m) (sym e) v.1) (last_list l P v.2))

  is_list : (x : ℕ) → PathEnd m x → IsList m x
  is_list x (P, v, e) = subst (IsList m) e (last_list start P v)

  pub fair_gives : Given m
  fair_gives = record {
    paired = paired;
    listed = listed;
    few = few;
    labels = λ l r. L.lists _ l r.2;
    one_first = λ l c r h. F.one_first c (L.charts l c h);
    one_leader = λ x p. F.one_leader x (is_list x p);
    takes_part = λ l r n. F.takes_part l n;
    to_end = λ x p. F.to_end x (is_list x p);
  }
