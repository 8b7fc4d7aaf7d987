-- The checks say what the rules say.
use Rattle.std.proofs.Common.{◌≡◌, ℕ, Bool, ◌&&◌, Result, Ok, Err, ◌<◌, ◌≤◌, true, false, not, ◌||◌, eqb, is_some, Some, None, Decides, Option, sym, refl, ap, subst, inl, inr, ⊎_elim, arith}
use Rattle.std.proofs.lemmas.Bool.Decides.{Decides-ltb, Decides-eqb, Decides-or}
use Rattle.std.proofs.lemmas.Bool.{cases_eq, both_ways, and_parts, and_cases, not-true, not-false}
use Rattle.msc.specs.Listing.{Mem}
use Rattle.msc.specs.Meaning.{Meaning, start}
use Rattle.msc.specs.Choice.{Matched, Listable, OneFirst, IsNode, OneLeader, LeaderTakesPart, LeadsToEnd}
use Rattle.judge.specs.Rules.{Everywhere, Lowest, IsChart, IsList, AllMatched, AllListable, AllOneFirst, StartsAtNodes, AllOneLeader, Fair, FirstEndAtStart, Breaks, IsLeader, AreLeaders}
use Rattle.order.specs.Charts.{is_matched, is_listable, leader_of}
use Rattle.std.specs.Result.{is_ok}
use Rattle.std.proofs.lemmas.List.FromFn.{get_or-map-range_with_len}
use Rattle.judge.specs.Checks.{spots, is_chart, is_node, is_list, is_end, is_one_first, has_one_leader, leader_takes_part, leads_to_end, broken, end_at_start, list_leaders}
use Rattle.judge.specs.Verdict.{or_else, list_rules, verdict, is_fair, leaders_of, Said}
use Rattle.judge.specs.declared.refusal.Refusal.{Refusal}
use Rattle.judge.specs.declared.refusal.Refusal.TheVariants.{Unmatched, Cyclic, NotOneFirst, EndAtStart, TwoLeaders, LeaderAbsent, NoEnd}
use Rattle.order.proofs.Scanned.{range_has, find_none, find_some, find_lowest}
use Rattle.order.proofs.Drawn.{is_matched_lem, matched_is}
use Rattle.order.proofs.Greedy.{is_listable_lem, listable_is}
use Rattle.order.proofs.Fronts.{is_one_first as is_one_first_lem, one_first_is}
use Rattle.order.proofs.Limits.{Limits}
use Rattle.judge.proofs.Ends.{some_of, none_of, is_to_end, to_end_is}
use Rattle.judge.proofs.Lists.{is_one_leader, one_leader_is, is_present_lem, present_is, is_leader}

module _ (m : Meaning) where
  -- a check covers what its rule covers, and decides it there
  record Reads (covers holds : ℕ → Bool) (Covers Holds : ℕ → Type 0) : Type 0 where
    covered : (x : ℕ) → Decides (covers x) (Covers x)
    below : (x : ℕ) → Covers x → x < 65
    held : (x : ℕ) → Covers x → Decides (holds x) (Holds x)

  module _ {covers holds : ℕ → Bool} {Covers Holds : ℕ → Type 0} (u : Reads covers holds Covers Holds) where
    -- a rule holds where it is not found broken
    kept : (x : ℕ) → Covers x → (covers x && not (holds x)) ≡ false → Holds x
    kept x c h = (u.held x c).0 (⊎_elim (λ t. absurd (both_ways (covers x) t ((u.covered x).1 c))) (λ t. not-false (holds x) t) (and_cases (covers x) (not (holds x)) h))

    everywhere : broken covers holds ≡ None → Everywhere Covers Holds
    unfolding broken
    everywhere h x c = kept x c (find_none (λ y. covers y && not (holds y)) spots h x (range_has 0 65 x (omega arith) (omega (arith, u.below x c))))

    lowest_of : (x : ℕ) → broken covers holds ≡ Some x → Lowest Covers Holds x
    unfolding broken
    lowest_of x h =
        let f = find_lowest (λ y. covers y && not (holds y)) 0 65 x h in
        let b = and_parts (covers x) (not (holds x)) f.here in
        let c = (u.covered x).0 b.0 in
        record { covered = c; broken = λ p. both_ways (holds x) (not-true (holds x) b.1) ((u.held x c).1 p); lower = λ y l k. kept y k (f.ahead y (omega arith) l) }

  node_decides : (o : Option ℕ) → Decides (is_some o) ((c : ℕ) × (o ≡ Some c))
  node_decides o = (some_of o, λ r. ap is_some r.1)

  list_decides : (x : ℕ) → Decides (is_some (m.chart x) || eqb x start) (IsList m x)
  list_decides x = Decides-or (is_some (m.chart x)) (eqb x start) (node_decides (m.chart x)) (Decides-eqb x start)

  module _ (w : Limits m) where
    node_small : (x : ℕ) → IsNode m x → x < 65
    node_small x n = omega (arith, w.node_below x n.0 n.1)

    list_small : (x : ℕ) → IsList m x → x < 65
    list_small x (inl n) = node_small x n
    list_small x (inr e) = omega arith

    chart_small : (x : ℕ) → IsChart m x → x < 65
    chart_small x l = omega (arith, w.charts)

    reads_matched : Reads (is_chart m) (λ c. is_matched (m.drawn c)) (IsChart m) (Matched m)
    reads_matched = record { covered = λ x. Decides-ltb x m.charts; below = chart_small; held = λ x c. (is_matched_lem (m.drawn x) (w.framed x), matched_is (m.drawn x)) }

    module _ (M : AllMatched m) where
      reads_listable : Reads (is_chart m) (λ c. is_listable (m.drawn c)) (IsChart m) (Listable m)
      reads_listable = record { covered = λ x. Decides-ltb x m.charts; below = chart_small; held = λ x c. (is_listable_lem m.drawn x (w.framed x), listable_is m.drawn x (w.framed x) (M x c)) }

      reads_one_first : Reads (is_chart m) (is_one_first m) (IsChart m) (OneFirst m)
      reads_one_first = record { covered = λ x. Decides-ltb x m.charts; below = chart_small; held = λ x c. (is_one_first_lem m.drawn x (w.framed x) (M x c), one_first_is m.drawn x (w.framed x) (M x c)) }

      reads_one_leader : Reads (is_list m) (has_one_leader m) (IsList m) (OneLeader m)
      reads_one_leader = record { covered = list_decides; below = list_small; held = λ x c. (is_one_leader m w M x, one_leader_is m w M x) }

      reads_takes_part : AllOneLeader m → Reads (is_node m) (leader_takes_part m) (IsNode m) (LeaderTakesPart m)
      reads_takes_part u = record { covered = λ x. node_decides (m.chart x); below = node_small; held = λ x c. (is_present_lem m w M x (u x (inl c)), present_is m w M x) }

    reads_to_end : Reads (is_list m) (leads_to_end m) (IsList m) (LeadsToEnd m)
    reads_to_end = record { covered = list_decides; below = list_small; held = λ x c. (is_to_end m w x, λ r. to_end_is m w x r (list_small x c)) }

    node_from : (l : ℕ) → not (is_some (m.chart l)) ≡ false → IsNode m l
    node_from l h = some_of (m.chart l) (not-false (is_some (m.chart l)) h)

    starts_at_nodes : end_at_start m ≡ None → StartsAtNodes m
    starts_at_nodes h l i = node_from l (find_none (is_end m) (m.list start) h l i)

    first_end_lem : (l : ℕ) → end_at_start m ≡ Some l → FirstEndAtStart m l
    first_end_lem l h = let r = find_some (is_end m) (m.list start) l h in
        (r.before, r.behind, r.split, none_of (m.chart l) (not-true (is_some (m.chart l)) r.here), λ k i. node_from k (r.ahead k i))

    said_or : (f : ℕ → Refusal) (o : Option ℕ) (rest : Result (Unit {0}) Refusal) → ((x : ℕ) → o ≡ Some x → Breaks m (f x)) → (o ≡ None → Said m rest) → Said m (or_else f o rest)
    said_or f None rest a b = b refl
    said_or f (Some x) rest a b = a x refl

    list-rules : AllMatched m → AllListable m → AllOneFirst m → Said m (list_rules m)
    list-rules M L O =
        said_or EndAtStart (end_at_start m) _ (λ x h. (M, L, O, first_end_lem x h)) (λ h1. let S = starts_at_nodes h1 in
        said_or TwoLeaders (broken (is_list m) (has_one_leader m)) _ (λ x h. (M, L, O, S, lowest_of (reads_one_leader M) x h)) (λ h2. let U = everywhere (reads_one_leader M) h2 in
        said_or LeaderAbsent (broken (is_node m) (leader_takes_part m)) _ (λ x h. (M, L, O, S, U, lowest_of (reads_takes_part M U) x h)) (λ h3. let T = everywhere (reads_takes_part M U) h3 in
        said_or NoEnd (broken (is_list m) (leads_to_end m)) _ (λ x h. (M, L, O, S, U, T, lowest_of reads_to_end x h)) (λ h4.
        record { matched = M; listable = L; one_first = O; starts = S; one_leader = U; takes_part = T; to_end = everywhere reads_to_end h4 }))))

    -- the answer says of the document what the rules say
    pub verdict-says : Said m (verdict m)
    unfolding verdict
    verdict-says =
        said_or Unmatched (broken (is_chart m) (λ c. is_matched (m.drawn c))) _ (λ x h. lowest_of reads_matched x h) (λ h1. let M = everywhere reads_matched h1 in
        said_or Cyclic (broken (is_chart m) (λ c. is_listable (m.drawn c))) _ (λ x h. (M, lowest_of (reads_listable M) x h)) (λ h2. let L = everywhere (reads_listable M) h2 in
        said_or NotOneFirst (broken (is_chart m) (is_one_first m)) _ (λ x h. (M, L, lowest_of (reads_one_first M) x h)) (λ h3.
        list-rules M L (everywhere (reads_one_first M) h3))))

    pub is_fair_lem : is_fair m ≡ true → Fair m
    is_fair_lem h = go (verdict m) h verdict-says
      where
        go : (r : Result (Unit {0}) Refusal) → is_ok r ≡ true → Said m r → Fair m
        go (Ok t) h f = f
        go (Err e) h b = absurd (both_ways false refl h)

    -- a list that is not judged is empty, and so has no leader
    one_leader_all : Fair m → (x : ℕ) → x ≤ start → OneLeader m x
    one_leader_all f x h = ⊎_elim (λ (e : x ≡ start). f.one_leader x (inr e)) (λ (n : x ≡ start → ⊥). go (m.chart x) refl (omega arith)) (cases_eq x start)
      where
        go : (o : Option ℕ) → m.chart x ≡ o → x < 64 → OneLeader m x
        go (Some c) e l = f.one_leader x (inl (c, e))
        go None e l = λ i j p q. absurd (subst (Mem p.0) (w.end_list x l e) p.2)

    pub are_leaders : Fair m → AreLeaders m (leaders_of m)
    are_leaders f x h = subst (IsLeader m x) (sym (get_or-map-range_with_len (λ y. leader_of (list_leaders m y)) 0 65 x x None (omega arith) (omega arith))) (is_leader m w f.matched x (one_leader_all f x h))
