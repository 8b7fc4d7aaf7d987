-- The judge's answer: the first rule that is broken, if any.
use Rattle.std.specs.Prelude.{ℕ, Bool, map, Option, Result, Ok, Err, MatchResult, List}
use Rattle.std.specs.Option.{option_map, option_map_or}
use Rattle.std.specs.Result.{is_ok, result_and}
use Rattle.msc.specs.Meaning.{Meaning}
use Rattle.order.specs.Charts.{is_matched, is_listable, leader_of}
use Rattle.judge.specs.Checks.{spots, is_chart, is_node, is_list, is_one_first, has_one_leader, leader_takes_part, leads_to_end, broken, end_at_start, list_leaders}
use Rattle.judge.specs.Rules.{Fair, Breaks}
use Rattle.judge.specs.declared.refusal.Refusal.{Refusal}
use Rattle.judge.specs.declared.refusal.Refusal.TheVariants.{Unmatched, Cyclic, NotOneFirst, EndAtStart, TwoLeaders, LeaderAbsent, NoEnd}

-- fails where there is a refusal
abbrev pub refused : Option Refusal → Result (Unit {0}) Refusal
refused o = option_map_or Err o (Ok tt)

-- a refusal for what was found, or what follows where nothing was
abbrev pub or_else : (ℕ → Refusal) → Option ℕ → Result (Unit {0}) Refusal → Result (Unit {0}) Refusal
or_else f o rest = result_and (refused (option_map f o)) rest

module _ (m : Meaning) where
  -- the rules for charts
  abbrev pub chart_rules : Result (Unit {0}) Refusal → Result (Unit {0}) Refusal
  chart_rules rest =
      or_else Unmatched (broken (is_chart m) (λ c. is_matched (m.drawn c)))
      (or_else Cyclic (broken (is_chart m) (λ c. is_listable (m.drawn c)))
      (or_else NotOneFirst (broken (is_chart m) (is_one_first m)) rest))

  -- the rules for lists
  abbrev pub list_rules : Result (Unit {0}) Refusal
  list_rules =
      or_else EndAtStart (end_at_start m)
      (or_else TwoLeaders (broken (is_list m) (has_one_leader m))
      (or_else LeaderAbsent (broken (is_node m) (leader_takes_part m))
      (or_else NoEnd (broken (is_list m) (leads_to_end m)) (Ok tt))))

  unfoldable pub verdict : Result (Unit {0}) Refusal
  verdict = chart_rules list_rules

  -- whether every rule holds
  abbrev pub is_fair : Bool
  is_fair = is_ok verdict

  -- the leader of each list
  abbrev pub leaders_of : List (Option ℕ)
  leaders_of = map (λ x. leader_of (list_leaders m x)) spots

  -- what an answer says of the document
  abbrev pub Said : Result (Unit {0}) Refusal → Type 0
  Said r = MatchResult r (λ _. Fair m) (Breaks m)
