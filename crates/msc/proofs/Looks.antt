-- What is read of a document's tables at a number.
use Rattle.std.proofs.Common.{◌≡◌, ℕ, zero, suc, ◌-◌, List, [], ◌∷◌, length, get_or, take, drop, refl, ap, ◌∙◌}
use native.Mathlib.Nat.{zero-sub}
use Rattle.msc.specs.Meaning.{no_chart}
use Rattle.msc.specs.Stored.{cut, charts_from, ends_of, end_at, ahead, begin_at}
use Rattle.msc.specs.declared.chart.Chart.{Chart}
use Rattle.msc.specs.declared.event.Event.{Event}

pub length_charts : (es : List Event) (a : ℕ) (cs : List Chart) → length (charts_from es a cs) ≡ length cs
length_charts es a [] = refl
length_charts es a (c ∷ cs) = ap suc (length_charts es (get_or c.ends 7 0) cs)

-- a part of a cut
pub cut_at : (es : List Event) (a : ℕ) (ends : List ℕ) (i : ℕ) → get_or (cut es a ends) i [] ≡ take (get_or ends i 0 - ahead a (λ k. get_or ends k 0) i) (drop (ahead a (λ k. get_or ends k 0) i) es)
cut_at es a [] i = rw zero-sub refl
cut_at es a (e ∷ ends) zero = refl
cut_at es a (e ∷ ends) (suc zero) = cut_at es e ends zero
cut_at es a (e ∷ ends) (suc (suc i)) = cut_at es e ends (suc i)

-- the parts of a chart
pub chart_at_lem : (es : List Event) (a : ℕ) (cs : List Chart) (c : ℕ) → (get_or (charts_from es a cs) c no_chart).parts ≡ cut es (ahead a (λ k. end_at (ends_of cs) k 7) c) (get_or (ends_of cs) c [])
chart_at_lem es a [] c = refl
chart_at_lem es a (x ∷ cs) zero = refl
chart_at_lem es a (x ∷ cs) (suc zero) = chart_at_lem es (get_or x.ends 7 0) cs zero
chart_at_lem es a (x ∷ cs) (suc (suc c)) = chart_at_lem es (get_or x.ends 7 0) cs (suc c)

pub part_at : (es : List Event) (cs : List Chart) (c i : ℕ) → get_or (get_or (charts_from es 0 cs) c no_chart).parts i [] ≡ take (end_at (ends_of cs) c i - begin_at (ends_of cs) c i) (drop (begin_at (ends_of cs) c i) es)
part_at es cs c i = ap (λ (ps : List (List Event)). get_or ps i []) (chart_at_lem es 0 cs c) ∙ cut_at es (ahead 0 (λ k. end_at (ends_of cs) k 7) c) (get_or (ends_of cs) c []) i
