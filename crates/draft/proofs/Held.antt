-- What a draft's tables say of the draft that they hold.
use Rattle.std.proofs.Common.{◌≡◌, ℕ, ◌-◌, ◌≤◌, Bool, true, false, cond, List, [], ◌∷◌, ◌++◌, length, take, drop, sym, ap, ◌∙◌, arith}
use Rattle.std.proofs.lemmas.List.{length-append, length-take-le, drop-append-le, drop_all, take_rest, take-append-drop}
use Rattle.msc.specs.Doc.{all_events}
use Rattle.msc.specs.Stored.{cut, charts_from}
use Rattle.msc.specs.declared.event.Event.{Event}
use Rattle.forms.specs.Drafts.{at_hand, so_far, with_event, with_instance, closed}
use Rattle.forms.specs.Drafts as drafts
use Rattle.draft.specs.Tiles.{tiles}
use Rattle.draft.specs.Drafting.{unopened}
use Rattle.draft.specs.Laid.{draft_of, Laid}
use Rattle.draft.specs.declared.draft.Draft.TheInside.{Inside}
use Rattle.draft.proofs.Tiling.{tiles_le, tiles_push, cut_longer, cut_push, joined_cut, charts_longer, joined_charts}

module _ (d : Inside) (l : Laid d) where
  pub first_le : d.first ≤ length d.events
  first_le = omega (arith, tiles_le d.first d.ends d.«open» l.tiled, l.within)

  pub at_hand_lem : at_hand (draft_of d) ≡ drop d.first d.events
  at_hand_lem = joined_cut d.events d.first d.ends d.«open» l.tiled

  pub so_far_lem : so_far (draft_of d) ≡ length d.events
  so_far_lem =
      let all = all_events (charts_from d.events 0 d.charts) in
      omega (arith, length-append all (drop d.first d.events), ap length (joined_charts d.events 0 d.charts d.first l.charted), ap length at_hand_lem)

  -- the draft with another table of events
  abbrev pub over : List Event → drafts.Draft
  over es = record (draft_of d) { charts = charts_from es 0 d.charts; parts = cut es d.first d.ends; part = drop d.«open» es }

  pub over_push : (es : List Event) (e : Event) → d.«open» ≤ length es → over (es ++ e ∷ []) ≡ with_event (over es) e
  over_push es e h =
      let m : d.first ≤ length es = omega (arith, tiles_le d.first d.ends d.«open» l.tiled) in
      let x = charts_longer es (e ∷ []) 0 d.charts d.first l.charted m in
      let y = cut_longer es (e ∷ []) d.first d.ends d.«open» l.tiled h in
      let z = drop-append-le d.«open» es (e ∷ []) h in
      cc

  pub over_pushed : (r : Bool) (es : List Event) (e : Event) → es ≡ cond r (d.events ++ e ∷ []) d.events → over es ≡ cond r (with_event (draft_of d) e) (draft_of d)
  over_pushed true es e h = ap over h ∙ over_push d.events e (omega (arith, l.within))
  over_pushed false es e h = ap over h

-- parts with one more, which ends where the events do
pub cut_rest : (es : List Event) (a : ℕ) (ends : List ℕ) (b n : ℕ) → tiles a ends b ≡ true → n ≡ length es → cut es a (ends ++ n ∷ []) ≡ cut es a ends ++ drop b es ∷ []
cut_rest es a ends b n t e = cut_push es a ends b n t ∙ ap (λ (x : List Event). cut es a ends ++ x ∷ []) (ap (λ k. take (k - b) (drop b es)) e ∙ take_rest es b)

-- one end more, where the events end
module _ (d : Inside) (l : Laid d) (n : ℕ) (e : n ≡ length d.events) (ends : List ℕ) (is : ends ≡ d.ends ++ n ∷ []) where
  pub closes_tiled : tiles d.first ends n ≡ true
  closes_tiled = ap (λ x. tiles d.first x n) is ∙ tiles_push d.first d.ends d.«open» n l.tiled (omega (arith, l.within))

  -- the open part is one part more, and nothing is behind it
  pub closes : record (draft_of d) { parts = cut d.events d.first ends; part = drop n d.events } ≡ closed (draft_of d)
  closes =
      let x = ap (cut d.events d.first) is ∙ cut_rest d.events d.first d.ends d.«open» n l.tiled e in
      let y = drop_all n d.events (omega arith) in
      cc

-- without the open part
pub over_front : (d : Inside) (l : Laid d) (es : List Event) → d.«open» ≤ length es → over d l (take d.«open» es) ≡ unopened (over d l es)
over_front d l es h =
    let o = d.«open» in
    let k : length (take o es) ≡ o = length-take-le o es h in
    let f = sym (take-append-drop o es) in
    let m : d.first ≤ length (take o es) = omega (arith, tiles_le d.first d.ends o l.tiled) in
    let x = ap (λ z. charts_from z 0 d.charts) f ∙ charts_longer (take o es) (drop o es) 0 d.charts d.first l.charted m in
    let y = ap (λ z. cut z d.first d.ends) f ∙ cut_longer (take o es) (drop o es) d.first d.ends o l.tiled (omega arith) in
    let z = drop_all o (take o es) (omega arith) in
    cc
