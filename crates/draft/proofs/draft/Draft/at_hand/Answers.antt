use Rattle.std.proofs.Common.{List, length, drop, sym, ap, ◌∙◌, arith}
use Rattle.std.proofs.lemmas.List.{take_rest}
use Rattle.msc.specs.declared.event.Event.{Event}
use Rattle.draft.proofs.Held.{first_le, at_hand_lem}
use Rattle.draft.proofs.draft.Draft.at_hand.Goals as goal

pub offset_bounds-all-self-inside : goal.offset_bounds-all-self-inside
offset_bounds-all-self-inside c = omega (arith, first_le c.self.inside c.self.invariant, c.as_slice-all.ensures.few)

pub slice_bounds-result-count : goal.slice_bounds-result-count
slice_bounds-result-count c = omega (arith, first_le c.self.inside c.self.invariant, ap length c.as_slice-all.ensures.is)

pub slice_bounds-result-start : goal.slice_bounds-result-start
slice_bounds-result-start c = omega (arith, first_le c.self.inside c.self.invariant, ap length c.as_slice-all.ensures.is)

pub returns : goal.returns
returns c =
    let d = c.self.inside in
    rw (← c.self.view_is)
    (take_rest c.as_slice-all.result.now d.first ∙ ap (λ (es : List Event). drop d.first es) c.as_slice-all.ensures.is ∙ sym (at_hand_lem d c.self.invariant))
