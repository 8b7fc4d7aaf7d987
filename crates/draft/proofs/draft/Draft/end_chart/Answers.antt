use Rattle.std.proofs.Common.{◌≡◌, true, ltb, length, refl, sym, ap, ◌∙◌}
use Rattle.std.proofs.lemmas.Bool.{cond-true, eq-eqb}
use Rattle.forms.specs.Drafts.{opened}
use Rattle.draft.specs.Laid.{draft_of}
use Rattle.draft.proofs.Ending.{eight, same_charts, ended_rows, ended}
use Rattle.draft.proofs.draft.Draft.end_chart.Goals as goal

pub copy_from_slice-requires : goal.copy_from_slice-requires
copy_from_slice-requires c =
    sym (ap length c.as_slice.ensures.is ∙ eight c.args.self.now c.self.inside c.self.invariant (c.self.view_is ∙ c.open_part.ensures.is ∙ cond-true _ _ _ c.open_part.ensures.done) c.as_slice.ensures.few)

-- the draft with its eight parts, and the row behind the others
parts : (c : goal.After-truncate) → draft_of c.self.inside ≡ opened c.args.self.now 8
parts c = c.self.view_is ∙ c.open_part.ensures.is ∙ cond-true _ _ _ c.open_part.ensures.done

pushed : (c : goal.After-truncate) → c.push.result ≡ true
pushed c = c.push.ensures.done ∙ ap (λ n. ltb n 64) (same_charts c.args.self.now c.self.inside c.self.invariant (parts c)) ∙ sym c.has_room_chart.ensures ∙ c.if-not-has_room_chart.false

pub invariant_of-self : goal.invariant_of-self
invariant_of-self c =
    let e = c.self.inside in
    record {
      within = c.self.invariant.within;
      charted = ended_rows c.args.self.now e c.self.invariant (parts c) _ (c.copy_from_slice.ensures.after ∙ c.as_slice.ensures.is) _ (c.push.ensures.items ∙ cond-true _ _ _ (pushed c));
      tiled = rw c.truncate.ensures (eq-eqb e.«open» e.«open» refl);
    }

pub returns-clause-is : goal.returns-clause-is
returns-clause-is c =
    rw c.truncate.ensures (ended c.args.self.now c.self.inside c.self.invariant (parts c) _ (c.copy_from_slice.ensures.after ∙ c.as_slice.ensures.is) _ (c.push.ensures.items ∙ cond-true _ _ _ (pushed c)))
