use Rattle.std.proofs.Common.{length, ap, ◌∙◌, arith}
use Rattle.std.proofs.lemmas.List.{length_push}
use Rattle.std.proofs.lemmas.Bool.{lt-ltb, cond-true}
use Rattle.forms.specs.Drafts.{Draft, opened, closed}
use Rattle.draft.proofs.Padding.{opened-closed}
use Rattle.draft.proofs.draft.Draft.open_part.Goals as goal

-- the part that the turn closes is one more
pub loop-preserved : goal.loop-preserved
loop-preserved c =
    let d = c.loop.self in
    let i = c.loop.invariant in
    let closes = c.close_part.ensures.is ∙ cond-true c.close_part.result (closed d) d (c.close_part.ensures.done ∙ lt-ltb _ 8 (omega (arith, i.0, c.loop-test.true, c.if-i-gt8.false))) in (
      omega (arith, i.0, ap (λ (e : Draft). length e.parts) closes, length_push d.parts d.part),
      ap (λ (e : Draft). e.part) closes,
      ap (λ (e : Draft). opened e c.args.i) closes ∙ opened-closed d c.args.i i.1 (omega (arith, i.0, c.loop-test.true)) ∙ i.2,
    )
