use Rattle.std.proofs.Common.{◌≡◌, ◌∙◌, refl, arith}
use Rattle.std.proofs.lemmas.Bool.{le-leb, cond-true}
use Rattle.std.proofs.lemmas.Result.{err_from_is_err_and}
use Rattle.forms.specs.Drafts.{opened}
use Rattle.charts.proofs.blocks.part.Goals as goal

pub returns-in_err-sign-2-clause-says : goal.returns-in_err-sign-2-clause-says
returns-in_err-sign-2-clause-says c =
    let p = err_from_is_err_and c.from_residual-in_err-sign-2.result c.from_residual-in_err-sign-2.ensures.1 in
    let sign = c.in_ok-sign.ensures.reads in
    let front : c.open_part.new.self ≡ opened c.args.reading.now.draft c.args.own = c.open_part.ensures.is ∙ cond-true _ _ _ (c.open_part.ensures.done ∙ le-leb c.args.own 8 (omega (arith, c.requires.declared))) in
    let events = c.in_ok-events.ensures in
    rw (p.1, p.2, ← sign.says, ← sign.words, ← front, ← events.says, ← events.keeps.words, ← c.in_err-sign-2.ensures.reads.says) refl
