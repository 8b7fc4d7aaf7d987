use Rattle.std.proofs.Common.{refl}
use Rattle.std.proofs.lemmas.Result.{err_from_is_err_and}
use Rattle.parts.proofs.reading.Reading.action_event.Goals as goal

pub returns-in_err-sign-clause-says : goal.returns-in_err-sign-clause-says
returns-in_err-sign-clause-says c =
    let p = err_from_is_err_and c.from_residual-in_err-sign.result c.from_residual-in_err-sign.ensures.1 in
    let name = c.in_ok-name.ensures in
    rw (p.1, p.2, ← name.says, ← name.keeps.words, ← c.in_err-sign.ensures.reads.says) refl
