use Rattle.std.proofs.Common.{refl}
use Rattle.std.proofs.lemmas.Result.{err_from_is_err_and}
use Rattle.parts.proofs.reading.Reading.message_event.Goals as goal

pub returns-in_err-keyword-clause-says : goal.returns-in_err-keyword-clause-says
returns-in_err-keyword-clause-says c =
    let p = err_from_is_err_and c.from_residual-in_err-keyword.result c.from_residual-in_err-keyword.ensures.1 in
    let name = c.in_ok-name.ensures in
    rw (p.1, p.2, ← name.says, ← name.keeps.words, ← c.in_err-keyword.ensures.reads.says) refl

pub returns-in_err-sign-clause-says : goal.returns-in_err-sign-clause-says
returns-in_err-sign-clause-says c =
    let p = err_from_is_err_and c.from_residual-in_err-sign.result c.from_residual-in_err-sign.ensures.1 in
    let name = c.in_ok-name.ensures in
    let link = c.in_ok-keyword.ensures.reads in
    let partner = c.in_ok-partner.ensures in
    rw (p.1, p.2, ← name.says, ← name.keeps.words, ← link.says, ← link.words, ← partner.says, ← partner.words, ← c.in_err-sign.ensures.reads.says) refl
