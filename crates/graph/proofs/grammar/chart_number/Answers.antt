use Rattle.std.proofs.lemmas.Result.{err_from_is_err_and}
use Rattle.graph.proofs.grammar.chart_number.Goals as goal

pub returns-in_err-old_name : goal.returns-in_err-old_name
returns-in_err-old_name c =
    let p = err_from_is_err_and c.from_residual.result c.from_residual.ensures.1 in
    rw (p.1, p.2, ← c.as_slice.ensures.is) (record { says = c.in_err-old_name.ensures.reads.says; words = c.in_err-old_name.ensures.reads.words; text = c.in_err-old_name.ensures.reads.text })
