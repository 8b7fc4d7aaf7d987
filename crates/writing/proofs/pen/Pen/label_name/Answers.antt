use Rattle.std.proofs.Common.{[], get_or, ap, sym}
use Rattle.writing.proofs.Forms.{label_names_map}
use Rattle.writing.proofs.pen.Pen.label_name.Goals as goal

pub returns : goal.returns
returns c =
    let t = c.tables-tables.result.now in
    rw (← c.tables-tables.ensures, c.name_at.ensures, c.as_slice.ensures.is) (ap (λ ns. get_or ns c.args.n []) (sym (label_names_map t.labels)))
