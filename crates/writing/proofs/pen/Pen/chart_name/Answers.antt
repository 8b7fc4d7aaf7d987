use Rattle.std.proofs.Common.{[], get_or, ap}
use Rattle.writing.proofs.Forms.{chart_names_map}
use Rattle.writing.proofs.pen.Pen.chart_name.Goals as goal

pub returns : goal.returns
returns c =
    let t = c.tables-tables.result.now in
    rw (← c.tables-tables.ensures, c.name_at.ensures, c.as_slice.ensures.is) (ap (λ ns. get_or ns c.args.n []) (chart_names_map t.events 0 t.charts))
