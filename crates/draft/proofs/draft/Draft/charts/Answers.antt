use Rattle.std.proofs.Common.{refl, sym}
use Rattle.draft.proofs.Ending.{chart_names_lem}
use Rattle.draft.proofs.draft.Draft.charts.Goals as goal

pub returns : goal.returns
returns c =
    let d = c.self.inside in
    rw (← c.self.view_is) (record { names = sym (chart_names_lem d.events 0 d.charts); charts = (d.events, refl) })
