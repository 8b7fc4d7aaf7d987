use Rattle.std.proofs.Common.{List, map, sym, ap, ◌∙◌}
use Rattle.msc.specs.Spelling.{has}
use Rattle.msc.specs.declared.chart.Chart.{Chart}
use Rattle.draft.proofs.Ending.{chart_names_lem}
use Rattle.draft.proofs.draft.Draft.has_chart.Goals as goal

pub returns : goal.returns
returns c =
    let d = c.self.inside in
    rw (← c.self.view_is)
    (c.contains.ensures
    ∙ ap (λ (cs : List Chart). has (map (λ (x : Chart). x.name) cs) c.args.w.now) c.as_slice.ensures.is
    ∙ ap (λ ns. has ns c.args.w.now) (sym (chart_names_lem d.events 0 d.charts)))
