use Rattle.std.proofs.Common.{◌≡◌, length, get_or, take, sym, ap, ◌∙◌, arith}
use Rattle.std.specs.List.{flat_map}
use Rattle.msc.specs.Meaning.{no_chart}
use Rattle.writing.specs.Pens.{Page, penned}
use Rattle.writing.specs.Walks.{chart_of}
use Rattle.writing.proofs.Pages.{then_more, walked}
use Rattle.writing.proofs.pen.Pen.charts.Goals as goal

pub loop-i-preserved : goal.loop-i-preserved
loop-i-preserved c =
    let p = c.args.self.now in
    let many : c.charts-i-end.result ≡ length p.document.charts = c.charts-i-end.ensures ∙ ap (λ (p : Page). length p.document.charts) c.self.view_is in
    then_more (λ d. flat_map (chart_of d) (take c.loop-i.i d.charts)) (λ d. chart_of d (get_or d.charts c.loop-i.i no_chart)) p c.loop-i.self _ c.loop-i.invariant c.chart.ensures
    ∙ sym (ap (penned p) (walked (chart_of p.document) p.document.charts c.loop-i.i no_chart (omega (arith, many, c.loop-i-test.true))))
