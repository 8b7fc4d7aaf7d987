use Rattle.std.proofs.Common.{◌≤◌, [], length, get_or, take, ap, ◌∙◌, sym, subst, arith}
use Rattle.std.proofs.lemmas.List.{take_all}
use Rattle.msc.specs.Meaning.{no_chart}
use Rattle.msc.specs.Stored.{doc_of}
use Rattle.writing.specs.Pens.{Page, penned}
use Rattle.writing.specs.Walks.{part_of, parts_of}
use Rattle.writing.proofs.Forms.{few_parts, parts_more}
use Rattle.writing.proofs.Pages.{then_more}
use Rattle.writing.proofs.pen.Pen.parts.Goals as goal

pub loop-i-preserved : goal.loop-i-preserved
loop-i-preserved c =
    let d = c.args.self.now.document in
    let ps = (get_or d.charts c.args.chart no_chart).parts in
    let es = λ (p : Page). get_or (get_or p.document.charts c.args.chart no_chart).parts c.loop-i.i [] in
    then_more (λ o. parts_of o 0 (take c.loop-i.i ps)) (λ o. part_of o c.loop-i.i (get_or ps c.loop-i.i [])) c.args.self.now c.loop-i.self _ c.loop-i.invariant
    (c.part-in-loop-i.ensures ∙ ap (λ l. penned c.loop-i.self (part_of c.loop-i.self.document c.loop-i.i l)) (c.part.ensures ∙ ap es c.self.view_is))
    ∙ sym (ap (penned c.args.self.now) (parts_more d.instances d.messages d.actions c.loop-i.i ps))

pub returns : goal.returns
returns c =
    let d = c.args.self.now.document in
    let ps = (get_or d.charts c.args.chart no_chart).parts in
    let few : length ps ≤ 8 = subst (λ (p : Page). length (get_or p.document.charts c.args.chart no_chart).parts ≤ 8) c.self.view_is (few_parts (doc_of c.self.inside.document.now.tables) c.self.inside.document.now.sound c.args.chart) in
    c.loop-i.invariant ∙ ap (λ l. penned c.args.self.now (parts_of d 0 l)) (take_all c.loop-i.i ps (omega (arith, few, c.loop-i-test.false)))
