use Rattle.std.proofs.Common.{ℕ, List, [], ◌∷◌, Result, refl, ap, ◌∙◌, arith, length, length-append}
use Rattle.std.proofs.lemmas.Result.{err_from_is_err_and}
use Rattle.msc.specs.declared.label.Body.{Body}
use Rattle.msc.specs.declared.label.Label.{Label}
use Rattle.lexis.specs.declared.refusal.Refusal.{Refusal}
use Rattle.forms.specs.Drafts.{Line, line_names}
use Rattle.forms.specs.Reading.{resolve_rest, resolve_lines}
use Rattle.graph.specs.Lines.{rest_of}
use Rattle.graph.specs.declared.line.Line.TheInside.{Inside}
use Rattle.graph.proofs.Each.{pushed, more, stops, all}
use Rattle.graph.proofs.resolve.resolved.Goals as goal

abbrev g : List (List ℕ) → Line → Result Body Refusal
g names l = resolve_rest names l.rest

abbrev mk : Line → Body → Label
mk l b = record { name = l.name; body = b }

-- the line that fields stand for
abbrev seen : Inside → Line
seen a = record { name = a.name; rest = rest_of a.rest }

pub returns-in_err-body : goal.returns-in_err-body
returns-in_err-body c =
    let p = err_from_is_err_and c.from_residual.result c.from_residual.ensures.1 in
    let names = line_names c.args.lines.now in
    let l = c.loop-line in
    rw (p.1, p.2) (stops (resolve_lines names) (g names) mk (λ x xs. refl) _ l.line-index l.out _ l.invariant.says (seen c.line.inside) c.loop-line-test.true (rw (← c.line.view_is) at c.line-item.is) _ c.in_err-body.ensures
    ∙ ap (resolve_lines names) c.as_slice-line-items.ensures.is)

pub loop-line-preserved : goal.loop-line-preserved
loop-line-preserved c =
    let names = line_names c.args.lines.now in
    let l = c.loop-line in
    let label = mk (seen c.line.inside) c.in_ok-body.body in
    let grown = pushed 64 l.out label _ c.push.new.self (omega (arith, l.invariant.many, c.loop-line-test.true, ap length c.as_slice-line-items.ensures.is, c.as_slice-line-items.ensures.few)) c.push.ensures.done c.push.ensures.items in
    record {
      many = ap length grown ∙ omega (arith, length-append l.out (label ∷ []), l.invariant.many);
      says = rw grown (more (resolve_lines names) (g names) mk (λ x xs. refl) _ l.line-index l.out _ l.invariant.says (seen c.line.inside) c.loop-line-test.true (rw (← c.line.view_is) at c.line-item.is) _ c.in_ok-body.ensures);
    }

pub returns : goal.returns
returns c =
    let names = line_names c.args.lines.now in
    let l = c.loop-line in
    all (resolve_lines names) (g names) mk (λ x xs. refl) _ l.line-index l.out _ l.invariant.says refl (omega arith)
    ∙ ap (resolve_lines names) c.as_slice-line-items.ensures.is
