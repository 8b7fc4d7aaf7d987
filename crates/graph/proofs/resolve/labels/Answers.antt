use Rattle.std.proofs.Common.{ℕ, List, [], ◌∷◌, Result, refl, ap, ◌∙◌, arith, length, length-append}
use Rattle.std.proofs.lemmas.Result.{err_from_is_err_and}
use Rattle.msc.specs.Spelling.{place}
use Rattle.lexis.specs.declared.refusal.Refusal.{Refusal}
use Rattle.forms.specs.Drafts.{Mention, line_names}
use Rattle.forms.specs.Reading.{label_at, resolve}
use Rattle.graph.proofs.Each.{pushed, more, stops, all}
use Rattle.graph.proofs.resolve.labels.Goals as goal

abbrev g : List (List ℕ) → Mention → Result ℕ Refusal
g names m = label_at (place names m.name) m.at

pub returns-in_err-label : goal.returns-in_err-label
returns-in_err-label c =
    let p = err_from_is_err_and c.from_residual.result c.from_residual.ensures.1 in
    let names = line_names c.args.lines.now in
    let l = c.loop-m in
    rw (p.1, p.2) (stops (resolve names) (g names) (λ _ k. k) (λ x xs. refl) _ l.m-index l.out _ l.invariant.says c.m-item.result c.loop-m-test.true c.m-item.is _ c.in_err-label.ensures
    ∙ ap (resolve names) c.as_slice-m-items.ensures.is)

pub loop-m-preserved : goal.loop-m-preserved
loop-m-preserved c =
    let names = line_names c.args.lines.now in
    let l = c.loop-m in
    let grown = pushed 8 l.out c.in_ok-label.field-0 _ c.push.new.self (omega (arith, l.invariant.many, c.loop-m-test.true, ap length c.as_slice-m-items.ensures.is, c.as_slice-m-items.ensures.few)) c.push.ensures.done c.push.ensures.labels in
    record {
      many = ap length grown ∙ omega (arith, length-append l.out (c.in_ok-label.field-0 ∷ []), l.invariant.many);
      says = rw grown (more (resolve names) (g names) (λ _ k. k) (λ x xs. refl) _ l.m-index l.out _ l.invariant.says c.m-item.result c.loop-m-test.true c.m-item.is _ c.in_ok-label.ensures);
    }

pub returns : goal.returns
returns c =
    let names = line_names c.args.lines.now in
    let l = c.loop-m in
    all (resolve names) (g names) (λ _ k. k) (λ x xs. refl) _ l.m-index l.out _ l.invariant.says refl (omega arith)
    ∙ ap (resolve names) c.as_slice-m-items.ensures.is
