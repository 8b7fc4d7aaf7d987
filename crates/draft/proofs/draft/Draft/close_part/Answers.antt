use Rattle.std.proofs.Common.{ltb, sym, ap, ◌∙◌, arith}
use Rattle.std.proofs.lemmas.Bool.{cond-true}
use Rattle.draft.proofs.Tiling.{length_cut}
use Rattle.draft.proofs.Held.{closes, closes_tiled}
use Rattle.draft.proofs.draft.Draft.close_part.Goals as goal

pub invariant_of-self : goal.invariant_of-self
invariant_of-self c = record {
  within = omega (arith, c.len-end.ensures.is);
  charted = c.self.invariant.charted;
  tiled = closes_tiled c.self.inside c.self.invariant c.len-end.result c.len-end.ensures.is _ (c.push-fits.ensures.items ∙ cond-true _ _ _ c.if-fits.true);
}

pub returns-then-fits-clause-done : goal.returns-then-fits-clause-done
returns-then-fits-clause-done c =
    let d = c.self.inside in
    rw (← c.self.view_is) (c.push-fits.ensures.done ∙ ap (λ n. ltb n 8) (sym (length_cut d.events d.first d.ends)))

pub returns-then-fits-clause-is : goal.returns-then-fits-clause-is
returns-then-fits-clause-is c =
    rw (c.if-fits.true, ← c.self.view_is) (closes c.self.inside c.self.invariant c.len-end.result c.len-end.ensures.is _ (c.push-fits.ensures.items ∙ cond-true _ _ _ c.if-fits.true))

pub returns-else-fits-clause-done : goal.returns-else-fits-clause-done
returns-else-fits-clause-done c =
    let d = c.self.inside in
    rw (← c.self.view_is) (c.push-fits.ensures.done ∙ ap (λ n. ltb n 8) (sym (length_cut d.events d.first d.ends)))

pub returns-then-fits-clause-few : goal.returns-then-fits-clause-few
returns-then-fits-clause-few c = let d = c.self.inside in omega (arith, c.push-fits.ensures.few, length_cut d.events d.first c.push-fits.new.self)

pub returns-else-fits-clause-few : goal.returns-else-fits-clause-few
returns-else-fits-clause-few c = let d = c.self.inside in omega (arith, c.push-fits.ensures.few, length_cut d.events d.first c.push-fits.new.self)
