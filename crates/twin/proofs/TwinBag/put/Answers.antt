use Rattle.std.proofs.Common.{◌≡◌, length, sym, ◌∙◌, arith, length-append}
use Rattle.std.proofs.lemmas.Bool.{eqb-false}
use Rattle.twin.specs.Twin.{held_by, space_of}
use Rattle.twin.proofs.Links.{first_space, second_space}
use Rattle.twin.proofs.Twins.{put_first, put_second, placed_first, placed_second}
use Rattle.twin.proofs.TwinBag.put.Goals as goal

pub returns-then-first_takes : goal.returns-then-first_takes
returns-then-first_takes g c =
    let a = g.A.Bag in
    let b = g.B.Bag in
    let t = c.args.self.now in
    record {
      put = λ s.
          let space : length (held_by a b t) ≡ space_of a b t → ⊥ = eqb-false _ _ (sym (c.if-is_full.ensures s)) in
          let takes = sym (c.first_takes.ensures s.first s.second) ∙ c.if-first_takes.true in
          put_first a b t s c.args.item space _ _ (first_space _ _ _ _ takes) (c.put.ensures s.first);
      exact = λ s.
          let space : length (held_by a b t) ≡ space_of a b t → ⊥ = eqb-false _ _ (sym (c.if-is_full.ensures s)) in
          let takes = sym (c.first_takes.ensures s.first s.second) ∙ c.if-first_takes.true in
          placed_first a b t s c.args.item space _ _ takes (c.put.ensures s.first);
    }

pub returns-else-first_takes : goal.returns-else-first_takes
returns-else-first_takes g c =
    let a = g.A.Bag in
    let b = g.B.Bag in
    let t = c.args.self.now in
    record {
      put = λ s.
          let space : length (held_by a b t) ≡ space_of a b t → ⊥ = eqb-false _ _ (sym (c.if-is_full.ensures s)) in
          let takes = sym (c.first_takes.ensures s.first s.second) ∙ c.if-first_takes.false in
          let k = length-append (a.held t.first) (b.held t.second) in
          let w = g.met.A.Bag.within t.first s.first in
          put_second a b t s c.args.item space _ _
          (second_space (length (a.held t.first)) (a.space t.first) (length (b.held t.second)) (b.space t.second) w (omega (arith, s.within)) (λ e. space (k ∙ e)) takes)
          (c.put-else-first_takes.ensures s.second);
      exact = λ s.
          let space : length (held_by a b t) ≡ space_of a b t → ⊥ = eqb-false _ _ (sym (c.if-is_full.ensures s)) in
          let takes = sym (c.first_takes.ensures s.first s.second) ∙ c.if-first_takes.false in
          placed_second a b t s c.args.item space _ _ takes (c.put-else-first_takes.ensures s.second);
    }
