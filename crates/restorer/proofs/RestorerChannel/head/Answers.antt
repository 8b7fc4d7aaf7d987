use Rattle.std.proofs.Common.{◌≡◌, Err, rules, sym, ◌∙◌, le_trans}
use Rattle.channel.proofs.Makes.{head_done}
use Rattle.restorer.specs.Restored.{waits_in}
use Rattle.restorer.proofs.Steps.{placed_pair, placed_carries, placed_shown, placed_none, head_waits}
use Rattle.restorer.proofs.RestorerChannel.head.Goals as goal

pub returns-in_err-i : goal.returns-in_err-i
returns-in_err-i g c = λ s.
    let b = g.B.Bag in
    let r = c.args.self.now in
    let few = le_trans (g.met.B.Bag.within r.bag s.bag) (g.met.B.Bag.most r.bag s.bag) in
    let same : c.from_residual.result ≡ Err c.in_err-i.field-0.0 = search rules in
    same ∙ sym (placed_none b r c.args.from c.args.to s few _ (sym (c.place.ensures.place s.bag) ∙ c.in_err-i.was))

pub returns-in_err-show : goal.returns-in_err-show
returns-in_err-show g c = λ s.
    let at = sym (c.place.ensures.place s.bag) ∙ c.in_ok-i.was in
    absurd (placed_shown g.B.Bag c.args.self.now c.args.from c.args.to c.in_ok-i.i _ at (c.in_err-show.ensures s.bag))

pub returns : goal.returns
returns g c = λ s.
    let b = g.B.Bag in
    let r = c.args.self.now in
    let few = le_trans (g.met.B.Bag.within r.bag s.bag) (g.met.B.Bag.most r.bag s.bag) in
    let at = sym (c.place.ensures.place s.bag) ∙ c.in_ok-i.was in
    let pair = placed_pair b r c.args.from c.args.to c.in_ok-i.i at in
    let y = c.in_ok-show.ensures s.bag in
    head_done (waits_in b r) c.args.from c.args.to _ pair
    (head_waits b r s few c.args.from c.args.to pair c.in_ok-i.i _ (sym y) (placed_carries b r c.args.from c.args.to c.in_ok-i.i _ at y))
