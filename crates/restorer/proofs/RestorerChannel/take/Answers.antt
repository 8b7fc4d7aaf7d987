use Rattle.std.proofs.Common.{◌≡◌, Err, rules, sym, refl, ◌∙◌, le_trans}
use Rattle.channel.proofs.Makes.{take_done, take_refused}
use Rattle.restorer.specs.Restored.{waits_in, room_in, Sound}
use Rattle.restorer.proofs.Steps.{placed_pair, placed_carries, placed_shown, placed_none, take-first, take_waits, take_sound}
use Rattle.restorer.proofs.RestorerChannel.take.Goals as goal

pub returns-in_err-i : goal.returns-in_err-i
returns-in_err-i g c = λ s.
    let b = g.B.Bag in
    let r = c.args.self.now in
    let few = le_trans (g.met.B.Bag.within r.bag s.bag) (g.met.B.Bag.most r.bag s.bag) in
    let same : c.from_residual.result ≡ Err c.in_err-i.field-0.0 = search rules in
    let none = placed_none b r c.args.from c.args.to s few _ (sym (c.place.ensures.place s.bag) ∙ c.in_err-i.was) in
    rw same (take_refused (Sound b) (waits_in b) (room_in b) r _ c.args.from c.args.to _ none s refl refl)

pub returns-in_err-item : goal.returns-in_err-item
returns-in_err-item g c = λ s.
    let at = sym (c.place.ensures.place s.bag) ∙ c.in_ok-i.was in
    absurd (placed_shown g.B.Bag c.args.self.now c.args.from c.args.to c.in_ok-i.i _ at (c.in_err-item.ensures s.bag).answer)

pub returns : goal.returns
returns g c = λ s.
    let b = g.B.Bag in
    let r = c.args.self.now in
    let few = le_trans (g.met.B.Bag.within r.bag s.bag) (g.met.B.Bag.most r.bag s.bag) in
    let at = sym (c.place.ensures.place s.bag) ∙ c.in_ok-i.was in
    let pair = placed_pair b r c.args.from c.args.to c.in_ok-i.i at in
    let e = c.in_ok-item.ensures s.bag in
    let here = placed_carries b r c.args.from c.args.to c.in_ok-i.i _ at e.answer in
    take_done (Sound b) (waits_in b) (room_in b) r _ c.args.from c.args.to _ pair
    (take-first b r s few c.args.from c.args.to pair _ e.stays _ here e.after)
    (take_sound b r s few c.args.from c.args.to pair _ e.stays _ here e.after)
    e.limit
    (take_waits b r s few c.args.from c.args.to pair _ e.stays _ here e.after)
