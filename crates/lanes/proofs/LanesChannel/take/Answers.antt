use Rattle.std.proofs.Common.{◌≡◌, Err, rules, sym, refl, ap, ◌∙◌}
use Rattle.std.specs.List.{list_all, remove}
use Rattle.channel.specs.Waits.{is_pair}
use Rattle.channel.proofs.Makes.{take_done, take_refused}
use Rattle.lanes.specs.Lanes.{waits_of, room_of, Sound}
use Rattle.lanes.specs.Slots.{queue_of}
use Rattle.lanes.specs.Rows.{pairs_removed}
use Rattle.lanes.proofs.Places.{placed_pair, placed_first, placed_without, placed_none, closed}
use Rattle.lanes.proofs.LanesChannel.take.Goals as goal

pub returns-in_err-i : goal.returns-in_err-i
returns-in_err-i c = λ _.
    let same : c.from_residual.result ≡ Err c.in_err-i.field-0.0 = search rules in
    let none = placed_none c.args.self.now c.args.from c.args.to _ (sym c.place.ensures ∙ c.in_err-i.was) in
    rw same (take_refused Sound waits_of room_of c.args.self.now _ c.args.from c.args.to _ none tt refl refl)

left : (c : goal.After-pop) → c.pop.new.self.items ≡ remove c.args.self.now.slots.items c.in_ok-i.i
left c = closed c.args.self.now.slots c.pop.new.self _ c.close.new.slots c.in_ok-i.i c.as_mut_slice.ensures.value c.close.ensures.len c.close.ensures.closed c.pop.ensures.rest

pub invariant_of-self-clause-pairs : goal.invariant_of-self-clause-pairs
invariant_of-self-clause-pairs c = let l = c.args.self.now in ap (list_all (λ x. is_pair x.from x.to)) (left c) ∙ pairs_removed l.slots.items c.in_ok-i.i l.pairs

pub returns : goal.returns
returns c = λ _.
    let l = c.args.self.now in
    let i = c.in_ok-i.i in
    let at = sym c.place.ensures ∙ c.in_ok-i.was in
    take_done Sound waits_of room_of l _ c.args.from c.args.to _ (placed_pair l c.args.from c.args.to i at).0
    (rw c.deref.ensures.0 (placed_first l c.args.from c.args.to i _ at))
    tt refl
    (ap (λ xs f t. queue_of f t xs) (left c.before) ∙ placed_without l c.args.from c.args.to i at)
