use Rattle.std.proofs.Common.{rules, refl}
use Rattle.tray.specs.Tray.{letters_in}
use Rattle.tray.proofs.Trays.{popped, take_filled, take_shuffled}
use Rattle.tray.proofs.TrayBag.take.Goals as goal

pub returns-clause-take : goal.returns-clause-take
returns-clause-take c = λ _.
    let left = popped c.args.self.now.items c.pop.new.self _ _ _ c.args.i c.deref.ensures.0 c.deref_mut.ensures.value c.len.ensures.value c.pop.ensures.rest in
    record { stays = tt; limit = refl; answer = search rules; after = take_shuffled (letters_in c.args.self.now) _ c.args.i c.in_ok-item.item (search rules) left }

pub returns-clause-exact : goal.returns-clause-exact
returns-clause-exact c =
    let left = popped c.args.self.now.items c.pop.new.self _ _ _ c.args.i c.deref.ensures.0 c.deref_mut.ensures.value c.len.ensures.value c.pop.ensures.rest in
    take_filled (letters_in c.args.self.now) _ c.args.i c.in_ok-item.item (search rules) left
