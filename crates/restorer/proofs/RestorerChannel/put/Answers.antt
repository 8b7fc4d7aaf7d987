use Rattle.std.proofs.Common.{sym, ◌∙◌, le_trans}
use Rattle.channel.proofs.Makes.{put_done}
use Rattle.restorer.specs.Restored.{waits_in, room_in, Sound}
use Rattle.restorer.proofs.Steps.{put_waits, put_sound, not_full}
use Rattle.restorer.proofs.RestorerChannel.put.Goals as goal

pub returns : goal.returns
returns g c = λ s.
    let b = g.B.Bag in
    let r = c.args.self.now in
    let e = c.in_ok-put.ensures s.bag in
    let pair = sym c.if-not-is_pair.ensures in
    let few = le_trans (g.met.B.Bag.within r.bag s.bag) (g.met.B.Bag.most r.bag s.bag) in
    put_done (Sound b) (waits_in b) (room_in b) r _ c.args.from c.args.to _ pair
    (λ full. not_full _ _ e.answer (sym s.kept.count ∙ full))
    (put_sound b r s few c.args.from c.args.to pair _ e.stays _ e.after)
    e.limit
    (put_waits b r s few c.args.from c.args.to pair _ e.stays _ e.after)
