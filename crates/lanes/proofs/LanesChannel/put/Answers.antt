use Rattle.std.proofs.Common.{sym}
use Rattle.lanes.proofs.Places.{put_kept}
use Rattle.lanes.proofs.LanesChannel.put.Goals as goal

pub returns : goal.returns
returns c = λ _. put_kept c.args.self.now c.args.from c.args.to _ c.args.letter _ (sym c.if-not-is_pair.ensures) c.push.ensures.answer c.push.ensures.slots
