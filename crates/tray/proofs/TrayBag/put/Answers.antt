use Rattle.std.proofs.Common.{refl}
use Rattle.tray.proofs.Trays.{put_shuffled}
use Rattle.tray.proofs.TrayBag.put.Goals as goal

pub returns-clause-put : goal.returns-clause-put
returns-clause-put c = λ _. let p = c.push.ensures in record { stays = tt; limit = refl; answer = p.answer; after = put_shuffled _ _ _ _ p.answer p.items }
