use Rattle.std.proofs.Common.{◌-◌, length, take, take_at, ap, ◌∙◌, arith}
use Rattle.std.specs.List.{remove}
use Rattle.std.proofs.lemmas.List.Edits.{length-remove}
use Rattle.std.proofs.lemmas.Slice.{put_mid-rotated}
use Rattle.lanes.specs.Rows.{blank}
use Rattle.lanes.proofs.close.Goals as goal

pub returns-else-slots-i-lt8-clause-closed : goal.returns-else-slots-i-lt8-clause-closed
returns-else-slots-i-lt8-clause-closed c =
    let xs = c.args.slots.now in
    let i = c.args.i in
    let moved = put_mid-rotated i (length xs - i) xs c.rotate_left.new.self blank c.requires (omega (arith, c.requires)) c.rotate_left.ensures.after in
    let n = length-remove xs i c.requires in
    ap (take (length xs - 1)) moved ∙ take_at (remove xs i) _ (length xs - 1) (omega (arith, n))
