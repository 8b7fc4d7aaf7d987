use Rattle.std.proofs.Common.{◌≡◌, length, rules}
use Rattle.writing.proofs.Forms.{part_some}
use Rattle.writing.proofs.Pages.{penned_append, document_with}
use Rattle.writing.proofs.pen.Pen.part.Goals as goal

pub returns : goal.returns
returns c =
    let d = c.args.self.now.document in
    let some : length c.args.events.now ≡ 0 → ⊥ = search rules in
    rw (c.closing.ensures, c.events.ensures, c.titled.ensures, c.instance.ensures, ← part_some d.instances d.messages d.actions c.args.i c.args.events.now some) (simp (penned_append, document_with))
