use Rattle.std.proofs.Common.{refl}
use Rattle.writing.proofs.Pages.{word_spaced, word_plain}
use Rattle.writing.proofs.pen.Pen.word.Goals as goal
use Rattle.writing.proofs.pen.Pen.word.Goals.{then-self, else-self}

pub returns : goal.returns
returns c =
    rw (← c.self.view_is)
    (elim c.if-self.branch [
      | then-self w ↦ rw w.self-inside-is (word_spaced _ _ w.extend.new.self c.args.w.now w.if-self.true refl refl w.extend.ensures (rw w.self-inside-is at c.extend-2.ensures))
      | else-self w ↦ rw w.self-inside-is (word_plain _ _ c.args.w.now w.if-self.false refl refl (rw w.self-inside-is at c.extend-2.ensures))
    ])
