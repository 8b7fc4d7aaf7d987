use Rattle.std.proofs.Common.{◌∙◌}
use Rattle.graph.proofs.grammar.list.Goals as goal

pub returns : goal.returns
returns c =
    let name = c.in_ok-name.ensures.reads in
    record {
      says = rw (← name.says, ← name.words, ← c.place-at.ensures) c.alts.ensures.says;
      words = c.alts.ensures.words ∙ name.words;
      text = c.alts.ensures.text ∙ name.text;
    }
