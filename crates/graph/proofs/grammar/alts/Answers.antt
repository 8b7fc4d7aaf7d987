use Rattle.std.proofs.Common.{◌-◌, sym, ◌∙◌, arith}
use Rattle.std.proofs.lemmas.Result.{err_from_is_err_and}
use Rattle.forms.specs.Reading.{alt_turn}
use Rattle.draft.proofs.Repeat.{more, ends, refuses, runs_out}
use Rattle.graph.proofs.grammar.alts.Goals as goal

pub returns-in_err-turn : goal.returns-in_err-turn
returns-in_err-turn c =
    let p = err_from_is_err_and c.from_residual.result c.from_residual.ensures.1 in
    let l = c.loop in
    let turn = c.in_err-turn.ensures in
    rw (p.1, p.2) (record {
      says = refuses (alt_turn l.reader.words c.args.close) (8 - l.counter) l.list _ _ _ l.invariant.says (7 - l.counter) (omega arith) _ turn.says;
      words = turn.words ∙ l.invariant.words;
      text = turn.text ∙ l.invariant.text;
    })

pub returns-then-is_break : goal.returns-then-is_break
returns-then-is_break c =
    let l = c.loop in
    let turn = c.in_ok-turn.ensures in
    record {
      says = ends (alt_turn l.reader.words c.args.close) (8 - l.counter) l.list _ _ _ l.invariant.says (7 - l.counter) (omega arith) _ _ (sym c.is_break.ensures ∙ c.if-is_break.true) _ _ turn.says;
      words = turn.words ∙ l.invariant.words;
      text = turn.text ∙ l.invariant.text;
    }

pub loop-preserved : goal.loop-preserved
loop-preserved c =
    let l = c.loop in
    let turn = c.in_ok-turn.ensures in
    record {
      says = rw turn.words (more (alt_turn l.reader.words c.args.close) (8 - l.counter) l.list _ _ _ l.invariant.says _ (omega arith) _ _ (sym c.is_break.ensures ∙ c.if-is_break.false) _ _ turn.says);
      words = turn.words ∙ l.invariant.words;
      text = turn.text ∙ l.invariant.text;
    }

pub returns : goal.returns
returns c =
    let l = c.loop in
    record {
      says = rw c.at.ensures (runs_out (alt_turn l.reader.words c.args.close) (8 - l.counter) l.list _ _ _ l.invariant.says (omega arith));
      words = l.invariant.words;
      text = l.invariant.text;
    }
