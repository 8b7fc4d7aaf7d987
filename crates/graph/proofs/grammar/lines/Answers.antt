use Rattle.std.proofs.Common.{◌+◌, ◌-◌, sym, ◌∙◌, arith}
use Rattle.std.proofs.lemmas.Result.{err_from_is_err_and}
use Rattle.forms.specs.Reading.{line_turn}
use Rattle.draft.proofs.Repeat.{more, ends, refuses, runs_out}
use Rattle.graph.specs.Parts.{names_of}
use Rattle.graph.proofs.grammar.lines.Goals as goal

pub returns-in_err-turn : goal.returns-in_err-turn
returns-in_err-turn c =
    let p = err_from_is_err_and c.from_residual.result c.from_residual.ensures.1 in
    let l = c.loop in
    let turn = c.in_err-turn.ensures.reads in
    rw (p.1, p.2) (record {
      says = refuses (line_turn l.reader.words (names_of c.args.charts.now)) (65 - l.counter) l.lines.lines _ _ _ l.invariant.says (64 - l.counter) (omega arith) _ (rw l.invariant.charts at turn.says);
      words = turn.words ∙ l.invariant.words;
      text = turn.text ∙ l.invariant.text;
    })

pub returns-then-is_break : goal.returns-then-is_break
returns-then-is_break c =
    let l = c.loop in
    let turn = c.in_ok-turn.ensures.reads in
    record {
      says = ends (line_turn l.reader.words (names_of c.args.charts.now)) (65 - l.counter) l.lines.lines _ _ _ l.invariant.says (64 - l.counter) (omega arith) _ _ (sym c.is_break.ensures ∙ c.if-is_break.true) _ _ (rw l.invariant.charts at turn.says);
      words = turn.words ∙ l.invariant.words;
      text = turn.text ∙ l.invariant.text;
    }

pub loop-preserved : goal.loop-preserved
loop-preserved c =
    let l = c.loop in
    let turn = c.in_ok-turn.ensures in
    record {
      says = rw turn.reads.words (more (line_turn l.reader.words (names_of c.args.charts.now)) (65 - l.counter) l.lines.lines _ _ _ l.invariant.says (65 - (l.counter + 1)) (omega arith) _ _ (sym c.is_break.ensures ∙ c.if-is_break.false) _ _ (rw l.invariant.charts at turn.reads.says));
      words = turn.reads.words ∙ l.invariant.words;
      text = turn.reads.text ∙ l.invariant.text;
      charts = rw turn.charts l.invariant.charts;
    }

pub returns : goal.returns
returns c =
    let l = c.loop in
    record {
      says = rw c.at.ensures (runs_out (line_turn l.reader.words (names_of c.args.charts.now)) (65 - l.counter) l.lines.lines _ _ _ l.invariant.says (omega arith));
      words = l.invariant.words;
      text = l.invariant.text;
    }
