use Rattle.std.proofs.Common.{ap, ◌∙◌, rules}
use Rattle.msc.specs.Stored.{doc_of}
use Rattle.order.specs.Meant.{meant}
use Rattle.judge.specs.Verdict.{is_fair, leaders_of}
use Rattle.judge.proofs.Judged.{said, ok_fair, fair_of, same_meaning, leaders_right}
use Rattle.judge.proofs.accepted.judge.Goals as goal

pub returns-in_err-verdict-clause-verdict : goal.returns-in_err-verdict-clause-verdict
returns-in_err-verdict-clause-verdict c = said c.args.document.now _ (search rules)

pub invariant_of-place : goal.invariant_of-place
invariant_of-place c = record {
  fair = ap is_fair (same_meaning c.args.document.now c.copied-copy.result (ap doc_of c.copied-copy.ensures)) ∙ ok_fair (meant c.args.document.now) tt (search rules);
  right = c.leaders_of-leaders.ensures;
}

pub returns-clause-verdict : goal.returns-clause-verdict
returns-clause-verdict c = fair_of c.args.document.now (ok_fair (meant c.args.document.now) tt (search rules))

pub returns-clause-kept : goal.returns-clause-kept
returns-clause-kept c = (
  ap doc_of c.copied-copy.ensures,
  leaders_right c.args.document.now c.leaders_of-leaders.result (ok_fair (meant c.args.document.now) tt (search rules))
      (c.leaders_of-leaders.ensures ∙ ap leaders_of (same_meaning c.args.document.now c.copied-copy.result (ap doc_of c.copied-copy.ensures))),
)
