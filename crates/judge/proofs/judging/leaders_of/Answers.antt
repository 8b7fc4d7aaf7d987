use Rattle.std.proofs.Common.{None, rules}
use Rattle.order.specs.Charts.{leader_of}
use Rattle.order.specs.Meant.{meant}
use Rattle.judge.specs.Checks.{list_leaders}
use Rattle.judge.proofs.Made.{made_is}
use Rattle.judge.proofs.judging.leaders_of.Goals as goal

pub returns : goal.returns
returns c = made_is _ _ (λ x. leader_of (list_leaders (meant c.args.document.now) x)) 65 (λ k y q l h. search rules) c.from_fn.result None c.from_fn.ensures.items
