use Rattle.std.proofs.Common.{rules}
use Rattle.charts.proofs.Opened.{by_lines}
use Rattle.charts.proofs.instances.instances.Goals as goal

pub returns-in_err-more_instances : goal.returns-in_err-more_instances
returns-in_err-more_instances c = let r = c.args.reader.now in record { says = by_lines r.words r.at r.rest _ (search rules); words = search rules; text = search rules }

pub returns : goal.returns
returns c = let r = c.args.reader.now in record { says = by_lines r.words r.at r.rest _ (search rules); words = search rules; text = search rules }
