use Rattle.std.proofs.Common.{rules}
use Rattle.msc.proofs.Fills.{filled}
use Rattle.msc.proofs.table.Table.extend.Goals as goal

pub returns : goal.returns
returns g c = rw (← c.self.view_is) (filled c.self.inside.items c.args.more.now _ g.row.N c.self.inside.len c.min-n.result (search rules) c.self.invariant c.min-n.ensures c.copy_from_slice.ensures.after)
