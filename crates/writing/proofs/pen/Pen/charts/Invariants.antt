use Rattle.std.proofs.Common.{◌≡◌, take}
use Rattle.std.specs.List.{flat_map}
use Rattle.writing.specs.Pens.{penned}
use Rattle.writing.specs.Walks.{chart_of}
use Rattle.writing.proofs.pen.Pen.charts.Given as goal

-- the charts up to here
abbrev pub invariant-loop-i : goal.invariant-loop-i
invariant-loop-i l = let d = l.initial.self.document in l.self ≡ penned l.initial.self (flat_map (chart_of d) (take l.i d.charts))
