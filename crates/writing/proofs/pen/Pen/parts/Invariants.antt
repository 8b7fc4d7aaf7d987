use Rattle.std.proofs.Common.{◌≡◌, get_or, take}
use Rattle.msc.specs.Meaning.{no_chart}
use Rattle.writing.specs.Pens.{penned}
use Rattle.writing.specs.Walks.{parts_of}
use Rattle.writing.proofs.pen.Pen.parts.Given as goal

-- the parts up to here
abbrev pub invariant-loop-i : goal.invariant-loop-i
invariant-loop-i l = let d = l.initial.self.document in l.self ≡ penned l.initial.self (parts_of d 0 (take l.i (get_or d.charts l.chart no_chart).parts))
