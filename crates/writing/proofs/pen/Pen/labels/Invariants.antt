use Rattle.std.proofs.Common.{◌≡◌, take}
use Rattle.std.specs.List.{flat_map}
use Rattle.writing.specs.Pens.{penned}
use Rattle.writing.specs.Walks.{label_of}
use Rattle.writing.proofs.pen.Pen.labels.Given as goal

-- the labels up to here
abbrev pub invariant-loop-label : goal.invariant-loop-label
invariant-loop-label l = l.self ≡ penned l.initial.self (flat_map (label_of l.initial.self.document) (take l.label-index l.label-items))
