use Rattle.std.proofs.Common.{◌≡◌, take}
use Rattle.std.specs.List.{flat_map}
use Rattle.msc.specs.Doc.{label_names}
use Rattle.writing.specs.Pens.{penned}
use Rattle.writing.specs.Walks.{alt_tokens}
use Rattle.writing.proofs.pen.Pen.list.Given as goal

-- the names behind the first, up to here
abbrev pub invariant-loop-other : goal.invariant-loop-other
invariant-loop-other l = l.self ≡ penned l.initial.self (flat_map (alt_tokens (label_names l.initial.self.document.labels)) (take l.other-index l.others))
