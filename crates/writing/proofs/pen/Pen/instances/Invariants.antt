use Rattle.std.proofs.Common.{◌≡◌, take}
use Rattle.std.specs.List.{flat_map}
use Rattle.msc.specs.Shortest.{inst_tokens}
use Rattle.writing.specs.Pens.{penned}
use Rattle.writing.proofs.pen.Pen.instances.Given as goal

-- the names up to here
abbrev pub invariant-loop-name : goal.invariant-loop-name
invariant-loop-name l = l.self ≡ penned l.initial.self (flat_map inst_tokens (take l.name-index l.names))
