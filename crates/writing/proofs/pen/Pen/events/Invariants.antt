use Rattle.std.proofs.Common.{◌≡◌, take}
use Rattle.std.specs.List.{flat_map}
use Rattle.writing.specs.Pens.{penned}
use Rattle.writing.specs.Walks.{event_of}
use Rattle.writing.proofs.pen.Pen.events.Given as goal

-- the events up to here
abbrev pub invariant-loop-e : goal.invariant-loop-e
invariant-loop-e l = l.self ≡ penned l.initial.self (flat_map (event_of l.initial.self.document) (take l.e-index l.events))
