-- The table is the list of what class_of says of each byte: antt computes both.
use Rattle.std.proofs.Common.{arith}
use Rattle.std.proofs.lemmas.List.FromFn.{get_or-map-range_with_len}
use Rattle.lexis.specs.Classes.{class_of}
use Rattle.lexis.proofs.class.class_of.Goals as goal

pub returns : goal.returns
returns c = get_or-map-range_with_len class_of 0 256 c.args.b c.args.b _ c.ranges.b.fits (omega arith)
