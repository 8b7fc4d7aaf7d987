use Rattle.std.proofs.Common.{ap, ◌∙◌}
use Rattle.lexis.specs.Readers.{is_separator}
use Rattle.lexis.proofs.Table.{separates}
use Rattle.lexis.proofs.bytes.is_separator.Goals as goal

pub returns : goal.returns
returns c = c.separates.ensures ∙ ap is_separator c.class_of.ensures ∙ separates _ c.ranges.b.fits
