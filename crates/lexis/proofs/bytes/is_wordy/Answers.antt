use Rattle.std.proofs.Common.{ap, ◌∙◌}
use Rattle.lexis.specs.Readers.{is_wordy}
use Rattle.lexis.proofs.Table.{in_words}
use Rattle.lexis.proofs.bytes.is_wordy.Goals as goal

pub returns : goal.returns
returns c = c.in_words.ensures ∙ ap is_wordy c.class_of.ensures ∙ in_words _ c.ranges.b.fits
