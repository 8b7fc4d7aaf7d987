-- What label lines hold behind their names.
use Rattle.forms.specs.Drafts as drafts
use Rattle.graph.specs.declared.line.Rest.{Rest}
use Rattle.graph.specs.declared.line.Rest.TheVariants as rest

abbrev pub rest_of : Rest → drafts.Rest
rest_of rest.End = drafts.final
rest_of (rest.Node c ms) = drafts.node c ms

abbrev pub rest_from : drafts.Rest → Rest
rest_from drafts.final = rest.End
rest_from (drafts.node c ms) = rest.Node c ms
