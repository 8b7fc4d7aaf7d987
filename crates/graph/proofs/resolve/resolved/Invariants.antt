use Rattle.std.proofs.Common.{◌≡◌, ◌++◌, length, drop, Ok}
use Rattle.forms.specs.Drafts.{line_names}
use Rattle.forms.specs.Reading.{follow, resolve_lines}
use Rattle.graph.proofs.resolve.resolved.Given as goal

-- the labels made, and what is left comes to what the whole comes to
abbrev pub invariant-loop-line : goal.invariant-loop-line
invariant-loop-line l = record {
  many : length l.out ≡ l.line-index;
  says : follow (resolve_lines (line_names l.lines) (drop l.line-index l.line-items)) (λ ls. Ok (l.out ++ ls)) ≡ resolve_lines (line_names l.lines) l.line-items;
}
