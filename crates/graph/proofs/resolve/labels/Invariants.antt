use Rattle.std.proofs.Common.{◌≡◌, ◌++◌, length, drop, Ok}
use Rattle.forms.specs.Drafts.{line_names}
use Rattle.forms.specs.Reading.{follow, resolve}
use Rattle.graph.proofs.resolve.labels.Given as goal

-- the labels found, and what is left comes to what the whole comes to
abbrev pub invariant-loop-m : goal.invariant-loop-m
invariant-loop-m l = record {
  many : length l.out ≡ l.m-index;
  says : follow (resolve (line_names l.lines) (drop l.m-index l.m-items)) (λ ls. Ok (l.out ++ ls)) ≡ resolve (line_names l.lines) l.m-items;
}
