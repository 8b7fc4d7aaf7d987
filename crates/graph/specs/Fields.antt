-- The fields of lists and lines are given back by what they stand for.
use Rattle.std.specs.Prelude.{ℕ, ◌≡◌, List, length, take, replicate, ◌-◌}
use Rattle.std.proofs.Common.{sym, refl, ap, ◌∙◌, arith}
use Rattle.std.proofs.lemmas.List.{length-take, length-append, length-replicate}
use Rattle.forms.specs.Drafts.{Mention}
use Rattle.graph.specs.Lists.{blank, padded, Holds}
use Rattle.graph.specs.Lines.{rest_of, rest_from}
use Rattle.graph.specs.declared.line.Rest.{Rest}
use Rattle.graph.specs.declared.line.Rest.TheVariants as rest
use Rattle.graph.specs.declared.mentions.Mentions.TheInside.{Inside}
use Rattle.graph.specs.declared.line.Line.TheInside.{Inside as InsideLine}

length_held : (n k : ℕ) (places : List Mention) → Holds n k places → length (take k places) ≡ k
length_held n k places h =
    omega (arith, h.few, ap length h.rest, length-take k places, length-append (take k places) (replicate (n - length (take k places)) blank), length-replicate {A = Mention} (n - length (take k places)) blank)

pub same_list : (a : Inside) → Holds 8 a.len a.items → record { items = padded 8 (take a.len a.items); len = length (take a.len a.items) } ≡ a
same_list a h =
    ap (λ (b : List Mention). record { items = b; len = length (take a.len a.items) }) (sym h.rest)
    ∙ ap (λ (k : ℕ). record { items = a.items; len = k }) (length_held 8 a.len a.items h)

same_rest : (r : Rest) → rest_from (rest_of r) ≡ r
same_rest rest.End = refl
same_rest (rest.Node c ms) = refl

pub same_line : (a : InsideLine) → record { name = a.name; rest = rest_from (rest_of a.rest) } ≡ a
same_line a = ap (λ (r : Rest). record { name = a.name; rest = r }) (same_rest a.rest)
