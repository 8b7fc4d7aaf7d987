-- The outs among events.
use Rattle.std.proofs.Common.{◌≡◌, suc, List, [], ◌∷◌, length, sym, refl, ap, ◌∙◌}
use Rattle.std.specs.List.{filter, count_by}
use Rattle.std.proofs.lemmas.List.Sums.{length-filter}
use Rattle.msc.specs.Doc.{out_count}
use Rattle.msc.specs.declared.event.Event.{Event}
use Rattle.msc.specs.declared.event.Event.TheVariants.{Out, In, Action}
use Rattle.draft.specs.Outs.{is_out}

kept : (es : List Event) → length (filter is_out es) ≡ out_count es
kept [] = refl
kept (Out n q ∷ es) = ap suc (kept es)
kept (In n p ∷ es) = kept es
kept (Action n ∷ es) = kept es

pub counted : (es : List Event) → count_by is_out es ≡ out_count es
counted es = sym (length-filter is_out es) ∙ kept es
