use Rattle.std.proofs.Common.{refl, ap, ◌∙◌}
use Rattle.std.proofs.lemmas.List.{map-id}
use Rattle.std.proofs.lemmas.Result.{err_from_is_err_and}
use Rattle.forms.specs.Reading.{new_name_at}
use Rattle.charts.proofs.instances.instance.Goals as goal

pub returns-in_err-sign : goal.returns-in_err-sign
returns-in_err-sign c =
    let p = err_from_is_err_and c.from_residual-in_err-sign.result c.from_residual-in_err-sign.ensures.1 in
    let r = c.args.reader.now in
    let name = c.in_ok-name.ensures in
    let sign = c.in_err-sign.ensures.reads in
    let said = name.says ∙ ap (λ names. new_name_at r.words names r.at r.rest) (map-id _ ∙ c.instances.ensures.is) in
    record {
      says = rw (p.1, p.2, ← c.has_room_instance.ensures, c.if-not-has_room_instance.false, ← said, ← name.words, ← sign.says) refl;
      words = sign.words ∙ name.words;
      text = sign.text ∙ name.text;
    }
