use Rattle.std.proofs.Common.{◌+◌, drop, sym, ap, ◌∙◌}
use Rattle.std.proofs.lemmas.List.{drop-drop}
use Rattle.lexis.specs.Classes.{class_of}
use Rattle.lexis.specs.Readers.{moved, symbol_at, symbol_of}
use Rattle.lexis.proofs.Table.{signs}
use Rattle.lexis.proofs.reader.Reader.symbol.Goals as goal

pub returns-in-Some-clause-says : goal.returns-in-Some-clause-says
returns-in-Some-clause-says c =
    let r = c.self.inside in
    rw (← c.self.view_is) (ap (λ o. symbol_at o r.at (drop (r.at + 1) r.text.now)) (c.in-Some.ensures ∙ signs _ c.ranges.b.fits) ∙ ap (symbol_at (symbol_of (class_of c.args.b)) r.at) (sym (drop-drop 1 r.at r.text.now)))

pub returns-in-Some-clause-moves : goal.returns-in-Some-clause-moves
returns-in-Some-clause-moves c =
    let r = c.self.inside in
    let rest = drop r.at r.text.now in
    rw (← c.self.view_is) (ap (λ s. record { words = r.words.now; text = r.text.now; at = r.at + 1; rest = s; place = r.place }) (sym (drop-drop 1 r.at r.text.now)) ∙ ap (λ o. moved (symbol_at o r.at (drop 1 rest)) (record { words = r.words.now; text = r.text.now; at = r.at; rest = rest; place = r.place })) (c.in-Some.ensures ∙ signs _ c.ranges.b.fits))
