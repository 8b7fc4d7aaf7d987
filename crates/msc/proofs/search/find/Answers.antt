use Rattle.std.proofs.Common.{◌≡◌, map, rules, tests, sym, ◌∙◌, arith}
use Rattle.std.specs.Str.{bytes_eq}
use Rattle.std.proofs.lemmas.Iterator.{YieldsList-from_slice}
use Rattle.std.proofs.lemmas.Iterator.Search.{position_from_yields_List}
use Rattle.msc.specs.Spelling.{place}
use Rattle.msc.proofs.Places.{place-position}
use Rattle.msc.proofs.search.find.Goals as goal

pub returns-clause-is : goal.returns-clause-is
returns-clause-is g c =
    let found : c.position.result ≡ place (map g.T.Named.called c.args.rows.now) c.args.w.now =
    position_from_yields_List (λ row. bytes_eq c.args.w.now (g.T.Named.called row)) _ _ _ c.position.ensures.ran (YieldsList-from_slice c.args.rows.now cc) (λ x r q k. search (rules, tests))
    ∙ sym (place-position g.T.Named.called c.args.w.now c.args.rows.now)
    in grind (arith, found)
