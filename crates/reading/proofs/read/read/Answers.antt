use Rattle.std.proofs.Common.{sym}
use Rattle.msc.specs.Stored.{doc_of}
use Rattle.forms.proofs.Found.{found}
use Rattle.forms.proofs.Spots.{spots_inside}
use Rattle.reading.proofs.Exits.{refused, by_err, writes_none}
use Rattle.reading.proofs.read.read.Goals as goal

pub invariant_of-result : goal.invariant_of-result
invariant_of-result c = record { sound = (found c.args.words.now c.as_slice.ensures.sound c.args.text.now (doc_of c.in_ok-tables.tables) (sym c.in_ok-tables.ensures)).1 }

pub returns-in_err-tables : goal.returns-in_err-tables
returns-in_err-tables c =
    let h = c.in_err-tables.ensures in
    let is = c.from_residual.ensures.1 in
    record {
      reads = refused _ _ _ _ is h;
      exactly = by_err _ _ _ _ is (writes_none c.args.words.now c.args.text.now _ h);
      spot = by_err _ _ _ _ is (spots_inside c.args.words.now c.args.text.now _ (sym h));
    }

pub returns : goal.returns
returns c = record {
  reads = c.in_ok-tables.ensures;
  exactly = (found c.args.words.now c.as_slice.ensures.sound c.args.text.now (doc_of c.in_ok-tables.tables) (sym c.in_ok-tables.ensures)).3;
  spot = tt;
}
