-- The laws of reading and writing, from the lemmas.
use Rattle.std.proofs.Common.{sym, ap, ◌∙◌}
use Rattle.msc.specs.Shortest.{text_of}
use Rattle.forms.specs.Reading.{read_of}
use Rattle.forms.specs.Theorems.{ReadsExactly, ReadsBack, IsShortest, NoShorter}
use Rattle.forms.proofs.Facts.{to_facts}
use Rattle.forms.proofs.Goods.{good_form}
use Rattle.forms.proofs.Own.{own_writing}
use Rattle.forms.proofs.Shortest.{shortest}
use Rattle.forms.proofs.ReadsGraph.{reads}
use Rattle.forms.proofs.Found.{found}

pub is_shortest : IsShortest
is_shortest d h =
    let f = (to_facts d h).0 in
    (own_writing d f, λ text w. shortest d f.vocabulary text w.0 w.1 (good_form d w.0 f w.1) w.2)

pub exactly : ReadsExactly
exactly ws v text d = (found ws v text d, λ h. ap (λ ws. read_of ws text) (sym h.2) ∙ reads d (to_facts d h.1).0 text h.0 h.3)

pub back : ReadsBack
back d h = let (f, le) = to_facts d h in reads d f (text_of d) le (own_writing d f)

pub no_shorter : NoShorter
no_shorter ws v text d h = let (le, well, same, w) = found ws v text d h in (is_shortest d well).1 text w
