-- What the judge's answer says of a document.
use Rattle.std.proofs.Common.{◌≡◌, Result, Ok, ℕ, true, List, Option, sym, refl, ap, ◌∙◌, subst}
use Rattle.std.specs.Result.{is_ok}
use Rattle.msc.specs.BuiltIn.{built_in}
use Rattle.msc.specs.Meaning.{Meaning, meaning_of}
use Rattle.msc.specs.Stored.{doc_of}
use Rattle.msc.specs.declared.document.Document.{Document}
use Rattle.order.specs.Charts.{played}
use Rattle.judge.specs.Checks.{marked, broken}
use Rattle.order.specs.Meant.{meant}
use Rattle.judge.specs.Rules.{Fair, AreLeaders}
use Rattle.order.specs.Scans.{repeat}
use Rattle.judge.specs.Verdict.{verdict, is_fair, leaders_of, Said}
use Rattle.judge.specs.declared.accepted.Accepted.{Accepted}
use Rattle.judge.specs.declared.refusal.Refusal.{Refusal}
use Rattle.order.proofs.Bounds.{within}
use Rattle.judge.proofs.Verdicts.{verdict-says, is_fair_lem, are_leaders}

pub fair_of : (d : Document) → is_fair (meant d) ≡ true → Fair (meant d)
fair_of d h = is_fair_lem (meant d) (within d) h

pub leaders_right : (d : Document) (ls : List (Option ℕ)) → is_fair (meant d) ≡ true → ls ≡ leaders_of (meant d) → AreLeaders (meant d) ls
leaders_right d ls h e = subst (AreLeaders (meant d)) (sym e) (are_leaders (meant d) (within d) (fair_of d h))

-- what an accepted document's own type keeps
pub accepted_fair : (a : Accepted) → Fair (meant a.document)
accepted_fair a = fair_of a.document a.fair

pub accepted_leaders : (a : Accepted) → AreLeaders (meant a.document) a.leaders
accepted_leaders a = leaders_right a.document a.leaders a.fair a.right

pub said : (d : Document) (r : Result (Unit {0}) Refusal) → r ≡ verdict (meant d) → Said (meant d) r
said d r e = subst (Said (meant d)) (sym e) (verdict-says (meant d) (within d))

pub ok_fair : (m : Meaning) (u : Unit {0}) → Ok u ≡ verdict m → is_fair m ≡ true
ok_fair m u e = ap is_ok (sym e)

pub same_meaning : (d d' : Document) → doc_of d'.tables ≡ doc_of d.tables → meant d' ≡ meant d
unfolding meant
same_meaning d d' e = ap meaning_of e

-- the built-in keeps every rule: its checks compute
built_in_none : is_fair (meaning_of built_in) ≡ true
unfolding verdict broken played marked repeat
built_in_none = refl

pub built_in_fair : (d : Document) → doc_of d.tables ≡ built_in → is_fair (meant d) ≡ true
unfolding meant
built_in_fair d e = ap (λ k. is_fair (meaning_of k)) e ∙ built_in_none
