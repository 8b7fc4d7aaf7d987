-- When two letters are equal, and which letter is the default.
use Rattle.std.proofs.Common.{◌≡◌, Bool, Decides, refl, ap, arith, rules}
use Rattle.std.proofs.lemmas.Grind.{common_steps}
use Rattle.std.specs.Cmp.Rules.{comparing}
use Rattle.channel.specs.Same.{same_letters}
use Rattle.channel.specs.declared.Letter.{Letter}
use Rattle.channel.specs.declared.TheConstants.Letter.{BLANK}
use Rattle.channel.specs.contracts.LetterDefault.TheImpl as default
use Rattle.channel.specs.contracts.LetterPartialEq.TheImpl.{ghosts}

-- what `==` of two letters answers, for a caller too that has it through a bound alone
pub eq-same_letters : (a b : Letter) → ghosts.eq a b ≡ same_letters a b
eq-same_letters a b = refl

-- the equality of letters decides `≡`
pub same_letters-Decides : (a b : Letter) → Decides (same_letters a b) (a ≡ b)
same_letters-Decides a b = search (comparing, rules)

-- letters whose numbers are equal are told apart by their turns
pub letter_decides : (a b : Letter) (r : Bool) → a.label ≡ b.label → a.name ≡ b.name → a.place ≡ b.place → Decides r (a.turns ≡ b.turns) → Decides r (a ≡ b)
letter_decides a b r l n p d = ((λ yes i. record { label = l i; name = n i; place = p i; turns = d.0 yes i }), (λ e. d.1 (ap (λ x. x.turns) e)))

-- what `default` gives is the letter of zeros that constants take
pub default-BLANK : (x : Letter) → default.ghosts.is_default x → x ≡ BLANK
default-BLANK x h = grind (arith, common_steps)
