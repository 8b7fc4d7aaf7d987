-- A document breaks one rule first, at one spot.
use Rattle.std.proofs.Common.{◌≡◌, ℕ, ◌<◌, ◌⊎◌, List, [], ◌∷◌, ◌++◌, sym, refl, ap, ◌∙◌, subst, inl, inr, ⊎_elim}
use Rattle.std.proofs.lemmas.Bool.{cases_order}
use Rattle.msc.specs.Listing.{Mem}
use Rattle.msc.specs.Meaning.{Meaning}
use Rattle.msc.specs.Choice.{Matched, Listable, OneFirst, IsEnd, IsNode, OneLeader, LeaderTakesPart, LeadsToEnd}
use Rattle.order.proofs.Members.{mem_right}
use Rattle.judge.specs.Results.{Determined}
use Rattle.judge.specs.Rules.{Everywhere, Lowest, IsChart, IsList, StartsAtNodes, FirstEndAtStart, Fair, Breaks}
use Rattle.judge.specs.declared.refusal.Refusal.{Refusal}
use Rattle.judge.specs.declared.refusal.Refusal.TheVariants.{Unmatched, Cyclic, NotOneFirst, EndAtStart, TwoLeaders, LeaderAbsent, NoEnd}

-- a rule: that it holds everywhere, that it is broken first at a spot, and the refusal for that
record Stage : Type 1 where
  All : Type 0
  Low : ℕ → Type 0
  name : ℕ → Refusal
  never : (x : ℕ) → Low x → All → ⊥
  one : (x y : ℕ) → Low x → Low y → x ≡ y

-- the first rule of a list that is broken
abbrev First : List Stage → Refusal → Type 0
First [] e = ⊥
First (s ∷ ss) e = ((x : ℕ) × s.Low x × (e ≡ s.name x)) ⊎ (s.All × First ss e)

abbrev AllOf : List Stage → Type 0
AllOf [] = Unit {0}
AllOf (s ∷ ss) = s.All × AllOf ss

not_all : (ss : List Stage) (e : Refusal) → First ss e → AllOf ss → ⊥
not_all [] e f a = f
not_all (s ∷ ss) e (inl f) a = s.never f.0 f.1 a.0
not_all (s ∷ ss) e (inr f) a = not_all ss e f.1 a.1

unique : (ss : List Stage) (e e' : Refusal) → First ss e → First ss e' → e ≡ e'
unique [] e e' f g = absurd f
unique (s ∷ ss) e e' (inl f) (inl g) = f.2 ∙ ap s.name (s.one f.0 g.0 f.1 g.1) ∙ sym g.2
unique (s ∷ ss) e e' (inl f) (inr g) = absurd (s.never f.0 f.1 g.0)
unique (s ∷ ss) e e' (inr f) (inl g) = absurd (s.never g.0 g.1 f.0)
unique (s ∷ ss) e e' (inr f) (inr g) = unique ss e e' f.1 g.1

lowest_one : (Covers Holds : ℕ → Type 0) (x y : ℕ) → Lowest Covers Holds x → Lowest Covers Holds y → x ≡ y
lowest_one Covers Holds x y a b = ⊎_elim (λ (e : x ≡ y). e)
    (⊎_elim (λ (l : x < y). absurd (a.broken (b.lower x l a.covered))) (λ (l : y < x). absurd (b.broken (a.lower y l b.covered))))
    (cases_order x y)

abbrev stage : (Covers Holds : ℕ → Type 0) → (ℕ → Refusal) → Stage
stage Covers Holds f = record { All = Everywhere Covers Holds; Low = Lowest Covers Holds; name = f; never = λ x l a. l.broken (a x l.covered); one = lowest_one Covers Holds }

module _ (m : Meaning) where
  end_not_node : (l : ℕ) → IsEnd m l → IsNode m l → ⊥
  end_not_node l e n = cc (sym e ∙ n.1)

  -- the first end label of a list
  one_end : (a a' b b' : List ℕ) (x y : ℕ) → a ++ x ∷ b ≡ a' ++ y ∷ b' → IsEnd m x → IsEnd m y → ((k : ℕ) → Mem k a → IsNode m k) → ((k : ℕ) → Mem k a' → IsNode m k) → x ≡ y
  one_end [] [] b b' x y e p q f g = cc
  one_end [] (k ∷ a') b b' x y e p q f g = let i : x ≡ k = cc in absurd (end_not_node x p (g x (inl i)))
  one_end (k ∷ a) [] b b' x y e p q f g = let i : y ≡ k = cc in absurd (end_not_node y q (f y (inl i)))
  one_end (k ∷ a) (k' ∷ a') b b' x y e p q f g = let t : a ++ x ∷ b ≡ a' ++ y ∷ b' = cc in one_end a a' b b' x y t p q (λ j h. f j (inr h)) (λ j h. g j (inr h))

  abbrev stages : List Stage
  stages =
      stage (IsChart m) (Matched m) Unmatched
      ∷ stage (IsChart m) (Listable m) Cyclic
      ∷ stage (IsChart m) (OneFirst m) NotOneFirst
      ∷ record {
        All = StartsAtNodes m;
        Low = FirstEndAtStart m;
        name = EndAtStart;
        never = λ x l a. end_not_node x l.3 (a x (subst (Mem x) (sym l.2) (mem_right x l.0 (x ∷ l.1) (inl refl))));
        one = λ x y l k. one_end l.0 k.0 l.1 k.1 x y (sym l.2 ∙ k.2) l.3 k.3 l.4 k.4;
      }
      ∷ stage (IsList m) (OneLeader m) TwoLeaders
      ∷ stage (IsNode m) (LeaderTakesPart m) LeaderAbsent
      ∷ stage (IsList m) (LeadsToEnd m) NoEnd
      ∷ []

  fair_all : Fair m → AllOf stages
  fair_all f = (f.matched, (f.listable, (f.one_first, (f.starts, (f.one_leader, (f.takes_part, (f.to_end, tt)))))))

  breaks_first : (e : Refusal) → Breaks m e → First stages e
  breaks_first (Unmatched c) b = inl (c, b, refl)
  breaks_first (Cyclic c) b = inr (b.0, inl (c, b.1, refl))
  breaks_first (NotOneFirst c) b = inr (b.0, inr (b.1, inl (c, b.2, refl)))
  breaks_first (EndAtStart l) b = inr (b.0, inr (b.1, inr (b.2, inl (l, b.3, refl))))
  breaks_first (TwoLeaders x) b = inr (b.0, inr (b.1, inr (b.2, inr (b.3, inl (x, b.4, refl)))))
  breaks_first (LeaderAbsent l) b = inr (b.0, inr (b.1, inr (b.2, inr (b.3, inr (b.4, inl (l, b.5, refl))))))
  breaks_first (NoEnd x) b = inr (b.0, inr (b.1, inr (b.2, inr (b.3, inr (b.4, inr (b.5, inl (x, b.6, refl)))))))

pub determined : Determined
determined m = (λ e b f. not_all (stages m) e (breaks_first m e b) (fair_all m f), λ e e' b b'. unique (stages m) e e' (breaks_first m e b) (breaks_first m e' b'))
