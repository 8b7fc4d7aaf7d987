-- Names that are numbered by first appearance: one reader for messages and actions alike. Assumes nothing.
use Rattle.std.proofs.Common.{◌≡◌, ℕ, suc, ◌<◌, ◌≤◌, max, true, cond, ltb, ◌⊎◌, List, [], ◌∷◌, ◌++◌, length, get_or, take, None, sym, refl, ap, ◌∙◌, subst, inl, inr, arith, length-take-le, take-suc}
use Rattle.std.proofs.lemmas.Bool.{ltb-true, lt-ltb, cases_lt}
use Rattle.msc.specs.Spelling.{place, distinct, is_vocabulary}
use Rattle.msc.specs.Tokens.{name}
use Rattle.lexis.specs.Lexing.{name_at}
use Rattle.lexis.specs.Steps.{Step, got, bad, and_then}
use Rattle.lexis.specs.declared.refusal.Refusal.TheVariants.{Limit}
use Rattle.forms.specs.Drafts.{Draft}
use Rattle.forms.specs.Reading.{known}
use Rattle.forms.proofs.Names.{place_before, place_next, place_is, none_has}
use Rattle.forms.proofs.Steps.{Comes, comes_as, and_then_lem, comes_when, got_value, got_rest, when_got, then_got}
use Rattle.forms.proofs.Cuts.{Cut}
use Rattle.forms.proofs.Takes.{name_comes, name_got, cut_to, comes_known, comes_unknown, known_case}
use Rattle.forms.proofs.Moves.{Seen, old, new}

module _ (ws : List (List ℕ)) (v : is_vocabulary ws ≡ true) (made : List (List ℕ) → Draft) where
  -- a name's number in the table X of a draft, which takes it in where it is new
  abbrev pub table_at : List (List ℕ) → ℕ → List ℕ → Step (Draft × ℕ)
  table_at X p s = and_then (name_at ws p s) λ n p s.
      known (place X n.0) (λ k. got (made X, k) p s)
      (cond (ltb (length X) 128) (got (made (X ++ (n.0 ∷ [])), length X) p s) (bad (Limit n.1)))

  -- forwards: with m names of M seen, name n is one of them or the next
  pub table_comes : (M : List (List ℕ)) (n m : ℕ) {s r : List ℕ} → distinct M ≡ true → length M ≤ 128 → n ≤ m → max m (suc n) ≤ length M → Cut ws (name (get_or M n [])) s r → (p : ℕ) → Comes (table_at (take m M) p s) (made (take (max m (suc n)) M), n) r
  table_comes M n m {s} {r} d few le lim c p = by (cases_lt n m) (name_comes ws v c p)
    where
      by : (n < m) ⊎ (m ≤ n) → (q : ℕ) × Comes (name_at ws p s) (get_or M n [], q) r → Comes (table_at (take m M) p s) (made (take (max m (suc n)) M), n) r
      by (inl l) (q, e) =
          let same : m ≡ max m (suc n) = omega arith in
          let at = place_before M d m n l (omega arith) in
          and_then_lem (name_at ws p s) _ e λ p'. comes_as (ap (λ k. (made (take k M), n)) same) (comes_known ws v _ _ _ n at (p', refl))
      by (inr l) (q, e) =
          let same : n ≡ m = omega arith in
          let l' : m < length M = omega arith in
          let up : suc m ≡ max m (suc n) = omega arith in
          let long : length (take m M) ≡ m = length-take-le m M (omega arith) in
          let small : ltb (length (take m M)) 128 ≡ true = lt-ltb (length (take m M)) 128 (omega (arith, long)) in
          let at : place (take m M) (get_or M n []) ≡ None = ap (λ n. place (take m M) (get_or M n [])) same ∙ place_next M d m l' in
          let grown : take m M ++ (get_or M n [] ∷ []) ≡ take (max m (suc n)) M = ap (λ n. take m M ++ (get_or M n [] ∷ [])) same ∙ sym (take-suc M m [] l') ∙ ap (λ k. take k M) up in
          and_then_lem (name_at ws p s) _ e λ p'.
          comes_as (ap (λ xs. (made xs, length (take m M))) grown ∙ ap (λ k. (made (take (max m (suc n)) M), k)) (long ∙ sym same)) (comes_unknown ws v _ _ _ at (comes_when _ _ _ small (p', refl)))

  -- backwards: the name that was read was seen, or is taken in
  pub table_found : (X : List (List ℕ)) (p : ℕ) (s : List ℕ) {y : Draft × ℕ} {q : ℕ} {r : List ℕ} → table_at X p s ≡ got y q r → (w : List ℕ) × (X' : List (List ℕ)) × (y.0 ≡ made X') × Seen ws w y.1 X X' × Cut ws (name w) s r
  table_found X p s h =
      let (n, p1, s1, e, g) = then_got (name_at ws p s) _ h in
      let c = name_got ws v p s e in
      known_case ws v (place X n.0) _ _ g
      (λ k f g.
      let (j, a, l, w) = place_is 0 X n.0 k f in
      let kj : j ≡ k = omega (arith, a) in
      (n.0, X, sym (ap (λ y. y.0) (got_value g)), subst (λ k. Seen ws n.0 k X X) (kj ∙ ap (λ y. y.1) (got_value g)) (old refl l w), cut_to ws (got_rest g) c))
      (λ f g.
      let (l, g1) = when_got (ltb (length X) 128) _ _ g in
      (n.0, X ++ (n.0 ∷ []), sym (ap (λ y. y.0) (got_value g1)), new refl (sym (ap (λ y. y.1) (got_value g1))) (none_has 0 X n.0 f) (ltb-true (length X) 128 l), cut_to ws (got_rest g1) c))
