-- Tokens in a row at the front of a text, and the readers of one token. Assumes nothing.
use Rattle.std.proofs.Common.{◌≡◌, ℕ, ◌<◌, Bool, true, false, cond, eqb, List, [], ◌∷◌, ◌++◌, length, get_or, Some, None, Option, sym, refl, ap, ◌∙◌, subst, inl, inr, arith}
use Rattle.std.proofs.lemmas.Bool.{false≢true, eqb-true, eq-eqb, cond-true}
use Rattle.msc.specs.Spelling.{is_vocabulary, is_name, place, has}
use Rattle.msc.specs.Tokens.{keywords, Tok, name, word, sign, end, rank, sign_byte}
use Rattle.msc.specs.declared.symbol.Symbol.{Symbol}
use Rattle.msc.specs.declared.symbol.Symbol.TheVariants as symbol
use Rattle.msc.specs.declared.words.Keyword.{Keyword}
use Rattle.msc.specs.declared.words.Keyword.TheVariants as keyword
use Rattle.lexis.specs.Steps.{Step, got, bad}
use Rattle.lexis.specs.Lexing.{next_of, as_name, name_at, is_key, is_sign, is_end, token_at, word_at, sign_at, end_at}
use Rattle.lexis.specs.declared.refusal.Refusal.TheVariants as refusal
use Rattle.forms.specs.Writes.{Blank, Spelled}
use Rattle.forms.specs.Reading.{known, new_name_at, old_name_at}
use Rattle.forms.proofs.Steps.{got_value, got_rest, not_got, when_got, unless_got, then_got, Comes, and_then_lem, comes_unless}
use Rattle.forms.proofs.Names.{place_is}
use Rattle.forms.proofs.Cuts.{Good, Cut, off, Next, next_of_cut, next_of_blank, cut_of_next, key_back}

-- a token that a test for a keyword or a symbol passes is that one
pub is_key_lem : (k : Keyword) (t : Tok) → is_key k t ≡ true → t ≡ word k
is_key_lem k (name w) h = absurd (false≢true h)
is_key_lem k (word j) h = ap word (sym (key_back j) ∙ ap (λ n. get_or keywords n keyword.Mscdocument) (eqb-true _ _ h) ∙ key_back k)
is_key_lem k (sign x) h = absurd (false≢true h)
is_key_lem k end h = absurd (false≢true h)

abbrev symbol_of : ℕ → Symbol
symbol_of b = cond (eqb b 40) symbol.Open (cond (eqb b 41) symbol.Close (cond (eqb b 58) symbol.Colon symbol.Semi))

symbol_back : (x : Symbol) → symbol_of (sign_byte x) ≡ x
symbol_back symbol.Open = refl
symbol_back symbol.Close = refl
symbol_back symbol.Colon = refl
symbol_back symbol.Semi = refl

pub is_sign_lem : (x : Symbol) (t : Tok) → is_sign x t ≡ true → t ≡ sign x
is_sign_lem x (name w) h = absurd (false≢true h)
is_sign_lem x (word k) h = absurd (false≢true h)
is_sign_lem x (sign y) h = ap sign (sym (symbol_back y) ∙ ap symbol_of (eqb-true _ _ h) ∙ symbol_back x)
is_sign_lem x end h = absurd (false≢true h)

is_end_lem : (t : Tok) → is_end t ≡ true → t ≡ end
is_end_lem (name w) h = absurd (false≢true h)
is_end_lem (word k) h = absurd (false≢true h)
is_end_lem (sign x) h = absurd (false≢true h)
is_end_lem end h = refl

key_self : (k : Keyword) → is_key k (word k) ≡ true
key_self k = eq-eqb (rank k) (rank k) refl

pub sign_self : (x : Symbol) → is_sign x (sign x) ≡ true
sign_self x = eq-eqb (sign_byte x) (sign_byte x) refl

module _ (ws : List (List ℕ)) where
  -- the tokens are what s begins with, and r is the rest
  pub data Takes : List Tok → List ℕ → List ℕ → Type 0 where
    done : {s : List ℕ} → Takes [] s s
    then : {t : Tok} {ts : List Tok} {s m r : List ℕ} → Cut ws t s m → Takes ts m r → Takes (t ∷ ts) s r

  pub takes_join : {ts us : List Tok} {s m r : List ℕ} → Takes ts s m → Takes us m r → Takes (ts ++ us) s r
  takes_join done h = h
  takes_join (then c k) h = then c (takes_join k h)

  pub takes-split : (ts : List Tok) {us : List Tok} {s r : List ℕ} → Takes (ts ++ us) s r → (m : List ℕ) × Takes ts s m × Takes us m r
  takes-split [] {s} h = (s, done, h)
  takes-split (t ∷ ts) (then c k) = let (m, a, b) = takes-split ts k in (m, then c a, b)

  -- the first token behind some
  pub takes_mid : (ts : List Tok) {t : Tok} {us : List Tok} {s r : List ℕ} → Takes (ts ++ (t ∷ us)) s r → (m n : List ℕ) × Takes ts s m × Cut ws t m n × Takes us n r
  takes_mid [] {s} (then {m} c k) = (s, m, done, c, k)
  takes_mid (t ∷ ts) (then c k) = let (m, n, a, b, d) = takes_mid ts k in (m, n, then c a, b, d)

  pub takes_one : {t : Tok} {s r : List ℕ} → Takes (t ∷ []) s r → Cut ws t s r
  takes_one (then c done) = c

  pub takes_head : {t : Tok} {ts : List Tok} {s r : List ℕ} → Takes (t ∷ ts) s r → (m : List ℕ) × Cut ws t s m × Takes ts m r
  takes_head (then {m} c k) = (m, c, k)

  pub takes_two : {t u : Tok} {s r : List ℕ} → Takes (t ∷ u ∷ []) s r → (m : List ℕ) × Cut ws t s m × Cut ws u m r
  takes_two (then {m} c (then c' done)) = (m, c, c')

  pub takes-from : {ts : List Tok} {s m r : List ℕ} → s ≡ m → Takes ts m r → Takes ts s r
  takes-from {ts} {r} e h = subst (λ s. Takes ts s r) (sym e) h

  pub takes_as : {ts us : List Tok} {s r : List ℕ} → ts ≡ us → Takes ts s r → Takes us s r
  takes_as {s} {r} e h = subst (λ ts. Takes ts s r) e h

  abbrev pub AllGood : List Tok → Type 0
  AllGood [] = Unit {0}
  AllGood (t ∷ ts) = Good ws t × AllGood ts

  pub good_join : (ts us : List Tok) → AllGood ts → AllGood us → AllGood (ts ++ us)
  good_join [] us g h = h
  good_join (t ∷ ts) us g h = (g.0, good_join ts us g.1 h)

  -- a text that spells tokens begins with them, and has nothing after them
  pub takes_of_spelled : (ts : List Tok) (s : List ℕ) → AllGood ts → Spelled ws s ts → (r : List ℕ) × Takes ts s r × Blank r
  takes_of_spelled [] s g h = (s, done, h)
  takes_of_spelled (t ∷ ts) s g (b, m, h, e, a, k) = let (r, c, z) = takes_of_spelled ts m g.1 k in (r, then (off b g.0 h e a) c, z)

  pub spelled_of_takes : {ts : List Tok} {s r : List ℕ} → Takes ts s r → Blank r → Spelled ws s ts
  spelled_of_takes done h = h
  spelled_of_takes (then {m} (off b g h e a) k) z = (b, m, h, e, a, spelled_of_takes k z)

  pub cut_good : {t : Tok} {s r : List ℕ} → Cut ws t s r → Good ws t
  cut_good (off b g h e a) = g

  pub takes_named : {w : List ℕ} {ts : List Tok} {s r : List ℕ} → Takes (name w ∷ ts) s r → is_name ws w ≡ true
  takes_named (then c k) = cut_good c

  pub cut_to : {t : Tok} {s r r' : List ℕ} → r ≡ r' → Cut ws t s r → Cut ws t s r'
  cut_to {t} {s} e c = subst (Cut ws t s) e c

module _ (ws : List (List ℕ)) (v : is_vocabulary ws ≡ true) where
  -- backwards: what was read is cut off
  next_inside : {t : Tok} {s r : List ℕ} → (t ≡ end → ⊥) → Next ws v t s r → Cut ws t s r
  next_inside h (inl c) = c
  next_inside h (inr c) = absurd (h c.0)

  abbrev NotEnd : Tok → Type 0
  NotEnd (name w) = Unit {0}
  NotEnd (word k) = Unit {0}
  NotEnd (sign x) = Unit {0}
  NotEnd end = ⊥

  pub token_got : (p : ℕ) (s : List ℕ) (t u : Tok) (q p' : ℕ) (r : List ℕ) → next_of ws p s ≡ got (t, q) p' r → t ≡ u → NotEnd u → Cut ws u s r
  token_got p s t u q p' r e i g = next_inside (λ z. subst NotEnd z g) (cut_of_next ws v p s u q p' r (e ∙ ap (λ t. got (t, q) p' r) i))

  pub word_got : (k : Keyword) (p : ℕ) (s : List ℕ) {u : Unit {0}} {q : ℕ} {r : List ℕ} → word_at ws k p s ≡ got u q r → Cut ws (word k) s r
  word_got k p s h =
      let (t, p', s', e, g) = then_got (next_of ws p s) _ h in
      let (i, j) = when_got (is_key k t.0) _ _ g in
      subst (Cut ws (word k) s) (got_rest j) (token_got p s t.0 (word k) t.1 p' s' e (is_key_lem k t.0 i) tt)

  pub sign_got : (x : Symbol) (p : ℕ) (s : List ℕ) {u : Unit {0}} {q : ℕ} {r : List ℕ} → sign_at ws x p s ≡ got u q r → Cut ws (sign x) s r
  sign_got x p s h =
      let (t, p', s', e, g) = then_got (next_of ws p s) _ h in
      let (i, j) = when_got (is_sign x t.0) _ _ g in
      subst (Cut ws (sign x) s) (got_rest j) (token_got p s t.0 (sign x) t.1 p' s' e (is_sign_lem x t.0 i) tt)

  pub end_got : (p : ℕ) (s : List ℕ) {u : Unit {0}} {q : ℕ} {r : List ℕ} → end_at ws p s ≡ got u q r → Blank s
  end_got p s h =
      let (t, p', s', e, g) = then_got (next_of ws p s) _ h in
      let (i, j) = when_got (is_end t.0) _ _ g in
      by (cut_of_next ws v p s end t.1 p' s' (e ∙ ap (λ u. got (u, t.1) p' s') (is_end_lem t.0 i)))
    where
      by : {s r : List ℕ} → Next ws v end s r → Blank s
      by (inl (off b g h e a)) = absurd g
      by (inr c) = c.1

  pub name_got : (p : ℕ) (s : List ℕ) {n : List ℕ × ℕ} {q : ℕ} {r : List ℕ} → name_at ws p s ≡ got n q r → Cut ws (name n.0) s r
  name_got p s {n} {q} {r} h =
      let (t, p', s', e, g) = then_got (next_of ws p s) _ h in
      by t.0 t.1 p' s' e g
    where
      by : (t : Tok) (q' p' : ℕ) (s' : List ℕ) → ◌≡◌ {A = Step (Tok × ℕ)} (next_of ws p s) (got (t, q') p' s') → as_name ws t q' p' s' ≡ got n q r → Cut ws (name n.0) s r
      by (name w) q' p' s' e g = subst (λ w. Cut ws (name w) s r) (ap (λ n. n.0) (got_value g)) (subst (Cut ws (name w) s) (got_rest g) (token_got p s (name w) (name w) q' p' s' e refl tt))
      by (word k) q' p' s' e g = absurd (not_got g)
      by (sign x) q' p' s' e g = absurd (not_got g)
      by end q' p' s' e g = absurd (not_got g)

  pub new_name_got : (names : List (List ℕ)) (p : ℕ) (s : List ℕ) {w : List ℕ} {q : ℕ} {r : List ℕ} → new_name_at ws names p s ≡ got w q r → Cut ws (name w) s r × (has names w ≡ false)
  new_name_got names p s {w} {q} {r} h =
      let (n, p', s', e, g) = then_got (name_at ws p s) _ h in
      let (i, j) = unless_got (has names n.0) _ _ g in
      let is = got_value j in
      (subst (λ w. Cut ws (name w) s r) is (subst (Cut ws (name n.0) s) (got_rest j) (name_got p s e)), ap (has names) (sym is) ∙ i)

  pub known_case : {A P : Type 0} {b : A} {q : ℕ} {r : List ℕ} (o : Option ℕ) (k : ℕ → Step A) (x : Step A) → known o k x ≡ got b q r → ((n : ℕ) → o ≡ Some n → k n ≡ got b q r → P) → (o ≡ None → x ≡ got b q r → P) → P
  known_case None k x h f g = g refl h
  known_case (Some n) k x h f g = f n refl h

  pub comes_known : {A : Type 0} {b : A} {r : List ℕ} (o : Option ℕ) (k : ℕ → Step A) (x : Step A) (n : ℕ) → o ≡ Some n → Comes (k n) b r → Comes (known o k x) b r
  comes_known o k x n h (q, e) = (q, ap (λ o. known o k x) h ∙ e)

  pub comes_unknown : {A : Type 0} {b : A} {r : List ℕ} (o : Option ℕ) (k : ℕ → Step A) (x : Step A) → o ≡ None → Comes x b r → Comes (known o k x) b r
  comes_unknown o k x h (q, e) = (q, ap (λ o. known o k x) h ∙ e)

  pub old_name_got : (names : List (List ℕ)) (p : ℕ) (s : List ℕ) {k : ℕ × ℕ} {q : ℕ} {r : List ℕ} → old_name_at ws names p s ≡ got k q r → Cut ws (name (get_or names k.0 [])) s r × (k.0 < length names)
  old_name_got names p s {k} {q} {r} h =
      let (n, p', s', e, g) = then_got (name_at ws p s) _ h in
      known_case (place names n.0) _ _ g
      (λ i f g.
      let (j, a, l, w) = place_is 0 names n.0 i f in
      let is : i ≡ k.0 = ap (λ k. k.0) (got_value g) in
      let at : k.0 ≡ j = omega (arith, a, is) in
      (subst (λ w. Cut ws (name w) s r) (sym (ap (λ j. get_or names j []) at ∙ w)) (subst (Cut ws (name n.0) s) (got_rest g) (name_got p s e)), omega (arith, at, l)))
      (λ f g. absurd (not_got g))

  -- forwards: what can be cut off is read
  pub token_comes : (f : Tok → Bool) (t : Tok) {s r : List ℕ} → f t ≡ true → Cut ws t s r → (p : ℕ) → Comes (token_at ws f p s) tt r
  token_comes f t {s} {r} h c p =
      let (q, p', e) = next_of_cut ws v t s r p c in
      and_then_lem (next_of ws p s) _ (p', e) λ q'. (q', cond-true _ _ _ h)

  pub word_comes : (k : Keyword) {s r : List ℕ} → Cut ws (word k) s r → (p : ℕ) → Comes (word_at ws k p s) tt r
  word_comes k c = token_comes (is_key k) (word k) (key_self k) c

  pub sign_comes : (x : Symbol) {s r : List ℕ} → Cut ws (sign x) s r → (p : ℕ) → Comes (sign_at ws x p s) tt r
  sign_comes x c = token_comes (is_sign x) (sign x) (sign_self x) c

  pub end_comes : (s : List ℕ) → Blank s → (p : ℕ) → Comes (end_at ws p s) tt []
  end_comes s h p = let (q, p', e) = next_of_blank ws v s p h in and_then_lem (next_of ws p s) _ (p', e) λ q'. (q', refl)

  pub next_comes : (t : Tok) {s r : List ℕ} → Cut ws t s r → (p : ℕ) → (q : ℕ) × Comes (next_of ws p s) (t, q) r
  next_comes t {s} {r} c p = let (q, p', e) = next_of_cut ws v t s r p c in (q, (p', e))

  pub name_comes : {w s r : List ℕ} → Cut ws (name w) s r → (p : ℕ) → (q : ℕ) × Comes (name_at ws p s) (w, q) r
  name_comes {w} {s} c p = let (q, e) = next_comes (name w) c p in (q, and_then_lem (next_of ws p s) _ e λ q'. (q', refl))

  pub new_name_comes : (names : List (List ℕ)) {w s r : List ℕ} → Cut ws (name w) s r → has names w ≡ false → (p : ℕ) → Comes (new_name_at ws names p s) w r
  new_name_comes names {w} {s} c h p = let (q, e) = name_comes c p in and_then_lem (name_at ws p s) _ e λ q'. comes_unless _ _ _ h (q', refl)

  pub old_name_comes : (names : List (List ℕ)) (k : ℕ) {w s r : List ℕ} → Cut ws (name w) s r → place names w ≡ Some k → (p : ℕ) → (q : ℕ) × Comes (old_name_at ws names p s) (k, q) r
  old_name_comes names k {w} {s} {r} c h p =
      let (q, e) = name_comes c p in
      (q, and_then_lem (name_at ws p s) _ e λ q'. (q', ap (λ o. known {A = ℕ × ℕ} o (λ k. got (k, q) q' r) (bad (refusal.Undeclared q))) h))
