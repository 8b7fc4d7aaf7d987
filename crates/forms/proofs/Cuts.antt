-- One token at the front of a text: what the lexer takes is cut off the text, and what can be cut off it takes. Assumes nothing.
use Rattle.std.proofs.Common.{◌≡◌, ℕ, zero, suc, ◌+◌, ◌<◌, ◌≤◌, Bool, true, false, cond, ◌&&◌, eqb, ltb, ◌⊎◌, List, [], ◌∷◌, ◌++◌, length, get_or, take, drop, Some, None, Option, sym, refl, ap, ◌∙◌, subst, inl, inr, ⊎_elim, append-nil, one-add, arith, length-take}
use Rattle.std.specs.List.{prefix_len}
use Rattle.std.proofs.lemmas.List.{take-append-drop, take_at, drop_at}
use Rattle.std.proofs.lemmas.Bool.{not-true, not_from_false, and_parts, and_from, or_cases, or_from, or_left, cond-true, cond-false, cond_both, false≢true, eqb-true, eq-eqb, ne_eqb, leb-true, ltb-true, ltb-false, lt-ltb, le-ltb}
use Rattle.msc.specs.Spelling.{within, letter, inner, wordy, is_word, place, every, distinct, is_vocabulary, is_name}
use Rattle.msc.specs.Tokens.{keywords, Tok, name, word, sign, end, rank, spelling, sign_byte, spelled}
use Rattle.msc.specs.declared.symbol.Symbol.{Symbol}
use Rattle.msc.specs.declared.symbol.Symbol.TheVariants as symbol
use Rattle.msc.specs.declared.words.Keyword.{Keyword}
use Rattle.msc.specs.declared.words.Keyword.TheVariants as keyword
use Rattle.lexis.specs.Classes.{separator, class_of}
use Rattle.lexis.specs.Steps.{Step, got}
use Rattle.lexis.specs.Lexing.{at_place, tok_of, word_of, by_class, first_of, next_of}
use Rattle.lexis.specs.declared.class.Class.{Class}
use Rattle.lexis.specs.declared.class.Class.TheVariants.{Separator, Letter, Inner, Open, Close, Colon, Semi, Illegal}
use Rattle.forms.specs.Writes.{Blank, Apart}
use Rattle.forms.proofs.Steps.{got_value, got_rest, not_got, unless_got}
use Rattle.forms.proofs.Names.{every_at, place_none, none_has, place_is, place_found}

-- runs of bytes that pass a test
pub every_leading : (f : ℕ → Bool) (s : List ℕ) → every f s ≡ true → prefix_len f s ≡ length s
every_leading f [] h = refl
every_leading f (x ∷ s) h =
    let (a, b) = and_parts (f x) (every f s) h in
    let k = every_leading f s b in
    let e : 1 + prefix_len f s ≡ suc (length s) = omega arith in
    cond-true _ _ _ a ∙ e

-- a run goes on no further than over what follows it
pub run_on : (f : ℕ → Bool) (w r : List ℕ) → prefix_len f w ≡ length w → prefix_len f r ≡ 0 → prefix_len f (w ++ r) ≡ length w
run_on f [] r h e = e
run_on f (x ∷ w) r h e = by (f x) h (λ k. run_on f w r k e)
  where
    by : (t : Bool) → cond t (1 + prefix_len f w) 0 ≡ suc (length w) → (prefix_len f w ≡ length w → prefix_len f (w ++ r) ≡ length w) → cond t (1 + prefix_len f (w ++ r)) 0 ≡ suc (length w)
    by true h ih = let k = ih (omega arith) in omega arith
    by false h ih = absurd (omega arith)

-- the run in front passes the test, and nothing that passes follows
pub run_front : (f : ℕ → Bool) (s : List ℕ) → every f (take (prefix_len f s) s) ≡ true
run_front f [] = refl
run_front f (x ∷ s) = by (f x) refl (run_front f s)
  where
    by : (t : Bool) → f x ≡ t → every f (take (prefix_len f s) s) ≡ true → every f (take (cond t (1 + prefix_len f s) 0) (x ∷ s)) ≡ true
    by true e ih = subst (λ n. every f (take n (x ∷ s)) ≡ true) (sym (one-add (prefix_len f s))) (and_from _ _ e ih)
    by false e ih = refl

pub run_over : (f : ℕ → Bool) (s : List ℕ) → prefix_len f (drop (prefix_len f s) s) ≡ 0
run_over f [] = refl
run_over f (x ∷ s) = by (f x) refl (run_over f s)
  where
    by : (t : Bool) → f x ≡ t → prefix_len f (drop (prefix_len f s) s) ≡ 0 → prefix_len f (drop (cond t (1 + prefix_len f s) 0) (x ∷ s)) ≡ 0
    by true e ih = subst (λ n. prefix_len f (drop n (x ∷ s)) ≡ 0) (sym (one-add (prefix_len f s))) ih
    by false e ih = cond-false _ _ _ e

-- what a class says of a byte
abbrev Says : Class → ℕ → Type 0
Says Separator b = Unit {0}
Says Letter b = letter b ≡ true
Says Inner b = Unit {0}
Says Open b = b ≡ 40
Says Close b = b ≡ 41
Says Colon b = b ≡ 58
Says Semi b = b ≡ 59
Says Illegal b = Unit {0}

says : (b : ℕ) → Says (class_of b) b
says b =
    let P : Class → Type 0 = λ c. Says c b in
    cond_both (letter b) _ _ P (λ e. e) λ _.
    cond_both (inner b) _ _ P (λ _. tt) λ _.
    cond_both (separator b) _ _ P (λ _. tt) λ _.
    cond_both (eqb b 40) _ _ P (λ e. eqb-true b 40 e) λ _.
    cond_both (eqb b 41) _ _ P (λ e. eqb-true b 41 e) λ _.
    cond_both (eqb b 58) _ _ P (λ e. eqb-true b 58 e) λ _.
    cond_both (eqb b 59) _ _ P (λ e. eqb-true b 59 e) λ _. tt

within_is : (low high b : ℕ) → within low high b ≡ true → low ≤ b
within_is low high b h = leb-true low b (and_parts _ _ h).0

letter_large : (b : ℕ) → letter b ≡ true → 65 ≤ b
letter_large b h = ⊎_elim (λ e. let k = within_is 97 122 b e in omega arith) (λ e. within_is 65 90 b e) (or_cases _ _ h)

letter_solid : (b : ℕ) → letter b ≡ true → separator b ≡ false
letter_solid b h =
    let l = letter_large b h in
    or_from _ _ (ne_eqb b 9 (omega arith)) (or_from _ _ (ne_eqb b 10 (omega arith)) (or_from _ _ (ne_eqb b 13 (omega arith)) (ne_eqb b 32 (omega arith))))

-- each keyword stands in the list of keywords at its rank
abbrev Counts : ℕ → List Keyword → Type 0
Counts j [] = Unit {0}
Counts j (k ∷ ks) = (rank k ≡ j) × Counts (suc j) ks

counted : Counts 0 keywords
counted = (refl, (refl, (refl, (refl, (refl, (refl, (refl, (refl, (refl, (refl, (refl, (refl, (refl, (refl, (refl, (refl, tt))))))))))))))))

counts_at : (j : ℕ) (ks : List Keyword) (i : ℕ) (d : Keyword) → Counts j ks → i < length ks → rank (get_or ks i d) ≡ j + i
counts_at j [] i d h l = absurd (omega arith)
counts_at j (k ∷ ks) zero d h l = let e = h.0 in omega arith
counts_at j (k ∷ ks) (suc i) d h l = let e = counts_at (suc j) ks i d h.1 (omega arith) in omega arith

pub rank_at : (i : ℕ) → i < 16 → rank (get_or keywords i keyword.Mscdocument) ≡ i
rank_at i l = let e = counts_at 0 keywords i keyword.Mscdocument counted l in omega arith

pub key_back : (k : Keyword) → get_or keywords (rank k) keyword.Mscdocument ≡ k
key_back keyword.Mscdocument = refl
key_back keyword.Endmscdocument = refl
key_back keyword.Inst = refl
key_back keyword.Msc = refl
key_back keyword.Endmsc = refl
key_back keyword.Instance = refl
key_back keyword.Endinstance = refl
key_back keyword.Out = refl
key_back keyword.In = refl
key_back keyword.To = refl
key_back keyword.From = refl
key_back keyword.Action = refl
key_back keyword.Expr = refl
key_back keyword.Seq = refl
key_back keyword.Alt = refl
key_back keyword.End = refl

pub rank_small : (k : Keyword) → ltb (rank k) 16 ≡ true
rank_small keyword.Mscdocument = refl
rank_small keyword.Endmscdocument = refl
rank_small keyword.Inst = refl
rank_small keyword.Msc = refl
rank_small keyword.Endmsc = refl
rank_small keyword.Instance = refl
rank_small keyword.Endinstance = refl
rank_small keyword.Out = refl
rank_small keyword.In = refl
rank_small keyword.To = refl
rank_small keyword.From = refl
rank_small keyword.Action = refl
rank_small keyword.Expr = refl
rank_small keyword.Seq = refl
rank_small keyword.Alt = refl
rank_small keyword.End = refl

module _ (ws : List (List ℕ)) where
  -- a token that a text can hold
  abbrev pub Good : Tok → Type 0
  Good (name w) = is_name ws w ≡ true
  Good (word k) = Unit {0}
  Good (sign x) = Unit {0}
  Good end = ⊥

  -- the token t, after separators, is what s begins with, and r is the rest
  pub data Cut (t : Tok) (s r : List ℕ) : Type 0 where
    off : (blank : List ℕ) → Good t → Blank blank → s ≡ blank ++ (spelled ws t ++ r) → Apart t r → Cut t s r

module _ (ws : List (List ℕ)) (v : is_vocabulary ws ≡ true) where
  vocabulary : (length ws ≡ 16) × (every is_word ws ≡ true) × (distinct ws ≡ true)
  vocabulary =
      let (l, wd) = and_parts (eqb (length ws) 16) (every is_word ws && distinct ws) v in
      let (w, d) = and_parts (every is_word ws) (distinct ws) wd in
      (eqb-true _ _ l, w, d)

  pub key_word : (k : Keyword) → is_word (spelling ws k) ≡ true
  key_word k = every_at is_word ws (rank k) [] vocabulary.1 (let l = ltb-true _ _ (rank_small k) in let e = vocabulary.0 in omega arith)

  key_tok : (k : Keyword) → tok_of ws (spelling ws k) ≡ word k
  key_tok k =
      let l = ltb-true _ _ (rank_small k) in
      let e = vocabulary.0 in
      let at : place ws (spelling ws k) ≡ Some (0 + rank k) = place_found 0 ws (rank k) vocabulary.2 (omega arith) in
      let z : 0 + rank k ≡ rank k = omega arith in
      ap (λ o. at_place o (spelling ws k)) (at ∙ ap Some z) ∙ ap word (key_back k)

  name_tok : (w : List ℕ) → is_name ws w ≡ true → tok_of ws w ≡ name w
  name_tok w h = ap (λ o. at_place o w) (place_none 0 ws w (not-true _ (and_parts _ _ h).1))

  -- forwards
  skip : (p : ℕ) (b x : List ℕ) → Blank b → prefix_len separator x ≡ 0 → (q : ℕ) × (next_of ws p (b ++ x) ≡ first_of ws q x)
  skip p b x h e =
      let n = run_on separator b x (every_leading separator b h) e in
      (p + length b, ap (λ k. first_of ws (p + k) (drop k (b ++ x))) n ∙ ap (first_of ws (p + length b)) (drop_at b x (length b) refl))

  word_next : (p : ℕ) (b w r : List ℕ) → Blank b → is_word w ≡ true → prefix_len wordy r ≡ 0 → (q p' : ℕ) × (next_of ws p (b ++ (w ++ r)) ≡ got (tok_of ws w, q) p' r)
  word_next p b [] r h is e = absurd (false≢true is)
  word_next p b (c ∷ w) r h is e =
      let s = w ++ r in
      let n = suc (length w) in
      let a = and_parts _ _ is in
      let a' = and_parts _ _ a.1 in
      let l : length w < 16 = ltb-true _ _ a'.1 in
      let (q, k) = skip p b (c ∷ s) h (cond-false _ _ _ (letter_solid c a.0)) in
      let on = run_on wordy w r (eqb-true _ _ a'.0) e in
      let count : prefix_len wordy (c ∷ s) ≡ n = cond-true _ _ _ (or_left _ _ a.0) ∙ (omega arith) in (
        q,
        q + n,
        k
            ∙ ap (λ x. by_class ws x q c s) (cond-true _ _ _ a.0)
            ∙ ap (word_of ws q (c ∷ s)) count
            ∙ cond-false _ _ _ (le-ltb 16 n (omega arith))
            ∙ ap (λ u. got (tok_of ws u, q) (q + n) (drop n (c ∷ s))) (take_at (c ∷ w) r n refl)
            ∙ ap (λ u. got (tok_of ws (c ∷ w), q) (q + n) u) (drop_at (c ∷ w) r n refl),
      )

  sign_next : (p : ℕ) (b : List ℕ) (x : Symbol) (r : List ℕ) → Blank b → (q p' : ℕ) × (next_of ws p (b ++ (sign_byte x ∷ r)) ≡ got (sign x, q) p' r)
  sign_next p b symbol.Open r h = let (q, k) = skip p b (40 ∷ r) h refl in (q, _, k)
  sign_next p b symbol.Close r h = let (q, k) = skip p b (41 ∷ r) h refl in (q, _, k)
  sign_next p b symbol.Colon r h = let (q, k) = skip p b (58 ∷ r) h refl in (q, _, k)
  sign_next p b symbol.Semi r h = let (q, k) = skip p b (59 ∷ r) h refl in (q, _, k)

  -- what can be cut off is the next token
  pub next_of_cut : (t : Tok) (s r : List ℕ) (p : ℕ) → Cut ws t s r → (q p' : ℕ) × (next_of ws p s ≡ got (t, q) p' r)
  next_of_cut (name w) s r p (off b g h e a) =
      let (q, p', k) = word_next p b w r h (and_parts _ _ g).0 (a refl) in
      (q, p', ap (next_of ws p) e ∙ k ∙ ap (λ t. got (t, q) p' r) (name_tok w g))
  next_of_cut (word k) s r p (off b g h e a) =
      let (q, p', f) = word_next p b (spelling ws k) r h (key_word k) (a refl) in
      (q, p', ap (next_of ws p) e ∙ f ∙ ap (λ t. got (t, q) p' r) (key_tok k))
  next_of_cut (sign x) s r p (off b g h e a) = let (q, p', k) = sign_next p b x r h in (q, p', ap (next_of ws p) e ∙ k)
  next_of_cut end s r p (off b g h e a) = absurd g

  -- nothing but separators is the text's end
  pub next_of_blank : (s : List ℕ) (p : ℕ) → Blank s → (q p' : ℕ) × (next_of ws p s ≡ got (end, q) p' [])
  next_of_blank s p h = let (q, k) = skip p s [] h refl in (q, q, ap (next_of ws p) (sym (append-nil s)) ∙ k)

  -- backwards
  run_word : (b : ℕ) (s : List ℕ) → letter b ≡ true → prefix_len wordy (b ∷ s) ≤ 16 → is_word (take (prefix_len wordy (b ∷ s)) (b ∷ s)) ≡ true
  run_word b s h l =
      let n = prefix_len wordy s in
      let e : prefix_len wordy (b ∷ s) ≡ suc n = cond-true _ _ _ (or_left _ _ h) ∙ one-add n in
      let lw : length (take n s) < 16 = omega (arith, length-take n s) in
      subst (λ k. is_word (take k (b ∷ s)) ≡ true) (sym e)
      (and_from _ _ h (and_from _ _ (eq-eqb _ _ (every_leading wordy (take n s) (run_front wordy s))) (lt-ltb _ _ lw)))

  -- a word is cut off as its token
  word_cut : (b s r : List ℕ) (w : List ℕ) (t : Tok) (o : Option ℕ) → place ws w ≡ o → t ≡ at_place o w → Blank b → is_word w ≡ true → s ≡ b ++ (w ++ r) → prefix_len wordy r ≡ 0 → Cut ws t s r
  word_cut b s r w t None is tok h iw e stop =
      subst (λ t. Cut ws t s r) (sym tok) (off b (and_from _ _ iw (not_from_false _ (none_has 0 ws w is))) h e (λ _. stop))
  word_cut b s r w t (Some k) is tok h iw e stop =
      let (j, i, l, g) = place_is 0 ws w k is in
      let z : k < 16 = omega (arith, vocabulary.0) in
      let at : spelling ws (get_or keywords k keyword.Mscdocument) ≡ w = ap (λ i. get_or ws i []) (rank_at k z ∙ (omega arith)) ∙ g in
      subst (λ t. Cut ws t s r) (sym tok) (off b tt h (subst (λ u. s ≡ b ++ (u ++ r)) (sym at) e) (λ _. stop))

  -- the next token is cut off, or the text ends
  abbrev pub Next : Tok → List ℕ → List ℕ → Type 0
  Next t s r = Cut ws t s r ⊎ ((t ≡ end) × Blank s)

  sign_cut : (y : Symbol) (b : ℕ) (x s blank : List ℕ) (t : Tok) (q p' : ℕ) {p : ℕ} {q' : ℕ} (r : List ℕ) → Blank blank → s ≡ blank ++ (b ∷ x) → b ≡ sign_byte y → ◌≡◌ {A = Step (Tok × ℕ)} (got (sign y, p) q' x) (got (t, q) p' r) → Cut ws t s r
  sign_cut y b x s k t q p' r h e is g =
      let i : sign y ≡ t = ap (λ u. u.0) (got_value g) in
      subst (λ t. Cut ws t s r) i (off k tt h (e ∙ ap (λ c. k ++ (c ∷ x)) is ∙ ap (λ x. k ++ (sign_byte y ∷ x)) (got_rest g)) (λ no_word. absurd (false≢true no_word)))

  first-cut : (c : Class) (p b : ℕ) (x s blank : List ℕ) (t : Tok) (q p' : ℕ) (r : List ℕ) → Blank blank → s ≡ blank ++ (b ∷ x) → Says c b → by_class ws c p b x ≡ got (t, q) p' r → Cut ws t s r
  first-cut Separator p b x s k t q p' r h e y g = absurd (not_got g)
  first-cut Inner p b x s k t q p' r h e y g = absurd (not_got g)
  first-cut Illegal p b x s k t q p' r h e y g = absurd (not_got g)
  first-cut Open p b x s k t q p' r h e y g = sign_cut symbol.Open b x s k t q p' r h e y g
  first-cut Close p b x s k t q p' r h e y g = sign_cut symbol.Close b x s k t q p' r h e y g
  first-cut Colon p b x s k t q p' r h e y g = sign_cut symbol.Colon b x s k t q p' r h e y g
  first-cut Semi p b x s k t q p' r h e y g = sign_cut symbol.Semi b x s k t q p' r h e y g
  first-cut Letter p b x s k t q p' r h e y g =
      let n = prefix_len wordy (b ∷ x) in
      let w = take n (b ∷ x) in
      let (l, g') = unless_got (ltb 16 n) _ _ g in
      let i : t ≡ tok_of ws w = sym (ap (λ u. u.0) (got_value g')) in
      let j = got_rest g' in
      word_cut k s r w t (place ws w) refl i h (run_word b x y (ltb-false 16 n l))
      (e ∙ ap (λ u. k ++ u) (sym (take-append-drop n (b ∷ x)) ∙ ap (λ u. w ++ u) j))
      (ap (prefix_len wordy) (sym j) ∙ run_over wordy (b ∷ x))

  pub cut_of_next : (p : ℕ) (s : List ℕ) (t : Tok) (q p' : ℕ) (r : List ℕ) → next_of ws p s ≡ got (t, q) p' r → Next t s r
  cut_of_next p s t q p' r e = go (drop n s) (sym (take-append-drop n s)) e
    where
      n : ℕ
      n = prefix_len separator s

      go : (x : List ℕ) → s ≡ take n s ++ x → first_of ws (p + n) x ≡ got (t, q) p' r → Next t s r
      go [] i g = inr (sym (ap (λ u. u.0) (got_value g)), subst Blank (sym (i ∙ append-nil (take n s))) (run_front separator s))
      go (b ∷ x) i g = inl (first-cut (class_of b) (p + n) b x s (take n s) t q p' r (run_front separator s) i (says b) g)
