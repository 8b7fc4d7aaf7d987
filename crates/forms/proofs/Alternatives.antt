-- Lists of labels: their tokens, their names, and what looking the names up gives. Assumes nothing.
use Rattle.msc.specs.declared.label.Body.{Body}
use Rattle.msc.specs.declared.label.Label.{Label}
use Rattle.std.proofs.Common.{◌≡◌, ℕ, suc, ◌+◌, ◌<◌, true, false, not, eqb, ltb, List, [], ◌∷◌, ◌++◌, length, get_or, Some, None, Ok, Err, Option, Result, sym, refl, ap, ◌∙◌, subst, arith}
use Rattle.std.specs.Str.{bytes_eq}
use Rattle.std.proofs.lemmas.Slice.Eq.{bytes_eq-Decides}
use Rattle.std.proofs.lemmas.Bool.{both_ways, and_parts, and_from, or_parts, or_from, not-true, not_from_false, eqb-true, eqb-false, ltb-true, lt-ltb}
use Rattle.msc.specs.Doc.{label_names}
use Rattle.msc.specs.Shortest.{list_tokens}
use Rattle.msc.specs.Sound.{among, differ}
use Rattle.msc.specs.Spelling.{every, has, place, distinct}
use Rattle.msc.specs.Tokens.{Tok, name, word}
use Rattle.msc.specs.declared.words.Keyword.TheVariants as keyword
use Rattle.lexis.specs.declared.refusal.Refusal.{Refusal}
use Rattle.forms.specs.Drafts.{Mention, Rest, Line, line_names, mentioned}
use Rattle.forms.specs.Reading.{follow, label_at, resolve, resolve_rest, resolve_lines}
use Rattle.forms.proofs.Names.{when_not, place_found, place_is}

abbrev ok_in : {A : Type 0} → Result A Refusal → A → A
ok_in (Ok a) d = a
ok_in (Err e) d = d

pub ok_value : {A : Type 0} {a b : A} → ◌≡◌ {A = Result A Refusal} (Ok a) (Ok b) → a ≡ b
ok_value {a} e = ap (λ x. ok_in x a) e

-- the names of labels
abbrev pub names_at : List (List ℕ) → List ℕ → List (List ℕ)
names_at ns [] = []
names_at ns (l ∷ ls) = get_or ns l [] ∷ names_at ns ls

pub length-names_at : (ns : List (List ℕ)) (ls : List ℕ) → length (names_at ns ls) ≡ length ls
length-names_at ns [] = refl
length-names_at ns (l ∷ ls) = ap suc (length-names_at ns ls)

-- alt and a name, for each name after the first
abbrev pub more_tokens : List (List ℕ) → List Tok
more_tokens [] = []
more_tokens (w ∷ names) = word keyword.Alt ∷ name w ∷ more_tokens names

pub list_tokens_lem : (ns : List (List ℕ)) (l : ℕ) (ls : List ℕ) → list_tokens ns (l ∷ ls) ≡ name (get_or ns l []) ∷ more_tokens (names_at ns ls)
list_tokens_lem ns l [] = refl
list_tokens_lem ns l (m ∷ ls) = ap (λ ts. name (get_or ns l []) ∷ word keyword.Alt ∷ ts) (list_tokens_lem ns m ls)

pub mentioned_push : (ms : List Mention) (m : Mention) → mentioned (ms ++ (m ∷ [])) ≡ mentioned ms ++ (m.name ∷ [])
mentioned_push [] m = refl
mentioned_push (x ∷ ms) m = ap (λ ns. x.name ∷ ns) (mentioned_push ms m)

pub length-mentioned : (ms : List Mention) → length (mentioned ms) ≡ length ms
length-mentioned [] = refl
length-mentioned (m ∷ ms) = ap suc (length-mentioned ms)

pub lines_push : (ls : List Line) (l : Line) → line_names (ls ++ (l ∷ [])) ≡ line_names ls ++ (l.name ∷ [])
lines_push [] l = refl
lines_push (x ∷ ls) l = ap (λ ns. x.name ∷ ns) (lines_push ls l)

pub length-line_names : (ls : List Line) → length (line_names ls) ≡ length ls
length-line_names [] = refl
length-line_names (l ∷ ls) = ap suc (length-line_names ls)

-- different names stand at different places
pub same_place : (ns : List (List ℕ)) (j k : ℕ) → distinct ns ≡ true → j < length ns → k < length ns → get_or ns j [] ≡ get_or ns k [] → j ≡ k
same_place ns j k d lj lk e =
    let a : Some (0 + j) ≡ Some (0 + k) = sym (place_found 0 ns j d lj) ∙ ap (place ns) e ∙ place_found 0 ns k d lk in
    let b : 0 + j ≡ 0 + k = cc in
    omega arith

-- labels that differ have names that differ, and the other way round
module _ (ns : List (List ℕ)) where
  among-has : (d : distinct ns ≡ true) (ks : List ℕ) (l : ℕ) → l < length ns → every (λ k. ltb k (length ns)) ks ≡ true → among ks l ≡ false → has (names_at ns ks) (get_or ns l []) ≡ false
  among-has d [] l h r e = refl
  among-has d (k ∷ ks) l h r e =
      let (r1, r2) = and_parts (ltb k (length ns)) (every (λ k. ltb k (length ns)) ks) r in
      let (e1, e2) = or_parts (eqb l k) (among ks l) e in
      or_from _ _ (when_not _ (λ s. eqb-false l k e1 (same_place ns l k d h (ltb-true _ _ r1) ((bytes_eq-Decides (get_or ns l []) (get_or ns k [])).0 s)))) (among-has d ks l h r2 e2)

  pub distinct-names : distinct ns ≡ true → (ls : List ℕ) → every (λ k. ltb k (length ns)) ls ≡ true → differ ls ≡ true → distinct (names_at ns ls) ≡ true
  distinct-names d [] r h = refl
  distinct-names d (l ∷ ls) r h =
      let (r1, r2) = and_parts (ltb l (length ns)) (every (λ k. ltb k (length ns)) ls) r in
      let (h1, h2) = and_parts (not (among ls l)) (differ ls) h in
      and_from _ _ (not_from_false _ (among-has d ls l (ltb-true _ _ r1) r2 (not-true _ h1))) (distinct-names d ls r2 h2)

  has-among : (ks : List ℕ) (l : ℕ) → has (names_at ns ks) (get_or ns l []) ≡ false → among ks l ≡ false
  has-among [] l e = refl
  has-among (k ∷ ks) l e =
      let (e1, e2) = or_parts (bytes_eq (get_or ns l []) (get_or ns k [])) (has (names_at ns ks) (get_or ns l [])) e in
      or_from _ _ (when_not _ (λ s. both_ways _ e1 ((bytes_eq-Decides (get_or ns l []) (get_or ns k [])).1 (ap (λ j. get_or ns j []) (eqb-true l k s))))) (has-among ks l e2)

  pub names-differ : (ls : List ℕ) → distinct (names_at ns ls) ≡ true → differ ls ≡ true
  names-differ [] h = refl
  names-differ (l ∷ ls) h =
      let (h1, h2) = and_parts (not (has (names_at ns ls) (get_or ns l []))) (distinct (names_at ns ls)) h in
      and_from _ _ (not_from_false _ (has-among ls l (not-true _ h1))) (names-differ ls h2)

  -- names of labels are looked up as those labels
  pub resolve_back : distinct ns ≡ true → (ls : List ℕ) (ms : List Mention) → every (λ k. ltb k (length ns)) ls ≡ true → mentioned ms ≡ names_at ns ls → resolve ns ms ≡ Ok ls
  resolve_back d [] [] r e = refl
  resolve_back d [] (m ∷ ms) r e = absurd (omega (arith, ap length e))
  resolve_back d (l ∷ ls) [] r e = absurd (omega (arith, ap length e))
  resolve_back d (l ∷ ls) (m ∷ ms) r e =
      let (r1, r2) = and_parts (ltb l (length ns)) (every (λ k. ltb k (length ns)) ls) r in
      let e' : m.name ∷ mentioned ms ≡ get_or ns l [] ∷ names_at ns ls = e in
      let h : m.name ≡ get_or ns l [] = cc in
      let k : mentioned ms ≡ names_at ns ls = cc in
      let z : 0 + l ≡ l = omega arith in
      let at : place ns m.name ≡ Some l = ap (place ns) h ∙ place_found 0 ns l d (ltb-true _ _ r1) ∙ ap Some z in
      ap (λ o. follow (label_at o m.at) λ l. follow (resolve ns ms) λ ls. Ok (l ∷ ls)) at ∙ ap (λ o. follow o λ ls. Ok (l ∷ ls)) (resolve_back d ls ms r2 k)

  -- what was looked up are the labels of those names
  pub follow_got : {A B : Type 0} (x : Result A Refusal) (k : A → Result B Refusal) {b : B} → follow x k ≡ Ok b → (a : A) × (x ≡ Ok a) × (k a ≡ Ok b)
  follow_got (Ok a) k e = (a, refl, e)
  follow_got (Err f) k e = let z : ◌≡◌ {A = ℕ} 0 1 = cc in absurd (omega arith)

  label_got : (o : Option ℕ) (q : ℕ) {l : ℕ} → label_at o q ≡ Ok l → o ≡ Some l
  label_got None q e = let z : ◌≡◌ {A = ℕ} 0 1 = cc in absurd (omega arith)
  label_got (Some k) q {l} e = let z : k ≡ l = cc in ap Some z

  pub resolved : (ms : List Mention) (ls : List ℕ) → resolve ns ms ≡ Ok ls → (mentioned ms ≡ names_at ns ls) × (every (λ k. ltb k (length ns)) ls ≡ true)
  resolved [] ls e = let z : [] ≡ ls = cc in subst (λ ls. (mentioned [] ≡ names_at ns ls) × (every (λ k. ltb k (length ns)) ls ≡ true)) z (refl, refl)
  resolved (m ∷ ms) ls e =
      let (l, e1, k1) = follow_got (label_at (place ns m.name) m.at) _ e in
      let (ls', e2, k2) = follow_got (resolve ns ms) _ k1 in
      let z : l ∷ ls' ≡ ls = cc in
      let (j, i, lt, g) = place_is 0 ns m.name l (label_got (place ns m.name) m.at e1) in
      let (a, b) = resolved ms ls' e2 in
      let jl : j ≡ l = omega arith in
      let w : m.name ≡ get_or ns l [] = sym g ∙ ap (λ j. get_or ns j []) jl in
      subst (λ ls. (mentioned (m ∷ ms) ≡ names_at ns ls) × (every (λ k. ltb k (length ns)) ls ≡ true)) z
      (ap (λ x. x ∷ mentioned ms) w ∙ ap (λ x. get_or ns l [] ∷ x) a, and_from _ _ (lt-ltb l (length ns) (omega arith)) b)

  -- one label line more
  pub resolve_push : (L : List Line) (done : List Label) (w : List ℕ) (x : Rest) (b : Body) → resolve_lines ns L ≡ Ok done → resolve_rest ns x ≡ Ok b → resolve_lines ns (L ++ (record { name = w; rest = x } ∷ [])) ≡ Ok (done ++ (record { name = w; body = b } ∷ []))
  resolve_push [] done w x b e h =
      let z : [] ≡ done = cc in
      ap (λ o. follow o λ b. Ok (record { name = w; body = b } ∷ [])) h ∙ ap (λ d. Ok (d ++ (record { name = w; body = b } ∷ []))) z
  resolve_push (l ∷ L) done w x b e h =
      let (c, e1, k1) = follow_got (resolve_rest ns l.rest) _ e in
      let (ds, e2, k2) = follow_got (resolve_lines ns L) _ k1 in
      let z : record { name = l.name; body = c } ∷ ds ≡ done = cc in
      ap (λ o. follow o λ b. follow (resolve_lines ns (L ++ (record { name = w; rest = x } ∷ []))) λ r. Ok (record { name = l.name; body = b } ∷ r)) e1
      ∙ ap (λ o. follow o λ r. Ok (record { name = l.name; body = c } ∷ r)) (resolve_push L ds w x b e2 h)
      ∙ ap (λ d. Ok (d ++ (record { name = w; body = b } ∷ []))) z

  -- label lines keep their names
  pub resolved_names : (L : List Line) (ls : List Label) → resolve_lines ns L ≡ Ok ls → line_names L ≡ label_names ls
  resolved_names [] ls e = let z : [] ≡ ls = cc in ap label_names z
  resolved_names (l ∷ L) ls e =
      let (c, e1, k1) = follow_got (resolve_rest ns l.rest) _ e in
      let (ds, e2, k2) = follow_got (resolve_lines ns L) _ k1 in
      let z : record { name = l.name; body = c } ∷ ds ≡ ls = cc in
      ap (λ x. l.name ∷ x) (resolved_names L ds e2) ∙ ap label_names z
