-- A well-formed document is within the limits that the judge uses.
use Rattle.msc.specs.declared.label.Body.{Body}
use Rattle.msc.specs.declared.label.Body.TheVariants.{End as final, Node as node}
use Rattle.msc.specs.declared.label.Label.{Label}
use Rattle.std.proofs.Common.{◌≡◌, ℕ, zero, suc, ◌+◌, ◌<◌, ◌≤◌, Bool, true, false, cond, not, ◌&&◌, eqb, ltb, leb, ◌⊎◌, List, [], ◌∷◌, ◌++◌, length, get_or, Some, None, Decides, sum, sym, refl, ap, ◌∙◌, subst, inl, inr, ⊎_elim, add-zero, arith, length-append}
use Rattle.std.specs.List.{flat_map}
use Rattle.std.proofs.lemmas.List.{get_or_past}
use Rattle.std.proofs.lemmas.List.Sums.{sum_by-cons}
use Rattle.std.proofs.lemmas.Bool.{cases_lt, and_parts, eqb-true, leb-true, ltb-true, ne_eqb}
use Rattle.msc.specs.Doc.{Doc, Chart, chart_events, all_events, chart_names, label_names}
use Rattle.msc.specs.Shortest.{text_of}
use Rattle.msc.specs.Events.{out_to, in_from, picked}
use Rattle.msc.specs.Listing.{Mem}
use Rattle.msc.specs.Meaning.{Meaning, meaning_of, start, chart_of, list_of, no_chart, no_label}
use Rattle.msc.specs.Stored.{doc_of}
use Rattle.msc.specs.Sound.{many, names, partner, parts, chart, numbered, list, body, most, well_formed}
use Rattle.msc.specs.Spelling.{every, is_name, is_vocabulary}
use Rattle.msc.specs.declared.event.Event.{Event}
use Rattle.msc.specs.declared.event.Event.TheVariants.{Out, In, Action}
use Rattle.msc.specs.Choice.{Matched, Listable}
use Rattle.msc.specs.declared.document.Document.{Document}
use Rattle.order.specs.Charts.{is_matched, is_listable}
use Rattle.order.specs.Meant.{meant}
use Rattle.order.proofs.Drawn.{Framed, is_matched_lem, matched_is}
use Rattle.order.proofs.Greedy.{is_listable_lem, listable_is}
use Rattle.order.proofs.Limits.{Limits}

every_at : {A : Type 0} (p : A → Bool) (xs : List A) (i : ℕ) (d : A) → every p xs ≡ true → i < length xs → p (get_or xs i d) ≡ true
every_at p [] i d h l = absurd (let z : ⊥ = omega arith in z)
every_at p (x ∷ xs) zero d h l = (and_parts (p x) (every p xs) h).0
every_at p (x ∷ xs) (suc i) d h l = every_at p xs i d (and_parts (p x) (every p xs) h).1 (omega arith)

every_mem : (p : ℕ → Bool) (xs : List ℕ) (x : ℕ) → every p xs ≡ true → Mem x xs → p x ≡ true
every_mem p [] x h m = absurd m
every_mem p (y ∷ xs) x h (inl e) = ap p e ∙ (and_parts (p y) (every p xs) h).0
every_mem p (y ∷ xs) x h (inr m) = every_mem p xs x (and_parts (p y) (every p xs) h).1 m

-- no partner is past the k instances
no_out : (k i q : ℕ) (es : List Event) → k ≤ q → every (partner k i) es ≡ true → picked (out_to q) es ≡ []
no_out k i q [] l h = refl
no_out k i q (Out n t ∷ es) l h =
    let a = and_parts (ltb t k && not (eqb t i)) (every (partner k i) es) h in
    let b = ltb-true t k (and_parts (ltb t k) (not (eqb t i)) a.0).0 in
    rw (ne_eqb t q (λ e. omega arith)) (no_out k i q es l a.1)
no_out k i q (In n t ∷ es) l h = no_out k i q es l (and_parts (ltb t k && not (eqb t i)) (every (partner k i) es) h).1
no_out k i q (Action n ∷ es) l h = no_out k i q es l h

no_in : (k i p : ℕ) (es : List Event) → k ≤ p → every (partner k i) es ≡ true → picked (in_from p) es ≡ []
no_in k i p [] l h = refl
no_in k i p (Out n t ∷ es) l h = no_in k i p es l (and_parts (ltb t k && not (eqb t i)) (every (partner k i) es) h).1
no_in k i p (In n t ∷ es) l h =
    let a = and_parts (ltb t k && not (eqb t i)) (every (partner k i) es) h in
    let b = ltb-true t k (and_parts (ltb t k) (not (eqb t i)) a.0).0 in
    rw (ne_eqb t p (λ e. omega arith)) (no_in k i p es l a.1)
no_in k i p (Action n ∷ es) l h = no_in k i p es l h

parts_at : (k j : ℕ) (ps : List (List Event)) (i : ℕ) → parts k j ps ≡ true → every (partner k (j + i)) (get_or ps i []) ≡ true
parts_at k j [] i h = refl
parts_at k j (p ∷ ps) zero h = rw add-zero (and_parts (every (partner k j) p) _ h).0
parts_at k j (p ∷ ps) (suc i) h =
    let s : j + suc i ≡ suc j + i = omega arith in
    rw s (parts_at k (suc j) ps i (and_parts (cond (ltb j k) true (eqb (length p) 0)) (parts k (suc j) ps) (and_parts (every (partner k j) p) _ h).1).1)

sum_joined : (ps : List (List Event)) (d : List ℕ) → length d ≡ length ps → ((i : ℕ) → get_or d i 0 ≤ length (get_or ps i [])) → sum d ≤ length (flat_map (λ p. p) ps)
sum_joined [] [] e h = omega arith
sum_joined [] (x ∷ d) e h = absurd (let z : ⊥ = omega arith in z)
sum_joined (p ∷ ps) [] e h = absurd (let z : ⊥ = omega arith in z)
sum_joined (p ∷ ps) (x ∷ d) e h = omega (arith, sum_by-cons (λ n. n) x d, length-append p (flat_map (λ p. p) ps), h 0, sum_joined ps d (omega arith) (λ i. h (suc i)))

module _ (k : ℕ) (few : k ≤ 8) where
  framed : (ps : List (List Event)) → length ps ≡ 8 → parts k 0 ps ≡ true → length (flat_map (λ p. p) ps) ≤ 64 → Framed (λ i. get_or ps i [])
  framed ps long ok most = record {
    few = λ i l. get_or_past ps i [] (omega arith);
    to = λ p q l. no_out k (0 + p) q (get_or ps p []) (omega arith) (parts_at k 0 ps p ok);
    from = λ p q l. no_in k (0 + q) p (get_or ps q []) (omega arith) (parts_at k 0 ps q ok);
    size = λ d e h. omega (arith, sum_joined ps d (e ∙ sym long) h);
  }

  framed_chart : (c : Chart) → chart k c ≡ true → Framed (λ i. get_or c.parts i [])
  framed_chart c h =
      let a = and_parts (eqb (length c.parts) 8) _ h in
      let b = and_parts (parts k 0 c.parts) _ a.1 in
      let s = and_parts (leb (length (chart_events c)) 64) _ b.1 in
      framed c.parts (eqb-true _ 8 a.0) b.0 (leb-true _ 64 s.0)

-- all zero
sum_none : (d : List ℕ) → ((i : ℕ) → get_or d i 0 ≤ 0) → sum d ≤ 0
sum_none [] h = omega arith
sum_none (x ∷ d) h = omega (arith, sum_by-cons (λ n. n) x d, h 0, sum_none d (λ i. h (suc i)))

framed_none : Framed (λ i. [])
framed_none = record { few = λ i l. refl; to = λ p q l. refl; from = λ p q l. refl; size = λ d e h. omega (arith, sum_none d h) }

-- the facts of a document that are used
record Facts (d : Doc) : Type 0 where
  instances : length d.instances ≤ 8
  charts : length d.charts ≤ 64
  each : every (chart (length d.instances)) d.charts ≡ true
  labels : length d.labels ≤ 64
  bodies : every (λ (l : Label). body (length d.charts) (length d.labels) l.body) d.labels ≡ true
  starts : list (length d.labels) d.start ≡ true

-- a chain of tests: every one holds
abbrev conj : List Bool → Bool → Bool
conj [] z = z
conj (x ∷ xs) z = x && conj xs z

conj-has : (xs : List Bool) (z : Bool) → conj xs z ≡ true → (k : ℕ) → get_or xs k true ≡ true
conj-has [] z h k = refl
conj-has (x ∷ xs) z h zero = (and_parts x (conj xs z) h).0
conj-has (x ∷ xs) z h (suc k) = conj-has xs z (and_parts x (conj xs z) h).1 k

module _ (d : Doc) (h : well_formed d ≡ true) where
  -- the tests of a document, but the last
  abbrev tests : List Bool
  tests =
      is_vocabulary d.words ∷ is_name d.words d.title
      ∷ (many 1 8 d.instances && names d.words d.instances)
      ∷ (leb (length d.messages) 128 && names d.words d.messages)
      ∷ (leb (length d.actions) 128 && names d.words d.actions)
      ∷ (leb (length d.charts) 64 && names d.words (chart_names d.charts ++ (d.graph ∷ [])))
      ∷ every (chart (length d.instances)) d.charts
      ∷ leb (length (all_events d.charts)) 1024
      ∷ numbered (length d.messages) (length d.actions) 0 0 (all_events d.charts)
      ∷ (many 1 64 d.labels && names d.words (label_names d.labels))
      ∷ every (λ (l : Label). body (length d.charts) (length d.labels) l.body) d.labels
      ∷ list (length d.labels) d.start ∷ []

  holds : (k : ℕ) → get_or tests k true ≡ true
  unfolding well_formed
  holds = conj-has tests (leb (length (text_of d)) most) h

  -- the highest of a number of items
  high : {A : Type 0} (low top : ℕ) (xs : List A) (b : Bool) → (many low top xs && b) ≡ true → length xs ≤ top
  high low top xs b t = leb-true (length xs) top (and_parts (leb low (length xs)) (leb (length xs) top) (and_parts (many low top xs) b t).0).1

  facts : Facts d
  facts = record {
    instances = high 1 8 d.instances (names d.words d.instances) (holds 2);
    charts = leb-true (length d.charts) 64 (and_parts (leb (length d.charts) 64) (names d.words (chart_names d.charts ++ (d.graph ∷ []))) (holds 5)).0;
    each = holds 6;
    labels = high 1 64 d.labels (names d.words (label_names d.labels)) (holds 9);
    bodies = holds 10;
    starts = holds 11;
  }

module _ (d : Doc) (f : Facts d) where
  abbrev m : Meaning
  m = meaning_of d

  abbrev row : ℕ → Label
  row l = get_or d.labels l no_label

  framed_at : (c : ℕ) → Framed (m.drawn c)
  framed_at c = ⊎_elim
      (λ (l : c < length d.charts). framed_chart (length d.instances) f.instances (get_or d.charts c no_chart) (every_at (chart (length d.instances)) d.charts c no_chart f.each l))
      (λ (l : length d.charts ≤ c). subst (λ k. Framed (λ i. get_or k.parts i [])) (sym (get_or_past d.charts c no_chart l)) framed_none)
      (cases_lt c (length d.charts))

  -- what a row of the labels says
  row_at : (l : ℕ) → ((l < length d.labels) × (body (length d.charts) (length d.labels) (row l).body ≡ true)) ⊎ ((row l).body ≡ final)
  row_at l = ⊎_elim
      (λ (h : l < length d.labels). inl (h, every_at (λ (k : Label). body (length d.charts) (length d.labels) k.body) d.labels l no_label f.bodies h))
      (λ (h : length d.labels ≤ l). inr (ap (λ (k : Label). k.body) (get_or_past d.labels l no_label h)))
      (cases_lt l (length d.labels))

  listed_below : (ls : List ℕ) (l : ℕ) → list (length d.labels) ls ≡ true → Mem l ls → l < 64
  listed_below ls l h i =
      let a = and_parts (many 1 8 ls) _ h in
      let b = and_parts (every (λ k. ltb k (length d.labels)) ls) _ a.1 in
      omega (arith, ltb-true l _ (every_mem (λ k. ltb k (length d.labels)) ls l b.0 i), f.labels)

  node_facts : (l c : ℕ) → (b : Body) → (row l).body ≡ b → chart_of b ≡ Some c → (c < m.charts) × (l < 64)
  node_facts l c final e h = cc
  node_facts l c (node k ls) e h = go (row_at l)
    where
      go : ((l < length d.labels) × (body (length d.charts) (length d.labels) (row l).body ≡ true)) ⊎ ((row l).body ≡ final) → (c < m.charts) × (l < 64)
      go (inl (a, t)) = let k_is : k ≡ c = cc in
          (omega (arith, ltb-true k _ (and_parts (ltb k (length d.charts)) (list (length d.labels) ls) (ap (body (length d.charts) (length d.labels)) (sym e) ∙ t)).0), omega (arith, f.labels, a))
      go (inr t) = cc

  row_list : (x l : ℕ) (b : Body) → (row x).body ≡ b → Mem l (list_of b) → l < 64
  row_list x l final e i = absurd i
  row_list x l (node k ls) e i = go (row_at x)
    where
      go : ((x < length d.labels) × (body (length d.charts) (length d.labels) (row x).body ≡ true)) ⊎ ((row x).body ≡ final) → l < 64
      go (inl (a, t)) = listed_below ls l (and_parts (ltb k (length d.charts)) (list (length d.labels) ls) (ap (body (length d.charts) (length d.labels)) (sym e) ∙ t)).1 i
      go (inr t) = cc

  any_list : (x l : ℕ) (b : Bool) → eqb x start ≡ b → Mem l (cond b d.start (list_of (row x).body)) → l < 64
  any_list x l true e i = listed_below d.start l f.starts i
  any_list x l false e i = row_list x l (row x).body refl i

  end_empty : (b : Body) → chart_of b ≡ None → list_of b ≡ []
  end_empty final h = refl
  end_empty (node k ls) h = cc

  within-limits : Limits m
  within-limits = record {
    framed = framed_at;
    charts = f.charts;
    chart-below = λ l c h. (node_facts l c (row l).body refl h).0;
    node_below = λ l c h. (node_facts l c (row l).body refl h).1;
    list-below = λ x l i. any_list x l (eqb x start) refl i;
    end_list = λ l b h. rw (ne_eqb l 64 (λ e. omega arith)) (end_empty (row l).body h);
  }

pub limits : (d : Doc) → well_formed d ≡ true → Limits (meaning_of d)
limits d h = within-limits d (facts d h)

-- what a document means is within the limits
pub within : (d : Document) → Limits (meant d)
unfolding meant
within d = limits (doc_of d.tables) d.sound

pub matched_rule : (d : Document) (c : ℕ) (r : Bool) → r ≡ is_matched ((meant d).drawn c) → Decides r (Matched (meant d) c)
matched_rule d c r e = (λ h. is_matched_lem ((meant d).drawn c) ((within d).framed c) (sym e ∙ h), λ M. e ∙ matched_is ((meant d).drawn c) M)

pub listable_rule : (d : Document) (c : ℕ) (r : Bool) → r ≡ is_listable ((meant d).drawn c) → Matched (meant d) c → Decides r (Listable (meant d) c)
listable_rule d c r e M = (λ h. is_listable_lem (meant d).drawn c ((within d).framed c) (sym e ∙ h), λ L. e ∙ listable_is (meant d).drawn c ((within d).framed c) M L)
