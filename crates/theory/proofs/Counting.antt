-- How many letters wait: as many as have gone out and not come in.
use Rattle.std.proofs.Common.{◌≡◌, ℕ, zero, suc, ◌+◌, ◌<◌, ◌≤◌, Bool, true, false, cond, eqb, List, [], ◌∷◌, ◌++◌, map, length, take, sym, refl, ap, ◌∙◌, subst, ⊎_elim, append_assoc, arith, length-append, length-drop, take-append-drop, eq-eqb, ne_eqb}
use Rattle.std.proofs.lemmas.Bool.{cases_lt}
use Rattle.msc.specs.Events.{out_to, in_from, picked}
use Rattle.msc.specs.Order.{Occ, occ}
use Rattle.msc.specs.declared.event.Event.{Event}
use Rattle.msc.specs.declared.event.Event.TheVariants.{Out, In, Action}
use Rattle.theory.specs.Counts.{sum_to, outs, ins}
use Rattle.theory.specs.Cuts.{done, ahead, Consistent, waiting}
use Rattle.theory.specs.Given.{Paired}
use Rattle.theory.specs.Letters.{tag, outs_to, ins_from}
use Rattle.theory.specs.Projection.{Placed, at, placed, proj_from, proj}
use Rattle.theory.proofs.Progress.{picked-++}
use Rattle.theory.proofs.Queues.{waiting_length}

sum_same : (n : ℕ) (f g : ℕ → ℕ) → ((k : ℕ) → f k ≡ g k) → sum_to n f ≡ sum_to n g
sum_same zero f g h = refl
sum_same (suc n) f g h = omega (arith, sum_same n f g h, h n)

sum_add : (n : ℕ) (f g : ℕ → ℕ) → sum_to n (λ k. f k + g k) ≡ sum_to n f + sum_to n g
sum_add zero f g = refl
sum_add (suc n) f g = omega (arith, sum_add n f g)

sum_none : (n : ℕ) → sum_to n (λ k. 0) ≡ 0
sum_none zero = refl
sum_none (suc n) = omega (arith, sum_none n)

sum-swap : (n k : ℕ) (f : ℕ → ℕ → ℕ) → sum_to n (λ p. sum_to k (λ q. f p q)) ≡ sum_to k (λ q. sum_to n (λ p. f p q))
sum-swap zero k f = sym (sum_none k)
sum-swap (suc n) k f = omega (arith, sum-swap n k f, sum_add k (λ q. sum_to n (λ p. f p q)) (λ q. f n q))

-- 1 at t and 0 elsewhere adds up to 1
abbrev one_at : ℕ → ℕ → ℕ
one_at t q = cond (eqb t q) 1 0

sum_past : (n t : ℕ) → n ≤ t → sum_to n (one_at t) ≡ 0
sum_past zero t h = refl
sum_past (suc n) t h = rw (ne_eqb t n (λ e. omega arith)) (omega (arith, sum_past n t (omega arith)))

sum_one : (n t : ℕ) → t < n → sum_to n (one_at t) ≡ 1
sum_one zero t h = omega arith
sum_one (suc n) t h = ⊎_elim
    (λ (a : t < n). rw (ne_eqb t n (λ e. omega arith)) (omega (arith, sum_one n t a)))
    (λ (a : n ≤ t). let e : t ≡ n = omega arith in rw (eq-eqb t n e) (omega (arith, sum_past n t a)))
    (cases_lt t n)

one_length : (t q n j l : ℕ) → length (map (tag j l) (cond (eqb t q) (n ∷ []) [])) ≡ one_at t q
one_length t q n j l = go (eqb t q)
  where
    go : (b : Bool) → length (map (tag j l) (cond b (n ∷ []) [])) ≡ cond b 1 0
    go true = refl
    go false = refl

-- the partner of an event is below 8
abbrev FewEvent : Event → Type 0
FewEvent (Out n q) = q < 8
FewEvent (In n p) = p < 8
FewEvent (Action n) = Unit {0}

abbrev FewAll : List Placed → Type 0
FewAll [] = Unit {0}
FewAll (at x l v ∷ xs) = FewEvent v × FewAll xs

few-++ : (xs ys : List Placed) → FewAll xs → FewAll ys → FewAll (xs ++ ys)
few-++ [] ys a b = b
few-++ (at x l v ∷ xs) ys a b = (a.0, few-++ xs ys a.1 b)

few_take : (n : ℕ) (xs : List Placed) → FewAll xs → FewAll (take n xs)
few_take zero [] a = tt
few_take (suc n) [] a = tt
few_take zero (x ∷ xs) a = tt
few_take (suc n) (at x l v ∷ xs) a = (a.0, few_take n xs a.1)

-- every out is to one of eight instances, so sums over receivers count each once; and so for ins
outs-sum : (xs : List Placed) → FewAll xs → sum_to 8 (λ q. length (outs_to q xs)) ≡ outs xs
outs-sum [] a = refl
outs-sum (at (occ j s) l (In n p) ∷ xs) a = outs-sum xs a.1
outs-sum (at (occ j s) l (Action n) ∷ xs) a = outs-sum xs a.1
outs-sum (at (occ j s) l (Out n t) ∷ xs) a =
    sum_same 8 (λ q. length (outs_to q (at (occ j s) l (Out n t) ∷ xs))) (λ q. one_at t q + length (outs_to q xs))
    (λ q. length-append (map (tag j l) (cond (eqb t q) (n ∷ []) [])) (outs_to q xs) ∙ ap (λ z. z + length (outs_to q xs)) (one_length t q n j l))
    ∙ sum_add 8 (one_at t) (λ q. length (outs_to q xs)) ∙ omega (arith, sum_one 8 t a.0, outs-sum xs a.1)

ins-sum : (xs : List Placed) → FewAll xs → sum_to 8 (λ p. length (ins_from p xs)) ≡ ins xs
ins-sum [] a = refl
ins-sum (at (occ j s) l (Out n q) ∷ xs) a = ins-sum xs a.1
ins-sum (at (occ j s) l (Action n) ∷ xs) a = ins-sum xs a.1
ins-sum (at (occ j s) l (In n t) ∷ xs) a =
    sum_same 8 (λ p. length (ins_from p (at (occ j s) l (In n t) ∷ xs))) (λ p. one_at t p + length (ins_from p xs))
    (λ p. length-append (map (tag j l) (cond (eqb t p) (n ∷ []) [])) (ins_from p xs) ∙ ap (λ z. z + length (ins_from p xs)) (one_length t p n j l))
    ∙ sum_add 8 (one_at t) (λ p. length (ins_from p xs)) ∙ omega (arith, sum_one 8 t a.0, ins-sum xs a.1)

outs-++ : (xs ys : List Placed) → outs (xs ++ ys) ≡ outs xs + outs ys
outs-++ [] ys = omega arith
outs-++ (at x l (Out n q) ∷ xs) ys = omega (arith, outs-++ xs ys)
outs-++ (at x l (In n p) ∷ xs) ys = outs-++ xs ys
outs-++ (at x l (Action n) ∷ xs) ys = outs-++ xs ys

pub outs-split : (part : ℕ → ℕ → List Event) (P : List ℕ) (e : ℕ → ℕ) (i : ℕ) → outs (done part P e i) + outs (ahead part P e i) ≡ outs (proj part P i)
outs-split part P e i = sym (outs-++ (done part P e i) (ahead part P e i)) ∙ ap outs (take-append-drop (e i) (proj part P i))

module _ (part : ℕ → ℕ → List Event) (H : Paired part) (few : (l i : ℕ) → 0 < length (part l i) → i < 8) where
  some : (f : Event → List ℕ) (es : List Event) → 0 < length (picked f es) → 0 < length es
  some f [] h = h
  some f (v ∷ es) h = omega arith

  -- a partner takes part, for the message that goes out comes in and the other way round
  few_event : (l i : ℕ) (us : List Event) (v : Event) (vs : List Event) → part l i ≡ us ++ v ∷ vs → FewEvent v
  few_event l i us (Action n) vs h = tt
  few_event l i us (Out n q) vs h = few l q (some (in_from i) (part l q) (subst (λ z. 0 < length z) (H l i q) (rw (h, picked-++, length-append, eq-eqb q q refl) (omega arith))))
  few_event l i us (In n p) vs h = few l p (some (out_to i) (part l p) (subst (λ z. 0 < length z) (sym (H l p i)) (rw (h, picked-++, length-append, eq-eqb p p refl) (omega arith))))

  few_placed : (l i : ℕ) (us es : List Event) → part l i ≡ us ++ es → (j k : ℕ) → FewAll (placed j l i k es)
  few_placed l i us [] h j k = tt
  few_placed l i us (v ∷ es) h j k = (few_event l i us v es h, few_placed l i (us ++ v ∷ []) es (h ∙ sym (append_assoc us (v ∷ []) es)) j (suc k))

  few_proj : (j : ℕ) (P : List ℕ) (i : ℕ) → FewAll (proj_from part j P i)
  few_proj j [] i = tt
  few_proj j (l ∷ P) i = few-++ (placed j l i 0 (part l i)) (proj_from part (suc j) P i) (few_placed l i [] (part l i) refl j 0) (few_proj (suc j) P i)

  pub how_many : (P : List ℕ) {F : Type 0} (freight : Occ → F) (e : ℕ → ℕ) → Consistent part P e
      → sum_to 8 (λ p. sum_to 8 (λ q. length (waiting part P freight e p q))) + sum_to 8 (λ i. ins (done part P e i)) ≡ sum_to 8 (λ i. outs (done part P e i))
  how_many P freight e K =
      let W : ℕ → ℕ → ℕ = λ p q. length (waiting part P freight e p q) in
      let I : ℕ → ℕ → ℕ = λ p q. length (ins_from p (done part P e q)) in
      let O : ℕ → ℕ → ℕ = λ p q. length (outs_to q (done part P e p)) in
      let each : (p q : ℕ) → W p q + I p q ≡ O p q = λ p q. omega (arith, K p q, waiting_length part P freight e p q, length-drop (length (ins_from p (done part P e q))) (outs_to q (done part P e p))) in
      let fewer : (i : ℕ) → FewAll (done part P e i) = λ i. few_take (e i) (proj part P i) (few_proj 0 P i) in
      let rows : sum_to 8 (λ p. sum_to 8 (λ q. O p q)) ≡ sum_to 8 (λ i. outs (done part P e i)) = sum_same 8 (λ p. sum_to 8 (λ q. O p q)) (λ i. outs (done part P e i)) (λ p. outs-sum (done part P e p) (fewer p)) in
      let columns : sum_to 8 (λ p. sum_to 8 (λ q. I p q)) ≡ sum_to 8 (λ i. ins (done part P e i)) = sum-swap 8 8 I ∙ sum_same 8 (λ q. sum_to 8 (λ p. I p q)) (λ i. ins (done part P e i)) (λ q. ins-sum (done part P e q) (fewer q)) in
      let all : sum_to 8 (λ p. sum_to 8 (λ q. W p q)) + sum_to 8 (λ p. sum_to 8 (λ q. I p q)) ≡ sum_to 8 (λ p. sum_to 8 (λ q. O p q))
      = sym (sum_add 8 (λ p. sum_to 8 (λ q. W p q)) (λ p. sum_to 8 (λ q. I p q))) ∙ sum_same 8 (λ p. sum_to 8 (λ q. W p q) + sum_to 8 (λ q. I p q)) (λ p. sum_to 8 (λ q. O p q))
      (λ p. sym (sum_add 8 (λ q. W p q) (λ q. I p q)) ∙ sum_same 8 (λ q. W p q + I p q) (λ q. O p q) (each p)) in
      ap (λ z. sum_to 8 (λ p. sum_to 8 (λ q. W p q)) + z) (sym columns) ∙ all ∙ rows
