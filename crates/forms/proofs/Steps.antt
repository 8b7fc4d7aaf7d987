-- Steps of a reader, taken apart and put together. Assumes nothing.
use Rattle.std.proofs.Common.{◌≡◌, ℕ, zero, suc, Bool, true, false, cond, List, refl, ap, ◌∙◌, subst}
use Rattle.lexis.specs.Steps.{Step, got, bad, and_then, repeat}
use Rattle.lexis.specs.declared.refusal.Refusal.{Refusal}

module _ {A : Type 0} where
  abbrev value_in : Step A → A → A
  value_in (got a p s) d = a
  value_in (bad e) d = d

  abbrev rest_in : Step A → List ℕ → List ℕ
  rest_in (got a p s) d = s
  rest_in (bad e) d = d

  abbrev IsBad : Step A → Type 0
  IsBad (got a p s) = ⊥
  IsBad (bad e) = Unit {0}

  pub got_value : {a b : A} {p q : ℕ} {s r : List ℕ} → got a p s ≡ got b q r → a ≡ b
  got_value {a} e = ap (λ m. value_in m a) e

  pub got_rest : {a b : A} {p q : ℕ} {s r : List ℕ} → got a p s ≡ got b q r → s ≡ r
  got_rest {s} e = ap (λ m. rest_in m s) e

  pub not_got : {e : Refusal} {b : A} {q : ℕ} {r : List ℕ} → bad e ≡ got b q r → ⊥
  not_got e = subst IsBad e tt

  -- a step comes to a, with r left
  abbrev pub Comes : Step A → A → List ℕ → Type 0
  Comes m a r = (q : ℕ) × (m ≡ got a q r)

  pub comes_as : {m : Step A} {a b : A} {r : List ℕ} → a ≡ b → Comes m a r → Comes m b r
  comes_as {r} e (q, h) = (q, h ∙ ap (λ a. got a q r) e)

  -- a choice that comes to a value
  pub when_got : {a : A} {q : ℕ} {r : List ℕ} (b : Bool) (x : Step A) (e : Refusal) → cond b x (bad e) ≡ got a q r → (b ≡ true) × (x ≡ got a q r)
  when_got true x e h = (refl, h)
  when_got false x e h = absurd (not_got h)

  pub unless_got : {a : A} {q : ℕ} {r : List ℕ} (b : Bool) (x : Step A) (e : Refusal) → cond b (bad e) x ≡ got a q r → (b ≡ false) × (x ≡ got a q r)
  unless_got true x e h = absurd (not_got h)
  unless_got false x e h = (refl, h)

  -- a choice between two that comes to a value, with what follows in each case
  pub either_case : {P : Type 0} {a : A} {q : ℕ} {r : List ℕ} (b : Bool) (x y : Step A) → cond b x y ≡ got a q r → (b ≡ true → x ≡ got a q r → P) → (b ≡ false → y ≡ got a q r → P) → P
  either_case true x y h f g = f refl h
  either_case false x y h f g = g refl h

  pub comes_when : (b : Bool) (x y : Step A) {a : A} {r : List ℕ} → b ≡ true → Comes x a r → Comes (cond b x y) a r
  comes_when b x y h (q, e) = (q, ap (λ b. cond b x y) h ∙ e)

  pub comes_unless : (b : Bool) (x y : Step A) {a : A} {r : List ℕ} → b ≡ false → Comes y a r → Comes (cond b x y) a r
  comes_unless b x y h (q, e) = (q, ap (λ b. cond b x y) h ∙ e)

-- what a step that comes to a value came by
pub then_got : {A B : Type 0} (m : Step A) (k : A → ℕ → List ℕ → Step B) {b : B} {q : ℕ} {r : List ℕ} → and_then m k ≡ got b q r → (a : A) × (p : ℕ) × (s : List ℕ) × (m ≡ got a p s) × (k a p s ≡ got b q r)
then_got (got a p s) k h = (a, p, s, refl, h)
then_got (bad e) k h = absurd (not_got h)

pub and_then_lem : {A B : Type 0} (m : Step A) (k : A → ℕ → List ℕ → Step B) {a : A} {s : List ℕ} {b : B} {r : List ℕ} → Comes m a s → ((q : ℕ) → Comes (k a q s) b r) → Comes (and_then m k) b r
and_then_lem m k (q, e) f = let t = f q in (t.0, ap (λ m. and_then m k) e ∙ t.1)

pub and_at : {A B : Type 0} (m : Step A) (k : A → ℕ → List ℕ → Step B) {a : A} {s : List ℕ} {b : B} {r : List ℕ} (c : Comes m a s) → Comes (k a c.0 s) b r → Comes (and_then m k) b r
and_at m k (q, e) (q', f) = (q', ap (λ m. and_then m k) e ∙ f)

-- turns that come to a value: what the last turn gives and what each turn ahead passes on
pub turns_got : {A : Type 0} (f : A → ℕ → List ℕ → Step (A × Bool)) (P : A → List ℕ → A → List ℕ → Type 0)
    → ((a : A) (p : ℕ) (s : List ℕ) (b : A) (q : ℕ) (r : List ℕ) → f a p s ≡ got (b, true) q r → P a s b r)
    → ((a : A) (p : ℕ) (s : List ℕ) (c : A) (q : ℕ) (m : List ℕ) (b : A) (r : List ℕ) → f a p s ≡ got (c, false) q m → P c m b r → P a s b r)
    → (n : ℕ) (a : A) (p : ℕ) (s : List ℕ) (b : A) (q : ℕ) (r : List ℕ) → repeat f n a p s ≡ got b q r → P a s b r
turns_got f P last more zero a p s b q r h = absurd (not_got h)
turns_got {A} f P last more (suc n) a p s b q r h =
    let (x, p', s', e, g) = then_got (f a p s) _ h in
    by x.0 x.1 p' s' e g (λ k. turns_got f P last more n x.0 p' s' b q r k)
  where
    by : (c : A) (t : Bool) (p' : ℕ) (s' : List ℕ) → ◌≡◌ {A = Step (A × Bool)} (f a p s) (got (c, t) p' s') → cond t (got c p' s') (repeat f n c p' s') ≡ got b q r → (repeat f n c p' s' ≡ got b q r → P c s' b r) → P a s b r
    by c true p' s' e g ih = last a p s b q r (e ∙ ap (λ m. and_then {B = A × Bool} m (λ a p s. got (a, true) p s)) g)
    by c false p' s' e g ih = more a p s c p' s' b r e (ih g)

-- a last turn, and one turn ahead of others
pub turn_last : {A : Type 0} (f : A → ℕ → List ℕ → Step (A × Bool)) (n : ℕ) (a : A) (p : ℕ) (s : List ℕ) {b : A} {r : List ℕ} → Comes (f a p s) (b, true) r → Comes (repeat f (suc n) a p s) b r
turn_last f n a p s c = and_then_lem _ _ c λ q. (q, refl)

pub turn_more : {A : Type 0} (f : A → ℕ → List ℕ → Step (A × Bool)) (n : ℕ) (a : A) (p : ℕ) (s : List ℕ) (c : A) {b : A} {m r : List ℕ} → Comes (f a p s) (c, false) m → ((q : ℕ) → Comes (repeat f n c q m) b r) → Comes (repeat f (suc n) a p s) b r
turn_more f n a p s c h k = and_then_lem _ _ h k
