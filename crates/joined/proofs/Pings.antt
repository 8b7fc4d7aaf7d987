-- The two-instance document is well formed and breaks no rule.
use Rattle.std.proofs.Common.{◌≡◌, ℕ, zero, suc, ◌<◌, true, List, [], ◌∷◌, length, get_or, Some, sym, refl, ap, ◌∙◌, subst, inl, inr, ⊎_elim, arith, ne_eqb}
use mathlib.Core.Path.{fun_ext}
use Rattle.msc.specs.Choice.{Matched, Listable, OneFirst, IsNode, LeadsList, LeadsToEnd, ends, goes}
use Rattle.msc.specs.Events.{out_to, in_from, picked}
use Rattle.msc.specs.Listing.{Mem}
use Rattle.msc.specs.Meaning.{Meaning, meaning_of, start, part}
use Rattle.msc.specs.Order.{spot, Occ, occ, inst, IsOcc, Direct, Linearisation, First}
use Rattle.msc.specs.Shortest.{text_of}
use Rattle.msc.specs.Sound.{well_formed}
use Rattle.msc.specs.declared.event.Event.{Event}
use Rattle.msc.specs.declared.event.Event.TheVariants.{Out, In}
use Rattle.judge.specs.Rules.{Fair, IsList}
use Rattle.theory.specs.Cuts.{NotIn, BeginsFree}
use Rattle.theory.proofs.Listings.{after_chain}
use Rattle.theory.proofs.Places.{free_first, first_free, first_shape}
use Rattle.joined.specs.Ping.{ping}
use Rattle.joined.specs.Theorems.{Acceptable}
use Rattle.joined.proofs.Gives.{same_listing}

pub ping_sound : well_formed ping ≡ true
unfolding well_formed text_of
ping_sound = refl

abbrev m : Meaning
m = meaning_of ping

-- its chart, by instance
abbrev two : ℕ → List Event
two zero = Out 0 1 ∷ []
two (suc zero) = In 0 0 ∷ []
two (suc (suc i)) = []

quiet : (i : ℕ) → get_or {A = List Event} ([] ∷ [] ∷ [] ∷ [] ∷ [] ∷ [] ∷ []) i [] ≡ []
quiet zero = refl
quiet (suc zero) = refl
quiet (suc (suc zero)) = refl
quiet (suc (suc (suc zero))) = refl
quiet (suc (suc (suc (suc zero)))) = refl
quiet (suc (suc (suc (suc (suc zero))))) = refl
quiet (suc (suc (suc (suc (suc (suc i)))))) = refl

drawn_is : (i : ℕ) → m.drawn 0 i ≡ two i
drawn_is zero = refl
drawn_is (suc zero) = refl
drawn_is (suc (suc i)) = quiet i

two_paired : (p q : ℕ) → picked (out_to q) (two p) ≡ picked (in_from p) (two q)
two_paired zero zero = refl
two_paired zero (suc zero) = refl
two_paired zero (suc (suc q)) = rw (ne_eqb 1 (suc (suc q)) (λ e. omega arith))
two_paired (suc zero) zero = refl
two_paired (suc zero) (suc zero) = refl
two_paired (suc zero) (suc (suc q)) = refl
two_paired (suc (suc p)) zero = refl
two_paired (suc (suc p)) (suc zero) = rw (ne_eqb 0 (suc (suc p)) (λ e. omega arith))
two_paired (suc (suc p)) (suc (suc q)) = refl

matched : (p q : ℕ) → picked (out_to q) (m.drawn 0 p) ≡ picked (in_from p) (m.drawn 0 q)
matched p q = rw (drawn_is p, drawn_is q) (two_paired p q)

-- only the sender begins with no in
free_two : (i : ℕ) → BeginsFree (two i) → i ≡ 0
free_two zero b = refl
free_two (suc zero) (v, vs, h, f) = let e : v ≡ In 0 0 = cc in absurd (subst NotIn e f)
free_two (suc (suc i)) (v, vs, h, f) = cc

first_zero : (x : Occ) → First m.drawn (0 ∷ []) x → inst x ≡ 0
first_zero x f = free_two (inst x) (subst BeginsFree (drawn_is (inst x)) (first_free m.drawn 0 matched x f))

first_is : First m.drawn (0 ∷ []) (occ 0 (spot 0 0))
first_is = free_first m.drawn 0 0 (Out 0 1, [], refl, tt)

-- the sender's event, then the receiver's
abbrev listing : List Occ
listing = occ 0 (spot 0 0) ∷ occ 0 (spot 1 0) ∷ []

abbrev both : ℕ → ℕ → List Event
both l = two

real : (x : Occ) → Mem x listing → IsOcc both (0 ∷ []) x
real x (inl e) = subst (IsOcc both (0 ∷ [])) (sym e) (omega arith)
real x (inr (inl e)) = subst (IsOcc both (0 ∷ [])) (sym e) (omega arith)
real x (inr (inr h)) = absurd h

complete : (x : Occ) → IsOcc both (0 ∷ []) x → Mem x listing
complete (occ (suc j) (spot i k)) h = absurd (let z : ⊥ = omega arith in z)
complete (occ zero (spot zero k)) h = inl (ap (λ z. occ 0 (spot 0 z)) (omega arith))
complete (occ zero (spot (suc zero) k)) h = inr (inl (ap (λ z. occ 0 (spot 1 z)) (omega arith)))
complete (occ zero (spot (suc (suc i)) k)) h = absurd (let z : ⊥ = omega arith in z)

none_ahead : (y : Occ) → Direct both (0 ∷ []) y (occ 0 (spot 0 0)) → ⊥
none_ahead (occ j (spot p a)) (r, inl (s, h)) = omega arith
none_ahead (occ j (spot p a)) (r, inr (e, inl (s, h))) = omega arith
none_ahead (occ zero (spot p a)) (r, inr (e, inr (n, k, xs, ys, da, db, c))) = let d : Out 0 1 ∷ [] ≡ In k p ∷ ys = db in cc
none_ahead (occ (suc j) (spot p a)) (r, inr (e, inr g)) = omega arith

one_ahead : (y : Occ) → Direct both (0 ∷ []) y (occ 0 (spot 1 0)) → y ≡ occ 0 (spot 0 0)
one_ahead (occ j (spot p a)) (r, inl (s, h)) = absurd (let z : ⊥ = omega arith in z)
one_ahead (occ j (spot p a)) (r, inr (e, inl (s, h))) = absurd (let z : ⊥ = omega arith in z)
one_ahead (occ zero (spot p a)) (r, inr (e, inr (n, k, xs, ys, da, db, c))) =
    let d : In 0 0 ∷ [] ≡ In k p ∷ ys = db in
    let p_is : p ≡ 0 = cc in
    let a_is : a ≡ 0 = omega (arith, r, ap (λ z. length (two z)) p_is) in cc
one_ahead (occ (suc j) (spot p a)) (r, inr (e, inr g)) = absurd (let z : ⊥ = omega arith in z)

two_listed : Linearisation both (0 ∷ []) listing
two_listed = record {
  real = real;
  complete = complete;
  norep = (⊎_elim (λ (e : occ 0 (spot 0 0) ≡ occ 0 (spot 1 0)). let z : ◌≡◌ {A = ℕ} 0 1 = cc in omega arith) (λ h. h), (λ h. h, tt));
  order = after_chain (Direct both (0 ∷ [])) [] listing (λ x y h r. h) (λ y d. none_ahead y d, (λ y d. inl (one_ahead y d), tt));
}

-- only label 0 is a node, with chart 0
node_zero : (l c : ℕ) → m.chart l ≡ Some c → (l ≡ 0) × (c ≡ 0)
node_zero zero c h = (refl, cc)
node_zero (suc zero) c h = cc
node_zero (suc (suc l)) c h = cc

leads_zero : (x i : ℕ) → LeadsList m x i → i ≡ 0
leads_zero x i (l, c, h, e, (y, f, s)) = sym s ∙ first_zero y (subst (λ z. First m.drawn (z ∷ []) y) (node_zero l c e).1 f)

node_ends : LeadsToEnd m 0
node_ends = ends {x = 0} {l = 1} (inr (inl refl)) refl

to_end : (x : ℕ) → IsList m x → LeadsToEnd m x
to_end x (inl (c, h)) = subst (LeadsToEnd m) (sym (node_zero x c h).0) node_ends
to_end x (inr e) = subst (LeadsToEnd m) (sym e) (goes {x = start} {l = 0} (inl refl) (0, refl) node_ends)

takes_part : (l : ℕ) → IsNode m l → (i : ℕ) → LeadsList m l i → 0 < length (part m l i)
takes_part l (c, h) i d = omega (arith, ap (λ z. length (part m z i)) (node_zero l c h).0, ap (λ z. length (part m 0 z)) (leads_zero l i d))

start_node : (l : ℕ) → Mem l (m.list start) → IsNode m l
start_node l (inl e) = subst (IsNode m) (sym e) (0, refl)
start_node l (inr h) = absurd h

zero_chart : (c : ℕ) → c < 1 → 0 ≡ c
zero_chart c h = omega arith

pub ping_fair : Fair m
ping_fair = record {
  matched = λ c h. subst (Matched m) (zero_chart c h) matched;
  listable = λ c h. subst (Listable m) (zero_chart c h) (listing, same_listing both m.drawn 0 0 (fun_ext (λ i. sym (drawn_is i))) listing two_listed);
  one_first = λ c h. subst (OneFirst m) (zero_chart c h) (occ 0 (spot 0 0), first_is, λ y f. first_shape m.drawn 0 y f ∙ ap (λ z. occ 0 (spot z 0)) (first_zero y f));
  starts = start_node;
  one_leader = λ x h i j a b. leads_zero x i a ∙ sym (leads_zero x j b);
  takes_part = takes_part;
  to_end = to_end;
}

pub ping_accepted : Acceptable ping
ping_accepted = (ping_sound, ping_fair)
