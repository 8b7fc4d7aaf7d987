-- Where pairs match, the events with none before them are the first events of parts that are no ins.
use Rattle.std.proofs.Common.{◌≡◌, ℕ, zero, suc, ◌<◌, ◌≤◌, true, false, ◌⊎◌, List, [], ◌∷◌, length, drop, sym, refl, ap, ◌∙◌, subst, inl, inr, arith}
use Rattle.std.proofs.lemmas.Bool.{both_ways, cases_lt}
use Rattle.msc.specs.Listing.{Mem, link}
use Rattle.msc.specs.Order.{spot, Occ, occ, inst, Direct, First}
use Rattle.msc.specs.declared.event.Event.{Event}
use Rattle.msc.specs.declared.event.Event.TheVariants.{Out, In, Action}
use Rattle.order.specs.Charts.{opens, starts, starters, gathered}
use Rattle.order.specs.Charts.{is_one}
use Rattle.order.specs.declared.leaders.Leaders.{Leaders}
use Rattle.order.specs.declared.leaders.Leaders.TheVariants.{Nobody, One, Several}
use Rattle.order.proofs.Members.{last_link}
use Rattle.order.proofs.Drawn.{Framed, Pairs, drop_lt, out_of}
use Rattle.order.proofs.Tallies.{Tally, tally, tally_like, mem_starters, starters_mem}

-- a part that starts with no in has an event
starts_some : (es : List Event) → starts es ≡ true → 0 < length es
starts_some [] h = absurd (both_ways false refl h)
starts_some (e ∷ es) h = omega arith

starts_no_in : (es : List Event) (n p : ℕ) (ys : List Event) → starts es ≡ true → drop 0 es ≡ In n p ∷ ys → ⊥
starts_no_in [] n p ys h e = both_ways false refl h
starts_no_in (v ∷ es) n p ys h e = let i : v ≡ In n p = cc in both_ways false refl (ap opens (sym i) ∙ h)

starts_from : (es : List Event) → 0 < length es → ((n p : ℕ) (ys : List Event) → drop 0 es ≡ In n p ∷ ys → ⊥) → starts es ≡ true
starts_from [] l h = absurd (let z : ⊥ = omega arith in z)
starts_from (Out n q ∷ es) l h = refl
starts_from (In n p ∷ es) l h = absurd (h n p es refl)
starts_from (Action n ∷ es) l h = refl

module _ (drawn : ℕ → ℕ → List Event) (c : ℕ) where
  abbrev at : ℕ → Occ
  at i = occ 0 (spot i 0)

  pub is_first : (i : ℕ) → starts (drawn c i) ≡ true → First drawn (c ∷ []) (at i)
  is_first i s = (starts_some (drawn c i) s, λ y b. let r = last_link (Direct drawn (c ∷ [])) y (at i) b in never r.0 r.1)
    where
      never : (z : Occ) → Direct drawn (c ∷ []) z (at i) → ⊥
      never (occ zero (spot p a)) (r, inl h) = omega (arith, h.1)
      never (occ zero (spot p a)) (r, inr (e, inl h)) = omega (arith, h.1)
      never (occ zero (spot p a)) (r, inr (e, inr b)) = starts_no_in (drawn c i) b.1 p b.3 s b.5
      never (occ (suc j) (spot p a)) (r, h) = omega (arith, r)

  pub first_is : Pairs (drawn c) → (x : Occ) → First drawn (c ∷ []) x → (x ≡ at (inst x)) × (starts (drawn c (inst x)) ≡ true)
  first_is M (occ (suc j) (spot i k)) f = absurd (let z : ⊥ = omega (arith, f.0) in z)
  first_is M (occ zero (spot i (suc k))) f = absurd (f.1 (at i) (link (let z : 0 < length (drawn c i) = omega (arith, f.0) in z, inr (refl, inl (refl, omega arith)))))
  first_is M (occ zero (spot i zero)) f = (refl, starts_from (drawn c i) f.0 late)
    where
      late : (n p : ℕ) (ys : List Event) → drop 0 (drawn c i) ≡ In n p ∷ ys → ⊥
      late n p ys e = let r = out_of (drawn c) M p i 0 n ys e in let b = r.1 in
          f.1 (occ 0 (spot p r.0)) (link (drop_lt r.0 (drawn c p) (Out b.0 i) b.2 b.4, inr (refl, inr b)))

  abbrev LeadsChart : ℕ → Type 0
  LeadsChart i = (x : Occ) × First drawn (c ∷ []) x × (inst x ≡ i)

  module _ (w : Framed (drawn c)) (M : Pairs (drawn c)) where
    low : (i : ℕ) → starts (drawn c i) ≡ true → (i < 8) ⊎ (8 ≤ i) → i < 8
    low i s (inl h) = h
    low i s (inr h) = absurd (let z : ⊥ = omega (arith, starts_some (drawn c i) s, ap length (w.few i h)) in z)

    pub leads_starter : (i : ℕ) → LeadsChart i → Mem i (starters (drawn c))
    leads_starter i (x, f, e) = let s = subst (λ z. starts (drawn c z) ≡ true) e (first_is M x f).1 in mem_starters (drawn c) i (low i s (cases_lt i 8)) s

    pub starter_leads : (i : ℕ) → Mem i (starters (drawn c)) → LeadsChart i
    starter_leads i m = (at i, is_first i (starters_mem (drawn c) i m), refl)

    abbrev front : Leaders
    front = gathered Nobody (starters (drawn c))

    front_tally : Tally front LeadsChart
    front_tally = tally_like front (λ i. Mem i (starters (drawn c))) LeadsChart starter_leads leads_starter (tally (starters (drawn c)))

    abbrev OneAlone : Type 0
    OneAlone = (x : Occ) × First drawn (c ∷ []) x × ((y : Occ) → First drawn (c ∷ []) y → y ≡ x)

    pub is_one_first : is_one front ≡ true → OneAlone
    is_one_first h = go front h front_tally
      where
        go : (a : Leaders) → is_one a ≡ true → Tally a LeadsChart → OneAlone
        go Nobody h t = absurd (both_ways false refl h)
        go (One i) h t = (t.0.0, t.0.1, λ y f. (first_is M y f).0 ∙ ap at (t.1 (inst y) (y, f, refl) ∙ sym t.0.2) ∙ sym (first_is M t.0.0 t.0.1).0)
        go Several h t = absurd (both_ways false refl h)

    pub one_first_is : OneAlone → is_one front ≡ true
    one_first_is (x, f, u) = go front front_tally
      where
        go : (a : Leaders) → Tally a LeadsChart → is_one a ≡ true
        go Nobody t = absurd (t (inst x) (x, f, refl))
        go (One i) t = refl
        go Several (i, j, a, b, n) = absurd (n (sym a.2 ∙ ap inst (u a.0 a.1 ∙ sym (u b.0 b.1)) ∙ b.2))
