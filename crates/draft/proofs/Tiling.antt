-- Parts and charts that lie one behind the other in a table of events.
use Rattle.std.proofs.Common.{◌≡◌, ℕ, suc, ◌+◌, ◌-◌, ◌≤◌, true, eqb, leb, List, [], ◌∷◌, ◌++◌, length, get_or, take, drop, sym, refl, ap, ◌∙◌, arith}
use Rattle.std.specs.List.{flat_map}
use Rattle.std.proofs.lemmas.List.{append_assoc, length-drop, take-append-le, drop-append-le, take-append-drop, drop-drop}
use Rattle.std.proofs.lemmas.Bool.{eqb-true, eq-eqb, leb-true, le-leb, and_parts, and_from}
use Rattle.msc.specs.Doc.{chart_events, all_events}
use Rattle.msc.specs.Doc as doc
use Rattle.msc.specs.Stored.{cut, charts_from}
use Rattle.msc.specs.declared.chart.Chart.{Chart}
use Rattle.msc.specs.declared.event.Event.{Event}
use Rattle.draft.specs.Tiles.{tiles, rows}

-- parts that begin at a and end at b
pub tiles_le : (a : ℕ) (ends : List ℕ) (b : ℕ) → tiles a ends b ≡ true → a ≤ b
tiles_le a [] b t = omega (arith, eqb-true a b t)
tiles_le a (e ∷ ends) b t = let p = and_parts (leb a e) (tiles e ends b) t in omega (arith, leb-true a e p.0, tiles_le e ends b p.1)

pub tiles_push : (a : ℕ) (ends : List ℕ) (b c : ℕ) → tiles a ends b ≡ true → b ≤ c → tiles a (ends ++ c ∷ []) c ≡ true
tiles_push a [] b c t h = and_from (leb a c) (eqb c c) (le-leb a c (omega (arith, eqb-true a b t))) (eq-eqb c c refl)
tiles_push a (e ∷ ends) b c t h = let p = and_parts (leb a e) (tiles e ends b) t in and_from (leb a e) (tiles e (ends ++ c ∷ []) c) p.0 (tiles_push e ends b c p.1 h)

pub tiles_last : (a : ℕ) (ends : List ℕ) (b n : ℕ) → tiles a ends b ≡ true → length ends ≡ suc n → get_or ends n 0 ≡ b
tiles_last a [] b n t h = absurd (omega arith)
tiles_last a (e ∷ []) b n t h = let k : n ≡ 0 = omega arith in rw k (eqb-true e b (and_parts (leb a e) (eqb e b) t).1)
tiles_last a (e ∷ f ∷ ends) b n t h = let k : n ≡ suc (length ends) = omega arith in rw k (tiles_last e (f ∷ ends) b (length ends) (and_parts (leb a e) (tiles e (f ∷ ends) b) t).1 refl)

pub length_cut : (es : List Event) (a : ℕ) (ends : List ℕ) → length (cut es a ends) ≡ length ends
length_cut es a [] = refl
length_cut es a (e ∷ ends) = ap suc (length_cut es e ends)

-- events behind the last part change no part
pub cut_longer : (es fs : List Event) (a : ℕ) (ends : List ℕ) (b : ℕ) → tiles a ends b ≡ true → b ≤ length es → cut (es ++ fs) a ends ≡ cut es a ends
cut_longer es fs a [] b t h = refl
cut_longer es fs a (e ∷ ends) b t h =
    let p = and_parts (leb a e) (tiles e ends b) t in
    let l : a ≤ e = leb-true a e p.0 in
    let m : e ≤ b = tiles_le e ends b p.1 in
    ap (λ ps. take (e - a) (drop a (es ++ fs)) ∷ ps) (cut_longer es fs e ends b p.1 h)
    ∙ ap (λ x. take (e - a) x ∷ cut es e ends) (drop-append-le a es fs (omega arith))
    ∙ ap (λ x. x ∷ cut es e ends) (take-append-le (e - a) (drop a es) fs (omega (arith, length-drop a es)))

pub cut_push : (es : List Event) (a : ℕ) (ends : List ℕ) (b c : ℕ) → tiles a ends b ≡ true → cut es a (ends ++ c ∷ []) ≡ cut es a ends ++ take (c - b) (drop b es) ∷ []
cut_push es a [] b c t = ap (λ x. take (c - x) (drop x es) ∷ []) (eqb-true a b t)
cut_push es a (e ∷ ends) b c t = ap (λ ps. take (e - a) (drop a es) ∷ ps) (cut_push es e ends b c (and_parts (leb a e) (tiles e ends b) t).1)

-- the parts with what is behind them are all that begins at a
pub joined_cut : (es : List Event) (a : ℕ) (ends : List ℕ) (b : ℕ) → tiles a ends b ≡ true → flat_map (λ p. p) (cut es a ends) ++ drop b es ≡ drop a es
joined_cut es a [] b t = ap (λ x. drop x es) (sym (eqb-true a b t))
joined_cut es a (e ∷ ends) b t =
    let p = and_parts (leb a e) (tiles e ends b) t in
    let l : a ≤ e = leb-true a e p.0 in
    let k : e ≡ a + (e - a) = omega arith in
    append_assoc (take (e - a) (drop a es)) (flat_map (λ p. p) (cut es e ends)) (drop b es)
    ∙ ap (λ x. take (e - a) (drop a es) ++ x) (joined_cut es e ends b p.1 ∙ ap (λ x. drop x es) k ∙ sym (drop-drop (e - a) a es))
    ∙ take-append-drop (e - a) (drop a es)

-- the same of charts
pub rows_le : (a : ℕ) (cs : List Chart) (b : ℕ) → rows a cs b ≡ true → a ≤ b
rows_le a [] b t = omega (arith, eqb-true a b t)
rows_le a (c ∷ cs) b t =
    let z = get_or c.ends 7 0 in
    let p = and_parts (tiles a c.ends z) (rows z cs b) t in
    omega (arith, tiles_le a c.ends z p.0, rows_le z cs b p.1)

pub rows_push : (a : ℕ) (cs : List Chart) (b : ℕ) (c : Chart) (z : ℕ) → rows a cs b ≡ true → tiles b c.ends z ≡ true → get_or c.ends 7 0 ≡ z → rows a (cs ++ c ∷ []) z ≡ true
rows_push a [] b c z t h e = rw (e, eqb-true a b t) (and_from (tiles b c.ends z) (eqb z z) h (eq-eqb z z refl))
rows_push a (d ∷ cs) b c z t h e =
    let y = get_or d.ends 7 0 in
    let p = and_parts (tiles a d.ends y) (rows y cs b) t in
    and_from (tiles a d.ends y) (rows y (cs ++ c ∷ []) z) p.0 (rows_push y cs b c z p.1 h e)

pub charts_longer : (es fs : List Event) (a : ℕ) (cs : List Chart) (b : ℕ) → rows a cs b ≡ true → b ≤ length es → charts_from (es ++ fs) a cs ≡ charts_from es a cs
charts_longer es fs a [] b t h = refl
charts_longer es fs a (c ∷ cs) b t h =
    let z = get_or c.ends 7 0 in
    let p = and_parts (tiles a c.ends z) (rows z cs b) t in
    let l : z ≤ length es = omega (arith, rows_le z cs b p.1) in
    ap (λ (x : List doc.Chart). record { name = c.name; parts = cut (es ++ fs) a c.ends } ∷ x) (charts_longer es fs z cs b p.1 h)
    ∙ ap (λ (x : List (List Event)). record { name = c.name; parts = x } ∷ charts_from es z cs) (cut_longer es fs a c.ends z p.0 l)

pub charts_push : (es : List Event) (a : ℕ) (cs : List Chart) (b : ℕ) (c : Chart) → rows a cs b ≡ true → charts_from es a (cs ++ c ∷ []) ≡ charts_from es a cs ++ record { name = c.name; parts = cut es b c.ends } ∷ []
charts_push es a [] b c t = ap (λ (x : ℕ). record { name = c.name; parts = cut es x c.ends } ∷ []) (eqb-true a b t)
charts_push es a (d ∷ cs) b c t =
    let z = get_or d.ends 7 0 in
    ap (λ (x : List doc.Chart). record { name = d.name; parts = cut es a d.ends } ∷ x) (charts_push es z cs b c (and_parts (tiles a d.ends z) (rows z cs b) t).1)

pub joined_charts : (es : List Event) (a : ℕ) (cs : List Chart) (b : ℕ) → rows a cs b ≡ true → all_events (charts_from es a cs) ++ drop b es ≡ drop a es
joined_charts es a [] b t = ap (λ x. drop x es) (sym (eqb-true a b t))
joined_charts es a (c ∷ cs) b t =
    let z = get_or c.ends 7 0 in
    let p = and_parts (tiles a c.ends z) (rows z cs b) t in
    append_assoc (flat_map (λ p. p) (cut es a c.ends)) (all_events (charts_from es z cs)) (drop b es)
    ∙ ap (λ x. flat_map (λ p. p) (cut es a c.ends) ++ x) (joined_charts es z cs b p.1)
    ∙ joined_cut es a c.ends z p.0
