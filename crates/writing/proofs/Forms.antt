-- How the loops over a document's parts come to the tokens of its forms.
use Rattle.std.proofs.Common.{◌≡◌, ℕ, zero, suc, ◌+◌, ◌-◌, ◌<◌, ◌≤◌, ◌==◌, true, ⊎_elim, zero-add, List, [], ◌∷◌, ◌++◌, map, length, get_or, take, drop, sym, refl, ap, ◌∙◌, arith, add-one, append_assoc}
use Rattle.std.proofs.lemmas.List.{take_all, append-nil, get_or_past}
use Rattle.std.specs.List.{flat_map}
use Rattle.msc.specs.Doc.{Doc, label_names, chart_names}
use Rattle.msc.specs.Sound.{well_formed, chart}
use Rattle.forms.proofs.Facts.{to_facts}
use Rattle.forms.proofs.Names.{every_at}
use Rattle.std.proofs.lemmas.Bool.{and_parts, cases_lt, eqb-true}
use Rattle.msc.specs.Doc as doc
use Rattle.msc.specs.Meaning.{no_chart}
use Rattle.msc.specs.Shortest.{block_tokens, part_tokens, parts_tokens, list_tokens}
use Rattle.msc.specs.Stored.{charts_from}
use Rattle.msc.specs.Tokens.{name, word}
use Rattle.msc.specs.declared.words.Keyword.TheVariants as keyword
use Rattle.msc.specs.declared.chart.Chart.{Chart}
use Rattle.msc.specs.declared.event.Event.{Event}
use Rattle.msc.specs.declared.label.Label.{Label}
use Rattle.writing.specs.Pens.{Page, with, penned}
use Rattle.writing.specs.Walks.{alt_tokens, list_of}
use Rattle.writing.proofs.Pages.{then_more}

-- a chart has eight parts
pub few_parts : (d : Doc) → well_formed d ≡ true → (c : ℕ) → length (get_or d.charts c no_chart).parts ≤ 8
few_parts d sound c = ⊎_elim inside past (cases_lt c (length d.charts))
  where
    inside : c < length d.charts → length (get_or d.charts c no_chart).parts ≤ 8
    inside h =
        let r = get_or d.charts c no_chart in
        let t = every_at (chart (length d.instances)) d.charts c no_chart (to_facts d sound).0.charts h in
        let eight : length r.parts ≡ 8 = eqb-true (length r.parts) 8 (and_parts (length r.parts == 8) _ t).0 in
        omega arith

    past : length d.charts ≤ c → length (get_or d.charts c no_chart).parts ≤ 8
    past h = rw (get_or_past d.charts c no_chart h) (omega arith)

-- a list is its first name, and then each name behind alt
pub list_tokens_lem : (names : List (List ℕ)) (l : ℕ) (ls : List ℕ) → list_tokens names (l ∷ ls) ≡ name (get_or names l []) ∷ flat_map (alt_tokens names) ls
list_tokens_lem names l [] = refl
list_tokens_lem names l (m ∷ ls) = ap (λ ts. name (get_or names l []) ∷ (word keyword.Alt ∷ ts)) (list_tokens_lem names m ls)

-- the names of labels are those of their rows
pub label_names_map : (rows : List Label) → label_names rows ≡ map (λ (r : Label). r.name) rows
label_names_map [] = refl
label_names_map (r ∷ rows) = ap (λ l. r.name ∷ l) (label_names_map rows)

-- a name, and then the names behind alt
pub list_written : (ls others : List ℕ) (i : ℕ) (p q r : Page) → 1 ≤ length ls → others ≡ take (length ls - 1) (drop 1 ls) → length others ≤ i → q ≡ with p (name (get_or (label_names p.document.labels) (get_or ls 0 0) []))
    → r ≡ penned q (flat_map (alt_tokens (label_names q.document.labels)) (take i others)) → r ≡ penned p (list_of p.document ls)
list_written [] others i p q r h is end e f = absurd (omega arith)
list_written (l ∷ ls) others i p q r h is end e f =
    let all : take (length (l ∷ ls) - 1) ls ≡ ls = take_all (length (l ∷ ls) - 1) ls (omega arith) in
    then_more (λ d. name (get_or (label_names d.labels) l []) ∷ []) (λ d. flat_map (alt_tokens (label_names d.labels)) ls) p q r e (f ∙ ap (λ ms. penned q (flat_map (alt_tokens (label_names q.document.labels)) ms)) (take_all i others end ∙ is ∙ all))
    ∙ sym (ap (penned p) (list_tokens_lem (label_names p.document.labels) l ls))

module _ (instances messages actions : List (List ℕ)) where
  -- the parts up to the k-th, and then the k-th
  pub parts_more : (k : ℕ) (ps : List (List Event)) → parts_tokens instances messages actions 0 (take (k + 1) ps) ≡ parts_tokens instances messages actions 0 (take k ps) ++ part_tokens instances messages actions k (get_or ps k [])
  parts_more k ps =
      ap (λ n. parts_tokens instances messages actions 0 (take n ps)) (add-one k)
      ∙ go 0 k ps
      ∙ ap (λ n. parts_tokens instances messages actions 0 (take k ps) ++ part_tokens instances messages actions n (get_or ps k [])) (zero-add k)
    where
      go : (j k : ℕ) (ps : List (List Event)) → parts_tokens instances messages actions j (take (suc k) ps) ≡ parts_tokens instances messages actions j (take k ps) ++ part_tokens instances messages actions (j + k) (get_or ps k [])
      go j zero [] = refl
      go j (suc k) [] = refl
      go j zero (p ∷ ps) = append-nil (part_tokens instances messages actions j p) ∙ ap (λ n. part_tokens instances messages actions n p) (omega arith)
      go j (suc k) (p ∷ ps) =
          ap (λ ts. part_tokens instances messages actions j p ++ ts) (go (suc j) k ps)
          ∙ sym (append_assoc (part_tokens instances messages actions j p) (parts_tokens instances messages actions (suc j) (take k ps)) (part_tokens instances messages actions (suc j + k) (get_or ps k [])))
          ∙ ap (λ n. (part_tokens instances messages actions j p ++ parts_tokens instances messages actions (suc j) (take k ps)) ++ part_tokens instances messages actions n (get_or ps k [])) (omega arith)

  -- a part with events is a block
  pub part_some : (i : ℕ) (es : List Event) → (length es ≡ 0 → ⊥) → block_tokens instances messages actions i es ≡ part_tokens instances messages actions i es
  part_some i [] h = absurd (h refl)
  part_some i (e ∷ es) h = refl

-- the names of charts are those of their rows
pub chart_names_map : (es : List Event) (a : ℕ) (rows : List Chart) → map (λ (r : Chart). r.name) rows ≡ chart_names (charts_from es a rows)
chart_names_map es a [] = refl
chart_names_map es a (r ∷ rows) = ap (λ l. r.name ∷ l) (chart_names_map es (get_or r.ends 7 0) rows)

pub chart_name_at : (cs : List doc.Chart) (c : ℕ) → get_or (chart_names cs) c [] ≡ (get_or cs c no_chart).name
chart_name_at [] c = refl
chart_name_at (x ∷ cs) zero = refl
chart_name_at (x ∷ cs) (suc c) = chart_name_at cs c
