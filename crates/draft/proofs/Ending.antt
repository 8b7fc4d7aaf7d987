-- The end of a chart: its eight parts become a row.
use Rattle.std.proofs.Common.{◌≡◌, ◌≤◌, ◌-◌, ℕ, suc, true, replicate, List, [], ◌∷◌, ◌++◌, map, length, get_or, sym, refl, ap, ◌∙◌, arith}
use Rattle.std.proofs.lemmas.List.{length-append, length-replicate}
use Rattle.msc.specs.Doc.{chart_names}
use Rattle.msc.specs.Stored.{cut, charts_from}
use Rattle.msc.specs.declared.chart.Chart.{Chart}
use Rattle.msc.specs.declared.event.Event.{Event}
use Rattle.forms.specs.Drafts.{opened, charted}
use Rattle.forms.specs.Drafts as drafts
use Rattle.draft.specs.Tiles.{tiles, rows}
use Rattle.draft.specs.Laid.{draft_of, Laid}
use Rattle.draft.specs.declared.draft.Draft.TheInside.{Inside}
use Rattle.draft.proofs.Tiling.{length_cut, tiles_last, rows_push, charts_push}

pub length_charts : (es : List Event) (a : ℕ) (cs : List Chart) → length (charts_from es a cs) ≡ length cs
length_charts es a [] = refl
length_charts es a (c ∷ cs) = ap suc (length_charts es (get_or c.ends 7 0) cs)

pub chart_names_lem : (es : List Event) (a : ℕ) (cs : List Chart) → chart_names (charts_from es a cs) ≡ map (λ (c : Chart). c.name) cs
chart_names_lem es a [] = refl
chart_names_lem es a (c ∷ cs) = ap (λ ns. c.name ∷ ns) (chart_names_lem es (get_or c.ends 7 0) cs)

-- d has become e, with eight parts
module _ (d : drafts.Draft) (e : Inside) (l : Laid e) (h : draft_of e ≡ opened d 8) where
  pub eight : length e.ends ≤ 8 → length e.ends ≡ 8
  eight few =
      omega (arith, few, length_cut e.events e.first e.ends, ap (λ (x : drafts.Draft). length x.parts) h, length-append d.parts (replicate (8 - length d.parts) []), length-replicate {A = List Event} (8 - length d.parts) [])

  pub same_charts : length e.charts ≡ length d.charts
  same_charts = sym (length_charts e.events 0 e.charts) ∙ ap (λ (x : drafts.Draft). length x.charts) h

  -- the row is behind the others
  module _ (row : Chart) (same : row.ends ≡ e.ends) (cs : List Chart) (is : cs ≡ e.charts ++ row ∷ []) where
    tiled : tiles e.first row.ends e.«open» ≡ true
    tiled = ap (λ ends. tiles e.first ends e.«open») same ∙ l.tiled

    pub ended_rows : rows 0 cs e.«open» ≡ true
    ended_rows =
        ap (λ (x : List Chart). rows 0 x e.«open») is
        ∙ rows_push 0 e.charts e.first row e.«open» l.charted tiled (tiles_last e.first row.ends e.«open» 7 tiled row.eight)

    pub ended : record (draft_of e) { charts = charts_from e.events 0 cs; parts = [] } ≡ charted d row.name
    ended =
        let es = e.events in
        let x = ap (λ (x : List Chart). charts_from es 0 x) is ∙ charts_push es 0 e.charts e.first row l.charted in
        let y = ap (cut es e.first) same ∙ ap (λ (x : drafts.Draft). x.parts) h in
        let z = ap (λ (x : drafts.Draft). x.part) h in
        let c = ap (λ (x : drafts.Draft). x.charts) h in
        let i = ap (λ (x : drafts.Draft). x.instances) h in
        let m = ap (λ (x : drafts.Draft). x.messages) h in
        let a = ap (λ (x : drafts.Draft). x.actions) h in
        cc
