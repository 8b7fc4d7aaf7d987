-- What it is for a document to be well formed, condition by condition. Assumes nothing.
use Rattle.msc.specs.declared.label.Label.{Label}
use Rattle.std.proofs.Common.{◌≡◌, ◌≤◌, Bool, true, ◌&&◌, leb, [], ◌∷◌, ◌++◌, length}
use Rattle.std.proofs.lemmas.Bool.{and_parts, and_from, leb-true, le-leb}
use Rattle.msc.specs.Doc.{Doc, all_events, chart_names, label_names}
use Rattle.msc.specs.Shortest.{text_of}
use Rattle.msc.specs.Sound.{well_formed, most, many, names, chart, numbered, list, body}
use Rattle.msc.specs.Spelling.{every, is_name, is_vocabulary}

-- the conditions but for the length of the text
pub record Facts (d : Doc) : Type 0 where
  pub vocabulary : is_vocabulary d.words ≡ true
  pub title : is_name d.words d.title ≡ true
  pub instance_count : many 1 8 d.instances ≡ true
  pub instance_names : names d.words d.instances ≡ true
  pub message_count : leb (length d.messages) 128 ≡ true
  pub message_names : names d.words d.messages ≡ true
  pub action_count : leb (length d.actions) 128 ≡ true
  pub action_names : names d.words d.actions ≡ true
  pub chart_count : leb (length d.charts) 64 ≡ true
  pub chart_names_lem : names d.words (chart_names d.charts ++ (d.graph ∷ [])) ≡ true
  pub charts : every (chart (length d.instances)) d.charts ≡ true
  pub events : leb (length (all_events d.charts)) 1024 ≡ true
  pub numbers : numbered (length d.messages) (length d.actions) 0 0 (all_events d.charts) ≡ true
  pub label_count : many 1 64 d.labels ≡ true
  pub label_names_lem : names d.words (label_names d.labels) ≡ true
  pub bodies : every (λ (l : Label). body (length d.charts) (length d.labels) l.body) d.labels ≡ true
  pub start : list (length d.labels) d.start ≡ true

-- t is the test at hand and r all that is behind it, from the last to the first
pub to_facts : (d : Doc) → well_formed d ≡ true → Facts d × (length (text_of d) ≤ most)
unfolding well_formed
to_facts d h =
    let t11 : Bool = list (length d.labels) d.start in
    let r11 : Bool = leb (length (text_of d)) most in
    let t10 : Bool = every (λ (l : Label). body (length d.charts) (length d.labels) l.body) d.labels in
    let r10 : Bool = t11 && r11 in
    let t9 : Bool = many 1 64 d.labels && names d.words (label_names d.labels) in
    let r9 : Bool = t10 && r10 in
    let t8 : Bool = numbered (length d.messages) (length d.actions) 0 0 (all_events d.charts) in
    let r8 : Bool = t9 && r9 in
    let t7 : Bool = leb (length (all_events d.charts)) 1024 in
    let r7 : Bool = t8 && r8 in
    let t6 : Bool = every (chart (length d.instances)) d.charts in
    let r6 : Bool = t7 && r7 in
    let t5 : Bool = leb (length d.charts) 64 && names d.words (chart_names d.charts ++ (d.graph ∷ [])) in
    let r5 : Bool = t6 && r6 in
    let t4 : Bool = leb (length d.actions) 128 && names d.words d.actions in
    let r4 : Bool = t5 && r5 in
    let t3 : Bool = leb (length d.messages) 128 && names d.words d.messages in
    let r3 : Bool = t4 && r4 in
    let t2 : Bool = many 1 8 d.instances && names d.words d.instances in
    let r2 : Bool = t3 && r3 in
    let t1 : Bool = is_name d.words d.title in
    let r1 : Bool = t2 && r2 in
    let t0 : Bool = is_vocabulary d.words in
    let r0 : Bool = t1 && r1 in
    let (f0, h0) = and_parts t0 r0 h in
    let (f1, h1) = and_parts t1 r1 h0 in
    let (f2, h2) = and_parts t2 r2 h1 in
    let (f3, h3) = and_parts t3 r3 h2 in
    let (f4, h4) = and_parts t4 r4 h3 in
    let (f5, h5) = and_parts t5 r5 h4 in
    let (f6, h6) = and_parts t6 r6 h5 in
    let (f7, h7) = and_parts t7 r7 h6 in
    let (f8, h8) = and_parts t8 r8 h7 in
    let (f9, h9) = and_parts t9 r9 h8 in
    let (f10, h10) = and_parts t10 r10 h9 in
    let (f11, h11) = and_parts t11 r11 h10 in
    let (g2, k2) = and_parts (many 1 8 d.instances) (names d.words d.instances) f2 in
    let (g3, k3) = and_parts (leb (length d.messages) 128) (names d.words d.messages) f3 in
    let (g4, k4) = and_parts (leb (length d.actions) 128) (names d.words d.actions) f4 in
    let (g5, k5) = and_parts (leb (length d.charts) 64) (names d.words (chart_names d.charts ++ (d.graph ∷ []))) f5 in
    let (g9, k9) = and_parts (many 1 64 d.labels) (names d.words (label_names d.labels)) f9 in
    (record { vocabulary = f0; title = f1; instance_count = g2; instance_names = k2; message_count = g3; message_names = k3; action_count = g4; action_names = k4; chart_count = g5; chart_names_lem = k5; charts = f6; events = f7; numbers = f8; label_count = g9; label_names_lem = k9; bodies = f10; start = f11 }, leb-true _ _ h11)

pub from-facts : (d : Doc) → Facts d → length (text_of d) ≤ most → well_formed d ≡ true
unfolding well_formed
from-facts d f h =
    and_from _ _ f.vocabulary (and_from _ _ f.title (and_from _ _ (and_from _ _ f.instance_count f.instance_names) (and_from _ _ (and_from _ _ f.message_count f.message_names) (and_from _ _ (and_from _ _ f.action_count f.action_names) (and_from _ _ (and_from _ _ f.chart_count f.chart_names_lem) (and_from _ _ f.charts (and_from _ _ f.events (and_from _ _ f.numbers (and_from _ _ (and_from _ _ f.label_count f.label_names_lem) (and_from _ _ f.bodies (and_from _ _ f.start (le-leb _ _ h))))))))))))
