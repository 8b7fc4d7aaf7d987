-- What the judge's proofs use of a well-formed document.
use Rattle.std.proofs.Common.{◌≡◌, ℕ, ◌<◌, ◌≤◌, [], Some, None}
use Rattle.msc.specs.Listing.{Mem}
use Rattle.msc.specs.Meaning.{Meaning}
use Rattle.order.proofs.Drawn.{Framed}

pub record Limits (m : Meaning) : Type 0 where
  pub framed : (c : ℕ) → Framed (m.drawn c)
  pub charts : m.charts ≤ 64
  pub chart-below : (l c : ℕ) → m.chart l ≡ Some c → c < m.charts
  pub node_below : (l c : ℕ) → m.chart l ≡ Some c → l < 64
  pub list-below : (x l : ℕ) → Mem l (m.list x) → l < 64
  pub end_list : (l : ℕ) → l < 64 → m.chart l ≡ None → m.list l ≡ []
