-- The limits within which the meaning of a well-formed document keeps.
use Rattle.std.specs.Prelude.{◌≡◌, ℕ, ◌<◌, length, Some}
use Rattle.msc.specs.Listing.{Mem}
use Rattle.msc.specs.Meaning.{Meaning}

pub record Limits (m : Meaning) : Type 0 where
  -- a node's chart is one of the document's
  pub charts : (l c : ℕ) → m.chart l ≡ Some c → c < m.charts
  -- only instances below 8 have events
  pub parts : (c i : ℕ) → 0 < length (m.drawn c i) → i < 8
  -- labels are below 64
  pub lists : (x l : ℕ) → Mem l (m.list x) → l < 64
