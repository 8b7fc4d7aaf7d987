-- A well-formed document keeps within the limits.
use Rattle.std.proofs.Common.{◌≡◌, ℕ, ◌<◌, ◌≤◌, true, length, ap, ⊎_elim, arith}
use Rattle.std.proofs.lemmas.Bool.{cases_lt}
use Rattle.msc.specs.Doc.{Doc}
use Rattle.msc.specs.Listing.{Mem}
use Rattle.msc.specs.Meaning.{meaning_of}
use Rattle.msc.specs.Sound.{well_formed}
use Rattle.order.proofs.Bounds.{limits}
use Rattle.joined.specs.Limits.{Limits}

module _ (d : Doc) (W : well_formed d ≡ true) where
  pub lists : (x l : ℕ) → Mem l ((meaning_of d).list x) → l < 64
  lists = (limits d W).list-below

  parts : (c i : ℕ) → 0 < length ((meaning_of d).drawn c i) → i < 8
  parts c i h = ⊎_elim (λ (k : i < 8). k) (λ (k : 8 ≤ i). absurd (let z : ⊥ = omega (arith, ap length (((limits d W).framed c).few i k)) in z)) (cases_lt i 8)

  pub sound_limits : Limits (meaning_of d)
  sound_limits = record { charts = (limits d W).chart-below; parts = parts; lists = lists }
