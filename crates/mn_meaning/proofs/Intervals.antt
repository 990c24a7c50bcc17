-- Intervals, taken from the front of a list of their ends.
use Rattle.std.proofs.Common.{◌↔◌, ◌≤◌, ℤ, pos, ◌≤ℤ◌, List, [], ◌∷◌, inr, ⊎_elim, length, take, drop, get_or, arith}
use Rattle.mn_meaning.specs.Families.{InIntervals}

-- a isn't in the first interval: those behind it decide of all
pub interval_on : (a : ℤ) (rest all : List ℤ) → 2 ≤ length rest → ((get_or (take 2 rest) 0 (pos 0) ≤ℤ a) × (a ≤ℤ get_or (take 2 rest) 1 (pos 0)) → ⊥) → InIntervals rest a ↔ InIntervals all a → InIntervals (drop 2 rest) a ↔ InIntervals all a
interval_on a [] all more outside so_far = absurd (omega arith)
interval_on a (lo ∷ []) all more outside so_far = absurd (omega arith)
interval_on a (lo ∷ hi ∷ others) all more outside so_far =
    (λ within. so_far.0 (inr within), λ within. ⊎_elim (λ here. absurd (outside here)) (λ behind. behind) (so_far.1 within))
