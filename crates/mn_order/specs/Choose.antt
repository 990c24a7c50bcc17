-- Which place each choice names, by the sizes of the sets of values (the orders of the Minion manual).
use Rattle.std.specs.Prelude.{ℕ, ◌+◌, ◌*◌, ◌^◌, ◌<◌, ◌≤◌, nat_lt, ◌==◌, Bool, false, not, if◌then◌else◌, List, [], ◌∷◌, find, Option, option_map}
use Rattle.std.specs.List.{list_any}
use Rattle.mn_order.specs.declared.choice.Choice.{Choice}
use Rattle.mn_order.specs.declared.choice.Choice.TheVariants.{Fixed, Smallest, Largest, Ratio}
use Rattle.mn_order.specs.declared.scan.Candidate.{Candidate}

-- two lists of sizes, one of each variable: each set has a value, and none has more values now than were declared, which
-- are fewer than 2 ^ 64
abbrev pub AreSizes : List ℕ → List ℕ → Type 0
AreSizes [] [] = Unit {0}
AreSizes [] (whole ∷ declared) = ⊥
AreSizes (size ∷ now) [] = ⊥
AreSizes (size ∷ now) (whole ∷ declared) = (1 ≤ size) × (size ≤ whole) × (whole < 2 ^ 64) × AreSizes now declared

-- the places from n on whose set has more than one value, in order
abbrev pub candidates_from : ℕ → List ℕ → List ℕ → List Candidate
candidates_from n [] declared = []
candidates_from n (size ∷ now) [] = []
candidates_from n (size ∷ now) (whole ∷ declared) =
    if size == 1 then candidates_from (n + 1) now declared
    else record { place = n; size = size; whole = whole } ∷ candidates_from (n + 1) now declared

-- p goes before q whatever their order: it has fewer values, more, or a lesser part of those declared
abbrev pub beats : Choice → Candidate → Candidate → Bool
beats Fixed p q = false
beats Smallest p q = nat_lt p.size q.size
beats Largest p q = nat_lt q.size p.size
beats Ratio p q = nat_lt (p.size * q.whole) (q.size * p.whole)

-- the first candidate that no other beats
abbrev pub first_unbeaten : Choice → List Candidate → Option Candidate
first_unbeaten choice candidates = find (λ p. not (list_any (λ q. beats choice q p) candidates)) candidates

-- the place that a choice names, if any set has more than one value
abbrev pub choose : Choice → List ℕ → List ℕ → Option ℕ
choose choice now declared = option_map (λ p. p.place) (first_unbeaten choice (candidates_from 0 now declared))
