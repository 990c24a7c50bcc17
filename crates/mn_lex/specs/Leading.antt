-- Lists in lexicographic order, and lists that differ.
use Rattle.std.specs.Prelude.{◌≡◌, ◌≢◌, ℤ, ◌<ℤ◌, ◌⊎◌, Bool, IsTrue, List, [], ◌∷◌}

-- the first list comes before the second in lexicographic order, or, where that is asked, is equal to it
abbrev pub Leads : Bool → List ℤ → List ℤ → Type 0
Leads or_equal [] [] = IsTrue or_equal
Leads or_equal [] (b ∷ ys) = ⊥
Leads or_equal (a ∷ xs) [] = ⊥
Leads or_equal (a ∷ xs) (b ∷ ys) = (a <ℤ b) ⊎ ((a ≡ b) × Leads or_equal xs ys)

-- the lists have different values at some place
abbrev pub Differ : List ℤ → List ℤ → Type 0
Differ [] ys = ⊥
Differ (a ∷ xs) [] = ⊥
Differ (a ∷ xs) (b ∷ ys) = (a ≢ b) ⊎ Differ xs ys
