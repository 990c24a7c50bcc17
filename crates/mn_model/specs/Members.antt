-- What is in a list, and how its members stand to one another.
use Rattle.std.specs.Prelude.{◌≡◌, ◌≢◌, ◌⊎◌, List, [], ◌∷◌}
use Rattle.std.specs.List.{AllByRecursion}

-- x is one of the list's members
abbrev pub HasMember : {X : Type 0} → List X → X → Type 0
HasMember [] x = ⊥
HasMember (y ∷ others) x = (y ≡ x) ⊎ HasMember others x

-- R holds of each member and each later one
abbrev pub HoldsInOrder : {X : Type 0} → (X → X → Type 0) → List X → Type 0
HoldsInOrder R [] = Unit {0}
HoldsInOrder R (x ∷ others) = AllByRecursion (R x) others × HoldsInOrder R others

-- no member is there twice: each differs from each later one
abbrev pub AreDistinct : {X : Type 0} → List X → Type 0
AreDistinct xs = HoldsInOrder (λ x y. x ≢ y) xs
