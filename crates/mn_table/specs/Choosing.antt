-- How many choices of values there are, and how many of them a list of tuples has.
use Rattle.std.specs.Prelude.{◌≡◌, ◌↔◌, ℕ, ◌*◌, ℤ, pos, ◌-ℤ◌, Bool, List, [], ◌∷◌, length, map, Vec}
use Rattle.std.specs.Cmp.Lexicographic.{pointwise}
use Rattle.std.specs.Ordering.{int_eq}
use Rattle.std.specs.declared.alloc.Global.{Global}
use Rattle.mn_model.specs.Members.{AreDistinct, HasMember}
use Rattle.mn_model.specs.Variable.{number_of}
use Rattle.mn_model.specs.declared.constraint.Term.{Term}
use Rattle.mn_model.specs.declared.constraint.Term.TheVariants.{Var, Const, Not}
use Rattle.mn_boxes.specs.Boxes.{set_of}
use Rattle.mn_meaning.specs.Meaning.{at}
use Rattle.mn_closure.specs.Supports.{Choice}

-- two tuples are the same
abbrev pub row_eq : List ℤ → List ℤ → Bool
row_eq = pointwise int_eq

-- tuples that are kept one by one
abbrev pub rows_in : List (Vec ℤ Global) → List (List ℤ)
rows_in rows = map (λ row. row.items) rows

-- the values of a place
abbrev pub place_values : List (List ℤ) → Term → List ℤ
place_values box (Var v) = set_of box (number_of v)
place_values box (Const k) = k ∷ []
place_values box (Not v) = map (λ a. pos 1 -ℤ a) (set_of box (number_of v))

-- how many there are
abbrev pub place_size : List (List ℤ) → Term → ℕ
place_size box (Var v) = length (set_of box (number_of v))
place_size box (Const k) = 1
place_size box (Not v) = length (set_of box (number_of v))

-- how many choices take one value from each place
abbrev pub choice_count : List (List ℤ) → List Term → ℕ
choice_count box [] = 1
choice_count box (t ∷ v) = place_size box t * choice_count box v

-- so many different tuples of a list are choices with a at place i
pub record CountsWith (box : List (List ℤ)) (v : List Term) (i : ℕ) (a : ℤ) (rows : List (List ℤ)) (n : ℕ) : Type 0 where
  pub those : List (List ℤ)
  pub size : length those ≡ n
  pub distinct : AreDistinct those
  pub told : (q : List ℤ) → HasMember those q ↔ (HasMember rows q × (at q i ≡ a) × Choice box v q)
