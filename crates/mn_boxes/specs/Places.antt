-- What a constraint may name in one place, and the values that stand there.
use Rattle.std.specs.Prelude.{◌≡◌, ℤ, pos, ◌-ℤ◌, Bool, false, List}
use Rattle.mn_model.specs.Domain.{Has}
use Rattle.mn_model.specs.Variable.{number_of}
use Rattle.mn_model.specs.declared.constraint.Term.{Term}
use Rattle.mn_model.specs.declared.constraint.Term.TheVariants.{Var, Const, Not}
use Rattle.mn_boxes.specs.Boxes.{set_of, variable_at}
use Rattle.mn_boxes.specs.Sets.{Variable, IsEnd}

-- a is in the set of the place: that of its variable, the constant alone, or the values of 1 - b
abbrev pub PlaceHas : List (List ℤ) → Term → ℤ → Type 0
PlaceHas box (Var v) a = Has (set_of box (number_of v)) a
PlaceHas box (Const k) a = k ≡ a
PlaceHas box (Not v) a = Has (set_of box (number_of v)) (pos 1 -ℤ a)

-- a is the least or the greatest there
abbrev pub IsPlaceEnd : List (List ℤ) → Term → ℤ → Type 0
IsPlaceEnd box (Var v) a = IsEnd a (set_of box (number_of v))
IsPlaceEnd box (Const k) a = k ≡ a
IsPlaceEnd box (Not v) a = IsEnd (pos 1 -ℤ a) (set_of box (number_of v))

-- whether the values there go at the ends alone
abbrev pub is_place_bounded : List Variable → Term → Bool
is_place_bounded vars (Var v) = (variable_at vars (number_of v)).bounded
is_place_bounded vars (Const k) = false
is_place_bounded vars (Not v) = (variable_at vars (number_of v)).bounded
