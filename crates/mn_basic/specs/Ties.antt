-- Ties of two places.
use Rattle.std.specs.Prelude.{◌≡◌, ℤ, pos, neg_ℤ}
use Rattle.std.proofs.Common.{nat_abs}
use Rattle.mn_model.specs.declared.constraint.Con.{Con}
use Rattle.mn_model.specs.declared.constraint.Con.TheVariants as con
use Rattle.mn_model.specs.declared.constraint.Term.{Term}
use Rattle.mn_prop.specs.Posts.{Posted, beside}
use Rattle.mn_basic.specs.declared.tie.Tie.{Tie}
use Rattle.mn_basic.specs.declared.tie.Tie.TheVariants.{Equal, Opposite, Absolute}
use Rattle.mn_basic.specs.declared.tie.Tied.{Tied}

-- b tells a
abbrev pub IsTied : Tie → ℤ → ℤ → Type 0
IsTied Equal a b = a ≡ b
IsTied Opposite a b = a ≡ neg_ℤ b
IsTied Absolute a b = a ≡ pos (nat_abs b)

abbrev pub tie_of : Tie → Term → Term → Con
tie_of Equal x y = con.Eq x y
tie_of Opposite x y = con.Minuseq x y
tie_of Absolute x y = con.Abs x y

abbrev pub tied_of : Tied → Posted
tied_of t = beside t.inst.now.tuples (tie_of t.tie t.x t.y)
