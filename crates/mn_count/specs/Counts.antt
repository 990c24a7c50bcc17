-- The constraint that a `Count` narrows.
use Rattle.std.specs.Prelude.{Bool, false}
use Rattle.mn_model.specs.declared.constraint.Con.{Con}
use Rattle.mn_model.specs.declared.constraint.Con.TheVariants as con
use Rattle.mn_prop.specs.Forwards.{checked}
use Rattle.mn_prop.specs.Posts.{Posted, beside}
use Rattle.mn_count.specs.declared.alldiff.Alldiff.{Alldiff}
use Rattle.mn_count.specs.declared.count.Count.{Count}
use Rattle.mn_count.specs.declared.count.Count.TheVariants.{Differ, DifferDense, Distant, Few, Often}
use Rattle.mn_count.specs.declared.occurrence.Occurrence.{Occurrence}
use Rattle.mn_count.specs.Occurrences.{con_of}
use Rattle.mn_count.specs.declared.dense.Dense.{Dense}
use Rattle.mn_count.specs.declared.hamming.Hamming.{Hamming}

-- a constraint of this crate
abbrev pub IsCounting : Con → Type 0
IsCounting (con.Alldiff v) = Unit {0}
IsCounting (con.Occurrence v k x) = Unit {0}
IsCounting (con.Occurrenceleq v k most) = Unit {0}
IsCounting (con.Occurrencegeq v k least) = Unit {0}
IsCounting (con.Nvalueleq v x) = Unit {0}
IsCounting (con.Hamming v w k) = Unit {0}
IsCounting c = ⊥

abbrev pub alldiff_of : Alldiff → Posted
alldiff_of d = beside d.inst.now.tuples (con.Alldiff d.v.now)

abbrev pub dense_of : Dense → Posted
dense_of d = alldiff_of d.each

abbrev pub occurrence_of : Occurrence → Posted
occurrence_of o = beside o.inst.now.tuples (con_of o.v.now o.k o.amount)

abbrev pub hamming_of : Hamming → Posted
hamming_of h = beside h.inst.now.tuples (con.Hamming h.v.now h.w.now h.least)

abbrev pub posted_of : Count → Posted
posted_of (Differ d) = alldiff_of d
posted_of (DifferDense d) = dense_of d
posted_of (Often o) = occurrence_of o
posted_of (Distant h) = hamming_of h
posted_of (Few f) = checked f

-- whether a pass leaves nothing for another one to do
abbrev pub rests_of : Count → Bool
rests_of (Differ d) = false
rests_of (DifferDense d) = false
rests_of (Often o) = false
rests_of (Distant h) = false
rests_of (Few f) = false
