-- The constraint that a `Table` narrows, and the tuples that support its values.
use Rattle.std.specs.Prelude.{◌≡◌, ℕ, ℤ, List}
use Rattle.mn_model.specs.Members.{HasMember}
use Rattle.mn_model.specs.declared.constraint.Con.{Con}
use Rattle.mn_model.specs.declared.constraint.Con.TheVariants as con
use Rattle.mn_model.specs.declared.constraint.Term.{Term}
use Rattle.mn_meaning.specs.Meaning.{at}
use Rattle.mn_closure.specs.Supports.{Choice}
use Rattle.mn_prop.specs.Posts.{Posted, beside}
use Rattle.mn_table.specs.declared.forbidden.Forbidden.{Forbidden}
use Rattle.mn_table.specs.declared.listed.Listed.{Listed}
use Rattle.mn_table.specs.declared.table.Table.{Table}
use Rattle.mn_table.specs.declared.table.Table.TheVariants.{ByMarks, ByValue, NoneOf}

-- a constraint of this crate
abbrev pub IsOfTuples : Con → Type 0
IsOfTuples (con.Table v tab) = Unit {0}
IsOfTuples (con.Negativetable v tab) = Unit {0}
IsOfTuples c = ⊥

-- the values of the vector are one of the tuples, or none of them
abbrev pub listed_of : Listed → Posted
listed_of l = beside l.inst.now.tuples (con.Table l.v.now l.tab.now)

abbrev pub forbidden_of : Forbidden → Posted
forbidden_of f = beside f.inst.now.tuples (con.Negativetable f.v.now f.tab.now)

abbrev pub posted_of : Table → Posted
posted_of (ByMarks m) = listed_of m.of
posted_of (ByValue l) = listed_of l
posted_of (NoneOf f) = forbidden_of f

-- a row whose values are at the places of the vector, with a at place i
pub record RowWith (box : List (List ℤ)) (v : List Term) (i : ℕ) (a : ℤ) (rows : List (List ℤ)) : Type 0 where
  pub row : List ℤ
  pub stands : HasMember rows row
  pub chosen : Choice box v row
  pub given : at row i ≡ a
