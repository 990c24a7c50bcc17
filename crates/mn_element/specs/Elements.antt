-- The constraint that an `Element` narrows.
use Rattle.std.specs.Prelude.{ℤ, pos, List}
use Rattle.mn_model.specs.declared.constraint.Con.{Con}
use Rattle.mn_model.specs.declared.constraint.Con.TheVariants as con
use Rattle.mn_model.specs.declared.constraint.Term.{Term}
use Rattle.mn_prop.specs.Posts.{Posted, beside}
use Rattle.mn_element.specs.declared.element.Element.{Element}
use Rattle.mn_element.specs.declared.indexed.Indexed.{Indexed}
use Rattle.mn_element.specs.declared.indexed.Form.{Form}
use Rattle.mn_element.specs.declared.indexed.Form.TheVariants.{FromZero, WatchedFromZero, FromOne, WatchedFromOne}

-- a constraint of this crate
abbrev pub IsOfIndex : Con → Type 0
IsOfIndex (con.Element v x y) = Unit {0}
IsOfIndex (con.Watchelement v x y) = Unit {0}
IsOfIndex (con.ElementOne v x y) = Unit {0}
IsOfIndex (con.WatchelementOne v x y) = Unit {0}
IsOfIndex c = ⊥

-- the entry of the vector at an index is the result
abbrev pub entry_is : Form → List Term → Term → Term → Con
entry_is FromZero v x y = con.Element v x y
entry_is WatchedFromZero v x y = con.Watchelement v x y
entry_is FromOne v x y = con.ElementOne v x y
entry_is WatchedFromOne v x y = con.WatchelementOne v x y

-- the index of the first entry
abbrev pub first_index : Form → ℤ
first_index FromZero = pos 0
first_index WatchedFromZero = pos 0
first_index FromOne = pos 1
first_index WatchedFromOne = pos 1

abbrev pub indexed_of : Indexed → Posted
indexed_of e = beside e.inst.now.tuples (entry_is e.form e.v.now e.x e.y)

abbrev pub element_of : Element → Posted
element_of e = indexed_of e.of
