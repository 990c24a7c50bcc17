-- The constraint that a `LexCon` narrows.
use Rattle.std.specs.Prelude.{Bool, true, false, List}
use Rattle.mn_model.specs.declared.constraint.Con.{Con}
use Rattle.mn_model.specs.declared.constraint.Con.TheVariants as con
use Rattle.mn_model.specs.declared.constraint.Term.{Term}
use Rattle.mn_prop.specs.Posts.{Posted, beside}
use Rattle.mn_lex.specs.declared.apart.Apart.{Apart}
use Rattle.mn_lex.specs.declared.lex.LexCon.{LexCon}
use Rattle.mn_lex.specs.declared.lex.LexCon.TheVariants.{Order, Differ}
use Rattle.mn_lex.specs.declared.lexical.Lexical.{Lexical}

-- a constraint of this crate
abbrev pub IsOfVectors : Con → Type 0
IsOfVectors (con.Lexleq v w) = Unit {0}
IsOfVectors (con.Lexless v w) = Unit {0}
IsOfVectors (con.Watchvecneq v w) = Unit {0}
IsOfVectors c = ⊥

-- two vectors in lexicographic order, where equal ones will do or not
abbrev pub in_order : Bool → List Term → List Term → Con
in_order true v w = con.Lexleq v w
in_order false v w = con.Lexless v w

abbrev pub lexical_of : Lexical → Posted
lexical_of l = beside l.inst.now.tuples (in_order l.or_equal l.v.now l.w.now)

abbrev pub apart_of : Apart → Posted
apart_of d = beside d.inst.now.tuples (con.Watchvecneq d.v.now d.w.now)

abbrev pub posted_of : LexCon → Posted
posted_of (Order l) = lexical_of l
posted_of (Differ d) = apart_of d

-- whether a pass leaves nothing for another one to do
abbrev pub rests_of : LexCon → Bool
rests_of (Order l) = false
rests_of (Differ d) = true
