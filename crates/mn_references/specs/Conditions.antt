-- Conditions that meet at one token, and those of the end of a reference.
use Rattle.std.specs.Prelude.{ltb, Bool, true, false, Option, Some, None, if◌then◌else◌}
use Rattle.mn_grammar.specs.Kinds.{rank}
use Rattle.mn_grammar.specs.declared.Kind.{Kind}
use Rattle.mn_grammar.specs.declared.Kind.TheVariants.{Limit, Shape}
use Rattle.mn_grammar.specs.declared.Limit.TheVariants.{Vector}
use Rattle.mn_references.specs.declared.want.Unfit.{Unfit}
use Rattle.mn_references.specs.declared.want.Unfit.TheVariants.{Form, Length}

-- the kind that counts where two conditions stand at one token: that of the lesser rank
abbrev pub lesser : Option Kind → Option Kind → Option Kind
lesser None d = d
lesser (Some j) None = Some j
lesser (Some j) (Some k) = if ltb (rank k) (rank j) then Some k else Some j

-- the kind of what the end of a reference breaks
abbrev pub as_kind : Option Unfit → Option Kind
as_kind None = None
as_kind (Some Form) = Some Shape
as_kind (Some Length) = Some (Limit Vector)

-- it breaks this where the test holds
abbrev pub unfit : Bool → Unfit → Option Unfit
unfit true u = Some u
unfit false u = None
