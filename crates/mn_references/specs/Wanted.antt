-- A reference, and the mark after it.
use Rattle.std.specs.Prelude.{◌≡◌, ◌==◌, drop, codes, Bool, true, false, ◌&&◌, List, [], ◌∷◌, ◌++◌, length, Option, Some, None, Ok, Err, Result, if◌then◌else◌}
use Rattle.mn_lexer.specs.Terminals.{Terminal, mark}
use Rattle.mn_lexer.specs.declared.marks.Mark.{Mark}
use Rattle.mn_lexer.specs.declared.marks.Mark.TheVariants.{Comma, CloseRound, CloseSquare}
use Rattle.mn_model.specs.Problem.{Problem}
use Rattle.mn_model.specs.declared.refusal.Refusal.{Refusal}
use Rattle.mn_model.specs.declared.variable.VarId.{VarId}
use Rattle.mn_grammar.specs.Places.{Break, on, behind}
use Rattle.mn_grammar.specs.Reading.{Answer, Reader, one, ret, then_read}
use Rattle.mn_grammar.specs.declared.Kind.{Kind}
use Rattle.mn_grammar.specs.declared.site.Site.TheVariants.{Free, MarksOnly}
use Rattle.mn_grammar.specs.Lawful.{Spec}
use Rattle.std.proofs.Common.{refl}
use Rattle.mn_references.specs.Conditions.{as_kind}
use Rattle.mn_cursor.specs.Looks.{first_as}
use Rattle.mn_cursor.specs.Progress.{Progress, rest, IsTold}
use Rattle.mn_references.specs.References.{Ref, spell_ref, Found, as_wanted, breaks_ref, value_ref}
use Rattle.mn_references.specs.Referring.{ref_at}
use Rattle.mn_references.specs.declared.want.Unfit.{Unfit}
use Rattle.mn_references.specs.declared.want.Unfit.TheVariants.{Length}
use Rattle.mn_references.specs.declared.want.Want.{Want}

-- the marks that may follow
abbrev pub may_follow : Want → Mark → Bool
may_follow want Comma = want.comma
may_follow want CloseRound = want.round
may_follow want CloseSquare = want.square
may_follow want _ = false

-- In a list in square brackets a `,` after the last place that the limit leaves passes it, whatever else is broken.
abbrev pub passes : Want → Mark → List VarId → Bool
passes want Comma vars = want.square && (length vars == want.room)
passes want _ vars = false

abbrev pub ended : Want → List VarId → Mark → Option Unfit → Option Unfit
ended want vars m None = None
ended want vars m (Some u) = if passes want m vars then Some Length else Some u

-- At the mark after a whole matrix without indices, which is its end.
abbrev pub at_mark : Want → Found → Mark → Option Kind
at_mark want f m = as_kind (ended want f.vars m f.behind)

-- the trees: a reference and a mark that may follow it
pub record Followed (want : Want) : Type 0 where
  pub ref : Ref
  pub next : Mark
  pub may : may_follow want next ≡ true

abbrev pub some_ref : Ref
some_ref = record { name = record { bytes = codes "a"; lawful = refl }; subs = None }

abbrev pub spell_followed : {want : Want} → Followed want → List Terminal
spell_followed t = spell_ref t.ref ++ mark t.next ∷ []

-- what it breaks, and the variables that it stands for
abbrev pub breaks_followed : Problem → {want : Want} → Followed want → List Break
breaks_followed p {want} t =
    breaks_ref p (as_wanted p want) t.ref ++ behind (length (spell_ref t.ref)) (on (at_mark want (value_ref p (as_wanted p want) t.ref) t.next))

abbrev pub value_followed : Problem → {want : Want} → Followed want → List VarId
value_followed p {want} t = (value_ref p (as_wanted p want) t.ref).vars

-- the trees as a language; some mark may follow
abbrev pub followed_spec : Problem → (want : Want) (m : Mark) → may_follow want m ≡ true → Spec (Followed want) (List VarId)
followed_spec p want m may = record {
  spell = spell_followed;
  breaks = breaks_followed p;
  value = value_followed p;
  blocks = λ t u. false;
  start = Free;
  any = record { ref = some_ref; next = m; may = may };
}

-- the mark that a token is, if it may follow
abbrev pub which_may_follow : Want → Terminal → Option Mark
which_may_follow want (mark m) = if may_follow want m then Some m else None
which_may_follow want _ = None

-- the reader of both
unfoldable pub reference_then : Problem → Want → Reader (List VarId)
reference_then p want =
    then_read (ref_at p (as_wanted p want)) (λ f. then_read (one MarksOnly (which_may_follow want) (at_mark want f)) (λ m. ret f.vars))

-- The reader answers the variables, and the cursor stands before the mark after them.
abbrev pub IsReference : Want → Progress → List VarId → Answer (List VarId) → Type 0
IsReference want new vars answer = (m : Mark) × (first_as (which_may_follow want) (rest new) ≡ Some m) × (answer ≡ Ok (vars, drop 1 (rest new)))

-- the reference is read, or it is refused as the reader says
abbrev pub ReadsReference : Want → Progress → Progress → Result (List VarId) Refusal → Answer (List VarId) → Type 0
ReadsReference want old new (Ok vars) answer = IsReference want new vars answer
ReadsReference want old new (Err r) answer = IsTold old r answer
