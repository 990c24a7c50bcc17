-- Nests, the variables that a matrix of further names leads to: their language, what they break by the matrix's
-- dimensions, what they stand for, and their reader.
use Rattle.std.specs.Prelude.{◌⊎◌, ℕ, ◌-◌, leb, ltb, List, [], ◌∷◌, ◌++◌, length, Option, Some, None, false}
use Rattle.std.proofs.Common.{inl, inr}
use Rattle.mn_lexer.specs.Terminals.{Terminal, mark}
use Rattle.mn_lexer.specs.declared.marks.Mark.TheVariants.{OpenSquare, CloseSquare, Comma}
use Rattle.mn_grammar.specs.Tokens.{name_of}
use Rattle.mn_grammar.specs.Places.{Break, when, on, behind}
use Rattle.mn_grammar.specs.Reading.{Reader, which_either, which_mark, one, then_read, ret, never}
use Rattle.mn_grammar.specs.Lists.{Ends, items_at}
use Rattle.mn_grammar.specs.declared.site.Site.TheVariants.{Free}
use Rattle.mn_grammar.specs.declared.Kind.{Kind}
use Rattle.mn_grammar.specs.declared.Kind.TheVariants.{Shape}
use Rattle.mn_model.specs.Problem.{Problem}
use Rattle.mn_model.specs.declared.variable.VarId.{VarId}
use Rattle.mn_references.specs.Conditions.{lesser, as_kind}
use Rattle.mn_references.specs.References.{Ref, spell_ref, Found, breaks_ref, value_ref, at_name, lead, lead_of, one_place}
use Rattle.mn_references.specs.Referring.{behind_name}
use Rattle.mn_references.specs.declared.want.Unfit.{Unfit}

-- 1. The language

-- the trees: one variable, or brackets around others
mutual
  pub data Nest : Type 0 where
    one_var : Ref → Nest
    nest_of : Nests → Nest

  pub data Nests : Type 0 where
    last_nest : Nest → Nests
    nest_and : Nest → Nests → Nests

abbrev mutual
  pub spell_nest : Nest → List Terminal
  spell_nest (one_var r) = spell_ref r
  spell_nest (nest_of ns) = mark OpenSquare ∷ spell_nests ns

  pub spell_nests : Nests → List Terminal
  spell_nests (last_nest n) = spell_nest n ++ mark CloseSquare ∷ []
  spell_nests (nest_and n ns) = spell_nest n ++ mark Comma ∷ spell_nests ns

-- 2. Its conditions, each on its token

-- At a name: it leads to one variable. Where dimensions are left, `[` is wanted, and a name breaks them.
abbrev pub at_var : Problem → List ℕ → List ℕ → Option Kind
at_var p [] name = at_name (one_place p false) (lead_of p name)
at_var p (dim ∷ dims) name = lesser (at_name (one_place p false) (lead_of p name)) (Some Shape)

-- At a `[`: a dimension is left.
abbrev pub at_bracket : List ℕ → Option Kind
at_bracket [] = Some Shape
at_bracket (dim ∷ dims) = None

-- At the `,` after an entry, where so many are wanted from that one on: one more is wanted. What the entry's end breaks,
-- if it names a whole matrix, is broken there too.
abbrev pub at_next : ℕ → Option Unfit → Option Kind
at_next wanted unfit = lesser (as_kind unfit) (when (leb wanted 1) Shape)

-- At the `]` after it: no more is wanted.
abbrev pub at_last : ℕ → Option Unfit → Option Kind
at_last wanted unfit = lesser (as_kind unfit) (when (ltb 1 wanted) Shape)

-- what the token after a nest breaks, whatever it is
abbrev pub behind_nest : Problem → Nest → Option Unfit
behind_nest p (one_var r) = (value_ref p (one_place p false) r).behind
behind_nest p (nest_of ns) = None

-- What a nest breaks by the dimensions that are left. Where it leaves their shape, what follows plays no part.
abbrev mutual
  pub breaks_nest : Problem → Nest → List ℕ → List Break
  breaks_nest p (one_var r) [] = breaks_ref p (one_place p false) r
  breaks_nest p (one_var r) (dim ∷ dims) = on (at_var p (dim ∷ dims) r.name.bytes)
  breaks_nest p (nest_of ns) [] = on (at_bracket [])
  breaks_nest p (nest_of ns) (dim ∷ dims) = behind 1 (breaks_nests p ns dim dims)

  -- and entries of which so many are wanted
  pub breaks_nests : Problem → Nests → ℕ → List ℕ → List Break
  breaks_nests p (last_nest n) wanted dims =
      breaks_nest p n dims ++ behind (length (spell_nest n)) (on (at_last wanted (behind_nest p n)))
  breaks_nests p (nest_and n ns) wanted dims =
      breaks_nest p n dims
      ++ behind (length (spell_nest n)) (on (at_next wanted (behind_nest p n)) ++ behind 1 (breaks_nests p ns (wanted - 1) dims))

-- the variables with those of a nest after them, row by row
abbrev mutual
  pub with_nest : Problem → Nest → List VarId → List VarId
  with_nest p (one_var r) vars = vars ++ (value_ref p (one_place p false) r).vars
  with_nest p (nest_of ns) vars = with_nests p ns vars

  pub with_nests : Problem → Nests → List VarId → List VarId
  with_nests p (last_nest n) vars = with_nest p n vars
  with_nests p (nest_and n ns) vars = with_nests p ns (with_nest p n vars)

-- 3. Its reader

-- what a nest gives: the variables with its own after them, and what the token after it breaks
pub record Led : Type 0 where
  pub vars : List VarId
  pub behind : Option Unfit

abbrev pub led_to : List VarId → Found → Led
led_to vars f = record { vars = vars ++ f.vars; behind = f.behind }

-- before an entry: how many are wanted, and the variables so far
pub record Entering : Type 0 where
  pub wanted : ℕ
  pub vars : List VarId

abbrev pub nests_ends : Ends Entering Led
nests_ends = record {
  next = λ s v. record { wanted = s.wanted - 1; vars = v.vars };
  comma = λ s v. at_next s.wanted v.behind;
  close = λ s v. at_last s.wanted v.behind;
}

-- brackets are whole with their `]`
abbrev pub nests_led : Entering → Led → Led
nests_led s v = record { vars = v.vars; behind = None }

-- the first token: a name or `[`
abbrev pub NestStart : Type 0
NestStart = List ℕ ⊎ Unit {0}

abbrev pub which_nest : Terminal → Option NestStart
which_nest = which_either name_of (which_mark OpenSquare)

abbrev pub at_nest : Problem → List ℕ → NestStart → Option Kind
at_nest p dims (inl name) = at_var p dims name
at_nest p dims (inr u) = at_bracket dims

unfoldable pub nest_first : Problem → List ℕ → Reader NestStart
nest_first p dims = one Free which_nest (at_nest p dims)

-- what follows it, where one variable is wanted
unfoldable pub var_rest : Problem → List VarId → NestStart → Reader Led
var_rest p vars (inl name) = then_read (behind_name (one_place p false) (lead p name)) (λ f. ret (led_to vars f))
var_rest p vars (inr u) = never

-- and where so many entries are wanted
unfoldable pub nests_rest : (Entering → Reader Led) → Entering → NestStart → Reader Led
nests_rest entry s (inl name) = never
nests_rest entry s (inr u) = items_at CloseSquare nests_ends nests_led entry s

-- a nest after variables, by the dimensions that are left
abbrev pub nest_at : Problem → List ℕ → List VarId → Reader Led
nest_at p [] vars = then_read (nest_first p []) (var_rest p vars)
nest_at p (dim ∷ dims) vars =
    then_read (nest_first p (dim ∷ dims)) (nests_rest (λ s. nest_at p dims s.vars) (record { wanted = dim; vars = vars }))
