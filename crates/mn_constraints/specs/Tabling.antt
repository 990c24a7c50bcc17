-- What the code reads of tables.
use Rattle.std.specs.Prelude.{ℕ, ℤ, List, []}
use Rattle.std.specs.Prelude.{None}
use Rattle.std.proofs.Common.{inl, inr}
use Rattle.mn_lexer.specs.declared.marks.Mark.TheVariants.{CloseCurly}
use Rattle.mn_model.specs.Name.{IsName}
use Rattle.mn_grammar.specs.Lists.{items_at, maybe_at}
use Rattle.mn_grammar.specs.Reading.{Reader}
use Rattle.mn_language.specs.Arguments.{tuple_ends, with_tuple}
use Rattle.mn_language.specs.Constructing.{TableStart, tuple_at}
use Rattle.mn_constraints.specs.declared.tables.Start.{Start}
use Rattle.mn_constraints.specs.declared.tables.Start.TheVariants as start

-- the first token of a table
abbrev pub start_seen : Start → TableStart
start_seen (start.Name bytes) = inl bytes.now
start_seen start.Open = inr tt

-- a name is one
abbrev pub IsStartName : Start → Type 0
IsStartName (start.Name bytes) = IsName bytes.now
IsStartName start.Open = Unit {0}

-- tuples after the cells of others, and all of them
unfoldable pub tuples_from : ℕ → ℕ → List ℤ → Reader (List ℤ)
tuples_from used n cells = items_at CloseCurly tuple_ends with_tuple (tuple_at used n) cells

unfoldable pub tuples_behind : ℕ → ℕ → Reader (List ℤ)
tuples_behind used n = maybe_at CloseCurly tuple_ends None [] with_tuple (tuple_at used n) []
