-- How the arguments of a form are written.
use Rattle.std.specs.Prelude.{ℕ, List}
use Rattle.std.specs.Fmt.{signed_decimal}
use Rattle.mn_model.specs.Problem.{Problem}
use Rattle.mn_canonical.specs.Constraints.{numbers_text, range_text}
use Rattle.mn_canonical.specs.Names.{term_text, vector_text}
use Rattle.mn_canonical.specs.Tables.{table_text}
use Rattle.mn_printer.specs.declared.arguments.Argument.{Argument}
use Rattle.mn_printer.specs.declared.arguments.Argument.TheVariants.{Single, Vector, Number, Numbers, Range, Table}

abbrev pub argument_text : Problem → Argument → List ℕ
argument_text p (Single x) = term_text p x
argument_text p (Vector v) = vector_text p v.now
argument_text p (Number k) = signed_decimal k
argument_text p (Numbers ks) = numbers_text ks.now
argument_text p (Range k k2) = range_text k k2
argument_text p (Table tab) = table_text p tab.now
