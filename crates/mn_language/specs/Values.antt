-- What the code keeps of an argument that is read.
use Rattle.std.specs.Prelude.{[], None}
use Rattle.mn_language.specs.Arguments.{Value, of_terms, of_numbers, of_tuples}
use Rattle.mn_language.specs.declared.values.Value.{Value as Kept}
use Rattle.mn_language.specs.declared.values.Value.TheVariants.{Nothing, Terms, Numbers, Tuples}

-- the value of the argument, once the token after it is read; no argument counts as no numbers
abbrev pub value_seen : Kept → Value
value_seen Nothing = of_numbers []
value_seen (Terms terms) = of_terms terms None
value_seen (Numbers zs) = of_numbers zs
value_seen (Tuples tab) = of_tuples tab
