use Rattle.std.proofs.Common.{true, get_or, refl, arith}
use Rattle.std.proofs.lemmas.Bool.{agree_below_at}
use Rattle.mn_lexer.specs.FirstBytes.{is_of_class}
use Rattle.mn_lexer.specs.declared.classes.TheConstants.{CLASSES}
use Rattle.mn_lexer.specs.declared.classes.Class.TheVariants as class
use Rattle.mn_lexer.proofs.classes.class_of.Goals as goal

-- the table has the class of each byte
pub returns : goal.returns
returns c = agree_below_at (λ b. is_of_class (get_or CLASSES b class.Blank) b) (λ _. true) 256 c.args.byte refl (omega (arith, c.ranges.byte))
