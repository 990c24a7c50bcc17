use Rattle.std.proofs.Common.{rules}
use Rattle.mn_gen.proofs.Numerals.{one_digit, two_digits}
use Rattle.mn_gen.proofs.tables.list_name.Goals.{then-k-ge10+in_ok-push-2, else-k-ge10}
use Rattle.mn_gen.proofs.tables.list_name.Goals as goal

pub returns : goal.returns
returns c = elim c.if-k-ge10.branch [ then-k-ge10+in_ok-push-2 w ↦ search (rules, two_digits c.args.k) | else-k-ge10 w ↦ search (rules, one_digit c.args.k) ]
