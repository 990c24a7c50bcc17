use Rattle.std.proofs.Common.{rules, ◌∙◌, w64}
use Rattle.std.proofs.lemmas.Int.{to_z-of_z}
use Rattle.mn_gen.proofs.Boards.{suits_discrete}
use Rattle.mn_gen.proofs.queens.declared.Goals as goal

pub declare-requires-clause-suits : goal.declare-requires-clause-suits
declare-requires-clause-suits c = suits_discrete c.stretch-values.result _ _ c.args.most c.stretch-values.ensures (search rules) (to_z-of_z w64 c.from.result (search rules) ∙ c.from.ensures) c.requires.small
