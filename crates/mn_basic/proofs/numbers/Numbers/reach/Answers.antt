use Rattle.std.proofs.Common.{FitsSigned, rules, subst, w64}
use Rattle.std.proofs.lemmas.Int.{to_z-of_z}
use Rattle.mn_basic.specs.Unaries.{IsOneOf}
use Rattle.mn_basic.proofs.numbers.Numbers.reach.Goals as goal

pub returns-in-NotBetween : goal.returns-in-NotBetween
returns-in-NotBetween c =
    let lo : FitsSigned w64 c.in-NotBetween.lo = search rules in
    let hi : FitsSigned w64 c.in-NotBetween.hi = search rules in
    let rest = rw (to_z-of_z w64 c.in-NotBetween.lo lo, to_z-of_z w64 c.in-NotBetween.hi hi) at c.without.ensures in
    λ b one inside. rest b inside (subst (λ n. IsOneOf n b) c.in-NotBetween.is one)
