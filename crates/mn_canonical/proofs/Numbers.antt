-- Values of the model, and counts below its limits, are numbers of the language.
use Rattle.std.proofs.Common.{ℕ, ℤ, pos, negsuc, ◌≤◌, true, false, List, [], ◌∷◌, map, decimal, arith}
use Rattle.std.specs.Fmt.{signed_decimal}
use Rattle.std.specs.List.{AllByRecursion}
use Rattle.std.proofs.lemmas.Int.{ints}
use Rattle.mn_lexer.specs.Numbers.{IsWithinLimit}
use Rattle.mn_lexer.specs.Terminals.{number}
use Rattle.mn_lexer.specs.declared.TheConstants.{NUMBER_LIMIT}
use Rattle.mn_model.specs.Domain.{IsValue}
use Rattle.mn_pieces.specs.Printed.{NumbersAreRead}
use Rattle.mn_canonical.proofs.Saying.{Says}
use Rattle.mn_canonical.proofs.Tokens.{says_number}
use Rattle.mn_canonical.proofs.Listing.{AllSaid}

value_within : (z : ℤ) → IsValue z → IsWithinLimit z
value_within (pos n) is = omega (arith, ints)
value_within (negsuc n) is = omega (arith, ints)

module _ (read : NumbersAreRead) where
  pub says_value : (z : ℤ) → IsValue z → Says false (signed_decimal z) (number z ∷ []) true
  says_value z is = says_number read z (value_within z is)

  pub says_count : (n : ℕ) → n ≤ NUMBER_LIMIT → Says false (decimal n) (number (pos n) ∷ []) true
  says_count n few = says_number read (pos n) few

  -- a list of values
  pub said_values : (zs : List ℤ) → AllByRecursion IsValue zs → AllSaid (λ z. number z ∷ []) (map signed_decimal zs) zs
  said_values [] valued = tt
  said_values (z ∷ zs) valued = (says_value z valued.0, said_values zs valued.1)
