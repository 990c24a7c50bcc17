-- Numbers as they are printed.
use Rattle.std.specs.Prelude.{◌≡◌, ℕ, ℤ, List}
use Rattle.std.specs.Fmt.{signed_decimal}
use Rattle.mn_lexer.specs.Forms.{HasForm}
use Rattle.mn_lexer.specs.Numbers.{number_value, IsWithinLimit}
use Rattle.mn_lexer.specs.declared.TokenKind.TheVariants as kind

-- the bytes are a number with this value
pub record IsReadAs (bytes : List ℕ) (z : ℤ) : Type 0 where
  pub form : HasForm kind.Number bytes
  pub value : number_value bytes ≡ z

-- a number within the limit is read again as it was printed
abbrev pub NumbersAreRead : Type 0
NumbersAreRead = (z : ℤ) → IsWithinLimit z → IsReadAs (signed_decimal z) z
