-- How a list of tokens is stored.
use Rattle.std.specs.Prelude.{◌≡◌, ◌<◌, ◌==◌, List, length, slice_index_or, if◌then◌else◌}
use Rattle.mn_lexer.specs.declared.Token.{Token}
use Rattle.mn_lexer.specs.declared.listing.Stored.{Stored}
use Rattle.mn_lexer.specs.declared.listing.TheConstants.{LONG}

-- the token that a stored one says by itself
abbrev pub short : Stored → Token
short s = record { kind = s.kind; at = s.at; len = s.len }

-- the token that is stored so, where the long ones stand in a list of their own
abbrev pub whole : List Token → Stored → Token
whole long s = if s.len == LONG then slice_index_or long s.at (short s) else short s

-- a long token stands in the list of long ones
abbrev pub IsStored : List Token → Stored → Type 0
IsStored long s = s.len ≡ LONG → s.at < length long
