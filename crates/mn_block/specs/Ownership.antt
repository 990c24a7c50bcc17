-- What a row of words owns.
use Rattle.std.specs.Prelude.{ℕ, ◌*◌, ◌^◌, ◌<◌}
use mir.Syntax.{Ty, w64, ty_int, ty_array}

-- n words fit in one block of memory
abbrev pub FitsBlock : ℕ → Type 0
FitsBlock n = n * 8 < 2 ^ 63

-- the machine type of n words side by side
abbrev pub words_of : ℕ → Ty
words_of n = ty_array (ty_int w64) n
