-- What files and a sink hold, where they tell it: None stands for what isn't told.
use Rattle.std.specs.Prelude.{◌≡◌, ℕ, ◌<◌, List, [], ◌∷◌, ◌++◌, length, take, Option, option_map, unwrap_or}
use Rattle.std.specs.Ordering.{nat_cmp}
use Rattle.std.specs.Cmp.Lexicographic.{slice_cmp}
use Rattle.std.specs.FinMap.{FinMap, get, insert}

-- what files hold: a finite map from names to bytes
abbrev pub FileMap : Type 0
FileMap = FinMap (slice_cmp nat_cmp) (List ℕ)

-- the bytes of a named file, where it is there
abbrev pub file_at : FileMap → List ℕ → Option (List ℕ)
file_at files name = get files name

-- the bytes of a named file, and none where it isn't there
abbrev pub bytes_at : FileMap → List ℕ → List ℕ
bytes_at files name = unwrap_or (file_at files name) []

-- the told content with the named file made empty, whether it was there or not
abbrev pub with_empty_file : Option FileMap → List ℕ → Option FileMap
with_empty_file told name = option_map (λ files. insert files name []) told

-- The told content with these bytes added at the end of the named file, which begins empty where it isn't there.
-- To add no byte changes nothing.
abbrev pub with_file_bytes : Option FileMap → List ℕ → List ℕ → Option FileMap
with_file_bytes told name [] = told
with_file_bytes told name (byte ∷ bytes) = option_map (λ files. insert files name (bytes_at files name ++ byte ∷ bytes)) told

-- some bytes of the piece from its front, and not all of them, were added at the end of the named file
abbrev pub AppendsPart : Option FileMap → Option FileMap → List ℕ → List ℕ → Type 0
AppendsPart old new name piece = (n : ℕ) × (n < length piece) × (new ≡ with_file_bytes old name (take n piece))

-- the told content of a sink with these bytes written behind it
abbrev pub with_bytes : Option (List ℕ) → List ℕ → Option (List ℕ)
with_bytes told bytes = option_map (λ written. written ++ bytes) told

-- some bytes of the piece from its front, and not all of them, were written
abbrev pub WritesPart : Option (List ℕ) → Option (List ℕ) → List ℕ → Type 0
WritesPart old new piece = (n : ℕ) × (n < length piece) × (new ≡ with_bytes old (take n piece))
