-- What the loops of the helpers keep.
use Rattle.std.proofs.Common.{◌≡◌, ℕ, ◌+◌, ◌≤◌, List, length, take}
use Rattle.std.specs.Prelude.{Option, IfSome}
use Rattle.mn_outside.specs.Content.{FileMap, with_bytes, with_file_bytes, bytes_at}

-- n bytes of the piece are written
pub record IsWritten (old new : Option (List ℕ)) (before after : ℕ) (piece : List ℕ) (n : ℕ) : Type 0 where
  pub within : n ≤ length piece
  pub content : new ≡ with_bytes old (take n piece)
  pub kept : before ≤ after

-- n bytes of the piece are in the named file
pub record IsAppended (old new : Option FileMap) (name piece : List ℕ) (n : ℕ) : Type 0 where
  pub within : n ≤ length piece
  pub content : new ≡ with_file_bytes old name (take n piece)

-- these bytes are the front of the named file
pub record IsFront (told : Option FileMap) (name : List ℕ) (limit : ℕ) (bytes : List ℕ) : Type 0 where
  pub within : length bytes ≤ limit + 1
  pub front : IfSome told (λ files. bytes ≡ take (length bytes) (bytes_at files name))
