-- What is read of a file.
use Rattle.std.specs.Prelude.{◌≡◌, ℕ, ◌-◌, ◌<◌, ◌≤◌, ◌↔◌, ◌==◌, List, ◌++◌, length, take, drop, count_by, Option, IfSome, IsSomeAnd}
use Rattle.mn_outside.specs.Content.{FileMap, file_at}

-- n bytes of the file from this offset stand at the front of the buffer, and behind them it is as it was.
-- There are none exactly where the offset is at the file's end or past it.
pub record Fetches (file : List ℕ) (at n : ℕ) (old new : List ℕ) : Type 0 where
  pub copied : new ≡ take n (drop at file) ++ drop n old
  pub within : n ≤ length file - at
  pub end : (n ≡ 0) ↔ (length file ≤ at)

-- where content is told, the named file is there, and this was fetched of it
abbrev pub FetchesFrom : Option FileMap → List ℕ → ℕ → ℕ → List ℕ → List ℕ → Type 0
FetchesFrom told name at n old new =
    IfSome told (λ files. IsSomeAnd (file_at files name) (λ file. Fetches file at n old new))

-- n bytes of the file that follow these ones were put behind them; there are none exactly where the file ends
pub record Continues (file : List ℕ) (n : ℕ) (old new : List ℕ) : Type 0 where
  pub added : new ≡ old ++ take n (drop (length old) file)
  pub within : n ≤ length file - length old
  pub end : (n ≡ 0) ↔ (length file ≤ length old)

-- where content is told, the named file is there, and these bytes went on with it
abbrev pub ContinuesFile : Option FileMap → List ℕ → ℕ → List ℕ → List ℕ → Type 0
ContinuesFile told name n old new = IfSome told (λ files. IsSomeAnd (file_at files name) (λ file. Continues file n old new))

-- where content is told, the named file is there and has these bytes
abbrev pub IsFileAt : Option FileMap → List ℕ → List ℕ → Type 0
IsFileAt told name bytes = IfSome told (λ files. IsSomeAnd (file_at files name) (λ file. bytes ≡ file))

-- how many lines end in these bytes: the number of bytes 10
abbrev pub line_ends : List ℕ → ℕ
line_ends bytes = count_by (λ byte. byte == 10) bytes

-- where content is told, the named file is there and longer than the limit, and so many lines end before the limit
abbrev pub IsLongerFile : Option FileMap → List ℕ → ℕ → ℕ → Type 0
IsLongerFile told name limit lines = IfSome told (λ files. IsSomeAnd (file_at files name) (λ file.
    (limit < length file) × (lines ≡ line_ends (take limit file))))
