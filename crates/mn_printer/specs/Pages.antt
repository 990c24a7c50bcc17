-- A page: the bytes of a text up to the limit, and how many there are.
use Rattle.std.specs.Prelude.{ℕ, ◌+◌, ◌-◌, min, List, [], ◌++◌, length, take}
use Rattle.mn_model.specs.declared.limits.TheConstants.{TEXT_BYTES}

-- the greatest number of the length
abbrev pub greatest : ℕ
greatest = 18446744073709551615

pub record Written : Type 0 where
  pub kept : List ℕ
  pub count : ℕ

-- nothing is written yet
unfoldable pub blank : Written
blank = record { kept = []; count = 0 }

-- the page with these bytes after those that it has: as many are kept as the limit leaves room for, and all are counted
unfoldable pub onto : Written → List ℕ → Written
onto w bytes = record {
  kept = w.kept ++ take (TEXT_BYTES - length w.kept) bytes;
  count = w.count + min (greatest - w.count) (length bytes);
}
