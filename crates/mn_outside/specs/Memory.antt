-- Files and a sink that are kept in memory, as contracts see them.
use Rattle.std.specs.Prelude.{ℕ, ◌+◌, min, Bool, if◌then◌else◌, ◌==◌, List, [], ◌++◌, map, string_bytes, String, Vec, refl}
use Rattle.std.specs.declared.alloc.Global.{Global}
use Rattle.std.specs.BTreeMap.{BTreeMap}
use Rattle.std.specs.List.{list_any}
use Rattle.std.specs.FinMap.{empty, insert, from_entries, code as map_code}
use Rattle.std.specs.Coded.{Coded, code_by, coded×, coded_ℕ, coded_list}
use Rattle.mn_outside.specs.Faults.{greatest_count}
use Rattle.mn_outside.specs.Content.{FileMap}

-- one more, up to where a count stands still
abbrev pub one_more : ℕ → ℕ
one_more count = min (count + 1) greatest_count

-- the next call is one of those that are to fail: calls are numbered from 1
abbrev pub is_next_failing : List ℕ → ℕ → Bool
is_next_failing failing calls = list_any (λ number. number == one_more calls) failing

-- the finite map that a tree of names and bytes stands for
abbrev pub file_map : BTreeMap (String Global) (Vec ℕ Global) → FileMap
file_map tree = from_entries (map (λ entry. (string_bytes entry.0, entry.1.items)) tree.entries)

-- files in memory
pub record FilesInMemory : Type 0 where
  -- the numbers of the calls that are to fail
  pub failing : List ℕ
  -- how many calls were made
  pub calls : ℕ
  pub files : FileMap
  -- how many calls of `fetch` failed
  pub unread : ℕ
  -- how many calls of `create` and `append` failed
  pub unwritten : ℕ
  -- how many calls failed for want of memory
  pub lacked : ℕ

-- files in memory are stored as the tuple of their parts
abbrev pub files_code : Coded FilesInMemory
files_code =
    code_by (List ℕ × (ℕ × (FileMap × (ℕ × (ℕ × ℕ)))))
    (coded× (coded_list coded_ℕ) (coded× coded_ℕ (coded× (map_code (coded_list coded_ℕ) (coded_list coded_ℕ)) (coded× coded_ℕ (coded× coded_ℕ coded_ℕ)))))
    (λ memory. (memory.failing, (memory.calls, (memory.files, (memory.unread, (memory.unwritten, memory.lacked))))))
    (λ parts. record {
      failing = parts.0;
      calls = parts.1.0;
      files = parts.1.1.0;
      unread = parts.1.1.1.0;
      unwritten = parts.1.1.1.1.0;
      lacked = parts.1.1.1.1.1;
    })
    (λ _. refl)

-- no file yet, and no call
abbrev pub new_files : List ℕ → FilesInMemory
new_files failing = record { failing = failing; calls = 0; files = empty; unread = 0; unwritten = 0; lacked = 0 }

-- the next call fails whatever it asks
abbrev pub files_fail_next : FilesInMemory → Bool
files_fail_next memory = is_next_failing memory.failing memory.calls

-- a fetch was answered
abbrev pub after_fetch : FilesInMemory → FilesInMemory
after_fetch memory = record memory { calls = one_more memory.calls }

-- a fetch failed
abbrev pub after_failed_fetch : FilesInMemory → FilesInMemory
after_failed_fetch memory = record memory { calls = one_more memory.calls; unread = one_more memory.unread }

-- the named file was given these bytes
abbrev pub after_change : FilesInMemory → List ℕ → List ℕ → FilesInMemory
after_change memory name bytes = record memory { calls = one_more memory.calls; files = insert memory.files name bytes }

-- A `create` or an `append` failed. Where its number isn't one of those that are to fail, memory lacked.
abbrev pub after_failed_change : FilesInMemory → FilesInMemory
after_failed_change memory = record memory {
  calls = one_more memory.calls;
  unwritten = one_more memory.unwritten;
  lacked = if files_fail_next memory then memory.lacked else one_more memory.lacked;
}

-- a sink in memory
pub record SinkInMemory : Type 0 where
  -- the numbers of the calls that are to fail
  pub failing : List ℕ
  -- how many calls were made
  pub calls : ℕ
  pub bytes : List ℕ
  -- how many calls failed
  pub unwritten : ℕ
  -- how many calls failed for want of memory
  pub lacked : ℕ

-- no byte yet, and no call
abbrev pub new_sink : List ℕ → SinkInMemory
new_sink failing = record { failing = failing; calls = 0; bytes = []; unwritten = 0; lacked = 0 }

-- the next call fails whatever it asks
abbrev pub sink_fails_next : SinkInMemory → Bool
sink_fails_next memory = is_next_failing memory.failing memory.calls

-- these bytes were written
abbrev pub after_write : SinkInMemory → List ℕ → SinkInMemory
after_write memory bytes = record memory { calls = one_more memory.calls; bytes = memory.bytes ++ bytes }

-- A `write` failed. Where its number isn't one of those that are to fail, memory lacked.
abbrev pub after_failed_write : SinkInMemory → SinkInMemory
after_failed_write memory = record memory {
  calls = one_more memory.calls;
  unwritten = one_more memory.unwritten;
  lacked = if sink_fails_next memory then memory.lacked else one_more memory.lacked;
}

-- a `flush` was answered
abbrev pub after_flush : SinkInMemory → SinkInMemory
after_flush memory = record memory { calls = one_more memory.calls }

-- a `flush` failed
abbrev pub after_failed_flush : SinkInMemory → SinkInMemory
after_failed_flush memory = record memory { calls = one_more memory.calls; unwritten = one_more memory.unwritten }
