-- What a run meets at its files, and what it does to its output.
use Rattle.std.specs.Prelude.{◌≡◌, ℕ, ◌⊎◌, List, ◌++◌, Option}
use Rattle.mn_outside.specs.Content.{FileMap, with_bytes}
use Rattle.mn_outside.specs.Faults.{HasRisen}
use Rattle.mn_driver.specs.Sources.{Origin, Named, Made}
use Rattle.mn_driver.specs.Written.{IsFrontOf}

-- what the files told when the run began, and how often reading each name had failed then and has failed now
pub record Input : Type 0 where
  pub told : Option FileMap
  pub unread_before : List ℕ → ℕ
  pub unread_after : List ℕ → ℕ

-- that of files as they were and are
abbrev pub input_of : {S : Type 0} → (S → Option FileMap) → (S → List ℕ → ℕ) → S → S → Input
input_of content reading old new = record { told = content old; unread_before = reading old; unread_after = reading new }

-- reading the named file failed in this run; for a generated model none is read
abbrev pub IsUnread : Input → Origin → Type 0
IsUnread i (Named name) = HasRisen (i.unread_before name) (i.unread_after name)
IsUnread i (Made wanted) = ⊥

-- what the output told of its content before and tells now, and how often it had failed then and has failed now
pub record Output : Type 0 where
  pub before : Option (List ℕ)
  pub after : Option (List ℕ)
  pub failed_before : ℕ
  pub failed_after : ℕ

-- that of an output as it was and is
abbrev pub output_of : {S : Type 0} → (S → Option (List ℕ)) → (S → ℕ) → S → S → Output
output_of content faults old new = record { before = content old; after = content new; failed_before = faults old; failed_after = faults new }

-- the output failed in this run
abbrev pub HasFailed : Output → Type 0
HasFailed o = HasRisen o.failed_before o.failed_after

-- these bytes were added
abbrev pub Adds : Output → List ℕ → Type 0
Adds o bytes = o.after ≡ with_bytes o.before bytes

-- these bytes were added, and a line behind them; less than the whole line stands only where the output failed
abbrev pub AddsLine : Output → List ℕ → List ℕ → Type 0
AddsLine o bytes line = Adds o (bytes ++ line) ⊎ (HasFailed o × ((part : List ℕ) × IsFrontOf part line × Adds o (bytes ++ part)))

-- neither reading the named file nor the output failed in this run
pub record IsFaultless (i : Input) (o : Output) (origin : Origin) : Type 0 where
  pub read : IsUnread i origin → ⊥
  pub written : HasFailed o → ⊥
