-- What the code reads of rows.
use Rattle.mn_references.specs.declared.rows.Rows.{Rows}

-- rows as they are read
abbrev pub rows_seen : Rows → Rattle.mn_references.specs.Entries.Rows
rows_seen r = record { rows = r.rows; behind = r.behind }
