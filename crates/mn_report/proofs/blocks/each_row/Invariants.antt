use Rattle.std.proofs.Common.{◌≡◌, ◌++◌, map, take}
use Rattle.std.specs.List.{flat_map}
use Rattle.mn_meaning.specs.Meaning.{at, value_of}
use Rattle.mn_report.specs.Blocks.{row_text}
use Rattle.mn_report.proofs.blocks.each_row.Given as goal

-- what is written so far stands behind what the buffer held
abbrev pub invariant-loop-row : goal.invariant-loop-row
invariant-loop-row l = l.buffer.items ≡ l.fn.buffer.items ++ flat_map row_text (map (map (value_of (at l.s))) (take l.row-index l.rows))
