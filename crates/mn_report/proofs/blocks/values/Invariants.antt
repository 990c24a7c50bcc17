use Rattle.std.proofs.Common.{◌≡◌, ◌++◌, take}
use Rattle.std.specs.List.{flat_map}
use Rattle.mn_report.specs.Blocks.{value_text}
use Rattle.mn_report.proofs.blocks.values.Given as goal

-- what is written so far stands behind what the buffer held
abbrev pub invariant-loop-a : goal.invariant-loop-a
invariant-loop-a l = l.buffer.items ≡ l.fn.buffer.items ++ flat_map value_text (take l.a-index l.s)
