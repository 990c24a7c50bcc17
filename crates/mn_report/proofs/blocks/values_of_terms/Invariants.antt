use Rattle.std.proofs.Common.{◌≡◌, ◌++◌, map, take}
use Rattle.std.specs.List.{flat_map}
use Rattle.mn_meaning.specs.Meaning.{at, value_of}
use Rattle.mn_report.specs.Blocks.{value_text}
use Rattle.mn_report.proofs.blocks.values_of_terms.Given as goal

-- what is written so far stands behind what the buffer held
abbrev pub invariant-loop-t : goal.invariant-loop-t
invariant-loop-t l = l.buffer.items ≡ l.fn.buffer.items ++ flat_map value_text (map (value_of (at l.s)) (take l.t-index l.terms))
