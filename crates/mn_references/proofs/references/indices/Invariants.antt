use Rattle.std.proofs.Common.{◌≡◌}
use Rattle.mn_lexer.specs.declared.marks.Mark.TheVariants.{CloseSquare}
use Rattle.mn_grammar.specs.Lists.{items_at}
use Rattle.mn_references.specs.Aims.{aim_seen}
use Rattle.mn_references.specs.Lookups.{lead_seen, within_seen, IsInside}
use Rattle.mn_cursor.specs.Progress.{rest, Moves}
use Rattle.mn_references.specs.References.{sub_ends, found_at}
use Rattle.mn_references.specs.Referring.{sub_at, subs_at}
use Rattle.mn_references.proofs.references.indices.Given as goal

-- the reader answers the same at the rest as at the start
abbrev pub invariant-loop-next : goal.invariant-loop-next
invariant-loop-next l = record {
  same : items_at CloseSquare (sub_ends (aim_seen l.fn.scan.problem l.aim) (lead_seen l.lookup)) (found_at (lead_seen l.lookup)) (sub_at (aim_seen l.fn.scan.problem l.aim)) (within_seen l.indices) (rest l.scan)
      ≡ subs_at (aim_seen l.fn.scan.problem l.aim) (lead_seen l.lookup) (rest l.fn.scan);
  moves : Moves l.fn.scan l.scan;
  inside : IsInside l.indices;
  size : l.indices.size ≡ l.lookup.size;
}

abbrev pub decreases-loop-next : goal.decreases-loop-next
decreases-loop-next l = l.scan.left
