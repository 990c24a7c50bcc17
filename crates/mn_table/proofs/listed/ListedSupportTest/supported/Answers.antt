use Rattle.std.proofs.Common.{length, w64}
use Rattle.std.proofs.lemmas.Int.{to_z-of_z}
use Rattle.mn_meaning.specs.Families.{rows_of}
use Rattle.mn_prop.specs.Contexts.{box_of}
use Rattle.mn_table.proofs.Supporting.{row_supports, supporting_row}
use Rattle.mn_table.proofs.listed.ListedSupportTest.supported.Goals as goal

pub returns : goal.returns
returns c =
    let s = c.args.self.now in
    let told = rw (to_z-of_z w64 c.args.a c.ranges.a) at c.has_row.ensures in (
      λ e. row_supports s.inst.now.tuples s.v.now s.tab.now (rows_of (length s.v.now) s.cells.now) (box_of c.args.c.now) c.args.i c.args.a s.rows (told.0 e),
      λ supported. told.1 (supporting_row s.inst.now.tuples s.v.now s.tab.now (rows_of (length s.v.now) s.cells.now) (box_of c.args.c.now) c.args.i c.args.a s.rows supported),
    )
