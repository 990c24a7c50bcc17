use Rattle.std.proofs.Common.{rules}
use Rattle.mn_outside.proofs.Trees.{file_map_extended, file_map_kept, bytes_at-none, on_extended, on_kept}
use Rattle.mn_outside.proofs.named.add_bytes.Goals as goal

pub returns-in-Some-clause-ok : goal.returns-in-Some-clause-ok
returns-in-Some-clause-ok c =
    on_extended c.extend_from_slice.result c.in-Some.bytes.now.items c.extend_from_slice.new.self.items c.args.piece.now _
    c.extend_from_slice.ensures.items
    (file_map_extended c.args.files.now (c.get_mut.follows.lender c.extend_from_slice.new.self) c.args.name.now c.args.piece.now
    c.in-Some.bytes.now c.extend_from_slice.new.self c.in-Some.ensures.value
    ((c.get_mut.follows.holds c.extend_from_slice.new.self).3 (search rules)))

pub returns-in-Some-clause-err : goal.returns-in-Some-clause-err
returns-in-Some-clause-err c =
    on_kept c.extend_from_slice.result c.in-Some.bytes.now.items c.extend_from_slice.new.self.items c.args.piece.now _
    c.extend_from_slice.ensures.items
    (file_map_kept c.args.files.now (c.get_mut.follows.lender c.extend_from_slice.new.self) c.args.name.now
    c.in-Some.bytes.now c.extend_from_slice.new.self c.in-Some.ensures.value
    ((c.get_mut.follows.holds c.extend_from_slice.new.self).3 (search rules)))

pub returns-in-None-clause-ok : goal.returns-in-None-clause-ok
returns-in-None-clause-ok c =
    rw (bytes_at-none c.args.files.now c.args.name.now c.in-None.ensures.value) (rw c.get_mut.follows.holds-at-none at c.set_bytes.ensures.ok)
