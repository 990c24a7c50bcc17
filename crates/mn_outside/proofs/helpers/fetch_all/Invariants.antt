use Rattle.std.proofs.Common.{◌≡◌, ◌<◌, ◌+◌, ◌-◌, vec_len}
use Rattle.mn_outside.specs.Faults.{NoneFell}
use Rattle.mn_outside.proofs.Progress.{IsFront}
use Rattle.mn_outside.proofs.helpers.fetch_all.Given as goal

abbrev pub invariant-reading : goal.invariant-reading
invariant-reading g l =
    IsFront (g.F.Files.content l.fn.files) l.name l.limit l.bytes.items
    × (g.F.Files.content l.files ≡ g.F.Files.content l.fn.files)
    × NoneFell (g.F.Files.reading l.fn.files) (g.F.Files.reading l.files)
    × NoneFell (g.F.Files.writing l.fn.files) (g.F.Files.writing l.files)
    × (0 < vec_len l.buffer)

abbrev pub decreases-reading : goal.decreases-reading
decreases-reading g l = l.limit + 1 - vec_len l.bytes
