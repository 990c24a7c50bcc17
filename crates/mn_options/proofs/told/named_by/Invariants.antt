use Rattle.std.proofs.Common.{◌≡◌, drop, map, string_bytes}
use Rattle.mn_options.specs.Meant.{named_by}
use Rattle.mn_options.proofs.told.named_by.Given as goal

abbrev pub invariant-loop-i : goal.invariant-loop-i
invariant-loop-i l = named_by (drop l.i l.words) (map string_bytes (drop l.i l.texts)) ≡ named_by l.words (map string_bytes l.texts)
