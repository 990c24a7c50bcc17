use Rattle.std.proofs.Common.{◌≡◌, length}
use Rattle.mn_cursor.specs.Progress.{rest, SameText}
use Rattle.mn_asking.specs.Asking.{asking_behind, asking_of}
use Rattle.mn_asking.specs.Searching.{search_at}
use Rattle.mn_asking.proofs.searching.items.Given as goal

-- the reader answers the same at the rest as at the start
abbrev pub invariant-loop-word : goal.invariant-loop-word
invariant-loop-word l = record {
  same : search_at (asking_behind l.c l.behind) (rest l.c) ≡ search_at (asking_of l.fn.c) (rest l.fn.c);
  text : SameText l.fn.c l.c;
}

abbrev pub decreases-loop-word : goal.decreases-loop-word
decreases-loop-word l = length (rest l.c)
