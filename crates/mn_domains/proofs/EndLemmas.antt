-- The ends of values.
use Rattle.std.proofs.Common.{◌≡◌, ℤ, ◌≤ℤ◌, List, length}
use Rattle.mn_model.specs.Domain.{Ascends, Has, IsFirst, IsLast}
use Rattle.mn_boxes.proofs.Members.{stands_first, stands_last}
use Rattle.mn_domains.specs.Held.{AreEndsOf}
use Rattle.mn_domains.specs.declared.shape.Ends.{Ends}

-- values with a first one that is at most the last
pub ends_of : (xs : List ℤ) (e : Ends) → Ascends xs → IsFirst e.lo xs → IsLast e.hi xs → e.size ≡ length xs → AreEndsOf xs e
ends_of xs e up first last size =
    let f = stands_first xs e.lo up first in
    let l = stands_last xs e.hi up last in
    record { ordered = f.others e.hi l.has; first = first; last = last; size = size }

-- a value that is there is between the ends
pub record IsBetween (lo hi a : ℤ) : Type 0 where
  pub low : lo ≤ℤ a
  pub high : a ≤ℤ hi

pub between_ends : (xs : List ℤ) (e : Ends) (a : ℤ) → Ascends xs → AreEndsOf xs e → Has xs a → IsBetween e.lo e.hi a
between_ends xs e a up ends has = record { low = (stands_first xs e.lo up ends.first).others a has; high = (stands_last xs e.hi up ends.last).others a has }

pub has_lo : (xs : List ℤ) (e : Ends) → Ascends xs → AreEndsOf xs e → Has xs e.lo
has_lo xs e up ends = (stands_first xs e.lo up ends.first).has

pub has_hi : (xs : List ℤ) (e : Ends) → Ascends xs → AreEndsOf xs e → Has xs e.hi
has_hi xs e up ends = (stands_last xs e.hi up ends.last).has
