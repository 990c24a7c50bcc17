-- The constraint that a `Sum` narrows.
use Rattle.mn_prop.specs.Posts.{Posted, beside}
use Rattle.mn_sums.specs.declared.sum.Sum.{Sum}

abbrev pub posted_of : Sum → Posted
posted_of s = beside s.inst.now.tuples s.con.now
