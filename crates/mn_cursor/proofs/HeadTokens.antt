-- Each head is known by its token.
use Rattle.std.proofs.Common.{◌≡◌, Some, refl}
use Rattle.mn_cursor.specs.Heads.{head_of, head_token}
use Rattle.mn_cursor.specs.declared.heads.Head.{Head}
use Rattle.mn_cursor.specs.declared.heads.Head.TheVariants.{Variables, TupleList, Search, Constraints, End}

pub head_known : (h : Head) → head_of (head_token h) ≡ Some h
head_known Variables = refl
head_known TupleList = refl
head_known Search = refl
head_known Constraints = refl
head_known End = refl
