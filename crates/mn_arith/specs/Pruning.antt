-- What a part of a pass owes.
use Rattle.std.specs.Prelude.{◌≡◌, ℤ, List, OnOk, Result}
use Rattle.mn_prop.specs.Contexts.{Context, box_of, vars_of}
use Rattle.mn_prop.specs.Losses.{Unsupported}
use Rattle.mn_prop.specs.Passes.{Narrows}
use Rattle.mn_prop.specs.Posts.{ClosedUnderLeaf, Posted}
use Rattle.mn_prop.specs.declared.context.Fail.{Fail}

-- values went that weren't supported when they went, each closed box stays, it fails only where there is none, and where no
-- value went the sets have a property
pub record IsPart (posted : Posted) (P : List (List ℤ) → Type 0) (old new : Context) (result : Result (Unit {0}) Fail) : Type 0 where
  pub narrows : Narrows (Unsupported posted) (ClosedUnderLeaf (vars_of old) posted) old new result
  pub still : OnOk result (box_of new ≡ box_of old → P (box_of old))
