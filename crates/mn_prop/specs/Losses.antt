-- How values go from a box.
use Rattle.std.specs.Prelude.{◌≡◌, ℕ, ℤ, ◌<ℤ◌, Bool, false, List}
use Rattle.mn_model.specs.declared.constraint.Term.{Term}
use Rattle.mn_boxes.specs.Places.{PlaceHas}
use Rattle.mn_closure.specs.Forms.{IsLeaf}
use Rattle.mn_closure.specs.Supports.{StandsAt, Supported}
use Rattle.mn_prop.specs.Contexts.{Context, IsChange, box_of}
use Rattle.mn_prop.specs.Posts.{Posted}

-- one context comes from another by changes of one place each, where each value that goes is one that the rule lets go from
-- the box of that moment
pub data Loses (Rule : List (List ℤ) → Term → ℤ → Type 0) : Context → Context → Type 0 where
  nothing_goes : (c : Context) → Loses Rule c c
  some_go : (old mid new : Context) (t : Term) (p : ℤ → Bool) → IsChange p t old mid → ((a : ℤ) → PlaceHas (box_of old) t a → p a ≡ false → Rule (box_of old) t a) → Loses Rule mid new → Loses Rule old new

-- any value
abbrev pub Anything : List (List ℤ) → Term → ℤ → Type 0
Anything box t a = Unit {0}

-- a value that isn't supported at a place of the constraint where the term stands
abbrev pub Unsupported : Posted → List (List ℤ) → Term → ℤ → Type 0
Unsupported posted box t a = (i : ℕ) × StandsAt posted.con i t × (Supported posted.lists posted.con i a box → ⊥)

-- what a pass of the constraint lets go: a value of a term that stands at one of its places, where it isn't supported if the
-- constraint is a leaf
abbrev pub LetsGo : Posted → List (List ℤ) → Term → ℤ → Type 0
LetsGo posted box t a = (i : ℕ) × StandsAt posted.con i t × (IsLeaf posted.con → Supported posted.lists posted.con i a box → ⊥)

-- a value of one place that is less than a bound, or greater
abbrev pub LessAt : Term → ℤ → List (List ℤ) → Term → ℤ → Type 0
LessAt t bound box u a = (u ≡ t) × (a <ℤ bound)

abbrev pub MoreAt : Term → ℤ → List (List ℤ) → Term → ℤ → Type 0
MoreAt t bound box u a = (u ≡ t) × (bound <ℤ a)
