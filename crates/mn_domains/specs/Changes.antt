-- What a change of one variable's set does.
use Rattle.std.specs.Prelude.{◌≡◌, ℕ, ℤ, Bool, true, false, not, List, [], ◌∷◌, ◌++◌, filter, map, slice_set, Result, Ok, Err}
use Rattle.std.specs.Ordering.{int_eq}
use Rattle.mn_boxes.specs.Boxes.{set_of}
use Rattle.mn_boxes.specs.Events.{IsMoved}
use Rattle.mn_boxes.specs.declared.change.Moved.{Moved}
use Rattle.mn_domains.specs.Sets.{Sets}
use Rattle.mn_domains.specs.declared.doms.Emptied.{Emptied}

-- x is another value than a
abbrev pub is_not : ℤ → ℤ → Bool
is_not a x = not (int_eq x a)

-- the sets, with those values alone of variable v that pass the test
abbrev pub kept : (ℤ → Bool) → ℕ → List (List ℤ) → List (List ℤ)
kept p v sets = slice_set sets v (filter p (set_of sets v))

-- these are the sets now, and all else is as it was
abbrev pub with_sets : Sets → List (List ℤ) → Sets
with_sets s sets = record s { now = record s.now { sets = sets } }

-- the values that pass the test stay, and the flags say what moved; where none would stay nothing changes
abbrev pub Changed : (ℤ → Bool) → ℕ → Sets → Sets → Result Moved Emptied → Type 0
Changed p v old new (Ok moved) = (filter p (set_of old.now.sets v) ≡ [] → ⊥) × (new ≡ with_sets old (kept p v old.now.sets)) × IsMoved (set_of old.now.sets v) (filter p (set_of old.now.sets v)) moved
Changed p v old new (Err emptied) = (filter p (set_of old.now.sets v) ≡ []) × (new ≡ old)

-- the state now is saved beside those that were saved before
abbrev pub saved_now : Sets → Sets
saved_now s = record s { saved = s.saved ++ s.now ∷ [] }

-- the last saved state is taken back; where none is saved nothing changes
abbrev pub Restored : Sets → Sets → Bool → Type 0
Restored old new true = (new.vars ≡ old.vars) × (new.owners ≡ old.owners) × (old.saved ≡ new.saved ++ new.now ∷ [])
Restored old new false = (old.saved ≡ []) × (new ≡ old)

-- there may be more words of flags, none of them set, and nothing else changed
pub record AddsFlags (old new : Sets) : Type 0 where
  pub added : List ℕ
  pub is : new ≡ record old { now = record old.now { flags = old.now.flags ++ map (λ owner. 0) added }; owners = old.owners ++ added }
