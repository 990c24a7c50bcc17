-- Sets that a test leaves in place of one, and what boxes have of them.
use Rattle.std.proofs.Common.{◌≡◌, ℕ, zero, suc, ◌+◌, ◌<◌, ◌≤◌, ℤ, pos, ◌-ℤ◌, Bool, true, false, inl, inr, List, [], ◌∷◌, length, filter, slice_set, refl, sym, subst, ap, ◌∙◌, arith, true≢false}
use Rattle.mn_model.specs.Domain.{Has}
use Rattle.mn_model.specs.Variable.{number_of}
use Rattle.mn_model.specs.declared.constraint.Term.{Term}
use Rattle.mn_model.specs.declared.constraint.Term.TheVariants.{Var, Const, Not}
use Rattle.mn_model.proofs.Filtered.{filter_has, has_filter}
use Rattle.mn_boxes.specs.Boxes.{Inside, IsBox, count_of, set_of}
use Rattle.mn_boxes.specs.Places.{PlaceHas}
use Rattle.mn_boxes.specs.Sets.{Variable}
use Rattle.mn_domains.specs.Changes.{kept}
use Rattle.mn_prop.specs.Contexts.{IsNamed, SomePasses, kept_at}
use Rattle.mn_prop.specs.Passes.{AllPass}
use Rattle.mn_prop.proofs.PlaceLemmas.{back}

-- ---- one set in place of another

-- the set at a place is the new one, and all others are the old ones
set_here : (sets : List (List ℤ)) (v : ℕ) (ys : List ℤ) (a : ℤ) → Has (set_of (slice_set sets v ys) v) a → Has ys a
set_here [] v ys a has = absurd has
set_here (xs ∷ sets) zero ys a has = has
set_here (xs ∷ sets) (suc v) ys a has = set_here sets v ys a has

-- what the new one has is there, where the old one has a value
set_there : (sets : List (List ℤ)) (v : ℕ) (ys : List ℤ) (a b : ℤ) → Has (set_of sets v) b → Has ys a → Has (set_of (slice_set sets v ys) v) a
set_there [] v ys a b old has = absurd old
set_there (xs ∷ sets) zero ys a b old has = has
set_there (xs ∷ sets) (suc v) ys a b old has = set_there sets v ys a b old has

pub set_elsewhere : (sets : List (List ℤ)) (v w : ℕ) (ys : List ℤ) → (v ≡ w → ⊥) → set_of (slice_set sets v ys) w ≡ set_of sets w
set_elsewhere [] v w ys differ = refl
set_elsewhere (xs ∷ sets) zero zero ys differ = absurd (differ refl)
set_elsewhere (xs ∷ sets) zero (suc w) ys differ = refl
set_elsewhere (xs ∷ sets) (suc v) zero ys differ = refl
set_elsewhere (xs ∷ sets) (suc v) (suc w) ys differ = set_elsewhere sets v w ys (λ same. differ (ap suc same))

-- a part of the old set in its place leaves the sets inside the old ones
set_inside : (sets : List (List ℤ)) (v : ℕ) (ys : List ℤ) → ((a : ℤ) → Has ys a → Has (set_of sets v) a) → (w : ℕ) (a : ℤ) → Has (set_of (slice_set sets v ys) w) a → Has (set_of sets w) a
set_inside [] v ys part w a has = has
set_inside (xs ∷ sets) zero ys part zero a has = part a has
set_inside (xs ∷ sets) zero ys part (suc w) a has = has
set_inside (xs ∷ sets) (suc v) ys part zero a has = has
set_inside (xs ∷ sets) (suc v) ys part (suc w) a has = set_inside sets v ys part w a has

-- and a box inside the old ones whose set there is part of the new one is inside them
inside_set : (box sets : List (List ℤ)) (v : ℕ) (ys : List ℤ) → ((w : ℕ) (a : ℤ) → Has (set_of box w) a → Has (set_of sets w) a) → ((a : ℤ) → Has (set_of box v) a → Has ys a) → (w : ℕ) (a : ℤ) → Has (set_of box w) a → Has (set_of (slice_set sets v ys) w) a
inside_set [] sets v ys i part w a has = absurd has
inside_set (bs ∷ box) [] v ys i part w a has = absurd (i w a has)
inside_set (bs ∷ box) (xs ∷ sets) zero ys i part zero a has = part a has
inside_set (bs ∷ box) (xs ∷ sets) zero ys i part (suc w) a has = i (suc w) a has
inside_set (bs ∷ box) (xs ∷ sets) (suc v) ys i part zero a has = i zero a has
inside_set (bs ∷ box) (xs ∷ sets) (suc v) ys i part (suc w) a has = inside_set box sets v ys (λ u b at. i (suc u) b at) part w a has

-- ---- boxes

-- each set of a box has a value
pub some_in : (vars : List Variable) (box : List (List ℤ)) (v : ℕ) → IsBox vars box → v < length vars → (a : ℤ) × Has (set_of box v) a
some_in [] box v is within = absurd (omega arith)
some_in (var ∷ vars) [] v is within = absurd is
some_in (var ∷ vars) ([] ∷ box) zero is within = absurd (is.0.filled refl)
some_in (var ∷ vars) ((x ∷ xs) ∷ box) zero is within = (x, inl refl)
some_in (var ∷ vars) (xs ∷ box) (suc v) is within = some_in vars box v is.1 (omega arith)

-- there are as many as there are variables
pub as_long : (vars : List Variable) (box : List (List ℤ)) → IsBox vars box → length box ≡ length vars
as_long [] [] is = refl
as_long [] (xs ∷ box) is = absurd is
as_long (var ∷ vars) [] is = absurd is
as_long (var ∷ vars) (xs ∷ box) is = ap suc (as_long vars box is.1)

-- a place that is named has a value
pub some_value : (vars : List Variable) (box : List (List ℤ)) (t : Term) → IsBox vars box → IsNamed vars t → (a : ℤ) × PlaceHas box t a
some_value vars box (Var v) is named = some_in vars box (number_of v) is named
some_value vars box (Const k) is named = (k, refl)
some_value vars box (Not v) is named =
    let some = some_in vars box (number_of v) is named in
    (pos 1 -ℤ some.0, subst (Has (set_of box (number_of v))) (sym (back some.0)) some.1)

pub inside_itself : (box : List (List ℤ)) → Inside box box
inside_itself box = record { within = λ v a has. has }

pub inside_through : {inner box outer : List (List ℤ)} → Inside inner box → Inside box outer → Inside inner outer
inside_through one two = record { within = λ v a has. two.within v a (one.within v a has) }

-- ---- what passes a test

-- the sets that pass a test at a place are inside the old ones, and around every box that passes it there
pub kept_inside : (p : ℤ → Bool) (t : Term) (sets : List (List ℤ)) → Inside (kept_at p t sets) sets
kept_inside p (Var v) sets = record { within = set_inside sets (number_of v) (filter p (set_of sets (number_of v))) (λ a has. (has_filter p (set_of sets (number_of v)) a has).has) }
kept_inside p (Const k) sets = inside_itself sets
kept_inside p (Not v) sets = record { within = set_inside sets (number_of v) (filter (λ b. p (pos 1 -ℤ b)) (set_of sets (number_of v))) (λ a has. (has_filter (λ b. p (pos 1 -ℤ b)) (set_of sets (number_of v)) a has).has) }

pub passing_inside : (p : ℤ → Bool) (t : Term) (box sets : List (List ℤ)) → Inside box sets → AllPass p t box → Inside box (kept_at p t sets)
passing_inside p (Var v) box sets i pass = record { within = inside_set box sets (number_of v) (filter p (set_of sets (number_of v))) i.within (λ a has. filter_has p (set_of sets (number_of v)) a (i.within (number_of v) a has) (pass a has)) }
passing_inside p (Const k) box sets i pass = i
passing_inside p (Not v) box sets i pass =
    let q : ℤ → Bool = λ b. p (pos 1 -ℤ b) in
    record { within = inside_set box sets (number_of v) (filter q (set_of sets (number_of v))) i.within (λ a has. filter_has q (set_of sets (number_of v)) a (i.within (number_of v) a has) (pass (pos 1 -ℤ a) (subst (Has (set_of box (number_of v))) (sym (back a)) has))) }

-- all that is kept passes
pub kept_passes : (p : ℤ → Bool) (v : ℕ) (sets : List (List ℤ)) (a : ℤ) → Has (set_of (kept p v sets) v) a → p a ≡ true
kept_passes p v sets a has = (has_filter p (set_of sets v) a (set_here sets v (filter p (set_of sets v)) a has)).passes

-- and what passes is kept
pub has_kept : (p : ℤ → Bool) (v : ℕ) (sets : List (List ℤ)) (a : ℤ) → Has (set_of sets v) a → p a ≡ true → Has (set_of (kept p v sets) v) a
has_kept p v sets a has e = set_there sets v (filter p (set_of sets v)) a a has (filter_has p (set_of sets v) a has e)

pub kept_at_passes : (p : ℤ → Bool) (t : Term) (sets : List (List ℤ)) (a : ℤ) → SomePasses p t sets → PlaceHas (kept_at p t sets) t a → p a ≡ true
kept_at_passes p (Var v) sets a some has = kept_passes p (number_of v) sets a has
kept_at_passes p (Const k) sets a some has = ap p (sym has ∙ some.there) ∙ some.passes
kept_at_passes p (Not v) sets a some has = ap p (sym (back a)) ∙ kept_passes (λ b. p (pos 1 -ℤ b)) (number_of v) sets (pos 1 -ℤ a) has

pub same_passes : (p : ℤ → Bool) (t : Term) (sets : List (List ℤ)) → SomePasses p t sets → kept_at p t sets ≡ sets → AllPass p t sets
same_passes p (Var v) sets some same a has = kept_passes p (number_of v) sets a (subst (λ box. Has (set_of box (number_of v)) a) (sym same) has)
same_passes p (Const k) sets some same a has = ap p (sym has ∙ some.there) ∙ some.passes
same_passes p (Not v) sets some same a has =
    ap p (sym (back a)) ∙ kept_passes (λ b. p (pos 1 -ℤ b)) (number_of v) sets (pos 1 -ℤ a) (subst (λ box. Has (set_of box (number_of v)) (pos 1 -ℤ a)) (sym same) has)

-- ---- how many values are left

-- there are fewer, or all are there
pub few_left : (p : ℤ → Bool) (xs : List ℤ) → length (filter p xs) ≤ length xs
few_left p [] = omega arith
few_left p (x ∷ xs) = by (p x) refl (few_left p xs)
  where
    by : (t : Bool) → p x ≡ t → length (filter p xs) ≤ length xs → length (filter p (x ∷ xs)) ≤ length (x ∷ xs)
    by true e less = rw e (omega (arith, less))
    by false e less = rw e (omega (arith, less))

pub all_left : (p : ℤ → Bool) (xs : List ℤ) → length (filter p xs) ≡ length xs → filter p xs ≡ xs
all_left p [] same = refl
all_left p (x ∷ xs) same = by (p x) refl (λ less. all_left p xs less)
  where
    by : (t : Bool) → p x ≡ t → (length (filter p xs) ≡ length xs → filter p xs ≡ xs) → filter p (x ∷ xs) ≡ x ∷ xs
    by true e rest = let there : suc (length (filter p xs)) ≡ suc (length xs) = rw e at same in rw e (ap (λ ys. x ∷ ys) (rest (omega (arith, there))))
    by false e rest = let less = few_left p xs in let there : length (filter p xs) ≡ suc (length xs) = rw e at same in absurd (omega (arith, less, there))

-- a member that doesn't pass makes fewer
pub fewer_left : (p : ℤ → Bool) (xs : List ℤ) (b : ℤ) → Has xs b → p b ≡ false → length (filter p xs) < length xs
fewer_left p [] b has out = absurd has
fewer_left p (x ∷ xs) b has out = by (p x) refl has (λ later. fewer_left p xs b later out)
  where
    by : (t : Bool) → p x ≡ t → Has (x ∷ xs) b → (Has xs b → length (filter p xs) < length xs) → length (filter p (x ∷ xs)) < length (x ∷ xs)
    by true e (inl here) rest = absurd (true≢false (sym e ∙ (ap p here ∙ out)))
    by true e (inr later) rest = let less = rest later in rw e (omega (arith, less))
    by false e has rest = let less = few_left p xs in rw e (omega (arith, less))

pub few_kept : (p : ℤ → Bool) (v : ℕ) (sets : List (List ℤ)) → count_of (kept p v sets) ≤ count_of sets
few_kept p v [] = omega arith
few_kept p zero (xs ∷ sets) = let less = few_left p xs in omega (arith, less)
few_kept p (suc v) (xs ∷ sets) = let less = few_kept p v sets in omega (arith, less)

pub all_kept : (p : ℤ → Bool) (v : ℕ) (sets : List (List ℤ)) → count_of (kept p v sets) ≡ count_of sets → kept p v sets ≡ sets
all_kept p v [] same = refl
all_kept p zero (xs ∷ sets) same = ap (λ ys. ys ∷ sets) (all_left p xs (omega (arith, same)))
all_kept p (suc v) (xs ∷ sets) same = ap (λ rest. xs ∷ rest) (all_kept p v sets (omega (arith, same)))

-- as many are gone from the box as from the set
pub count_kept : (p : ℤ → Bool) (v : ℕ) (sets : List (List ℤ)) → count_of (kept p v sets) + length (set_of sets v) ≡ count_of sets + length (filter p (set_of sets v))
count_kept p v [] = refl
count_kept p zero (xs ∷ sets) = omega arith
count_kept p (suc v) (xs ∷ sets) = let same = count_kept p v sets in omega (arith, same)

pub few_at : (p : ℤ → Bool) (t : Term) (sets : List (List ℤ)) → count_of (kept_at p t sets) ≤ count_of sets
few_at p (Var v) sets = few_kept p (number_of v) sets
few_at p (Const k) sets = omega arith
few_at p (Not v) sets = few_kept (λ b. p (pos 1 -ℤ b)) (number_of v) sets

pub all_at : (p : ℤ → Bool) (t : Term) (sets : List (List ℤ)) → count_of (kept_at p t sets) ≡ count_of sets → kept_at p t sets ≡ sets
all_at p (Var v) sets same = all_kept p (number_of v) sets same
all_at p (Const k) sets same = refl
all_at p (Not v) sets same = all_kept (λ b. p (pos 1 -ℤ b)) (number_of v) sets same

-- a member that doesn't pass makes fewer
pub fewer_at : (p : ℤ → Bool) (t : Term) (sets : List (List ℤ)) (a : ℤ) → SomePasses p t sets → PlaceHas sets t a → p a ≡ false → count_of (kept_at p t sets) < count_of sets
fewer_at p (Var v) sets a some has out =
    let less = fewer_left p (set_of sets (number_of v)) a has out in
    let count = count_kept p (number_of v) sets in
    omega (arith, less, count)
fewer_at p (Const k) sets a some has out = absurd (true≢false (sym some.passes ∙ (ap p (sym some.there ∙ has) ∙ out)))
fewer_at p (Not v) sets a some has out =
    let less = fewer_left (λ b. p (pos 1 -ℤ b)) (set_of sets (number_of v)) (pos 1 -ℤ a) has (ap p (back a) ∙ out) in
    let count = count_kept (λ b. p (pos 1 -ℤ b)) (number_of v) sets in
    omega (arith, less, count)
