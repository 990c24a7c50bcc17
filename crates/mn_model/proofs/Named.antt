-- The first of a list that has a name, where no name stands twice.
use Rattle.std.proofs.Common.{◌≡◌, ℕ, zero, suc, Bool, true, false, cond, List, [], ◌∷◌, ◌++◌, slice_get, Some, None, refl, subst, bytes_eq}
use Rattle.std.proofs.lemmas.Slice.Eq.{bytes_eq-Decides}
use Rattle.mn_model.specs.Lawful.{AreNewAfter}
use Rattle.mn_model.specs.Problem.{called}

pub same_bytes : (name : List ℕ) → bytes_eq name name ≡ true
same_bytes name = (bytes_eq-Decides name name).1 refl

module _ {X : Type 0} (name_of : X → List ℕ) where
  -- a name that none of some has none of the first of them has, and the last of them doesn't have it
  pub none_before : (xs ys : List X) (name : List ℕ) → called name_of (xs ++ ys) name ≡ None → called name_of xs name ≡ None
  none_before [] ys name e = refl
  none_before (x ∷ xs) ys name e = by (bytes_eq name (name_of x)) e (none_before xs ys name)
    where
      by : (b : Bool) → cond b (Some x) (called name_of (xs ++ ys) name) ≡ None → (called name_of (xs ++ ys) name ≡ None → called name_of xs name ≡ None) → cond b (Some x) (called name_of xs name) ≡ None
      by true e later = cc
      by false e later = later e

  pub not_last : (xs : List X) (x : X) (name : List ℕ) → called name_of (xs ++ x ∷ []) name ≡ None → bytes_eq name (name_of x) ≡ false
  not_last [] x name e = by (bytes_eq name (name_of x)) e
    where
      by : (b : Bool) → cond b (Some x) None ≡ None → b ≡ false
      by true e = cc
      by false e = refl
  not_last (y ∷ xs) x name e = by (bytes_eq name (name_of y)) e (not_last xs x name)
    where
      by : (b : Bool) → cond b (Some y) (called name_of (xs ++ x ∷ []) name) ≡ None → (called name_of (xs ++ x ∷ []) name ≡ None → bytes_eq name (name_of x) ≡ false) → bytes_eq name (name_of x) ≡ false
      by true e later = cc
      by false e later = later e

  -- the name of a later one isn't among the earlier ones
  pub later_new : (earlier xs : List X) (i : ℕ) (x : X) → AreNewAfter name_of earlier xs → slice_get xs i ≡ Some x → called name_of earlier (name_of x) ≡ None
  later_new earlier [] i x new is = cc
  later_new earlier (y ∷ xs) zero x new is = let same : y ≡ x = cc in subst (λ z. called name_of earlier (name_of z) ≡ None) same new.0
  later_new earlier (y ∷ xs) (suc i) x new is = none_before earlier (y ∷ []) (name_of x) (later_new (earlier ++ y ∷ []) xs i x new.1 is)
