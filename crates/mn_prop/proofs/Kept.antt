-- Values that stay at a place, and how large they are.
use Rattle.std.proofs.Common.{◌≡◌, ℕ, zero, suc, ℤ, pos, ◌-ℤ◌, ◌+ℤ◌, Bool, true, List, [], ◌∷◌, FitsSigned, w64, refl, sym, subst, ap, ◌∙◌, arith}
use Rattle.std.proofs.lemmas.Int.{ints}
use Rattle.mn_model.specs.Domain.{Has}
use Rattle.mn_model.specs.Lawful.{IsNear, IsNearTerm}
use Rattle.mn_model.specs.Parts.{places}
use Rattle.mn_model.specs.Variable.{number_of, variable}
use Rattle.mn_model.specs.declared.constraint.Con.{Con}
use Rattle.mn_model.specs.declared.constraint.Term.{Term}
use Rattle.mn_model.specs.declared.constraint.Term.TheVariants.{Var, Const, Not}
use Rattle.mn_model.specs.declared.declaration.Tuples.{Tuples}
use Rattle.mn_model.proofs.Filtered.{filter_has}
use Rattle.mn_model.proofs.Lists.{all_at}
use Rattle.mn_boxes.specs.Boxes.{IsBox, set_of}
use Rattle.mn_boxes.specs.Places.{PlaceHas}
use Rattle.mn_boxes.specs.Sets.{Variable}
use Rattle.mn_closure.specs.Supports.{StandsAt}
use Rattle.mn_domains.specs.Changes.{kept}
use Rattle.mn_prop.specs.Contexts.{AreValued, kept_at}
use Rattle.mn_prop.specs.Posts.{IsReady}
use Rattle.mn_prop.proofs.PlaceLemmas.{back}
use Rattle.mn_prop.proofs.Valued.{valued_at}

kept_has : (q : ℤ → Bool) (v w : ℕ) (sets : List (List ℤ)) (a : ℤ) → Has (set_of sets w) a → (v ≡ w → q a ≡ true) → Has (set_of (kept q v sets) w) a
kept_has q v w [] a has same = absurd has
kept_has q zero zero (xs ∷ sets) a has same = filter_has q xs a has (same refl)
kept_has q zero (suc w) (xs ∷ sets) a has same = has
kept_has q (suc v) zero (xs ∷ sets) a has same = has
kept_has q (suc v) (suc w) (xs ∷ sets) a has same = kept_has q v w sets a has (λ e. same (ap suc e))

-- a value that passes stays at the place itself
pub stays_here : (p : ℤ → Bool) (t : Term) (sets : List (List ℤ)) (a : ℤ) → PlaceHas sets t a → p a ≡ true → PlaceHas (kept_at p t sets) t a
stays_here p (Var v) sets a has passes = kept_has p (number_of v) (number_of v) sets a has (λ e. passes)
stays_here p (Const k) sets a has passes = has
stays_here p (Not v) sets a has passes = kept_has (λ b. p (pos 1 -ℤ b)) (number_of v) (number_of v) sets (pos 1 -ℤ a) has (λ e. ap p (back a) ∙ passes)

-- a value of u stays where values of t go: where both name one variable, if it passes itself, or one less it does
pub stays_at : (p : ℤ → Bool) (t u : Term) (sets : List (List ℤ)) (a : ℤ) → PlaceHas sets u a → (t ≡ u → p a ≡ true) → (((d : ℤ) → PlaceHas sets t d → PlaceHas sets u (pos 1 -ℤ d)) → p (pos 1 -ℤ a) ≡ true) → PlaceHas (kept_at p t sets) u a
stays_at p (Const k) u sets a has own turned = has
stays_at p (Var v) (Const k) sets a has own turned = has
stays_at p (Not v) (Const k) sets a has own turned = has
stays_at p (Var v) (Var w) sets a has own turned = kept_has p (number_of v) (number_of w) sets a has (λ e. own (ap (λ n. Var (variable n)) e))
stays_at p (Var v) (Not w) sets a has own turned =
    kept_has p (number_of v) (number_of w) sets (pos 1 -ℤ a) has (λ e. turned (λ d at. subst (λ n. Has (set_of sets n) (pos 1 -ℤ (pos 1 -ℤ d))) e (subst (Has (set_of sets (number_of v))) (sym (back d)) at)))
stays_at p (Not v) (Var w) sets a has own turned =
    kept_has (λ b. p (pos 1 -ℤ b)) (number_of v) (number_of w) sets a has (λ e. turned (λ d at. subst (λ n. Has (set_of sets n) (pos 1 -ℤ d)) e at))
stays_at p (Not v) (Not w) sets a has own turned =
    kept_has (λ b. p (pos 1 -ℤ b)) (number_of v) (number_of w) sets (pos 1 -ℤ a) has (λ e. ap p (back a) ∙ own (ap (λ n. Not (variable n)) e))

-- the values of a place are at most one past the limits
pub near_at : (vars : List Variable) (lists : List Tuples) (c : Con) (box : List (List ℤ)) (i : ℕ) (t : Term) (a : ℤ) → IsBox vars box → AreValued vars → IsReady vars lists c → StandsAt c i t → PlaceHas box t a → IsNear a
near_at vars lists c box i t a is valued ready stands has = by t (all_at IsNearTerm (places c) i t ready.meant.near.places stands) has
  where
    by : (u : Term) → IsNearTerm u → PlaceHas box u a → IsNear a
    by (Var v) near has = let value = valued_at vars box (number_of v) a is valued has in (omega (arith, ints, value.0), omega (arith, ints, value.1))
    by (Const k) near has = subst IsNear has near
    by (Not v) near has = let value = valued_at vars box (number_of v) (pos 1 -ℤ a) is valued has in (omega (arith, ints, value.0, value.1), omega (arith, ints, value.0, value.1))

-- so sums and differences of two fit
pub sum_fits : (a b : ℤ) → IsNear a → IsNear b → FitsSigned w64 (a +ℤ b)
sum_fits a b one two = let low = one.0 in let high = one.1 in let from = two.0 in let to = two.1 in omega (arith, ints)

pub difference_fits : (a b : ℤ) → IsNear a → IsNear b → FitsSigned w64 (a -ℤ b)
difference_fits a b one two = let low = one.0 in let high = one.1 in let from = two.0 in let to = two.1 in omega (arith, ints)
