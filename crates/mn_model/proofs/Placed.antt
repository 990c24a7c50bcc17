-- The places of forms that stand around others, and what is found or counted part by part.
use Rattle.std.proofs.Common.{◌≡◌, ℕ, zero, suc, ◌+◌, ◌<◌, ◌++◌, min, List, [], ◌∷◌, length, slice_get, Some, IsOk, Result, Ok, Err, refl, sym, ap, ◌∙◌, arith}
use Rattle.std.proofs.lemmas.List.{append_assoc, length-append}
use Rattle.mn_model.specs.Parts.{places, places_of}
use Rattle.mn_model.specs.Places.{IsAt}
use Rattle.mn_model.specs.declared.constraint.Con.{Con}
use Rattle.mn_model.specs.declared.constraint.Cons.{Cons}
use Rattle.mn_model.specs.declared.constraint.Con.TheVariants as made
use Rattle.mn_model.specs.declared.constraint.Term.{Term}
use Rattle.mn_model.proofs.Children.{made_more, made_reified, made_implied, made_negated}

-- the places of a part, and r behind them
pub reified_places : (all c part : Con) (r : Term) → all ≡ made.Reify part r → c ≡ part → places c ++ r ∷ [] ≡ places all
reified_places all c part r is same = ap (λ d. places d ++ r ∷ []) same ∙ sym (ap places (is ∙ made_reified part r))

pub implied_places : (all c part : Con) (r : Term) → all ≡ made.Reifyimply part r → c ≡ part → places c ++ r ∷ [] ≡ places all
implied_places all c part r is same = ap (λ d. places d ++ r ∷ []) same ∙ sym (ap places (is ∙ made_implied part r))

pub negated_places : (all c part : Con) → all ≡ made.Negated part → c ≡ part → places c ≡ places all
negated_places all c part is same = ap places same ∙ sym (ap places (is ∙ made_negated part))

-- those of the first child in front of those of the others
pub more_places : (all : Cons) (c first : Con) (cs others : Cons) → all ≡ made.More first others → c ≡ first → cs ≡ others → places c ++ places_of cs ≡ places_of all
more_places all c first cs others is same rest = (λ i. places (same i) ++ places_of (rest i)) ∙ sym (ap places_of (is ∙ made_more first others))

pub added_places : (all : Cons) (c first : Con) (cs others : Cons) (before mid : List Term) → all ≡ made.More first others → c ≡ first → cs ≡ others → mid ≡ before ++ places c → mid ++ places_of cs ≡ before ++ places_of all
added_places all c first cs others before mid is same rest added =
    ap (λ ts. ts ++ places_of cs) added ∙ (append_assoc before (places c) (places_of cs) ∙ ap (λ ts. before ++ ts) (more_places all c first cs others is same rest))

-- what is found in a list is found with more behind it
pub get_front : (xs ys : List Term) (i : ℕ) (t : Term) → slice_get xs i ≡ Some t → slice_get (xs ++ ys) i ≡ Some t
get_front [] ys i t is = cc
get_front (x ∷ xs) ys zero t is = is
get_front (x ∷ xs) ys (suc i) t is = get_front xs ys i t is

-- what is found in the list behind it is found further on
pub get_behind : (xs ys : List Term) (i n : ℕ) (t : Term) → i ≡ length xs + n → slice_get ys n ≡ Some t → slice_get (xs ++ ys) i ≡ Some t
get_behind [] ys i n t is at = ap (slice_get ys) (let e : i ≡ n = omega (arith, is) in e) ∙ at
get_behind (x ∷ xs) ys zero n t is at = absurd (omega (arith, is))
get_behind (x ∷ xs) ys (suc i) n t is at = get_behind xs ys i n t (omega (arith, is)) at

pub at_front : (xs ys : List Term) (i : ℕ) (t : Term) → IsAt xs i (Ok t) → IsAt (xs ++ ys) i (Ok t)
at_front xs ys i t found = get_front xs ys i t found

pub at_behind : (xs ys : List Term) (i n : ℕ) (r : Result Term ℕ) → IsAt xs i (Err n) → IsAt ys n r → IsAt (xs ++ ys) i r
at_behind xs ys i n (Ok t) behind at = get_behind xs ys i n t behind at
at_behind xs ys i n (Err left) behind at = omega (arith, length-append xs ys, behind, at)

-- a place that there is is found
pub found_within : (xs : List Term) (i : ℕ) (r : Result Term ℕ) → IsAt xs i r → i < length xs → IsOk r
found_within xs i (Ok t) at within = refl
found_within xs i (Err left) at within = absurd (omega (arith, at, within))

-- counts that stand still at a greatest number are added one after another
pub counted_more : (count a b k sum most : ℕ) → k ≡ min a most → sum ≡ min (count + k) most → min (sum + b) most ≡ min (count + (a + b)) most
counted_more count a b k sum most first added = omega (arith, first, added)
