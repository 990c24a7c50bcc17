-- The candidates among the first places.
use Rattle.std.proofs.Common.{◌≡◌, ℕ, zero, suc, ◌+◌, ◌<◌, ◌≤◌, ◌==◌, Bool, true, false, cond, List, [], ◌∷◌, ◌++◌, append-nil, length, take, get_or, Option, Some, None, option_map, refl, ap, ◌∙◌, arith, not, IsNone, ◌↔◌}
use Rattle.std.proofs.Math.Numerals.{add-one}
use Rattle.std.proofs.lemmas.List.{take_all}
use Rattle.std.proofs.lemmas.Bool.{eqb-true}
use Rattle.std.specs.List.{AllByRecursion, list_any, position_from}
use Rattle.mn_order.proofs.Scans.{AreWhole, one_more}
use Rattle.mn_order.specs.Better.{better_of, better_of_two}
use Rattle.mn_order.specs.Choose.{AreSizes, beats, candidates_from, choose, first_unbeaten}
use Rattle.mn_order.specs.declared.choice.Choice.{Choice}
use Rattle.mn_order.specs.declared.choice.Choice.TheVariants.{Fixed}
use Rattle.mn_order.specs.declared.scan.Candidate.{Candidate}

pub same_length : (now declared : List ℕ) → AreSizes now declared → length now ≡ length declared
same_length [] [] sizes = refl
same_length [] (whole ∷ declared) sizes = absurd sizes
same_length (size ∷ now) [] sizes = absurd sizes
same_length (size ∷ now) (whole ∷ declared) sizes = ap suc (same_length now declared sizes.3)

pub within : (now declared : List ℕ) (i : ℕ) → AreSizes now declared → i < length now → i < length declared
within now declared i sizes less = rw (← same_length now declared sizes) less

take_sizes : (i : ℕ) (now declared : List ℕ) → AreSizes now declared → AreSizes (take i now) (take i declared)
take_sizes zero now declared sizes = tt
take_sizes (suc i) [] [] sizes = tt
take_sizes (suc i) [] (whole ∷ declared) sizes = absurd sizes
take_sizes (suc i) (size ∷ now) [] sizes = absurd sizes
take_sizes (suc i) (size ∷ now) (whole ∷ declared) sizes = (sizes.0, sizes.1, sizes.2, take_sizes i now declared sizes.3)

at_least_one : (size whole : ℕ) → 1 ≤ size → size ≤ whole → 1 ≤ whole
at_least_one size whole some within = omega arith

whole_if : (b : Bool) (p : Candidate) (ps : List Candidate) → 1 ≤ p.whole → AreWhole ps → AreWhole (cond b ps (p ∷ ps))
whole_if true p ps some whole = whole
whole_if false p ps some whole = (some, whole)

are_whole : (n : ℕ) (now declared : List ℕ) → AreSizes now declared → AreWhole (candidates_from n now declared)
are_whole n [] declared sizes = tt
are_whole n (size ∷ now) [] sizes = tt
are_whole n (size ∷ now) (whole ∷ declared) sizes =
    whole_if (size == 1) (record { place = n; size = size; whole = whole }) (candidates_from (n + 1) now declared) (at_least_one size whole sizes.0 sizes.1) (are_whole (n + 1) now declared sizes.3)

-- a place as a candidate, where it has more than one value
abbrev pub candidate_at : ℕ → ℕ → ℕ → List Candidate
candidate_at place size whole = cond (size == 1) [] (record { place = place; size = size; whole = whole } ∷ [])

passed_over : (b : Bool) (p : Candidate) (ps qs : List Candidate) → cond b (ps ++ qs) (p ∷ (ps ++ qs)) ≡ cond b ps (p ∷ ps) ++ qs
passed_over true p ps qs = refl
passed_over false p ps qs = refl

first_place : (b : Bool) (p : Candidate) → cond b [] (p ∷ []) ≡ [] ++ cond b [] (p ∷ [])
first_place b p = refl

-- the candidates of one place more
candidates_more : (n i place : ℕ) (now declared : List ℕ) → n + i ≡ place → AreSizes now declared → i < length now
    → candidates_from n (take (suc i) now) (take (suc i) declared) ≡ candidates_from n (take i now) (take i declared) ++ candidate_at place (get_or now i 0) (get_or declared i 0)
candidates_more n i place [] declared is sizes less = absurd (omega arith)
candidates_more n i place (size ∷ now) [] is sizes less = absurd sizes
candidates_more n zero place (size ∷ now) (whole ∷ declared) is sizes less = let here : n ≡ place = omega arith in rw here refl
candidates_more n (suc i) place (size ∷ now) (whole ∷ declared) is sizes less =
    rw (candidates_more (n + 1) i place now declared (omega arith) sizes.3 (omega arith))
    (passed_over (size == 1) (record { place = n; size = size; whole = whole }) (candidates_from (n + 1) (take i now) (take i declared)) (candidate_at place (get_or now i 0) (get_or declared i 0)))

-- the best of the first i places is known
pub record IsBestOf (choice : Choice) (now declared : List ℕ) (i : ℕ) (best : Option Candidate) : Type 0 where
  pub first : best ≡ first_unbeaten choice (candidates_from 0 (take i now) (take i declared))
  pub empty : best ≡ None → candidates_from 0 (take i now) (take i declared) ≡ []

pub best_of_none : (choice : Choice) (now declared : List ℕ) → IsBestOf choice now declared 0 None
best_of_none choice now declared = record { first = refl; empty = λ e. refl }

better_is_some : (choice : Choice) (best : Option Candidate) (next : Candidate) → better_of_two choice best next ≡ None → ⊥
better_is_some choice None next e = cc
better_is_some choice (Some first) next e = by_test (beats choice next first) e
  where
    by_test : (beaten : Bool) → cond beaten (Some next) (Some first) ≡ None → ⊥
    by_test true f = cc
    by_test false f = cc

one_place : (choice : Choice) (one : Bool) (done more : List Candidate) (next : Candidate) (best : Option Candidate) → AreWhole done → best ≡ first_unbeaten choice done → (best ≡ None → done ≡ [])
    → more ≡ done ++ cond one [] (next ∷ [])
    → (cond one best (better_of_two choice best next) ≡ first_unbeaten choice more) × (cond one best (better_of_two choice best next) ≡ None → more ≡ [])
one_place choice true done more next best whole is none e = rw (e, append-nil) (is, none)
one_place choice false done more next best whole is none e = rw e (one_more choice done next best whole is none, λ f. absurd (better_is_some choice best next f))

-- and then that of one more
pub best_of_more : (choice : Choice) (now declared : List ℕ) (i : ℕ) (best result : Option Candidate) → AreSizes now declared → i < length now → IsBestOf choice now declared i best
    → result ≡ better_of choice best (record { place = i; size = get_or now i 0; whole = get_or declared i 0 }) → IsBestOf choice now declared (i + 1) result
best_of_more choice now declared i best result sizes less known is =
    let both = one_place choice (get_or now i 0 == 1) (candidates_from 0 (take i now) (take i declared)) (candidates_from 0 (take (suc i) now) (take (suc i) declared)) (record { place = i; size = get_or now i 0; whole = get_or declared i 0 }) best
    (are_whole 0 (take i now) (take i declared) (take_sizes i now declared sizes)) known.first known.empty (candidates_more 0 i i now declared (omega arith) sizes less) in
    rw (is, add-one i) (record { first = both.0; empty = both.1 })

-- the best of all places is the one that is chosen
pub best_of_all : (choice : Choice) (now declared : List ℕ) (i : ℕ) (best : Option Candidate) → AreSizes now declared → length now ≤ i → IsBestOf choice now declared i best → option_map (λ p. p.place) best ≡ choose choice now declared
best_of_all choice now declared i best sizes all known =
    let declared_all : length declared ≤ i = rw (← same_length now declared sizes) all in
    rw known.first (rw (take_all i now all, take_all i declared declared_all) refl)

none_of_fixed : (p : Candidate) (ps : List Candidate) → list_any (λ q. beats Fixed q p) ps ≡ false
none_of_fixed p [] = refl
none_of_fixed p (q ∷ ps) = none_of_fixed p ps

pub fixed_first : (p : Candidate) (ps : List Candidate) → first_unbeaten Fixed (p ∷ ps) ≡ Some p
fixed_first p ps = rw (none_of_fixed p ps) refl

-- without an order of sizes it is the first that doesn't have one value
pub first_is_fixed : (n : ℕ) (now declared : List ℕ) → AreSizes now declared → position_from (λ size. not (size == 1)) n now ≡ option_map (λ p. p.place) (first_unbeaten Fixed (candidates_from n now declared))
first_is_fixed n [] declared sizes = refl
first_is_fixed n (size ∷ now) [] sizes = absurd sizes
first_is_fixed n (size ∷ now) (whole ∷ declared) sizes = by_test (size == 1) refl (first_is_fixed (n + 1) now declared sizes.3)
  where
    by_test : (one : Bool) → (size == 1) ≡ one → position_from (λ size. not (size == 1)) (n + 1) now ≡ option_map (λ p. p.place) (first_unbeaten Fixed (candidates_from (n + 1) now declared))
        → position_from (λ size. not (size == 1)) n (size ∷ now) ≡ option_map (λ p. p.place) (first_unbeaten Fixed (candidates_from n (size ∷ now) (whole ∷ declared)))
    by_test true e later = rw e later
    by_test false e later = rw e (rw (none_of_fixed (record { place = n; size = size; whole = whole }) (candidates_from (n + 1) now declared)) refl)

-- of any lists of sizes some best is known
known_best : (choice : Choice) (now declared : List ℕ) (i : ℕ) → AreSizes now declared → i ≤ length now → (best : Option Candidate) × IsBestOf choice now declared i best
known_best choice now declared zero sizes within = (None, best_of_none choice now declared)
known_best choice now declared (suc i) sizes within =
    let before = known_best choice now declared i sizes (omega arith) in
    let next : Candidate = record { place = i; size = get_or now i 0; whole = get_or declared i 0 } in
    (better_of choice before.0 next, rw add-one at (best_of_more choice now declared i before.0 (better_of choice before.0 next) sizes (omega arith) before.1 refl))

-- so there is none only where there are no candidates
none_unbeaten : (choice : Choice) (now declared : List ℕ) → AreSizes now declared → first_unbeaten choice (candidates_from 0 now declared) ≡ None → candidates_from 0 now declared ≡ []
none_unbeaten choice now declared sizes e =
    let known = known_best choice now declared (length now) sizes (omega arith) in
    let all : take (length now) now ≡ now = take_all (length now) now (omega arith) in
    let declared_all : take (length now) declared ≡ declared = take_all (length now) declared (rw (same_length now declared sizes) (omega arith)) in
    let first : known.0 ≡ first_unbeaten choice (candidates_from 0 now declared) = rw (all, declared_all) at known.1.first in
    rw (all, declared_all) at (known.1.empty (first ∙ e))

all_one : (n : ℕ) (now declared : List ℕ) → AreSizes now declared → candidates_from n now declared ≡ [] → AllByRecursion (λ size. size ≡ 1) now
all_one n [] declared sizes e = tt
all_one n (size ∷ now) [] sizes e = absurd sizes
all_one n (size ∷ now) (whole ∷ declared) sizes e = by_test (size == 1) refl (all_one (n + 1) now declared sizes.3)
  where
    by_test : (one : Bool) → (size == 1) ≡ one → (candidates_from (n + 1) now declared ≡ [] → AllByRecursion (λ size. size ≡ 1) now) → AllByRecursion (λ size. size ≡ 1) (size ∷ now)
    by_test true is later = (eqb-true size 1 is, later (rw is at e))
    by_test false is later = let filled : record { place = n; size = size; whole = whole } ∷ candidates_from (n + 1) now declared ≡ [] = rw is at e in absurd cc

one_all : (n : ℕ) (now declared : List ℕ) → AllByRecursion (λ size. size ≡ 1) now → candidates_from n now declared ≡ []
one_all n [] declared all = refl
one_all n (size ∷ now) [] all = refl
one_all n (size ∷ now) (whole ∷ declared) all = rw all.0 (one_all (n + 1) now declared all.1)

is_none_place : (best : Option Candidate) → IsNone (option_map (λ p. p.place) best) → best ≡ None
is_none_place None e = refl
is_none_place (Some p) e = cc

-- no place is named exactly where each set has one value
pub none_where_one : (choice : Choice) (now declared : List ℕ) (place : Option ℕ) → AreSizes now declared → place ≡ choose choice now declared → IsNone place ↔ AllByRecursion (λ size. size ≡ 1) now
none_where_one choice now declared place sizes is =
    rw is (
      λ none. all_one 0 now declared sizes (none_unbeaten choice now declared sizes (is_none_place (first_unbeaten choice (candidates_from 0 now declared)) none)),
      λ all. rw (one_all 0 now declared all) refl,
    )
