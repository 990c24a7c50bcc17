-- What the best candidate so far becomes, where there is one more.
use Rattle.std.proofs.Common.{◌≡◌, ◌≤◌, Bool, true, false, not, ◌||◌, List, [], ◌∷◌, ◌++◌, find, Option, Some, None, refl, sym, ap, ◌∙◌}
use Rattle.std.proofs.lemmas.List.Folds.{list_any-append}
use Rattle.std.specs.List.{AllByRecursion, list_any}
use Rattle.std.proofs.lemmas.Bool.{not-false, not-true, or_from, or_left, or_parts, or_right}
use Rattle.mn_order.proofs.Beaten.{none_beats_itself, beaten_beats_not, beats_more}
use Rattle.mn_order.specs.Better.{better_of_two}
use Rattle.mn_order.specs.Choose.{beats, first_unbeaten}
use Rattle.mn_order.specs.declared.choice.Choice.{Choice}
use Rattle.mn_order.specs.declared.scan.Candidate.{Candidate}

-- each candidate has declared values
abbrev pub AreWhole : List Candidate → Type 0
AreWhole candidates = AllByRecursion (λ q. 1 ≤ q.whole) candidates

-- where none of the front passes, the last one alone can
find_last : {X : Type 0} (f : X → Bool) (xs : List X) (y : X) → AllByRecursion (λ x. f x ≡ false) xs → f y ≡ true → find f (xs ++ y ∷ []) ≡ Some y
find_last f [] y none last = rw last refl
find_last f (x ∷ xs) y none last = rw none.0 (find_last f xs y none.1 last)

-- what is found stays found where fewer pass, but it does
found_stays : {X : Type 0} (f g : X → Bool) → ((x : X) → f x ≡ false → g x ≡ false) → (xs ys : List X) (y : X) → find f xs ≡ Some y → g y ≡ true → find g (xs ++ ys) ≡ Some y
found_stays f g fewer [] ys y found passes = cc
found_stays f g fewer (x ∷ xs) ys y found passes = by_test (f x) refl (found_stays f g fewer xs ys y)
  where
    by_test : (b : Bool) → f x ≡ b → (find f xs ≡ Some y → g y ≡ true → find g (xs ++ ys) ≡ Some y) → find g (x ∷ xs ++ ys) ≡ Some y
    by_test true e later = let here : Some x ≡ Some y = rw e at found in let same : x ≡ y = cc in rw (ap g same ∙ passes) (ap Some same)
    by_test false e later = rw (fewer x e) (later (rw e at found) passes)

-- what is found passes
passes_found : {X : Type 0} (f : X → Bool) (xs : List X) (y : X) → find f xs ≡ Some y → f y ≡ true
passes_found f [] y found = cc
passes_found f (x ∷ xs) y found = by_test (f x) refl (passes_found f xs y)
  where
    by_test : (b : Bool) → f x ≡ b → (find f xs ≡ Some y → f y ≡ true) → f y ≡ true
    by_test true e later = let here : Some x ≡ Some y = rw e at found in let same : x ≡ y = cc in ap f (sym same) ∙ e
    by_test false e later = later (rw e at found)

none_pass : {X : Type 0} (f : X → Bool) (xs : List X) → list_any f xs ≡ false → AllByRecursion (λ x. f x ≡ false) xs
none_pass f [] e = tt
none_pass f (x ∷ xs) e = let both = or_parts (f x) (list_any f xs) e in (both.0, none_pass f xs both.1)

any_false : {X : Type 0} (f : X → Bool) (xs : List X) → AllByRecursion (λ x. f x ≡ false) xs → list_any f xs ≡ false
any_false f [] none = refl
any_false f (x ∷ xs) none = rw none.0 (any_false f xs none.1)

each : {X : Type 0} (P Q : X → Type 0) → ((x : X) → P x → Q x) → (xs : List X) → AllByRecursion P xs → AllByRecursion Q xs
each P Q step [] all = tt
each P Q step (x ∷ xs) all = (step x all.0, each P Q step xs all.1)

-- none of these beats x
abbrev pub is_unbeaten : Choice → List Candidate → Candidate → Bool
is_unbeaten choice ps x = not (list_any (λ q. beats choice q x) ps)

-- one that the last beats is beaten
beaten_by_last : (choice : Choice) (ps : List Candidate) (p x : Candidate) → beats choice p x ≡ true → is_unbeaten choice (ps ++ p ∷ []) x ≡ false
beaten_by_last choice ps p x e =
    rw (list_any-append (λ q. beats choice q x) ps (p ∷ []), or_right (list_any (λ q. beats choice q x) ps) (beats choice p x || false) (or_left _ false e)) refl

-- and so is one that is beaten already
beaten_before : (choice : Choice) (ps : List Candidate) (p x : Candidate) → is_unbeaten choice ps x ≡ false → is_unbeaten choice (ps ++ p ∷ []) x ≡ false
beaten_before choice ps p x e =
    rw (list_any-append (λ q. beats choice q x) ps (p ∷ []), or_left (list_any (λ q. beats choice q x) ps) (beats choice p x || false) (not-false _ e)) refl

unbeaten_by_last : (choice : Choice) (ps : List Candidate) (p x : Candidate) → list_any (λ q. beats choice q x) ps ≡ false → beats choice p x ≡ false → is_unbeaten choice (ps ++ p ∷ []) x ≡ true
unbeaten_by_last choice ps p x e f =
    rw (list_any-append (λ q. beats choice q x) ps (p ∷ []), or_from (list_any (λ q. beats choice q x) ps) (beats choice p x || false) e (or_from _ false f refl)) refl

-- what beats the unbeaten one beats all
beats_all : (choice : Choice) (ps : List Candidate) (p b : Candidate) → AreWhole ps → beats choice p b ≡ true → AllByRecursion (λ q. beats choice q b ≡ false) ps → AllByRecursion (λ q. beats choice p q ≡ true) ps
beats_all choice [] p b whole e none = tt
beats_all choice (q ∷ ps) p b whole e none = (beats_more choice p b q whole.0 e none.0, beats_all choice ps p b whole.1 e none.1)

last_is_first : (choice : Choice) (ps : List Candidate) (p : Candidate) → AllByRecursion (λ q. beats choice p q ≡ true) ps → first_unbeaten choice (ps ++ p ∷ []) ≡ Some p
last_is_first choice ps p all =
    find_last (is_unbeaten choice (ps ++ p ∷ [])) ps p
    (each (λ q. beats choice p q ≡ true) (λ q. is_unbeaten choice (ps ++ p ∷ []) q ≡ false) (λ q e. beaten_by_last choice ps p q e) ps all)
    (unbeaten_by_last choice ps p p
    (any_false (λ q. beats choice q p) ps (each (λ q. beats choice p q ≡ true) (λ q. beats choice q p ≡ false) (λ q e. beaten_beats_not choice p q e) ps all))
    (none_beats_itself choice p))

-- the first unbeaten of one candidate more
pub one_more : (choice : Choice) (ps : List Candidate) (p : Candidate) (best : Option Candidate) → AreWhole ps → best ≡ first_unbeaten choice ps → (best ≡ None → ps ≡ [])
    → better_of_two choice best p ≡ first_unbeaten choice (ps ++ p ∷ [])
one_more choice ps p None whole is none = let empty : ps ≡ [] = none refl in rw empty (sym (last_is_first choice [] p tt))
one_more choice ps p (Some b) whole is none = by_test (beats choice p b) refl
  where
    unbeaten : list_any (λ q. beats choice q b) ps ≡ false
    unbeaten = not-true _ (passes_found (is_unbeaten choice ps) ps b (sym is))

    by_test : (beaten : Bool) → beats choice p b ≡ beaten → better_of_two choice (Some b) p ≡ first_unbeaten choice (ps ++ p ∷ [])
    by_test true e = rw e (sym (last_is_first choice ps p (beats_all choice ps p b whole e (none_pass (λ q. beats choice q b) ps unbeaten))))
    by_test false e =
        rw e (sym (found_stays (is_unbeaten choice ps) (is_unbeaten choice (ps ++ p ∷ [])) (λ x f. beaten_before choice ps p x f) ps (p ∷ []) b (sym is) (unbeaten_by_last choice ps p b unbeaten e)))
