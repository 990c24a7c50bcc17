-- Trees that break nothing, piece by piece.
use Rattle.std.proofs.Common.{◌≡◌, ℕ, ◌+◌, ◌<◌, ◌≤◌, ltb, leb, Bool, true, false, List, [], ◌∷◌, ◌++◌, Option, Some, None, if◌then◌else◌, length, refl, sym, ap, subst, arith, length-append}
use Rattle.std.specs.List.{AllByRecursion}
use Rattle.std.proofs.lemmas.Bool.Decides.{nat_tests}
use Rattle.mn_grammar.specs.Places.{Break, when, on, behind}
use Rattle.mn_grammar.specs.declared.Kind.{Kind}

pub on_none : (c : Option Kind) → c ≡ None → on c ≡ []
on_none None e = refl
on_none (Some kind) e = cc

pub behind_nothing : (n : ℕ) (bs : List Break) → bs ≡ [] → behind n bs ≡ []
behind_nothing n [] e = refl
behind_nothing n (b ∷ bs) e = cc

pub both_nothing : (bs cs : List Break) → bs ≡ [] → cs ≡ [] → bs ++ cs ≡ []
both_nothing [] cs e f = f
both_nothing (b ∷ bs) cs e f = cc

-- a part, and what stands behind it
pub part_nothing : (n : ℕ) (bs cs : List Break) → bs ≡ [] → cs ≡ [] → bs ++ behind n cs ≡ []
part_nothing n bs cs e f = both_nothing bs (behind n cs) e (behind_nothing n cs f)

-- a condition on a token, and what stands behind it
pub token_nothing : (c : Option Kind) (n : ℕ) (cs : List Break) → c ≡ None → cs ≡ [] → on c ++ behind n cs ≡ []
token_nothing c n cs e f = part_nothing n (on c) cs (on_none c e) f

pub when_not : (b : Bool) (kind : Kind) → b ≡ false → when b kind ≡ None
when_not true kind e = cc
when_not false kind e = refl

-- two conditions on one token, of which the first comes first
pub first_not : (b : Bool) (kind : Kind) (c : Option Kind) → b ≡ false → c ≡ None → (if b then Some kind else c) ≡ None
first_not true kind c e f = cc
first_not false kind c e f = f

pub ltb_not : (m n : ℕ) → n ≤ m → ltb m n ≡ false
ltb_not m n le = grind (arith, nat_tests)

pub leb_not : (m n : ℕ) → n < m → leb m n ≡ false
leb_not m n less = grind (arith, nat_tests)

-- the entry of a list behind others and before others
pub one_of_all : {X : Type 0} (P : X → Type 0) (whole before : List X) (x : X) (left : List X) → before ++ x ∷ left ≡ whole → AllByRecursion P whole → P x
one_of_all {X = X} P whole before x left e all = at before (subst (λ l. AllByRecursion P l) (sym e) all)
  where
    at : (front : List X) → AllByRecursion P (front ++ x ∷ left) → P x
    at [] here = here.0
    at (y ∷ front) here = at front here.1

pub lengths : {X : Type 0} (whole before : List X) (x : X) (left : List X) → before ++ x ∷ left ≡ whole → length before + (length left + 1) ≡ length whole
lengths whole before x left e = let all = ap length e in let sum = length-append before (x ∷ left) in omega (arith, all, sum)
