-- What a tree that breaks nothing tells, piece by piece.
use Rattle.std.proofs.Common.{◌≡◌, ℕ, zero, suc, ◌+◌, ◌<◌, ◌≤◌, leb, ltb, Bool, true, false, List, [], ◌∷◌, ◌++◌, Option, Some, None, refl, arith, cond}
use Rattle.std.specs.List.{AllByRecursion, list_all, range_with_len}
use Rattle.std.proofs.lemmas.Bool.{and_parts, ltb-false}
use Rattle.std.proofs.lemmas.Bool.Decides.{nat_tests}
use Rattle.mn_grammar.specs.Places.{Break, when, on, behind}
use Rattle.mn_grammar.specs.declared.Kind.{Kind}
use Rattle.mn_grammar.proofs.Steps.{on_kept}
use Rattle.mn_references.specs.Conditions.{lesser, as_kind, unfit}
use Rattle.mn_references.specs.declared.want.Unfit.{Unfit}
use Rattle.mn_references.specs.declared.want.Unfit.TheVariants.{Form, Length}

pub parts_kept : (bs cs : List Break) → bs ++ cs ≡ [] → (bs ≡ []) × (cs ≡ [])
parts_kept [] cs e = (refl, e)
parts_kept (b ∷ bs) cs e = cc

pub behind_kept : (n : ℕ) (bs : List Break) → behind n bs ≡ [] → bs ≡ []
behind_kept n [] e = refl
behind_kept n (b ∷ bs) e = cc

-- a condition on a token and what is broken behind it
pub token_kept : (c : Option Kind) (n : ℕ) (bs : List Break) → on c ++ behind n bs ≡ [] → (c ≡ None) × (bs ≡ [])
token_kept c n bs e = let parts = parts_kept (on c) (behind n bs) e in (on_kept c parts.0, behind_kept n bs parts.1)

-- a part and what is broken behind it
pub part_kept : (n : ℕ) (bs cs : List Break) → bs ++ behind n cs ≡ [] → (bs ≡ []) × (cs ≡ [])
part_kept n bs cs e = let parts = parts_kept bs (behind n cs) e in (parts.0, behind_kept n cs parts.1)

pub when_kept : (b : Bool) (kind : Kind) → when b kind ≡ None → b ≡ false
when_kept true kind e = cc
when_kept false kind e = refl

pub as_kind_kept : (o : Option Unfit) → as_kind o ≡ None → o ≡ None
as_kind_kept None e = refl
as_kind_kept (Some Form) e = cc
as_kind_kept (Some Length) e = cc

pub unfit_kept : (b : Bool) (u : Unfit) → unfit b u ≡ None → b ≡ false
unfit_kept true u e = cc
unfit_kept false u e = refl

lesser_at : (b : Bool) (j k : Kind) → cond b (Some k) (Some j) ≡ None → ⊥
lesser_at true j k e = cc
lesser_at false j k e = cc

pub lesser_kept : (c d : Option Kind) → lesser c d ≡ None → (c ≡ None) × (d ≡ None)
lesser_kept None d e = (refl, e)
lesser_kept (Some j) None e = cc
lesser_kept (Some j) (Some k) e = absurd (lesser_at _ j k e)

pub not_less : (m n : ℕ) → ltb m n ≡ false → n ≤ m
not_less m n e = ltb-false m n e

pub not_at_most : (m n : ℕ) → leb m n ≡ false → n < m
not_at_most m n e = grind (arith, nat_tests)

-- those of which a test holds
pub all_pass : {X : Type 0} (P : X → Type 0) (test : X → Bool) → ((x : X) → test x ≡ true → P x) → (xs : List X) → list_all test xs ≡ true → AllByRecursion P xs
all_pass P test f [] e = tt
all_pass P test f (x ∷ xs) e = let parts = and_parts (test x) (list_all test xs) e in (f x parts.0, all_pass P test f xs parts.1)

pub range_below : (a n size : ℕ) → a + n ≤ size → AllByRecursion (λ place. place < size) (range_with_len a n)
range_below a zero size fits = tt
range_below a (suc n) size fits = (omega arith, range_below (a + 1) n size (omega arith))
