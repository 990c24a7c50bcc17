-- What tests of numbers and of answers tell.
use Rattle.std.proofs.Common.{◌≡◌, ◌↔◌, ℕ, ℤ, pos, ◌≤ℤ◌, int_le, to_z, of_z, nat_eq, w64, Bool, true, false, not, IsTrue, refl, sym, ap, subst, true≢false, ◌∙◌, arith}
use Rattle.std.proofs.lemmas.Bool.Decides.{Decides-eqb}
use Rattle.std.proofs.lemmas.Int.{ints, to_z-of_z}
use Rattle.std.specs.Bool.{Decides}
use Rattle.std.specs.Int.RustNames.{FitsSigned}
use Rattle.mn_model.specs.declared.constraint.Con.{Con}
use Rattle.mn_model.specs.declared.declaration.Tuples.{Tuples}
use Rattle.std.proofs.Common.{List}
use Rattle.mn_meaning.specs.Meaning.{HoldsOver}
use mathlib.Core.Bool.{beq}
use mir.Syntax.{w128}

-- the answer for what a constraint was found to be
pub found_to_be : (lists : List Tuples) (f : ℕ → ℤ) {r : Bool} (c made : Con) → c ≡ made → IsTrue r ↔ HoldsOver lists f made → IsTrue r ↔ HoldsOver lists f c
found_to_be lists f {r} c made is tells = subst (λ (con : Con). IsTrue r ↔ HoldsOver lists f con) (sym is) tells

-- a number that was passed on, and what it is
pub passed : (a b : ℤ) → FitsSigned w64 a → a ≡ b → to_z w64 (of_z w64 a) ≡ b
passed a b fits is = to_z-of_z w64 a fits ∙ is

-- the test of two numbers
pub at_most_told : (x y a b : ℤ) → FitsSigned w128 x → FitsSigned w128 y → x ≡ a → y ≡ b → IsTrue (int_le (to_z w128 (of_z w128 x)) (to_z w128 (of_z w128 y))) ↔ a ≤ℤ b
at_most_told x y a b fits suits is has = (λ e. omega (arith, ints, e), λ le. grind (arith, ints, le))

pub one_told : (a b : ℤ) → FitsSigned w64 a → a ≡ b → Decides (nat_eq (of_z w64 a) 1) (b ≡ pos 1)
one_told a b fits is = (λ e. (let same : of_z w64 a ≡ 1 = (Decides-eqb (of_z w64 a) 1).0 e in omega (arith, ints)), λ e. (Decides-eqb (of_z w64 a) 1).1 (ap (of_z w64) (is ∙ e)))

-- the answers of one that holds exactly where another does, of one that follows, and of one that doesn't hold
pub exactly_told : {P Q : Type 0} (t m : Bool) → Decides t P → IsTrue m ↔ Q → IsTrue (beq t m) ↔ (P ↔ Q)
exactly_told true true tells says = (λ _. (λ _. says.0 refl, λ _. tells.0 refl), λ _. refl)
exactly_told true false tells says = (λ e. absurd (true≢false (sym e)), λ same. absurd (true≢false (sym (says.1 (same.0 (tells.0 refl))))))
exactly_told false true tells says = (λ e. absurd (true≢false (sym e)), λ same. absurd (true≢false (sym (tells.1 (same.1 (says.0 refl))))))
exactly_told false false tells says = (λ _. (λ p. absurd (true≢false (sym (tells.1 p))), λ q. absurd (true≢false (sym (says.1 q)))), λ _. refl)

pub none_follows : {P Q : Type 0} (t : Bool) → Decides t P → t ≡ false → IsTrue (not t) ↔ (P → Q)
none_follows true tells is = absurd (true≢false is)
none_follows false tells is = (λ _ p. absurd (true≢false (sym (tells.1 p))), λ _. refl)

pub follows_told : {P Q : Type 0} (m : Bool) → P → IsTrue m ↔ Q → IsTrue m ↔ (P → Q)
follows_told m p says = (λ e _. says.0 e, λ f. says.1 (f p))

pub not_told : {Q : Type 0} (m : Bool) → IsTrue m ↔ Q → IsTrue (not m) ↔ (Q → ⊥)
not_told true says = (λ e. absurd (true≢false (sym e)), λ never. absurd (never (says.0 refl)))
not_told false says = (λ _ q. true≢false (sym (says.1 q)), λ _. refl)

-- a fact of numbers, told of what they are
pub at_value : (P : ℤ → Type 0) (x a : ℤ) {T : Type 0} → x ≡ a → T ↔ P x → T ↔ P a
at_value P x a {T} is holds = subst (λ (b : ℤ). T ↔ P b) is holds

pub at_two : (P : ℤ → ℤ → Type 0) (x a y b : ℤ) {T : Type 0} → x ≡ a → y ≡ b → T ↔ P x y → T ↔ P a b
at_two P x a y b {T} is has holds = subst (λ (d : ℤ). T ↔ P a d) has (subst (λ (d : ℤ). T ↔ P d y) is holds)

pub at_three : (P : ℤ → ℤ → ℤ → Type 0) (x a y b z d : ℤ) {T : Type 0} → x ≡ a → y ≡ b → z ≡ d → T ↔ P x y z → T ↔ P a b d
at_three P x a y b z d {T} is has gets holds = subst (λ (e : ℤ). T ↔ P a b e) gets (at_two (λ e e2. P e e2 z) x a y b is has holds)
