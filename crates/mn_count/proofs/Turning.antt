-- Loops each turn of which is a step towards a property of its own.
use Rattle.std.proofs.Common.{◌≡◌, ℕ, ◌+◌, ◌<◌, ℤ, List, Result, Ok, Err, IsErr, sym, subst, ◌∙◌, arith}
use borrow.Author.Count.{below_more}
use Rattle.mn_boxes.specs.Boxes.{Inside, IsBox}
use Rattle.mn_prop.specs.Contexts.{Context, box_of, vars_of}
use Rattle.mn_prop.specs.Passes.{IsStep}
use Rattle.mn_prop.specs.declared.context.Fail.{Fail}
use Rattle.mn_prop.proofs.Going.{Going, arrives, begins, goes_on, goes_wrong, same_before}
use Rattle.mn_prop.proofs.Stepping.{Property, Rules}

-- n turns are done
pub record TurnsTo (R : Rules) (P : Property) (Q : ℕ → Property) (old now : Context) (n : ℕ) : Type 0 where
  pub going : Going R P old now
  pub before : box_of now ≡ box_of old → (i : ℕ) → i < n → Q i (box_of old)

pub no_turn : {R : Rules} {P : Property} (Q : ℕ → Property) (c : Context) → TurnsTo R P Q c c 0
no_turn Q c = record { going = begins c; before = λ same j less. absurd (omega (arith, less)) }

pub one_more_turn : {R : Rules} {P : Property} (Q : ℕ → Property) {old now new : Context} {n : ℕ} {done : Unit {0}} → TurnsTo R P Q old now n → ((box : List (List ℤ)) → IsBox (vars_of old) box → Inside box (box_of now) → P box → Q n box) → IsStep R (Q n) now new (Ok done) → TurnsTo R P Q old new (n + 1)
one_more_turn Q {old = old} {now = now} {new = new} {n = n} turns less step = record {
  going = goes_on turns.going less step;
  before = λ same j within.
      (let unchanged : box_of now ≡ box_of old = same_before turns.going step.loses same in
      let still : box_of new ≡ box_of now → Q n (box_of now) = step.still in
      below_more (λ k. Q k (box_of old)) n (turns.before unchanged) (subst (Q n) unchanged (still (same ∙ sym unchanged))) j within);
}

-- one that does nothing, since there is nothing to do
pub passed_turn : {R : Rules} {P : Property} (Q : ℕ → Property) {old now : Context} {n : ℕ} → TurnsTo R P Q old now n → Q n (box_of old) → TurnsTo R P Q old now (n + 1)
passed_turn Q {old = old} {n = n} turns here = record { going = turns.going; before = λ same j within. below_more (λ k. Q k (box_of old)) n (turns.before same) here j within }

pub turn_fails : {R : Rules} {P : Property} (Q : ℕ → Property) {old now new : Context} {n : ℕ} {fail : Fail} {end : Result (Unit {0}) Fail} → TurnsTo R P Q old now n → ((box : List (List ℤ)) → IsBox (vars_of old) box → Inside box (box_of now) → P box → Q n box) → IsStep R (Q n) now new (Err fail) → IsErr end → IsStep R P old new end
turn_fails Q turns less step err = goes_wrong turns.going less step err

pub all_turned : {R : Rules} {P : Property} (Q : ℕ → Property) {old now : Context} {n : ℕ} → TurnsTo R P Q old now n → (((i : ℕ) → i < n → Q i (box_of old)) → P (box_of old)) → IsStep R P old now (Ok tt)
all_turned Q turns enough = arrives turns.going (λ same. enough (turns.before same))
