-- Steps one behind another, towards one property.
use Rattle.std.proofs.Common.{◌≡◌, ℤ, List, Result, Ok, Err, IsErr, subst, sym}
use Rattle.mn_boxes.specs.Boxes.{Inside, IsBox}
use Rattle.mn_prop.specs.Contexts.{Context, box_of, vars_of}
use Rattle.mn_prop.specs.Losses.{Loses, nothing_goes}
use Rattle.mn_prop.specs.Passes.{IsStep, Keeps}
use Rattle.mn_prop.specs.declared.context.Fail.{Fail}
use Rattle.mn_prop.proofs.Stepping.{Property, Rules, loses_more, same_between, same_vars}

-- values alone went so far, by the rule, and each box with the property is left
pub record Going (R : Rules) (P : Property) (old now : Context) : Type 0 where
  pub loses : Loses R old now
  pub sound : Keeps (vars_of old) P (box_of old) (box_of now)

pub begins : {R : Rules} {P : Property} (c : Context) → Going R P c c
begins c = record { loses = nothing_goes c; sound = λ box is i p. i }

-- a step towards what a box with the property has goes on
pub goes_on : {R : Rules} {P Q : Property} {old mid new : Context} {done : Unit {0}} → Going R P old mid → ((box : List (List ℤ)) → IsBox (vars_of old) box → Inside box (box_of mid) → P box → Q box) → IsStep R Q mid new (Ok done) → Going R P old new
goes_on {R = R} {P = P} {Q = Q} {old = old} {mid = mid} {new = new} going less step =
    let next : (box : List (List ℤ)) → IsBox (vars_of mid) box → Inside box (box_of mid) → Q box → Inside box (box_of new) = step.sound in
    record {
      loses = loses_more going.loses step.loses;
      sound = λ box is i p. (let at = going.sound box is i p in next box (subst (λ vars. IsBox vars box) (sym (same_vars going.loses)) is) at (less box is at p));
    }

-- at the end the sets have the property, if nothing went
pub arrives : {R : Rules} {P : Property} {old now : Context} → Going R P old now → (box_of now ≡ box_of old → P (box_of old)) → IsStep R P old now (Ok tt)
arrives going still = record { loses = going.loses; sound = going.sound; fail = tt; still = still }

-- a step that fails ends it
pub goes_wrong : {R : Rules} {P Q : Property} {old mid new : Context} {fail : Fail} {end : Result (Unit {0}) Fail} → Going R P old mid → ((box : List (List ℤ)) → IsBox (vars_of old) box → Inside box (box_of mid) → P box → Q box) → IsStep R Q mid new (Err fail) → IsErr end → IsStep R P old new end
goes_wrong {R = R} {P = P} {Q = Q} {old = old} {mid = mid} {new = new} {fail = fail} {end = Ok done} going less step err = cc
goes_wrong {R = R} {P = P} {Q = Q} {old = old} {mid = mid} {new = new} {fail = fail} {end = Err f} going less step err =
    let none : (box : List (List ℤ)) → IsBox (vars_of mid) box → Inside box (box_of mid) → Q box → ⊥ = step.fail in
    record {
      loses = loses_more going.loses step.loses;
      sound = tt;
      fail = λ box is i p. (let at = going.sound box is i p in none box (subst (λ vars. IsBox vars box) (sym (same_vars going.loses)) is) at (less box is at p));
      still = tt;
    }

-- where nothing is gone after a step, nothing was gone before it
pub same_before : {R S : Rules} {P : Property} {old mid new : Context} → Going R P old mid → Loses S mid new → box_of new ≡ box_of old → box_of mid ≡ box_of old
same_before going loses same = same_between going.loses loses same
