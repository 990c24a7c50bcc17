-- Steps that may leave more to be taken, and cuts at a bound.
use Rattle.std.proofs.Common.{◌≡◌, ℤ, ◌<ℤ◌, false, int_le, List, Result, Ok, Err, IsErr, refl, subst, arith}
use Rattle.std.proofs.lemmas.Int.{ints}
use Rattle.mn_model.specs.declared.constraint.Term.{Term}
use Rattle.mn_model.proofs.Ordered.{le_so, le_true}
use Rattle.mn_boxes.specs.Boxes.{Inside, IsBox}
use Rattle.mn_boxes.specs.Sets.{Variable}
use Rattle.mn_prop.specs.Contexts.{ChangedAt, Context, IsNamed, box_of, vars_of}
use Rattle.mn_prop.specs.Losses.{LessAt, LetsGo, MoreAt, Unsupported}
use Rattle.mn_prop.specs.Passes.{AtLeastAt, AtMostAt, IsStep, Narrows}
use Rattle.mn_prop.specs.Posts.{Posted}
use Rattle.mn_prop.specs.declared.context.Fail.{Fail}
use Rattle.mn_prop.proofs.Boxing.{inside_itself}
use Rattle.mn_prop.proofs.Stepping.{Property, Rules, as_step, by_rule, change_step, failing, same_vars, then_step}

-- a step towards one property narrows to each other one that has it
pub narrows_as : {R : Rules} {P Q : Property} {old new : Context} {result : Result (Unit {0}) Fail} → ((box : List (List ℤ)) → IsBox (vars_of old) box → Inside box (box_of old) → Q box → P box) → IsStep R P old new result → Narrows R Q old new result
narrows_as {R = R} {P = P} {Q = Q} {old = old} {new = new} {result = Ok done} less step = record { loses = step.loses; sound = λ box is i q. step.sound box is i (less box is i q); fail = tt }
narrows_as {R = R} {P = P} {Q = Q} {old = old} {new = new} {result = Err fail} less step = record { loses = step.loses; sound = tt; fail = λ box is i q. step.fail box is i (less box is i q) }

-- a step behind one that narrows is a step of both
pub narrows_step : {R : Rules} {old mid new : Context} {done : Unit {0}} {result : Result (Unit {0}) Fail} (Q : List Variable → Property) → Narrows R (Q (vars_of old)) old mid (Ok done) → IsStep R (Q (vars_of mid)) mid new result → IsStep R (Q (vars_of old)) old new result
narrows_step {R = R} {old = old} {mid = mid} {new = new} {done = done} {result = result} Q one two =
    let kept : IsStep R (λ box. Inside box (box_of mid)) old mid (Ok done) = record { loses = one.loses; sound = λ box is i inside. inside; fail = tt; still = λ same. subst (λ sets. Inside sets (box_of mid)) same (inside_itself (box_of mid)) } in
    let sound : (box : List (List ℤ)) → IsBox (vars_of old) box → Inside box (box_of old) → Q (vars_of old) box → Inside box (box_of mid) = one.sound in
    as_step (λ box is i q. (sound box is i q, q)) (λ both. both.1) (then_step kept (subst (λ vars. IsStep R (Q vars) mid new result) (same_vars one.loses) two))

pub narrows_stop : {R : Rules} {Q : Property} {old mid : Context} {result end : Result (Unit {0}) Fail} (fail : Fail) → result ≡ Err fail → Narrows R Q old mid result → IsErr end → IsStep R Q old mid end
narrows_stop {R = R} {Q = Q} {old = old} {mid = mid} {result = Ok done} {end = end} fail is narrows err = cc
narrows_stop {R = R} {Q = Q} {old = old} {mid = mid} {result = Err f} {end = Ok done} fail is narrows err = cc
narrows_stop {R = R} {Q = Q} {old = old} {mid = mid} {result = Err f} {end = Err g} fail is narrows err = failing g narrows.loses narrows.fail

-- ---- cuts

less_out : (bound a : ℤ) → int_le bound a ≡ false → a <ℤ bound
less_out bound a e = grind (arith, ints)

more_out : (bound a : ℤ) → int_le a bound ≡ false → bound <ℤ a
more_out bound a e = grind (arith, ints)

pub low_step : {old new : Context} {result : Result (Unit {0}) Fail} (bound : ℤ) (t : Term) → IsNamed (vars_of old) t → ChangedAt (λ x. int_le bound x) t old new result → IsStep (LessAt t bound) (AtLeastAt t bound) old new result
low_step bound t named changed =
    as_step (λ box lawful i all a has. le_true bound a (all a has)) (λ all a has. le_so bound a (all a has)) (change_step (λ x. int_le bound x) t named (λ a has out. (refl, less_out bound a out)) changed)

pub high_step : {old new : Context} {result : Result (Unit {0}) Fail} (bound : ℤ) (t : Term) → IsNamed (vars_of old) t → ChangedAt (λ x. int_le x bound) t old new result → IsStep (MoreAt t bound) (AtMostAt t bound) old new result
high_step bound t named changed =
    as_step (λ box lawful i all a has. le_true a bound (all a has)) (λ all a has. le_so a bound (all a has)) (change_step (λ x. int_le x bound) t named (λ a has out. (refl, more_out bound a out)) changed)

-- ---- what a pass lets go

-- a leaf's propagator lets go what isn't supported
pub as_pass : {P : Property} {old new : Context} {result : Result (Unit {0}) Fail} (posted : Posted) → IsStep (Unsupported posted) P old new result → IsStep (LetsGo posted) P old new result
as_pass posted step = by_rule (λ box inside t a has out. (out.0, out.1, λ leaf. out.2)) step
