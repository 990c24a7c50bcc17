-- Parts of a pass, one behind another.
use Rattle.std.proofs.Common.{◌≡◌, ℤ, Bool, false, List, Result, Ok, Err, IsErr, subst, sym, ◌∙◌}
use Rattle.mn_model.specs.declared.constraint.Term.{Term}
use Rattle.mn_boxes.specs.Boxes.{Inside, IsBox}
use Rattle.mn_boxes.specs.Places.{PlaceHas}
use Rattle.mn_boxes.specs.Sets.{Variable}
use Rattle.mn_prop.specs.Contexts.{ChangedAt, Context, IsNamed, box_of, vars_of}
use Rattle.mn_prop.specs.Losses.{Unsupported, nothing_goes}
use Rattle.mn_prop.specs.Passes.{AllPass, IsStep, Narrows}
use Rattle.mn_prop.specs.Posts.{ClosedUnderLeaf, Posted}
use Rattle.mn_prop.specs.declared.context.Fail.{Fail}
use Rattle.mn_prop.proofs.Narrowing.{narrows_as}
use Rattle.mn_prop.proofs.Stepping.{Property, Rules, change_step, failing, loses_more, same_between, same_vars}
use Rattle.mn_arith.specs.Pruning.{IsPart}

-- one that narrows behind another one
narrows_more : {R : Rules} {old mid new : Context} {done : Unit {0}} {result : Result (Unit {0}) Fail} (Q : List Variable → Property) → Narrows R (Q (vars_of old)) old mid (Ok done) → Narrows R (Q (vars_of mid)) mid new result → Narrows R (Q (vars_of old)) old new result
narrows_more {old = old} {mid = mid} {new = new} {result = Ok end} Q one two =
    let first : (box : List (List ℤ)) → IsBox (vars_of old) box → Inside box (box_of old) → Q (vars_of old) box → Inside box (box_of mid) = one.sound in
    let second : (box : List (List ℤ)) → IsBox (vars_of mid) box → Inside box (box_of mid) → Q (vars_of mid) box → Inside box (box_of new) = two.sound in
    let e = sym (same_vars one.loses) in
    record { loses = loses_more one.loses two.loses; sound = λ box is i q. second box (subst (λ vars. IsBox vars box) e is) (first box is i q) (subst (λ vars. Q vars box) e q); fail = tt }
narrows_more {old = old} {mid = mid} {new = new} {result = Err fail} Q one two =
    let first : (box : List (List ℤ)) → IsBox (vars_of old) box → Inside box (box_of old) → Q (vars_of old) box → Inside box (box_of mid) = one.sound in
    let none : (box : List (List ℤ)) → IsBox (vars_of mid) box → Inside box (box_of mid) → Q (vars_of mid) box → ⊥ = two.fail in
    let e = sym (same_vars one.loses) in
    record { loses = loses_more one.loses two.loses; sound = tt; fail = λ box is i q. none box (subst (λ vars. IsBox vars box) e is) (first box is i q) (subst (λ vars. Q vars box) e q) }

abbrev closed_by : Posted → List Variable → Property
closed_by posted vars = ClosedUnderLeaf vars posted

module _ {posted : Posted} where
  -- nothing is done
  pub no_part : {P : Property} (c : Context) → P (box_of c) → IsPart posted P c c (Ok tt)
  no_part c has = record { narrows = record { loses = nothing_goes c; sound = λ box is i closed. i; fail = tt }; still = λ same. has }

  -- a step towards what closed boxes have
  pub part_of_step : {P : Property} {old new : Context} {result : Result (Unit {0}) Fail} → ((box : List (List ℤ)) → IsBox (vars_of old) box → Inside box (box_of old) → ClosedUnderLeaf (vars_of old) posted box → P box) → IsStep (Unsupported posted) P old new result → IsPart posted P old new result
  part_of_step less step = record { narrows = narrows_as less step; still = step.still }

  -- a change of a place
  pub part_of_change : {p : ℤ → Bool} {old new : Context} {result : Result (Unit {0}) Fail} (t : Term) → IsNamed (vars_of old) t → ((a : ℤ) → PlaceHas (box_of old) t a → p a ≡ false → Unsupported posted (box_of old) t a)
      → ((box : List (List ℤ)) → IsBox (vars_of old) box → Inside box (box_of old) → ClosedUnderLeaf (vars_of old) posted box → AllPass p t box) → ChangedAt p t old new result → IsPart posted (AllPass p t) old new result
  part_of_change {p = p} t named goes stays changed = part_of_step stays (change_step p t named goes changed)

  pub part_as : {P Q : Property} {old new : Context} {result : Result (Unit {0}) Fail} → (P (box_of old) → Q (box_of old)) → IsPart posted P old new result → IsPart posted Q old new result
  part_as {result = Ok done} more part = record { narrows = part.narrows; still = λ same. more (part.still same) }
  part_as {result = Err fail} more part = record { narrows = part.narrows; still = tt }

  pub part_then : {P Q : Property} {old mid new : Context} {done : Unit {0}} {result : Result (Unit {0}) Fail} → IsPart posted P old mid (Ok done) → IsPart posted Q mid new result → IsPart posted (λ box. P box × Q box) old new result
  part_then {Q = Q} {old = old} {mid = mid} {result = Ok end} one two = record {
    narrows = narrows_more (closed_by posted) one.narrows two.narrows;
    still = λ same. (let mid_is = same_between one.narrows.loses two.narrows.loses same in (one.still mid_is, subst Q mid_is (two.still (same ∙ sym mid_is))));
  }
  part_then {result = Err fail} one two = record { narrows = narrows_more (closed_by posted) one.narrows two.narrows; still = tt }

  -- one that fails ends the whole
  pub part_stops : {P Q : Property} {old new : Context} {result end : Result (Unit {0}) Fail} (fail : Fail) → result ≡ Err fail → IsErr end → IsPart posted P old new result → IsPart posted Q old new end
  part_stops {result = Ok done} fail is err part = cc
  part_stops {result = Err f} {end = Ok done} fail is err part = cc
  part_stops {result = Err f} {end = Err g} fail is err part = record { narrows = record { loses = part.narrows.loses; sound = tt; fail = part.narrows.fail }; still = tt }

  -- parts that together close the sets are a pass
  pub pass_of : {P : Property} {old new : Context} {result : Result (Unit {0}) Fail} → (P (box_of old) → ClosedUnderLeaf (vars_of old) posted (box_of old)) → IsPart posted P old new result → IsStep (Unsupported posted) (ClosedUnderLeaf (vars_of old) posted) old new result
  pass_of {result = Ok done} closes part = record { loses = part.narrows.loses; sound = part.narrows.sound; fail = tt; still = λ same. closes (part.still same) }
  pass_of {result = Err fail} closes part = failing fail part.narrows.loses part.narrows.fail

  pub pass_stops : {P : Property} {old new : Context} {result end : Result (Unit {0}) Fail} (fail : Fail) → result ≡ Err fail → IsErr end → IsPart posted P old new result → IsStep (Unsupported posted) (ClosedUnderLeaf (vars_of old) posted) old new end
  pass_stops fail is err part = pass_of never (part_stops {Q = λ box. ⊥} fail is err part)
    where
      never : {A : Type 0} → ⊥ → A
      never bot = absurd bot
