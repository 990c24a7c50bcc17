-- Two places in order.
use Rattle.std.proofs.Common.{◌≡◌, ℤ, pos, ◌+ℤ◌, ◌-ℤ◌, ◌≤ℤ◌, ◌<ℤ◌, int_le, List, Result, Ok, Err, OnOk, IsErr, refl, sym, subst, arith, true}
use Rattle.std.proofs.lemmas.Int.{ints}
use Rattle.mn_model.specs.Lawful.{IsNear}
use Rattle.mn_model.specs.declared.constraint.Term.{Term}
use Rattle.mn_model.specs.declared.declaration.Tuples.{Tuples}
use Rattle.mn_model.proofs.Ordered.{le_so, le_true}
use Rattle.mn_boxes.specs.Boxes.{Inside, IsBox}
use Rattle.mn_boxes.specs.Places.{PlaceHas}
use Rattle.mn_boxes.specs.Sets.{Variable}
use Rattle.mn_closure.specs.Closed.{LeafClosed}
use Rattle.mn_closure.specs.Levels.{Arc}
use Rattle.mn_closure.proofs.Wider.{wider_place}
use Rattle.mn_prop.specs.Contexts.{ChangedAt, Context, IsChange, IsGreatestAt, IsLeastAt, IsNamed, box_of, vars_of}
use Rattle.mn_prop.specs.Losses.{LessAt, MoreAt, Unsupported, nothing_goes}
use Rattle.mn_prop.specs.Passes.{AtLeastAt, AtMostAt, IsStep, NoneHas}
use Rattle.mn_prop.specs.Posts.{IsReady, beside}
use Rattle.mn_prop.specs.declared.context.Fail.{Fail}
use Rattle.mn_prop.proofs.Ended.{greatest_of, least_of}
use Rattle.mn_prop.proofs.Narrowing.{high_step, low_step}
use Rattle.mn_prop.proofs.Stepping.{as_step, by_rule, change_passes, changed_box, changed_vars, failing, goes_inside, stop_step, then_step}
use Rattle.mn_basic.specs.Binaries.{IsOrdered, order_of, slack_of}
use Rattle.mn_basic.specs.declared.ineq.Order.{Order}
use Rattle.mn_basic.specs.declared.ineq.Order.TheVariants.{AtMost, Below}
use Rattle.mn_basic.proofs.Binary.{IsBinary, closed_first, closed_second, closed_two, first_named, no_first, no_second, second_named}
use Rattle.mn_prop.proofs.Kept.{stays_at, stays_here}

pub is_order : (o : Order) (x y : Term) → IsBinary (order_of o x y) x y (λ a b. a ≤ℤ (b +ℤ slack_of o))
is_order (AtMost k) x y = record { arc = refl; two = refl; meets = λ lists a b m. m; met = λ lists a b m. m }
is_order Below x y = record { arc = refl; two = refl; meets = λ lists a b m. omega (arith, ints, m); met = λ lists a b m. omega (arith, ints, m) }

pub slack_near : (o : Order) (x y : Term) (vars : List Variable) (lists : List Tuples) → IsReady vars lists (order_of o x y) → IsNear (slack_of o)
slack_near (AtMost k) x y vars lists ready = ready.meant.near.constants.0
slack_near Below x y vars lists ready = (omega (arith, ints), omega (arith, ints))

module _ (o : Order) (x y : Term) (lists : List Tuples) where
  -- the places are in order exactly where the box is closed
  ordered_closed : (vars : List Variable) (box : List (List ℤ)) → IsOrdered x y (slack_of o) box → LeafClosed vars lists (order_of o x y) box
  ordered_closed vars box ordered = closed_two (is_order o x y) vars lists box (λ a asked. ordered.first a asked.there) (λ b asked. ordered.second b asked.there)

  closed_ordered : (vars : List Variable) (box : List (List ℤ)) → IsBox vars box → IsReady vars lists (order_of o x y) → LeafClosed vars lists (order_of o x y) box → IsOrdered x y (slack_of o) box
  closed_ordered vars box is ready closed = record {
    first = λ a has.
        (let great = greatest_of Arc vars box x is (first_named (is_order o x y) vars lists ready) in
        let some = closed_first (is_order o x y) vars lists box great.value closed great.asked in
        let le = some.has in
        let to = great.greatest.greatest a has in
        record { value = some.value; there = some.there; has = omega (arith, ints, le, to) });
    second = λ b has.
        (let low = least_of Arc vars box y is (second_named (is_order o x y) vars lists ready) in
        let some = closed_second (is_order o x y) vars lists box low.value closed low.asked in
        let le = some.has in
        let from = low.least.least b has in
        record { value = some.value; there = some.there; has = omega (arith, ints, le, from) });
  }

  -- ---- the cuts

  below_most : (hi : ℤ) (old box : List (List ℤ)) → Inside box old → IsGreatestAt old y hi → IsOrdered x y (slack_of o) box → AtMostAt x (hi +ℤ slack_of o) box
  below_most hi old box i great ordered a has = let some = ordered.first a has in let le = some.has in let to = great.greatest some.value (wider_place box old i y some.value some.there) in omega (arith, ints, le, to)

  above_least : (lo : ℤ) (old box : List (List ℤ)) → Inside box old → IsLeastAt old x lo → IsOrdered x y (slack_of o) box → AtLeastAt y (lo -ℤ slack_of o) box
  above_least lo old box i low ordered b has = let some = ordered.second b has in let le = some.has in let from = low.least some.value (wider_place box old i x some.value some.there) in omega (arith, ints, le, from)

  -- what a cut takes isn't supported
  high_rule : (hi : ℤ) (old mid : Context) (result : Result (Unit {0}) Fail) (P : List (List ℤ) → Type 0) → IsGreatestAt (box_of old) y hi → IsStep (MoreAt x (hi +ℤ slack_of o)) P old mid result → IsStep (Unsupported (beside lists (order_of o x y))) P old mid result
  high_rule hi old mid result P great step =
      by_rule (λ box i u a has more. no_second (is_order o x y) lists box u a more.0 (λ b at le. (let out = more.1 in let to = great.greatest b (wider_place box (box_of old) i y b at) in omega (arith, ints, out, to, le)))) step

  low_rule : (lo : ℤ) (old mid : Context) (result : Result (Unit {0}) Fail) (P : List (List ℤ) → Type 0) → ((b : ℤ) → PlaceHas (box_of old) x b → lo ≤ℤ b) → IsStep (LessAt y (lo -ℤ slack_of o)) P old mid result → IsStep (Unsupported (beside lists (order_of o x y))) P old mid result
  low_rule lo old mid result P low step =
      by_rule (λ box i u a has less. no_first (is_order o x y) lists box u a less.0 (λ b at le. (let out = less.1 in let from = low b (wider_place box (box_of old) i x b at) in omega (arith, ints, out, from, le)))) step

  pub order_stop : (old mid : Context) (hi : ℤ) (result end : Result (Unit {0}) Fail) (fail : Fail) → IsReady (vars_of old) lists (order_of o x y) → IsGreatestAt (box_of old) y hi → ChangedAt (λ a. int_le a (hi +ℤ slack_of o)) x old mid result → result ≡ Err fail → IsErr end
      → IsStep (Unsupported (beside lists (order_of o x y))) (LeafClosed (vars_of old) lists (order_of o x y)) old mid end
  order_stop old mid hi result end fail ready great changed is err =
      let step = high_rule hi old mid result (AtMostAt x (hi +ℤ slack_of o)) great (high_step (hi +ℤ slack_of o) x (first_named (is_order o x y) (vars_of old) lists ready) changed) in
      stop_step fail is (λ box lawful i closed. below_most hi (box_of old) box i great (closed_ordered (vars_of old) box lawful ready closed)) step err

  pub order_step : (old mid new : Context) (hi lo : ℤ) (done : Unit {0}) (result : Result (Unit {0}) Fail) → IsReady (vars_of old) lists (order_of o x y) → IsGreatestAt (box_of old) y hi → IsLeastAt (box_of old) x lo → IsChange (λ a. int_le a (hi +ℤ slack_of o)) x old mid
      → ChangedAt (λ b. int_le (lo -ℤ slack_of o) b) y mid new result → IsStep (Unsupported (beside lists (order_of o x y))) (LeafClosed (vars_of old) lists (order_of o x y)) old new result
  order_step old mid new hi lo done result ready great low first second =
      let named = first_named (is_order o x y) (vars_of old) lists ready in
      let other = subst (λ vars. IsNamed vars y) (sym (changed_vars first)) (second_named (is_order o x y) (vars_of old) lists ready) in
      let cut : IsStep (MoreAt x (hi +ℤ slack_of o)) (AtMostAt x (hi +ℤ slack_of o)) old mid (Ok done) = high_step (hi +ℤ slack_of o) x named first in
      let one = high_rule hi old mid (Ok done) (AtMostAt x (hi +ℤ slack_of o)) great cut in
      let two = low_rule lo mid new result (AtLeastAt y (lo -ℤ slack_of o)) (λ b has. low.least b (wider_place (box_of mid) (box_of old) (goes_inside cut.loses) x b has)) (low_step (lo -ℤ slack_of o) y other second) in
      as_step
      (λ box is i closed. (let ordered = closed_ordered (vars_of old) box is ready closed in (below_most hi (box_of old) box i great ordered, above_least lo (box_of old) box i low ordered)))
      (λ both. ordered_closed (vars_of old) (box_of old) (record {
        first = λ a has. record { value = hi; there = great.there; has = both.0 a has };
        second = λ b has. record { value = lo; there = low.there; has = (let le = both.1 b has in omega (arith, ints, le)) };
      }))
      (then_step one two)

  -- ---- at rest

  -- a change takes nothing of what it is cut by
  pub order_settles : (old mid new : Context) (hi lo : ℤ) (result : Result (Unit {0}) Fail) → (x ≡ y → pos 0 ≤ℤ slack_of o) → IsReady (vars_of old) lists (order_of o x y) → IsGreatestAt (box_of old) y hi → IsLeastAt (box_of old) x lo → IsChange (λ a. int_le a (hi +ℤ slack_of o)) x old mid
      → ChangedAt (λ b. int_le (lo -ℤ slack_of o) b) y mid new result → OnOk result (LeafClosed (vars_of old) lists (order_of o x y) (box_of new))
  order_settles old mid new hi lo (Err fail) same ready great low first second = tt
  order_settles old mid new hi lo (Ok done) same ready great low first second = ordered_closed (vars_of old) (box_of new) (record {
    first = λ a has. record { value = hi; there = high_there; has = le_so a most (passes_first a (wider_place (box_of new) (box_of mid) inside_mid x a has)) };
    second = λ b has. record { value = lo; there = low_there; has = (let le = le_so least b (change_passes (λ d. int_le least d) y mid new second b has) in omega (arith, ints, le)) };
  })
    where
      most : ℤ
      most = hi +ℤ slack_of o

      least : ℤ
      least = lo -ℤ slack_of o

      passes_first : (a : ℤ) → PlaceHas (box_of mid) x a → int_le a most ≡ true
      passes_first = change_passes (λ a. int_le a most) x old mid first

      inside_old : Inside (box_of mid) (box_of old)
      inside_old = goes_inside (high_step {old = old} {new = mid} {result = Ok done} most x (first_named (is_order o x y) (vars_of old) lists ready) first).loses

      inside_mid : Inside (box_of new) (box_of mid)
      inside_mid = goes_inside (low_step {old = mid} {new = new} {result = Ok done} least y (subst (λ vars. IsNamed vars y) (sym (changed_vars first)) (second_named (is_order o x y) (vars_of old) lists ready)) second).loses

      stay_mid : (t : Term) (a : ℤ) → PlaceHas (box_of old) t a → (x ≡ t → a ≤ℤ most) → (((d : ℤ) → PlaceHas (box_of old) x d → PlaceHas (box_of old) t (pos 1 -ℤ d)) → (pos 1 -ℤ a) ≤ℤ most) → PlaceHas (box_of mid) t a
      stay_mid t a has own turned = subst (λ box. PlaceHas box t a) (sym (changed_box first)) (stays_at (λ d. int_le d most) x t (box_of old) a has (λ e. le_true a most (own e)) (λ e. le_true (pos 1 -ℤ a) most (turned e)))

      stay_new : (t : Term) (a : ℤ) → PlaceHas (box_of mid) t a → (y ≡ t → least ≤ℤ a) → (((d : ℤ) → PlaceHas (box_of mid) y d → PlaceHas (box_of mid) t (pos 1 -ℤ d)) → least ≤ℤ (pos 1 -ℤ a)) → PlaceHas (box_of new) t a
      stay_new t a has own turned = subst (λ box. PlaceHas box t a) (sym (changed_box second)) (stays_at (λ d. int_le least d) y t (box_of mid) a has (λ e. le_true least a (own e)) (λ e. le_true least (pos 1 -ℤ a) (turned e)))

      some_x : ℤ
      some_x = first.some.value

      some_x_le : some_x ≤ℤ most
      some_x_le = le_so some_x most first.some.passes

      some_y : ℤ
      some_y = second.some.value

      some_y_ge : least ≤ℤ some_y
      some_y_ge = le_so least some_y second.some.passes

      some_y_there : PlaceHas (box_of old) y some_y
      some_y_there = wider_place (box_of mid) (box_of old) inside_old y some_y second.some.there

      high_mid : PlaceHas (box_of mid) y hi
      high_mid = stay_mid y hi great.there (λ e. (let least_slack = same e in omega (arith, ints, least_slack)))
          (λ turned. (let le = some_x_le in let to = great.greatest (pos 1 -ℤ some_x) (turned some_x first.some.there) in omega (arith, ints, le, to)))

      high_there : PlaceHas (box_of new) y hi
      high_there = subst (λ box. PlaceHas box y hi) (sym (changed_box second)) (stays_here (λ d. int_le least d) y (box_of mid) hi high_mid (le_true least hi (let le = some_y_ge in let to = great.greatest some_y some_y_there in omega (arith, ints, le, to))))

      low_mid : PlaceHas (box_of mid) x lo
      low_mid = subst (λ box. PlaceHas box x lo) (sym (changed_box first)) (stays_here (λ d. int_le d most) x (box_of old) lo low.there (le_true lo most (let le = some_x_le in let from = low.least some_x first.some.there in omega (arith, ints, le, from))))

      low_there : PlaceHas (box_of new) x lo
      low_there = stay_new x lo low_mid (λ e. (let least_slack = same (sym e) in omega (arith, ints, least_slack)))
          (λ turned. (let ge = some_y_ge in let from = low.least (pos 1 -ℤ some_y) (wider_place (box_of mid) (box_of old) inside_old x (pos 1 -ℤ some_y) (turned some_y second.some.there)) in omega (arith, ints, ge, from)))

  -- no value is less than itself
  pub none_below_itself : (c : Context) (fail : Fail) → IsReady (vars_of c) lists (order_of o x y) → x ≡ y → slack_of o <ℤ pos 0 → IsStep (Unsupported (beside lists (order_of o x y))) (LeafClosed (vars_of c) lists (order_of o x y)) c c (Err fail)
  none_below_itself c fail ready same less = failing fail (nothing_goes c) none
    where
      none : NoneHas (vars_of c) (LeafClosed (vars_of c) lists (order_of o x y)) (box_of c)
      none box is i closed =
          let great = greatest_of Arc (vars_of c) box x is (first_named (is_order o x y) (vars_of c) lists ready) in
          let some = closed_first (is_order o x y) (vars_of c) lists box great.value closed great.asked in
          let le = some.has in
          let to = great.greatest.greatest some.value (subst (λ t. PlaceHas box t some.value) (sym same) some.there) in
          omega (arith, ints, le, to, less)
