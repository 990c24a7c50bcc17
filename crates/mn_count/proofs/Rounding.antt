-- Rounds of taking values and of taking them out of all open places.
use Rattle.std.proofs.Common.{◌≡◌, ℕ, ◌<◌, ℤ, false, List, length, Result, Ok, Err, IsErr, refl, sym, subst, ◌∙◌}
use Rattle.mn_model.specs.declared.constraint.Con.TheVariants as con
use Rattle.mn_model.specs.declared.constraint.Term.{Term}
use Rattle.mn_model.specs.declared.declaration.Tuples.{Tuples}
use Rattle.mn_boxes.specs.Boxes.{IsBox}
use Rattle.mn_boxes.specs.Values.{Values, members}
use Rattle.mn_closure.specs.Closed.{LeafClosed}
use Rattle.mn_prop.specs.Contexts.{Context, box_of, vars_of}
use Rattle.mn_prop.specs.Losses.{Unsupported, nothing_goes}
use Rattle.mn_prop.specs.Passes.{IsStep, NoneHas}
use Rattle.mn_prop.specs.Posts.{IsReady, beside}
use Rattle.mn_prop.specs.declared.context.Fail.{Fail}
use Rattle.mn_prop.proofs.Going.{Going, arrives, begins, goes_on, goes_wrong, same_before}
use Rattle.mn_prop.proofs.Stepping.{failing, goes_inside, same_vars}
use Rattle.mn_count.specs.Rows.{Row, StandsIn}
use Rattle.mn_count.specs.Takings.{AreFree, IsOpenAt, IsTaking}
use Rattle.mn_count.proofs.Takings.{closed_free, free_closed, none_taken, taking_inside}

is_wrong : (fail : Fail) (r : Result (Unit {0}) Fail) → r ≡ Err fail → IsErr r
is_wrong fail (Ok end) e = cc
is_wrong fail (Err f) e = refl

module _ (v : List Term) (lists : List Tuples) (old : Context) where
  abbrev pub GoesTo : Context → Type 0
  GoesTo now = Going (Unsupported (beside lists (con.Alldiff v))) (LeafClosed (vars_of old) lists (con.Alldiff v)) old now

  -- what was taken so far is gone from all open places, if nothing went
  pub record Rounded (now : Context) (taken : Values) (row : Row) : Type 0 where
    pub going : GoesTo now
    pub taking : IsTaking v taken row (box_of now)
    pub free : box_of now ≡ box_of old → AreFree (vars_of old) v taken row (box_of old)

  pub no_round : (taken : Values) (row : Row) → length row.items ≡ length v → ((i : ℕ) → i < length v → StandsIn row i i) → ((a : ℤ) → members taken a ≡ false) → Rounded old taken row
  no_round taken row room all none = record { going = begins old; taking = none_taken v taken row (box_of old) room all none; free = λ same k less t at a asked. none a }

  pub ready_now : {now : Context} → IsReady (vars_of old) lists (con.Alldiff v) → GoesTo now → IsReady (vars_of now) lists (con.Alldiff v)
  ready_now ready going = subst (λ vars. IsReady vars lists (con.Alldiff v)) (sym (same_vars going.loses)) ready

  pub stuck : {now : Context} {end : Result (Unit {0}) Fail} (fail : Fail) → GoesTo now → NoneHas (vars_of now) (LeafClosed (vars_of now) lists (con.Alldiff v)) (box_of now) → IsErr end → IsStep (Unsupported (beside lists (con.Alldiff v))) (LeafClosed (vars_of old) lists (con.Alldiff v)) old now end
  stuck {now = now} fail going none err =
      let step : IsStep (Unsupported (beside lists (con.Alldiff v))) (LeafClosed (vars_of old) lists (con.Alldiff v)) now now (Err fail) = failing fail (nothing_goes now) (subst (λ vars. NoneHas (vars_of now) (LeafClosed vars lists (con.Alldiff v)) (box_of now)) (same_vars going.loses) none) in
      goes_wrong going (λ box is i closed. closed) step err

  -- no open place has a value alone
  pub done : {now : Context} {taken : Values} {row : Row} → IsBox (vars_of old) (box_of old) → IsReady (vars_of old) lists (con.Alldiff v) → Rounded now taken row → ((k : ℕ) → k < row.left → IsOpenAt v row k (box_of now)) → IsStep (Unsupported (beside lists (con.Alldiff v))) (LeafClosed (vars_of old) lists (con.Alldiff v)) old now (Ok tt)
  done {now = now} {taken = taken} {row = row} lawful ready r opens = arrives r.going (λ same.
      free_closed v lists (vars_of old) taken row (box_of old) lawful ready (subst (IsTaking v taken row) same r.taking) (r.free same) (λ k less. subst (IsOpenAt v row k) same (opens k less)))

  own_step : {now new : Context} {result : Result (Unit {0}) Fail} (taken : Values) (row : Row) → GoesTo now → IsStep (Unsupported (beside lists (con.Alldiff v))) (AreFree (vars_of now) v taken row) now new result → IsStep (Unsupported (beside lists (con.Alldiff v))) (AreFree (vars_of old) v taken row) now new result
  own_step {now = now} {new = new} {result = result} taken row going step = subst (λ vars. IsStep (Unsupported (beside lists (con.Alldiff v))) (AreFree vars v taken row) now new result) (same_vars going.loses) step

  -- more values are taken, and then taken out of the open places
  pub again : {now new : Context} {taken : Values} {row : Row} {end : Unit {0}} → GoesTo now → IsTaking v taken row (box_of now) → IsStep (Unsupported (beside lists (con.Alldiff v))) (AreFree (vars_of now) v taken row) now new (Ok end) → Rounded new taken row
  again {now = now} {new = new} {taken = taken} {row = row} {end = end} going taking step = record {
    going = goes_on going (λ box is i closed. closed_free v lists (vars_of old) taken row (box_of now) box taking i closed) own;
    taking = taking_inside v taken row (box_of new) (box_of now) (goes_inside step.loses) taking;
    free = λ same. (let unchanged : box_of now ≡ box_of old = same_before going own.loses same in subst (AreFree (vars_of old) v taken row) unchanged (own.still (same ∙ sym unchanged)));
  }
    where
      own : IsStep (Unsupported (beside lists (con.Alldiff v))) (AreFree (vars_of old) v taken row) now new (Ok end)
      own = own_step taken row going step

  pub again_fails : {now new : Context} {taken : Values} {row : Row} {fail : Fail} {end : Result (Unit {0}) Fail} → GoesTo now → IsTaking v taken row (box_of now) → IsStep (Unsupported (beside lists (con.Alldiff v))) (AreFree (vars_of now) v taken row) now new (Err fail) → IsErr end
      → IsStep (Unsupported (beside lists (con.Alldiff v))) (LeafClosed (vars_of old) lists (con.Alldiff v)) old new end
  again_fails {now = now} {taken = taken} {row = row} going taking step err = goes_wrong going (λ box is i closed. closed_free v lists (vars_of old) taken row (box_of now) box taking i closed) (own_step taken row going step) err

  -- another step ends it
  pub ends : {now new : Context} (result : Result (Unit {0}) Fail) → GoesTo now → IsStep (Unsupported (beside lists (con.Alldiff v))) (LeafClosed (vars_of now) lists (con.Alldiff v)) now new result → IsStep (Unsupported (beside lists (con.Alldiff v))) (LeafClosed (vars_of old) lists (con.Alldiff v)) old new result
  ends {now = now} {new = new} result going step = by result (subst (λ vars. IsStep (Unsupported (beside lists (con.Alldiff v))) (LeafClosed vars lists (con.Alldiff v)) now new result) (same_vars going.loses) step)
    where
      by : (r : Result (Unit {0}) Fail) → IsStep (Unsupported (beside lists (con.Alldiff v))) (LeafClosed (vars_of old) lists (con.Alldiff v)) now new r → IsStep (Unsupported (beside lists (con.Alldiff v))) (LeafClosed (vars_of old) lists (con.Alldiff v)) old new r
      by (Ok end) own = arrives (goes_on going (λ box is i closed. closed) own) (λ same. (let unchanged : box_of now ≡ box_of old = same_before going own.loses same in subst (LeafClosed (vars_of old) lists (con.Alldiff v)) unchanged (own.still (same ∙ sym unchanged))))
      by (Err fail) own = goes_wrong going (λ box is i closed. closed) own (is_wrong fail (Err fail) refl)
