-- Looking at the open places one by one, from the last on.
use Rattle.std.proofs.Common.{◌≡◌, ℕ, ℤ, ◌+◌, ◌-◌, ◌<◌, ◌≤◌, ◌⊎◌, inl, inr, Ok, List, slice_get, refl, sym, subst, ap, ◌∙◌, arith}
use Rattle.mn_model.specs.Decided.{Decided, decide_nat}
use Rattle.mn_model.specs.declared.constraint.Term.{Term}
use Rattle.mn_model.specs.declared.declaration.Tuples.{Tuples}
use Rattle.mn_boxes.specs.Sets.{Variable}
use Rattle.mn_boxes.specs.Values.{Values}
use Rattle.mn_count.specs.Rows.{IsShrunk, Row}
use Rattle.mn_count.specs.Takings.{IsOpenAt, IsSeen, IsTaking}
use Rattle.mn_count.specs.declared.rounds.Seen.{Seen}
use Rattle.mn_count.specs.declared.rounds.Seen.TheVariants.{Alone, Open}

-- the last n of so many places were looked at: those of them that stay among the open ones have two values. Where none went
-- nothing changed
pub record Collecting (v : List Term) (box : List (List ℤ)) (taken_old : Values) (row_old : Row) (taken : Values) (row : Row) (before n : ℕ) : Type 0 where
  pub taking : IsTaking v taken row box
  pub low : before ≤ row.left + n
  pub high : row.left ≤ before
  pub seen : (m : ℕ) → before ≤ m + n → m < row.left → IsOpenAt v row m box
  pub same : row.left ≡ before → (taken ≡ taken_old) × (row ≡ row_old)

module _ (v : List Term) (box : List (List ℤ)) (taken_old : Values) (row_old : Row) (before : ℕ) where
  pub none_collected : before ≡ row_old.left → IsTaking v taken_old row_old box → Collecting v box taken_old row_old taken_old row_old before 0
  none_collected is s = record { taking = s; low = omega (arith, is); high = omega (arith, is); seen = λ m from within. absurd (omega (arith, is, from, within)); same = λ e. (refl, refl) }

  pub open_collected : (taken taken_now : Values) (row row_now : Row) (n : ℕ) → n < before → Collecting v box taken_old row_old taken row before n → taken_now ≡ taken → row_now ≡ row → IsOpenAt v row (before - 1 - n) box → Collecting v box taken_old row_old taken_now row_now before (n + 1)
  open_collected taken taken_now row row_now n within s same_taken same_row is_open =
      let low = s.low in
      subst (λ x. Collecting v box taken_old row_old x row_now before (n + 1)) (sym same_taken) (subst (λ x. Collecting v box taken_old row_old taken x before (n + 1)) (sym same_row) (record {
        taking = s.taking;
        low = omega (arith, low);
        high = s.high;
        seen = λ m from less. by m from less (decide_nat m (before - 1 - n));
        same = s.same;
      }))
    where
      by : (m : ℕ) → before ≤ m + (n + 1) → m < row.left → Decided (m ≡ before - 1 - n) → IsOpenAt v row m box
      by m from less (inl here) = subst (λ x. IsOpenAt v row x box) (sym here) is_open
      by m from less (inr other) = s.seen m (past other) less
        where
          past : (m ≡ before - 1 - n → ⊥) → before ≤ m + n
          past differ = omega (arith, from, within, differ)

  pub alone_collected : (taken taken_now : Values) (row row_now : Row) (n : ℕ) → n < before → Collecting v box taken_old row_old taken row before n → IsTaking v taken_now row_now box → IsShrunk (before - 1 - n) row row_now → Collecting v box taken_old row_old taken_now row_now before (n + 1)
  alone_collected taken taken_now row row_now n within s taking shrunk =
      let low = s.low in
      let high = s.high in
      let less = shrunk.0 in
      record {
        taking = taking;
        low = omega (arith, low, less);
        high = omega (arith, high, less);
        seen = seen;
        same = λ e. absurd (omega (arith, high, less, e));
      }
    where
      seen : (m : ℕ) → before ≤ m + (n + 1) → m < row_now.left → IsOpenAt v row_now m box
      seen m from below t at =
          let stood = shrunk.1 m (omega (arith, from, within)) below in
          s.seen stood.0 (let behind = stood.1 in omega (arith, behind, within)) stood.2 t (ap (slice_get v) (sym stood.3) ∙ at)

  -- whichever of both was seen
  pub next_collected : (vars : List Variable) (lists : List Tuples) (taken taken_now : Values) (row row_now : Row) (n : ℕ) (seen : Seen) → n < before → Collecting v box taken_old row_old taken row before n → (seen ≡ Open) ⊎ (seen ≡ Alone) → IsSeen vars lists v (before - 1 - n) box taken row taken_now row_now (Ok seen) → Collecting v box taken_old row_old taken_now row_now before (n + 1)
  next_collected vars lists taken taken_now row row_now n seen within s (inl is) now =
      let had = subst (λ r. IsSeen vars lists v (before - 1 - n) box taken row taken_now row_now (Ok r)) is now in
      open_collected taken taken_now row row_now n within s had.0 had.1 had.2
  next_collected vars lists taken taken_now row row_now n seen within s (inr is) now =
      let had = subst (λ r. IsSeen vars lists v (before - 1 - n) box taken row taken_now row_now (Ok r)) is now in
      alone_collected taken taken_now row row_now n within s had.0 had.1

  pub all_open : (taken : Values) (row : Row) (n : ℕ) → before ≤ n → Collecting v box taken_old row_old taken row before n → row.left ≡ before → (k : ℕ) → k < row_old.left → IsOpenAt v row_old k box
  all_open taken row n whole s same k less =
      subst (λ x. k < x.left → IsOpenAt v x k box) (s.same same).1 (λ within. s.seen k (omega (arith, whole)) within) less
