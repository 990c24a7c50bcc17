-- A place that is cut to bounds around what is supported.
use Rattle.std.proofs.Common.{◌≡◌, ℕ, ℤ, ◌≤ℤ◌, int_le, List, Result, Ok, sym, subst, ◌∙◌, arith, true≢false}
use Rattle.std.proofs.lemmas.Int.{ints}
use Rattle.mn_model.specs.declared.constraint.Term.{Term}
use Rattle.mn_model.proofs.Ordered.{le_true}
use Rattle.mn_boxes.specs.Boxes.{Inside}
use Rattle.mn_boxes.specs.Places.{PlaceHas}
use Rattle.mn_closure.specs.Levels.{level}
use Rattle.mn_closure.specs.Supports.{StandsAt, Supported}
use Rattle.mn_closure.proofs.Wider.{wider_place, wider_supported}
use Rattle.mn_prop.specs.Contexts.{ChangedAt, Context, box_of, vars_of}
use Rattle.mn_prop.specs.Passes.{IsStep}
use Rattle.mn_prop.specs.Losses.{Unsupported}
use Rattle.mn_prop.specs.Posts.{ClosedUnderLeaf, IsReadyToRun, Posted}
use Rattle.mn_prop.specs.declared.context.Fail.{Fail}
use Rattle.mn_prop.proofs.Boxing.{inside_through}
use Rattle.mn_prop.proofs.Ended.{greatest_of, least_of}
use Rattle.mn_prop.proofs.Ready.{ready_named}
use Rattle.mn_prop.proofs.Stepping.{same_vars}
use Rattle.mn_arith.specs.Pruning.{IsPart}
use Rattle.mn_arith.proofs.Pruned.{part_as, part_of_change, part_of_step, part_then, pass_of}

module _ (posted : Posted) (i : ℕ) (t : Term) (stands : StandsAt posted.con i t) (lo hi : ℤ) (box : List (List ℤ)) (bounds : (a : ℤ) → PlaceHas box t a → Supported posted.lists posted.con i a box → (lo ≤ℤ a) × (a ≤ℤ hi)) where
  within : (inner : List (List ℤ)) → Inside inner box → (a : ℤ) → PlaceHas inner t a → Supported posted.lists posted.con i a inner → (lo ≤ℤ a) × (a ≤ℤ hi)
  within inner inside a has supported = bounds a (wider_place inner box inside t a has) (wider_supported (level posted.con) posted.lists posted.con i a inner box inside supported)

  module _ (old new : Context) (result : Result (Unit {0}) Fail) (ready : IsReadyToRun (vars_of old) posted) (inside : Inside (box_of old) box) where
    pub low_part : ChangedAt (λ x. int_le lo x) t old new result → IsPart posted (λ b. Unit {0}) old new result
    low_part changed = part_as (λ all. tt) (part_of_change t (ready_named posted i ready stands)
        (λ a has out. (i, stands, λ supported. true≢false (sym (le_true lo a (within (box_of old) inside a has supported).0) ∙ out)))
        (λ b lawful under closed. λ a has. (
        let l = least_of (level posted.con) (vars_of old) b t lawful (ready_named posted i ready stands) in
        let from = (within b (inside_through under inside) l.value l.least.there (closed.supported i t l.value stands l.asked)).0 in
        let to = l.least.least a has in
        le_true lo a (omega (arith, ints, from, to))))
        changed)

    pub high_part : ChangedAt (λ x. int_le x hi) t old new result → IsPart posted (λ b. Unit {0}) old new result
    high_part changed = part_as (λ all. tt) (part_of_change t (ready_named posted i ready stands)
        (λ a has out. (i, stands, λ supported. true≢false (sym (le_true a hi (within (box_of old) inside a has supported).1) ∙ out)))
        (λ b lawful under closed. λ a has. (
        let g = greatest_of (level posted.con) (vars_of old) b t lawful (ready_named posted i ready stands) in
        let to = (within b (inside_through under inside) g.value g.greatest.there (closed.supported i t g.value stands g.asked)).1 in
        let from = g.greatest.greatest a has in
        le_true a hi (omega (arith, ints, from, to))))
        changed)

pub later_ready : {P : List (List ℤ) → Type 0} {old mid : Context} {result : Result (Unit {0}) Fail} (posted : Posted) → IsPart posted P old mid result → IsReadyToRun (vars_of old) posted → IsReadyToRun (vars_of mid) posted
later_ready posted part ready = subst (λ vars. IsReadyToRun vars posted) (sym (same_vars part.narrows.loses)) ready

pub both_parts : {old mid new : Context} {done : Unit {0}} {result : Result (Unit {0}) Fail} (posted : Posted) → IsPart posted (λ b. Unit {0}) old mid (Ok done) → IsPart posted (λ b. Unit {0}) mid new result → IsPart posted (λ b. Unit {0}) old new result
both_parts posted one two = part_as (λ both. tt) (part_then one two)

-- where some value went, a part is a pass
pub cut_step : {old new : Context} (posted : Posted) → IsPart posted (λ b. Unit {0}) old new (Ok tt) → (box_of new ≡ box_of old → ⊥) → IsStep (Unsupported posted) (ClosedUnderLeaf (vars_of old) posted) old new (Ok tt)
cut_step posted part differs = record { loses = part.narrows.loses; sound = part.narrows.sound; fail = tt; still = λ same. absurd (differs same) }

-- a step that closes the sets behind a part is a pass
pub last_step : {old mid new : Context} {done : Unit {0}} {result : Result (Unit {0}) Fail} (posted : Posted) → IsPart posted (λ b. Unit {0}) old mid (Ok done) → IsStep (Unsupported posted) (ClosedUnderLeaf (vars_of mid) posted) mid new result → IsStep (Unsupported posted) (ClosedUnderLeaf (vars_of old) posted) old new result
last_step {old = old} {mid = mid} {new = new} {result = result} posted part step =
    pass_of (λ both. both.1) (part_then part (subst (λ vars. IsPart posted (ClosedUnderLeaf vars posted) mid new result) (same_vars part.narrows.loses) (part_of_step (λ box lawful inside closed. closed) step)))
