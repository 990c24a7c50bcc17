-- Lines that are written behind what a run has written.
use Rattle.std.proofs.Common.{◌≡◌, ℕ, ◌≤◌, List, [], Option, Result, OnOk, OnErr, Ok, Err, take, ap, ◌∙◌, inl, inr}
use Rattle.mn_model.specs.Problem.{Problem}
use Rattle.mn_outside.specs.Content.{WritesPart, with_bytes}
use Rattle.mn_outside.specs.Laws.{HasRisen-before, with_bytes-with_bytes}
use Rattle.mn_driver.specs.Explains.{RunsOut}
use Rattle.mn_driver.specs.Outputs.{Output, Adds, AddsLine, HasFailed}
use Rattle.mn_driver.specs.Report.{memory_line}
use Rattle.mn_driver.specs.Written.{CountsSomeVisits, WritesSome}
use Rattle.mn_driver.specs.declared.plan.Plan.{Plan}
use Rattle.mn_driver.specs.declared.status.Counts.{Counts}
use Rattle.mn_driver.proofs.Solving.{part_is_front}

-- an output by what it told before and tells now, and its counts of faults
abbrev pub between : Option (List ℕ) → Option (List ℕ) → ℕ → ℕ → Output
between old new before after = record { before = old; after = new; failed_before = before; failed_after = after }

-- the line was written, or a part of it
pub said : {T E : Type 0} (answer : Result T E) (o : Output) (line : List ℕ) → OnOk answer (Adds o line) → OnErr answer (WritesPart o.before o.after line) → OnErr answer (HasFailed o) → AddsLine o [] line
said (Ok x) o line whole part failed = inl whole
said (Err e) o line whole (n, less, is) failed = inr (failed, (take n line, part_is_front n line, is))

-- it was written behind what was written before
pub said_behind : (old mid new : Option (List ℕ)) (before middle after : ℕ) (done line : List ℕ) → mid ≡ with_bytes old done → before ≤ middle → AddsLine (between mid new middle after) [] line → AddsLine (between old new before after) done line
said_behind old mid new before middle after done line first kept (inl is) = inl (is ∙ (ap (λ told. with_bytes told line) first ∙ with_bytes-with_bytes old done line))
said_behind old mid new before middle after done line first kept (inr (risen, (part, front, is))) =
    inr (HasRisen-before before middle after kept risen, (part, front, is ∙ (ap (λ told. with_bytes told part) first ∙ with_bytes-with_bytes old done part)))

-- so is the line of want of memory
pub memory_said : (plan : Plan) (p : Problem) (old mid new : Option (List ℕ)) (before middle after : ℕ) (counts : Counts) → WritesSome plan p old mid counts → CountsSomeVisits plan p counts.nodes → before ≤ middle → AddsLine (between mid new middle after) [] memory_line
    → RunsOut plan p (between old new before after) counts
memory_said plan p old mid new before middle after counts some made kept line = record {
  done = some.bytes;
  front = some.front;
  counted = some.counted;
  visits = made;
  line = said_behind old mid new before middle after some.bytes memory_line some.written kept line;
}
