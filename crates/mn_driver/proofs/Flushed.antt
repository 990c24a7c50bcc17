-- How a run ends once its output was flushed, or failed to be.
use Rattle.std.proofs.Common.{◌≡◌, ℕ, ◌≤◌, true, List, [], Option, IsSomeAnd, Some, None, append-nil, refl, sym, ap, subst, ◌∙◌, inl, inr}
use Rattle.mn_model.specs.Problem.{Problem}
use Rattle.mn_outside.specs.Faults.{HasRisen}
use Rattle.mn_outside.specs.Laws.{HasRisen-before, HasRisen-after}
use Rattle.mn_canonical.specs.Canonical.{canonical_text}
use Rattle.mn_report.specs.declared.lines.Outcome.{Outcome}
use Rattle.mn_report.specs.declared.lines.Outcome.TheVariants.{Complete, SolutionLimit, NodeLimit}
use Rattle.mn_driver.specs.Codes.{status_of, unflushed}
use Rattle.mn_driver.specs.Ends.{Ends, reports, prints, is_too_long, fails_to_write, fails_to_read, runs_out, is_refused, breaks_rule}
use Rattle.mn_driver.specs.Outputs.{Input, AddsLine}
use Rattle.mn_driver.specs.Report.{report, summary_of}
use Rattle.mn_driver.specs.Words.{Asked, asked, plan_of}
use Rattle.mn_driver.specs.Written.{CountsToNext, IsCutOff, WritesReport, WritesSome}
use Rattle.mn_driver.specs.declared.plan.Plan.{Plan}
use Rattle.mn_driver.specs.declared.status.Counts.{Counts}
use Rattle.mn_driver.specs.declared.status.Status.{Status}
use Rattle.mn_driver.specs.declared.status.Status.TheVariants.{WriteFault}
use Rattle.mn_driver.proofs.Lines.{between}
use Rattle.mn_driver.proofs.Solving.{all_counted, all_to_next}

-- the whole report is a report in part
whole_is_some : (plan : Plan) (p : Problem) (old new : Option (List ℕ)) (counts : Counts) → WritesReport plan p old new counts → WritesSome plan p old new counts
whole_is_some plan p old new counts whole = record {
  bytes = report plan p;
  written = whole.written;
  front = ([], sym (append-nil (report plan p)));
  counted = all_counted plan p (summary_of plan p) counts.solutions whole.all.solutions;
}

-- and all visits were counted
whole_to_next : (plan : Plan) (p : Problem) (old new : Option (List ℕ)) (counts : Counts) → plan.shown ≡ true → WritesReport plan p old new counts → CountsToNext plan p old new counts
whole_to_next plan p old new counts printed whole = all_to_next plan p old new counts (summary_of plan p) printed whole.written whole.all

-- a report that is whole is one in part, if the last flush fails
unflushed_report : (outcome : Outcome) → unflushed (status_of outcome) ≡ WriteFault
unflushed_report Complete = refl
unflushed_report SolutionLimit = refl
unflushed_report NodeLimit = refl

pub map_asked : {P Q : Asked → Type 0} (asks : Option Asked) → ((a : Asked) → P a → Q a) → IsSomeAnd asks P → IsSomeAnd asks Q
map_asked None f p = p
map_asked (Some a) f p = f a p

module _ (i : Input) (words : List (List ℕ)) (old new : Option (List ℕ)) (before after later : ℕ) (kept : before ≤ after) (rest : after ≤ later) where
  line_later : (done line : List ℕ) → AddsLine (between old new before after) done line → AddsLine (between old new before later) done line
  line_later done line (inl is) = inl is
  line_later done line (inr (risen, part)) = inr (HasRisen-after before after later risen rest, part)

  -- the output was flushed
  ends_later : (status : Status) (counts : Counts) → Ends i words (between old new before after) status counts → Ends i words (between old new before later) status counts
  ends_later status counts (reports outcome s is) = reports outcome s (map_asked (asked words) (λ a c. record { solves = c.solves; problem = c.problem; is = c.is; outcome_is = c.outcome_is; report = c.report }) is)
  ends_later status counts (prints s is) =
      prints s (map_asked (asked words) (λ a c. record { dumps = c.dumps; problem = c.problem; is = c.is; text = record { none = c.text.none; fits = c.text.fits; written = c.text.written } }) is)
  ends_later status counts (is_too_long n s is) =
      is_too_long n s (map_asked (asked words) (λ a c. record { dumps = c.dumps; problem = c.problem; is = c.is; length_is = record { none = c.length_is.none; long = c.length_is.long; is = c.length_is.is; line = line_later [] _ c.length_is.line } }) is)
  ends_later status counts (fails_to_write s is) =
      fails_to_write s (map_asked (asked words) (λ a c. record { problem = c.problem; is = c.is; failed = HasRisen-after before after later c.failed rest; cut = c.cut }) is)
  ends_later status counts (fails_to_read s is) = fails_to_read s (map_asked (asked words) (λ a c. record { unread = c.unread; none = c.none; line = line_later [] _ c.line }) is)
  ends_later status counts (runs_out s out) = runs_out s (record { done = out.done; stopped = out.stopped; line = line_later out.done _ out.line })
  ends_later status counts (is_refused why s is) =
      is_refused why s (map_asked (asked words) (λ a c. record { of_text = c.of_text; none = c.none; place = c.place; is = c.is; line = line_later [] _ c.line }) is)
  ends_later status counts (breaks_rule rule s breaks) = breaks_rule rule s (record { first = breaks.first; none = breaks.none; line = line_later [] _ breaks.line })

  -- it failed to be: only where all was well before, that is the run's end
  ends_failed : HasRisen after later → (status : Status) (counts : Counts) → Ends i words (between old new before after) status counts → Ends i words (between old new before later) (unflushed status) counts
  ends_failed risen status counts ends = by ends
    where
      stays : status ≡ unflushed status → Ends i words (between old new before later) (unflushed status) counts
      stays same = subst (λ s. Ends i words (between old new before later) s counts) same (ends_later status counts ends)

      by : Ends i words (between old new before after) status counts → Ends i words (between old new before later) (unflushed status) counts
      by (reports outcome s is) = fails_to_write (ap unflushed s ∙ unflushed_report outcome) (map_asked (asked words) (λ a c. record {
        problem = c.problem;
        is = c.is;
        failed = HasRisen-before before after later kept risen;
        cut = subst (λ r. IsCutOff r (plan_of a c.problem.goal) c.problem old new counts) (sym c.solves)
            (whole_is_some (plan_of a c.problem.goal) c.problem old new counts c.report, λ printed. whole_to_next (plan_of a c.problem.goal) c.problem old new counts printed c.report, λ _. c.report.all);
      }) is)
      by (prints s is) = fails_to_write (ap unflushed s) (map_asked (asked words) (λ a c. record {
        problem = c.problem;
        is = c.is;
        failed = HasRisen-before before after later kept risen;
        cut = subst (λ r. IsCutOff r (plan_of a c.problem.goal) c.problem old new counts) (sym c.dumps)
            (c.text.none, (canonical_text c.problem, ([], sym (append-nil (canonical_text c.problem))), c.text.written));
      }) is)
      by (is_too_long n s is) = stays (s ∙ sym (ap unflushed s))
      by (fails_to_write s is) = stays (s ∙ sym (ap unflushed s))
      by (fails_to_read s is) = stays (s ∙ sym (ap unflushed s))
      by (runs_out s out) = stays (s ∙ sym (ap unflushed s))
      by (is_refused why s is) = stays (s ∙ sym (ap unflushed s))
      by (breaks_rule rule s breaks) = stays (s ∙ sym (ap unflushed s))

  -- what the output tells is the same
  module _ (newer : Option (List ℕ)) (same : newer ≡ new) (status : Status) (counts : Counts) (ends : Ends i words (between old new before after) status counts) where
    pub flushed : Ends i words (between old newer before later) status counts
    flushed = subst (λ told. Ends i words (between old told before later) status counts) (sym same) (ends_later status counts ends)

    pub not_flushed : HasRisen after later → Ends i words (between old newer before later) (unflushed status) counts
    not_flushed risen = subst (λ told. Ends i words (between old told before later) (unflushed status) counts) (sym same) (ends_failed risen status counts ends)
