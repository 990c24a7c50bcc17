-- How a run ends: what each status tells of what the words ask for, of what the run met and of what it wrote.
use Rattle.std.specs.Prelude.{◌≡◌, ◌≢◌, ℕ, true, false, List, [], Option, IsSomeAnd, Some}
use Rattle.mn_model.specs.Problem.{Problem}
use Rattle.mn_model.specs.declared.refusal.Refusal.{Refusal}
use Rattle.mn_model.specs.declared.refusal.Refusal.TheVariants as refusals
use Rattle.mn_options.specs.Rules.{first_broken}
use Rattle.mn_options.specs.declared.usage.Usage.{Usage as Rule}
use Rattle.mn_outside.specs.Content.{FileMap}
use Rattle.mn_report.specs.Lines.{refused_text}
use Rattle.mn_report.specs.declared.lines.Outcome.{Outcome}
use Rattle.mn_driver.specs.Codes.{status_of}
use Rattle.mn_driver.specs.Counting.{HasNone}
use Rattle.mn_driver.specs.Explains.{PrintsText, TellsLength}
use Rattle.mn_driver.specs.Made.{outcome_of}
use Rattle.mn_driver.specs.Outputs.{Input, Output, AddsLine, HasFailed, IsUnread}
use Rattle.mn_driver.specs.Owes.{StoppedAt}
use Rattle.mn_driver.specs.Report.{memory_line, read_line, usage_line}
use Rattle.mn_driver.specs.Runs.{IsTheModel, IsTheRefused}
use Rattle.mn_driver.specs.Words.{Asked, asked, plan_of}
use Rattle.mn_driver.specs.Written.{IsCutOff, WritesReport}
use Rattle.mn_driver.specs.declared.status.Counts.{Counts}
use Rattle.mn_driver.specs.declared.status.Status.{Status}
use Rattle.mn_driver.specs.declared.status.Status.TheVariants.{Printed, Refused, Usage, ReadFault, WriteFault, DumpTooLong, NoMemory}

-- the whole report of the model that was asked for, of which this is the outcome
pub record IsReported (outcome : Outcome) (told : Option FileMap) (o : Output) (counts : Counts) (a : Asked) : Type 0 where
  pub solves : a.redump ≡ false
  pub problem : Problem
  pub is : IsTheModel told a.model problem
  pub outcome_is : outcome_of (plan_of a problem.goal) problem ≡ outcome
  pub report : WritesReport (plan_of a problem.goal) problem o.before o.after counts

-- its text, where that was asked for and isn't too long
pub record Prints (told : Option FileMap) (o : Output) (counts : Counts) (a : Asked) : Type 0 where
  pub dumps : a.redump ≡ true
  pub problem : Problem
  pub is : IsTheModel told a.model problem
  pub text : PrintsText problem o counts

-- its text is too long: so many bytes
pub record HasLongText (n : ℕ) (told : Option FileMap) (o : Output) (counts : Counts) (a : Asked) : Type 0 where
  pub dumps : a.redump ≡ true
  pub problem : Problem
  pub is : IsTheModel told a.model problem
  pub length_is : TellsLength n problem o counts

-- the output failed, in what was asked for
pub record FailsToWrite (told : Option FileMap) (o : Output) (counts : Counts) (a : Asked) : Type 0 where
  pub problem : Problem
  pub is : IsTheModel told a.model problem
  pub failed : HasFailed o
  pub cut : IsCutOff a.redump (plan_of a problem.goal) problem o.before o.after counts

-- reading the model failed, and nothing but the line of that fault was written
pub record FailsToRead (i : Input) (o : Output) (counts : Counts) (a : Asked) : Type 0 where
  pub unread : IsUnread i a.model
  pub none : HasNone counts
  pub line : AddsLine o [] read_line

-- the model's text is refused, and nothing but the line that says why was written; want of memory is no such cause
pub record IsRefusedFor (why : Refusal) (told : Option FileMap) (o : Output) (counts : Counts) (a : Asked) : Type 0 where
  pub of_text : why ≢ refusals.NoMemory
  pub none : HasNone counts
  pub place : ℕ
  pub is : IsTheRefused told a.model why place
  pub line : AddsLine o [] (refused_text why place)

-- the words break this rule first, and nothing but its line was written
pub record BreaksRule (rule : Rule) (broken : Option Rule) (o : Output) (counts : Counts) : Type 0 where
  pub first : broken ≡ Some rule
  pub none : HasNone counts
  pub line : AddsLine o [] (usage_line rule)

-- memory ran out behind these bytes, and the line of that fault was written behind them
pub record RunsOutOfMemory (told : Option FileMap) (asks : Option Asked) (o : Output) (counts : Counts) : Type 0 where
  pub done : List ℕ
  pub stopped : StoppedAt told asks done counts
  pub line : AddsLine o done memory_line

-- a run ends in one of these ways
pub data Ends (i : Input) (words : List (List ℕ)) (o : Output) (status : Status) (counts : Counts) : Type 0 where
  reports : (outcome : Outcome) → status ≡ status_of outcome → IsSomeAnd (asked words) (IsReported outcome i.told o counts) → Ends i words o status counts
  prints : status ≡ Printed → IsSomeAnd (asked words) (Prints i.told o counts) → Ends i words o status counts
  is_too_long : (n : ℕ) → status ≡ DumpTooLong n → IsSomeAnd (asked words) (HasLongText n i.told o counts) → Ends i words o status counts
  fails_to_write : status ≡ WriteFault → IsSomeAnd (asked words) (FailsToWrite i.told o counts) → Ends i words o status counts
  fails_to_read : status ≡ ReadFault → IsSomeAnd (asked words) (FailsToRead i o counts) → Ends i words o status counts
  runs_out : status ≡ NoMemory → RunsOutOfMemory i.told (asked words) o counts → Ends i words o status counts
  is_refused : (why : Refusal) → status ≡ Refused why → IsSomeAnd (asked words) (IsRefusedFor why i.told o counts) → Ends i words o status counts
  breaks_rule : (rule : Rule) → status ≡ Usage rule → BreaksRule rule (first_broken words) o counts → Ends i words o status counts
