-- What the parts of a run write, by the status that they answer.
use Rattle.std.specs.Prelude.{◌≡◌, ℕ, ◌<◌, ◌≤◌, ◌⊎◌, Bool, true, false, List, [], length}
use Rattle.mn_model.specs.Problem.{Problem}
use Rattle.mn_model.specs.declared.limits.TheConstants.{TEXT_BYTES}
use Rattle.mn_model.specs.declared.refusal.Refusal.{Refusal}
use Rattle.mn_options.specs.declared.usage.Usage.{Usage as Rule}
use Rattle.mn_canonical.specs.Canonical.{canonical_text}
use Rattle.mn_printer.specs.declared.sections.PrintFault.{PrintFault}
use Rattle.mn_printer.specs.declared.sections.PrintFault.TheVariants as prints
use Rattle.mn_report.specs.Lines.{refused_text}
use Rattle.mn_driver.specs.Codes.{status_of}
use Rattle.mn_driver.specs.Counting.{HasNone}
use Rattle.mn_driver.specs.Made.{outcome_of}
use Rattle.mn_driver.specs.Outputs.{Output, Adds, AddsLine, HasFailed}
use Rattle.mn_driver.specs.Report.{capped, dump_line, memory_line, read_line, usage_line}
use Rattle.mn_driver.specs.Words.{Asked, plan_of}
use Rattle.mn_driver.specs.Written.{CountsAll, CountsSolutions, CountsSomeVisits, CountsToNext, IsFrontOf, IsFrontOfReport, WritesReport, WritesSome}
use Rattle.mn_driver.specs.declared.load.Unloaded.{Unloaded}
use Rattle.mn_driver.specs.declared.load.Unloaded.TheVariants as unloads
use Rattle.mn_driver.specs.declared.plan.Plan.{Plan}
use Rattle.mn_driver.specs.declared.status.Counts.{Counts}
use Rattle.mn_driver.specs.declared.status.Status.{Status}
use Rattle.mn_driver.specs.declared.status.Status.TheVariants.{Printed, Refused, Usage, ReadFault, WriteFault, DumpTooLong, NoMemory}

-- nothing but the line of want of memory
abbrev pub SaysMemory : Output → Status → Type 0
SaysMemory o status = (status ≡ NoMemory) × AddsLine o [] memory_line

-- 1. The report of an instance

-- the output failed in it
pub record CutsReport (plan : Plan) (p : Problem) (o : Output) (counts : Counts) : Type 0 where
  pub failed : HasFailed o
  pub some : WritesSome plan p o.before o.after counts
  pub next : plan.shown ≡ true → CountsToNext plan p o.before o.after counts
  pub all : plan.shown ≡ false → CountsAll plan p counts

-- memory ran out in it
pub record RunsOut (plan : Plan) (p : Problem) (o : Output) (counts : Counts) : Type 0 where
  pub done : List ℕ
  pub front : IsFrontOfReport plan p done
  pub counted : CountsSolutions plan p done counts.solutions
  pub visits : CountsSomeVisits plan p counts.nodes
  pub line : AddsLine o done memory_line

abbrev pub Solves : Plan → Problem → Output → Status → Counts → Type 0
Solves plan p o status counts =
    ((status ≡ status_of (outcome_of plan p)) × WritesReport plan p o.before o.after counts)
    ⊎ ((status ≡ WriteFault) × CutsReport plan p o counts)
    ⊎ ((status ≡ NoMemory) × RunsOut plan p o counts)

-- 2. Its text

-- it isn't too long, and was written
pub record PrintsText (p : Problem) (o : Output) (counts : Counts) : Type 0 where
  pub none : HasNone counts
  pub fits : length (canonical_text p) ≤ TEXT_BYTES
  pub written : Adds o (canonical_text p)

-- it is too long: so many bytes
pub record TellsLength (n : ℕ) (p : Problem) (o : Output) (counts : Counts) : Type 0 where
  pub none : HasNone counts
  pub long : TEXT_BYTES < length (canonical_text p)
  pub is : n ≡ capped (length (canonical_text p))
  pub line : AddsLine o [] (dump_line n)

-- the output failed in these bytes
pub record CutsText (text : List ℕ) (o : Output) : Type 0 where
  pub failed : HasFailed o
  pub part : List ℕ
  pub front : IsFrontOf part text
  pub written : Adds o part

abbrev pub PutsText : List ℕ → Output → Status → Type 0
PutsText text o status = ((status ≡ Printed) × Adds o text) ⊎ ((status ≡ WriteFault) × CutsText text o)

abbrev pub Undumps : PrintFault → Output → Status → Type 0
Undumps fault o status = ((n : ℕ) × (fault ≡ prints.TooLong n) × (status ≡ DumpTooLong n) × AddsLine o [] (dump_line n)) ⊎ SaysMemory o status

abbrev pub Dumps : Problem → Output → Status → Counts → Type 0
Dumps p o status counts =
    ((status ≡ Printed) × PrintsText p o counts)
    ⊎ ((n : ℕ) × (status ≡ DumpTooLong n) × TellsLength n p o counts)
    ⊎ ((status ≡ WriteFault) × HasNone counts × CutsText (canonical_text p) o)
    ⊎ (HasNone counts × SaysMemory o status)

-- its text where that was asked for, and its report else
abbrev pub AnswersBy : Bool → Plan → Problem → Output → Status → Counts → Type 0
AnswersBy true plan p o status counts = Dumps p o status counts
AnswersBy false plan p o status counts = Solves plan p o status counts

abbrev pub Answers : Asked → Problem → Output → Status → Counts → Type 0
Answers a p o status counts = AnswersBy a.redump (plan_of a p.goal) p o status counts

-- 3. Where there is no instance, by why; and where the words break a rule
abbrev pub Refuses : Unloaded → Output → Status → Type 0
Refuses why o status =
    ((why ≡ unloads.Failed) × (status ≡ ReadFault) × AddsLine o [] read_line)
    ⊎ ((said : Refusal) × (line : ℕ) × (why ≡ unloads.Refused said line) × (status ≡ Refused said) × AddsLine o [] (refused_text said line))
    ⊎ SaysMemory o status

abbrev pub Misuses : Rule → Output → Status → Type 0
Misuses rule o status = ((status ≡ Usage rule) × AddsLine o [] (usage_line rule)) ⊎ SaysMemory o status
