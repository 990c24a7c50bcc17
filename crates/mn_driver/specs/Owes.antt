-- The words of the clauses of a run.
use Rattle.std.specs.Prelude.{◌≡◌, ℕ, ◌⊎◌, Bool, true, false, List, [], Option, IsSomeAnd}
use Rattle.mn_model.specs.Lawful.{IsLawful}
use Rattle.mn_model.specs.Problem.{Problem}
use Rattle.mn_outside.specs.Content.{FileMap}
use Rattle.mn_driver.specs.Codes.{status_of}
use Rattle.mn_driver.specs.Counting.{HasNone}
use Rattle.mn_driver.specs.Explains.{PrintsText, TellsLength}
use Rattle.mn_driver.specs.Made.{outcome_of}
use Rattle.mn_driver.specs.Outputs.{Output}
use Rattle.mn_driver.specs.Runs.{IsTheModel}
use Rattle.mn_driver.specs.Words.{Asked, plan_of}
use Rattle.mn_driver.specs.Written.{CountsSolutions, CountsSomeVisits, IsFrontOfReport, WritesReport}
use Rattle.mn_driver.specs.declared.plan.Plan.{Plan}
use Rattle.mn_driver.specs.declared.status.Counts.{Counts}
use Rattle.mn_driver.specs.declared.status.Status.{Status}
use Rattle.mn_driver.specs.declared.status.Status.TheVariants.{Printed, WriteFault, DumpTooLong, ReadFault, NoMemory}

-- the status is the expected one, unless reading failed or memory ran out
abbrev pub Yields : Status → Status → Type 0
Yields status expected = (status ≡ expected) ⊎ (status ≡ ReadFault) ⊎ (status ≡ NoMemory)

-- the whole report of a lawful instance, with the status of its outcome, and all of it counted
pub record ReportsAll (plan : Plan) (p : Problem) (o : Output) (status : Status) (counts : Counts) : Type 0 where
  pub ended : status ≡ status_of (outcome_of plan p)
  pub lawful : IsLawful p
  pub report : WritesReport plan p o.before o.after counts

-- the whole text of a lawful instance, or the number of its bytes where they are too many
abbrev pub TextOf : Problem → Output → Status → Counts → Type 0
TextOf p o status counts = IsLawful p × (((status ≡ Printed) × PrintsText p o counts) ⊎ ((n : ℕ) × (status ≡ DumpTooLong n) × TellsLength n p o counts))

-- the model's text was written, or is too long
abbrev pub IsDumpStatus : Status → Type 0
IsDumpStatus status = (status ≡ Printed) ⊎ ((n : ℕ) × (status ≡ DumpTooLong n))

-- the status of a run whose file holds a model, by whether its text was asked for: else it is that of the outcome
abbrev pub IsModelStatus : Bool → Plan → Problem → Status → Type 0
IsModelStatus true plan p status = IsDumpStatus status ⊎ (status ≡ WriteFault) ⊎ (status ≡ ReadFault) ⊎ (status ≡ NoMemory)
IsModelStatus false plan p status = (status ≡ status_of (outcome_of plan p)) ⊎ (status ≡ WriteFault) ⊎ (status ≡ ReadFault) ⊎ (status ≡ NoMemory)

-- What was written before memory ran out: nothing, or a front of the report, and so many solutions were counted, and no more
-- visits than there are.
abbrev pub StoppedAt : Option FileMap → Option Asked → List ℕ → Counts → Type 0
StoppedAt told asks done counts =
    ((done ≡ []) × HasNone counts)
    ⊎ IsSomeAnd asks (λ a. (a.redump ≡ false) × (p : Problem) × IsTheModel told a.model p × IsFrontOfReport (plan_of a p.goal) p done × CountsSolutions (plan_of a p.goal) p done counts.solutions × CountsSomeVisits (plan_of a p.goal) p counts.nodes)
