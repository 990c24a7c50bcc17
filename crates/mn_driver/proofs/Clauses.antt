-- From how a run ends, the clauses of the run.
use Rattle.std.proofs.Common.{◌≡◌, ℕ, ◌⊎◌, Bool, true, false, true≢false, List, Option, IsSomeAnd, IfSome, Some, None, refl, sym, ap, subst, ◌∙◌, inl, inr}
use Rattle.mn_model.specs.Lawful.{IsLawful}
use Rattle.mn_model.specs.Problem.{Problem}
use Rattle.mn_model.specs.declared.refusal.Refusal.{Refusal}
use Rattle.mn_options.specs.Rules.{first_broken}
use Rattle.mn_options.specs.declared.usage.Usage.{Usage as Rule}
use Rattle.mn_outside.specs.Content.{FileMap, file_at}
use Rattle.mn_language.specs.Texts.{IsRefused}
use Rattle.mn_report.specs.declared.lines.Outcome.{Outcome}
use Rattle.mn_report.specs.declared.lines.Outcome.TheVariants as outcome
use Rattle.mn_driver.specs.Ends.{BreaksRule, IsReported, Ends, FailsToRead, FailsToWrite, HasLongText, IsRefusedFor, Prints, RunsOutOfMemory, reports, prints, is_too_long, fails_to_write, fails_to_read, runs_out, is_refused, breaks_rule}
use Rattle.mn_driver.specs.Explains.{PrintsText, TellsLength}
use Rattle.mn_driver.specs.Codes.{status_of}
use Rattle.mn_driver.specs.Made.{outcome_of}
use Rattle.mn_driver.specs.Outputs.{Input, Output, IsFaultless}
use Rattle.mn_driver.specs.Owes.{IsModelStatus, ReportsAll, TextOf, Yields}
use Rattle.mn_driver.specs.Runs.{Tells, HoldsModel, HoldsRefused, HoldsRefusedText, HoldsText, IsAbsent, IsTheModel, IsTheRefused}
use Rattle.mn_driver.specs.Sources.{Origin, Named, Made}
use Rattle.mn_driver.specs.Words.{Asked, asked, asked_unless, plan_of}
use Rattle.mn_driver.specs.Written.{WritesReport}
use Rattle.mn_driver.specs.declared.plan.Plan.{Plan}
use Rattle.mn_driver.specs.declared.status.Counts.{Counts}
use Rattle.mn_driver.specs.declared.status.Status.{Status}
use Rattle.mn_driver.specs.declared.status.Status.TheVariants.{Complete, AtSolutionLimit, AtNodeLimit, Printed, Refused, Usage, ReadFault, WriteFault, DumpTooLong, NoMemory}
use Rattle.mn_driver.proofs.Verdicts.{OneVerdict, never_both, one_refusal_of}

-- 1. What the named file holds is one of three, each without the others
some_text : {a b : List ℕ} → Some a ≡ Some b → a ≡ b
some_text e = cc

same_told : (told : Option FileMap) (name text other : List ℕ) → Tells told name text → Tells told name other → text ≡ other
same_told told name text other (files, some, there) (more, also, here) =
    let same : files ≡ more = cc in
    some_text (sym there ∙ (ap (λ fs. file_at fs name) same ∙ here))

-- what holds where content is told
told_so : {P : Type 0} (told : Option FileMap) (files : FileMap) → told ≡ Some files → IfSome told (λ _. P) → P
told_so None files e holds = cc
told_so (Some fs) files e holds = holds

module _ (told : Option FileMap) (name : List ℕ) where
  text_not_refused : OneVerdict → (p : Problem) (why : Refusal) (line : ℕ) → HoldsText told name p → HoldsRefusedText told name why line → ⊥
  text_not_refused one p why line model refused = never_both one model.text p why model.reads (subst (λ text. IsRefused text why) (sym (same_told told name model.text refused.text model.there refused.there)) refused.refused)

  one_refused_text : OneVerdict → (why other : Refusal) (line more : ℕ) → HoldsRefusedText told name why line → HoldsRefusedText told name other more → other ≡ why
  one_refused_text one why other line more refused also = one_refusal_of one refused.text why other refused.refused (subst (λ text. IsRefused text other) (sym (same_told told name refused.text also.text refused.there also.there)) also.refused)

  absent_not_told : IsAbsent told (Named name) → (text : List ℕ) → Tells told name text → ⊥
  absent_not_told (files, some, absent) text (more, also, here) =
      let same : files ≡ more = cc in
      let none : None ≡ Some text = sym absent ∙ (ap (λ fs. file_at fs name) same ∙ here) in cc

-- so of each origin, since a generated model is neither refused nor absent
module _ (told : Option FileMap) where
  model_not_refused : OneVerdict → (origin : Origin) (p : Problem) (why : Refusal) (line : ℕ) → HoldsModel told origin p → IsTheRefused told origin why line → ⊥
  model_not_refused one (Named name) p why line holds refused = text_not_refused told name one p why line holds (told_so told holds.there.0 holds.there.1 refused)
  model_not_refused one (Made wanted) p why line holds refused = refused

  refused_not_model : OneVerdict → (origin : Origin) (p : Problem) (why : Refusal) (line : ℕ) → IsTheModel told origin p → HoldsRefused told origin why line → ⊥
  refused_not_model one (Named name) p why line is refused = text_not_refused told name one p why line (told_so told refused.there.0 refused.there.1 is.held) refused
  refused_not_model one (Made wanted) p why line is refused = refused

  one_refusal : OneVerdict → (origin : Origin) (why other : Refusal) (line more : ℕ) → HoldsRefused told origin why line → IsTheRefused told origin other more → other ≡ why
  one_refusal one (Named name) why other line more refused also = one_refused_text told name one why other line more refused (told_so told refused.there.0 refused.there.1 also)
  one_refusal one (Made wanted) why other line more refused also = absurd refused

  absent_not_model : (origin : Origin) (p : Problem) → IsAbsent told origin → IsTheModel told origin p → ⊥
  absent_not_model (Named name) p none is = let held = told_so told none.0 none.1 is.held in absent_not_told told name none held.text held.there
  absent_not_model (Made wanted) p none is = none

  absent_not_refused : (origin : Origin) (why : Refusal) (line : ℕ) → IsAbsent told origin → IsTheRefused told origin why line → ⊥
  absent_not_refused (Named name) why line none is = let held = told_so told none.0 none.1 is in absent_not_told told name none held.text held.there
  absent_not_refused (Made wanted) why line none is = none

-- 2. Words
asked_so : (P : Asked → Type 0) (asks : Option Asked) (a : Asked) → asks ≡ Some a → IsSomeAnd asks P → P a
asked_so P None a e holds = cc
asked_so P (Some other) a e holds = let same : other ≡ a = cc in subst P same holds

for_asked : (P : Asked → Type 0) (asks : Option Asked) → ((a : Asked) → asks ≡ Some a → P a) → IfSome asks P
for_asked P None f = tt
for_asked P (Some a) f = f a refl

for_rule : (P : Rule → Type 0) (broken : Option Rule) → ((rule : Rule) → broken ≡ Some rule → P rule) → IfSome broken P
for_rule P None f = tt
for_rule P (Some rule) f = f rule refl

-- words that break a rule ask for nothing
asks_nothing : (broken : Option Rule) (origin : Option Origin) (words : List (List ℕ)) (rule : Rule) → broken ≡ Some rule → asked_unless broken origin words ≡ None
asks_nothing None origin words rule e = cc
asks_nothing (Some other) origin words rule e = refl

not_both : (asks : Option Asked) (a : Asked) → asks ≡ Some a → asks ≡ None → ⊥
not_both asks a some none = let both : None ≡ Some a = sym none ∙ some in cc

nothing_of : (P : Asked → Type 0) (asks : Option Asked) → asks ≡ None → IsSomeAnd asks P → ⊥
nothing_of P None e h = h
nothing_of P (Some a) e h = cc

same_rule : {r s : Rule} → Some r ≡ Some s → r ≡ s
same_rule e = cc

-- 3. The statuses of a run whose file holds a model
module _ (plan : Plan) (p : Problem) where
  failed_status : (redump : Bool) (status : Status) → status ≡ WriteFault → IsModelStatus redump plan p status
  failed_status true status e = inr (inl e)
  failed_status false status e = inr (inl e)

  unread_status : (redump : Bool) (status : Status) → status ≡ ReadFault → IsModelStatus redump plan p status
  unread_status true status e = inr (inr (inl e))
  unread_status false status e = inr (inr (inl e))

  spent_status : (redump : Bool) (status : Status) → status ≡ NoMemory → IsModelStatus redump plan p status
  spent_status true status e = inr (inr (inr e))
  spent_status false status e = inr (inr (inr e))

module _ (i : Input) (words : List (List ℕ)) (o : Output) (status : Status) (counts : Counts) (ends : Ends i words o status counts) where
  -- 4. What each status tells
  abbrev pub Fact : Status → Type 0
  Fact Complete = IsSomeAnd (asked words) (IsReported outcome.Complete i.told o counts)
  Fact AtSolutionLimit = IsSomeAnd (asked words) (IsReported outcome.SolutionLimit i.told o counts)
  Fact AtNodeLimit = IsSomeAnd (asked words) (IsReported outcome.NodeLimit i.told o counts)
  Fact Printed = IsSomeAnd (asked words) (Prints i.told o counts)
  Fact (DumpTooLong n) = IsSomeAnd (asked words) (HasLongText n i.told o counts)
  Fact WriteFault = IsSomeAnd (asked words) (FailsToWrite i.told o counts)
  Fact ReadFault = IsSomeAnd (asked words) (FailsToRead i o counts)
  Fact NoMemory = RunsOutOfMemory i.told (asked words) o counts
  Fact (Refused why) = IsSomeAnd (asked words) (IsRefusedFor why i.told o counts)
  Fact (Usage rule) = BreaksRule rule (first_broken words) o counts

  of_outcome : (of : Outcome) → IsSomeAnd (asked words) (IsReported of i.told o counts) → Fact (status_of of)
  of_outcome outcome.Complete fact = fact
  of_outcome outcome.SolutionLimit fact = fact
  of_outcome outcome.NodeLimit fact = fact

  pub of_status : (s : Status) → status ≡ s → Fact s
  of_status s e = subst Fact e (by ends)
    where
      by : Ends i words o status counts → Fact status
      by (reports outcome is fact) = subst Fact (sym is) (of_outcome outcome fact)
      by (prints is fact) = subst Fact (sym is) fact
      by (is_too_long n is fact) = subst Fact (sym is) fact
      by (fails_to_write is fact) = subst Fact (sym is) fact
      by (fails_to_read is fact) = subst Fact (sym is) fact
      by (runs_out is fact) = subst Fact (sym is) fact
      by (is_refused why is fact) = subst Fact (sym is) fact
      by (breaks_rule rule is fact) = subst Fact (sym is) fact

  unasked : (rule : Rule) → first_broken words ≡ Some rule → asked words ≡ None
  unasked rule broken = asks_nothing (first_broken words) _ _ rule broken

  -- 5. Words that break a rule
  pub broken : IfSome (first_broken words) (λ rule. (status ≡ Usage rule) ⊎ (status ≡ NoMemory))
  broken = for_rule (λ rule. (status ≡ Usage rule) ⊎ (status ≡ NoMemory)) (first_broken words) (λ rule first. by rule first ends)
    where
      by : (rule : Rule) → first_broken words ≡ Some rule → Ends i words o status counts → (status ≡ Usage rule) ⊎ (status ≡ NoMemory)
      by rule first (reports outcome s is) = absurd (nothing_of _ (asked words) (unasked rule first) is)
      by rule first (prints s is) = absurd (nothing_of _ (asked words) (unasked rule first) is)
      by rule first (is_too_long n s is) = absurd (nothing_of _ (asked words) (unasked rule first) is)
      by rule first (fails_to_write s is) = absurd (nothing_of _ (asked words) (unasked rule first) is)
      by rule first (fails_to_read s is) = absurd (nothing_of _ (asked words) (unasked rule first) is)
      by rule first (runs_out s out) = inr s
      by rule first (is_refused why s is) = absurd (nothing_of _ (asked words) (unasked rule first) is)
      by rule first (breaks_rule other s breaks) = inl (s ∙ ap Usage (same_rule (sym breaks.first ∙ first)))

  -- 6. Words that ask for this
  module _ (a : Asked) (asks : asked words ≡ Some a) where
    of_asked : (P : Asked → Type 0) → IsSomeAnd (asked words) P → P a
    of_asked P is = asked_so P (asked words) a asks is

    lawful_words : (rule : Rule) → BreaksRule rule (first_broken words) o counts → ⊥
    lawful_words rule breaks = not_both (asked words) a asks (unasked rule breaks.first)

    -- a model
    module _ (one : OneVerdict) (p : Problem) (holds : HoldsModel i.told a.model p) where
      not_refused : (why : Refusal) → IsRefusedFor why i.told o counts a → ⊥
      not_refused why is = model_not_refused i.told one a.model p why is.place holds is.is

      model_status : Ends i words o status counts → IsModelStatus a.redump (plan_of a p.goal) p status
      model_status (reports of s is) =
          let c : IsReported of i.told o counts a = of_asked _ is in
          let same : c.problem ≡ p = sym (c.is.only p holds) in
          subst (λ r. IsModelStatus r (plan_of a p.goal) p status) (sym c.solves) (inl (s ∙ ap status_of (sym c.outcome_is ∙ ap (λ q. outcome_of (plan_of a q.goal) q) same)))
      model_status (prints s is) = let c : Prints i.told o counts a = of_asked _ is in subst (λ r. IsModelStatus r (plan_of a p.goal) p status) (sym c.dumps) (inl (inl s))
      model_status (is_too_long n s is) = let c : HasLongText n i.told o counts a = of_asked _ is in subst (λ r. IsModelStatus r (plan_of a p.goal) p status) (sym c.dumps) (inl (inr (n, s)))
      model_status (fails_to_write s is) = failed_status (plan_of a p.goal) p a.redump status s
      model_status (fails_to_read s is) = unread_status (plan_of a p.goal) p a.redump status s
      model_status (runs_out s out) = spent_status (plan_of a p.goal) p a.redump status s
      model_status (is_refused why s is) = absurd (not_refused why (of_asked _ is))
      model_status (breaks_rule rule s breaks) = absurd (lawful_words rule breaks)

      -- and no fault: its report, or its text
      module _ (faultless : IsFaultless i o a.model) where
        not_failed : FailsToWrite i.told o counts a → ⊥
        not_failed c = faultless.written c.failed

        not_unread : FailsToRead i o counts a → ⊥
        not_unread c = faultless.read c.unread

        report_of : a.redump ≡ false → Ends i words o status counts → ReportsAll (plan_of a p.goal) p o status counts ⊎ (status ≡ NoMemory)
        report_of solves (reports of s is) =
            let c : IsReported of i.told o counts a = of_asked _ is in
            let same : c.problem ≡ p = sym (c.is.only p holds) in
            inl (record {
              ended = s ∙ ap status_of (sym c.outcome_is ∙ ap (λ q. outcome_of (plan_of a q.goal) q) same);
              lawful = subst IsLawful same c.is.lawful;
              report = subst (λ q. WritesReport (plan_of a q.goal) q o.before o.after counts) same c.report;
            })
        report_of solves (prints s is) = let c : Prints i.told o counts a = of_asked _ is in absurd (true≢false (sym c.dumps ∙ solves))
        report_of solves (is_too_long n s is) = let c : HasLongText n i.told o counts a = of_asked _ is in absurd (true≢false (sym c.dumps ∙ solves))
        report_of solves (fails_to_write s is) = absurd (not_failed (of_asked _ is))
        report_of solves (fails_to_read s is) = absurd (not_unread (of_asked _ is))
        report_of solves (runs_out s out) = inr s
        report_of solves (is_refused why s is) = absurd (not_refused why (of_asked _ is))
        report_of solves (breaks_rule rule s breaks) = absurd (lawful_words rule breaks)

        text_of : a.redump ≡ true → Ends i words o status counts → TextOf p o status counts ⊎ (status ≡ NoMemory)
        text_of dumps (reports of s is) = let c : IsReported of i.told o counts a = of_asked _ is in absurd (true≢false (sym dumps ∙ c.solves))
        text_of dumps (prints s is) =
            let c : Prints i.told o counts a = of_asked _ is in
            let same : c.problem ≡ p = sym (c.is.only p holds) in
            inl (subst IsLawful same c.is.lawful, inl (s, subst (λ q. PrintsText q o counts) same c.text))
        text_of dumps (is_too_long n s is) =
            let c : HasLongText n i.told o counts a = of_asked _ is in
            let same : c.problem ≡ p = sym (c.is.only p holds) in
            inl (subst IsLawful same c.is.lawful, inr (n, s, subst (λ q. TellsLength n q o counts) same c.length_is))
        text_of dumps (fails_to_write s is) = absurd (not_failed (of_asked _ is))
        text_of dumps (fails_to_read s is) = absurd (not_unread (of_asked _ is))
        text_of dumps (runs_out s out) = inr s
        text_of dumps (is_refused why s is) = absurd (not_refused why (of_asked _ is))
        text_of dumps (breaks_rule rule s breaks) = absurd (lawful_words rule breaks)

    -- a text that is refused, and no file
    module _ (expected : Status) (no_model : (p : Problem) → IsTheModel i.told a.model p → ⊥) (refused_is : (why : Refusal) (line : ℕ) → IsTheRefused i.told a.model why line → Refused why ≡ expected) where
      yields : Ends i words o status counts → Yields status expected
      yields (reports of s is) = let c : IsReported of i.told o counts a = of_asked _ is in absurd (no_model c.problem c.is)
      yields (prints s is) = let c : Prints i.told o counts a = of_asked _ is in absurd (no_model c.problem c.is)
      yields (is_too_long n s is) = let c : HasLongText n i.told o counts a = of_asked _ is in absurd (no_model c.problem c.is)
      yields (fails_to_write s is) = let c : FailsToWrite i.told o counts a = of_asked _ is in absurd (no_model c.problem c.is)
      yields (fails_to_read s is) = inr (inl s)
      yields (runs_out s out) = inr (inr s)
      yields (is_refused why s is) = let c : IsRefusedFor why i.told o counts a = of_asked _ is in inl (s ∙ refused_is why c.place c.is)
      yields (breaks_rule rule s breaks) = absurd (lawful_words rule breaks)

  -- 7. So wherever they ask for something
  pub model : OneVerdict → IfSome (asked words) (λ a. (p : Problem) → HoldsModel i.told a.model p → IsModelStatus a.redump (plan_of a p.goal) p status)
  model one = for_asked (λ a. (p : Problem) → HoldsModel i.told a.model p → IsModelStatus a.redump (plan_of a p.goal) p status) (asked words) (λ a asks p holds. model_status a asks one p holds ends)

  pub printed : OneVerdict → IfSome (asked words) (λ a. (p : Problem) → a.redump ≡ false → HoldsModel i.told a.model p → IsFaultless i o a.model → ReportsAll (plan_of a p.goal) p o status counts ⊎ (status ≡ NoMemory))
  printed one = for_asked (λ a. (p : Problem) → a.redump ≡ false → HoldsModel i.told a.model p → IsFaultless i o a.model → ReportsAll (plan_of a p.goal) p o status counts ⊎ (status ≡ NoMemory)) (asked words)
      (λ a asks p solves holds faultless. report_of a asks one p holds faultless solves ends)

  pub redumped : OneVerdict → IfSome (asked words) (λ a. (p : Problem) → a.redump ≡ true → HoldsModel i.told a.model p → IsFaultless i o a.model → TextOf p o status counts ⊎ (status ≡ NoMemory))
  redumped one = for_asked (λ a. (p : Problem) → a.redump ≡ true → HoldsModel i.told a.model p → IsFaultless i o a.model → TextOf p o status counts ⊎ (status ≡ NoMemory)) (asked words)
      (λ a asks p dumps holds faultless. text_of a asks one p holds faultless dumps ends)

  pub refuses : OneVerdict → IfSome (asked words) (λ a. (why : Refusal) (line : ℕ) → HoldsRefused i.told a.model why line → Yields status (Refused why))
  refuses one = for_asked (λ a. (why : Refusal) (line : ℕ) → HoldsRefused i.told a.model why line → Yields status (Refused why)) (asked words)
      (λ a asks why line refused. yields a asks (Refused why)
      (λ p is. refused_not_model i.told one a.model p why line is refused)
      (λ other more held. ap Refused (one_refusal i.told one a.model why other line more refused held)) ends)

  pub absent : IfSome (asked words) (λ a. IsAbsent i.told a.model → Yields status ReadFault)
  absent = for_asked (λ a. IsAbsent i.told a.model → Yields status ReadFault) (asked words)
      (λ a asks none. yields a asks ReadFault
      (λ p is. absent_not_model i.told a.model p none is)
      (λ why line is. absurd (absent_not_refused i.told a.model why line none is)) ends)
