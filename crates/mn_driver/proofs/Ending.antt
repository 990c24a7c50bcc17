-- How a run ends, by what its parts have written.
use Rattle.std.proofs.Common.{◌≡◌, ℕ, ◌⊎◌, Bool, true, false, List, [], IsSomeAnd, Some, refl, sym, subst, inl, inr}
use Rattle.mn_model.specs.Problem.{Problem}
use Rattle.mn_options.specs.Rules.{first_broken}
use Rattle.mn_options.specs.declared.usage.Usage.{Usage as Rule}
use Rattle.mn_options.specs.declared.usage.Usage.TheVariants as rules
use Rattle.mn_driver.specs.Counting.{HasNone}
use Rattle.mn_driver.specs.Ends.{Ends, reports, prints, is_too_long, fails_to_write, fails_to_read, runs_out, is_refused, breaks_rule}
use Rattle.mn_driver.specs.Explains.{Answers, AnswersBy, Dumps, Misuses, Refuses, Solves}
use Rattle.mn_driver.specs.Made.{outcome_of}
use Rattle.mn_driver.specs.Loads.{IsOfText, Unloads}
use Rattle.mn_driver.specs.Outputs.{Input, Output, IsUnread}
use Rattle.mn_driver.specs.Runs.{IsTheModel}
use Rattle.mn_driver.specs.Words.{Asked, asked, plan_of}
use Rattle.mn_driver.specs.Written.{IsCutOff}
use Rattle.mn_driver.specs.declared.load.Unloaded.{Unloaded}
use Rattle.mn_driver.specs.declared.load.Unloaded.TheVariants as unloads
use Rattle.mn_driver.specs.declared.status.Counts.{Counts}
use Rattle.mn_driver.specs.declared.status.Status.{Status}
use Rattle.mn_driver.specs.declared.status.Status.TheVariants.{NoMemory}

module _ (i : Input) (words : List (List ℕ)) (o : Output) (status : Status) (counts : Counts) where
  -- the words break a rule, or there was no memory to know what they ask for
  pub misused_ends : (rule : Rule) → (first_broken words ≡ Some rule) ⊎ (rule ≡ rules.NoMemory) → (rule ≡ rules.NoMemory → status ≡ NoMemory) → HasNone counts → Misuses rule o status → Ends i words o status counts
  misused_ends rule (inl first) memory none (inl (s, line)) = breaks_rule rule s (record { first = first; none = none; line = line })
  misused_ends rule (inr is) memory none (inl (s, line)) = let spent = memory is in absurd cc
  misused_ends rule either memory none (inr (s, line)) = runs_out s (record { done = []; stopped = inl (refl, none); line = line })

  -- the words ask for this
  module _ (a : Asked) (asks : asked words ≡ Some a) where
    asked_for : (P : Asked → Type 0) → P a → IsSomeAnd (asked words) P
    asked_for P holds = subst (λ some. IsSomeAnd some P) (sym asks) holds

    -- there was no instance
    pub refused_ends : (why : Unloaded) → Unloads i.told a.model why → IsOfText why → (why ≡ unloads.Failed → IsUnread i a.model) → HasNone counts → Refuses why o status → Ends i words o status counts
    refused_ends why held of_text failed none (inl (is, s, line)) = fails_to_read s (asked_for _ (record { unread = failed is; none = none; line = line }))
    refused_ends why held of_text failed none (inr (inl (said, place, is, s, line))) =
        is_refused said s (asked_for _ (record { of_text = subst IsOfText is of_text; none = none; place = place; is = subst (Unloads i.told a.model) is held; line = line }))
    refused_ends why held of_text failed none (inr (inr (s, line))) = runs_out s (record { done = []; stopped = inl (refl, none); line = line })

    -- there was one
    module _ (p : Problem) (is : IsTheModel i.told a.model p) where
      solved_ends : a.redump ≡ false → Solves (plan_of a p.goal) p o status counts → Ends i words o status counts
      solved_ends solves (inl (s, report)) = reports (outcome_of (plan_of a p.goal) p) s (asked_for _ (record { solves = solves; problem = p; is = is; outcome_is = refl; report = report }))
      solved_ends solves (inr (inl (s, cut))) =
          fails_to_write s (asked_for _ (record { problem = p; is = is; failed = cut.failed; cut = subst (λ r. IsCutOff r (plan_of a p.goal) p o.before o.after counts) (sym solves) (cut.some, cut.next, cut.all) }))
      solved_ends solves (inr (inr (s, out))) =
          runs_out s (record { done = out.done; stopped = inr (asked_for _ (solves, p, is, out.front, out.counted, out.visits)); line = out.line })

      dumped_ends : a.redump ≡ true → Dumps p o status counts → Ends i words o status counts
      dumped_ends dumps (inl (s, text)) = prints s (asked_for _ (record { dumps = dumps; problem = p; is = is; text = text }))
      dumped_ends dumps (inr (inl (n, s, long))) = is_too_long n s (asked_for _ (record { dumps = dumps; problem = p; is = is; length_is = long }))
      dumped_ends dumps (inr (inr (inl (s, none, cut)))) =
          fails_to_write s (asked_for _ (record { problem = p; is = is; failed = cut.failed; cut = subst (λ r. IsCutOff r (plan_of a p.goal) p o.before o.after counts) (sym dumps) (none, (cut.part, cut.front, cut.written)) }))
      dumped_ends dumps (inr (inr (inr (none, (s, line))))) = runs_out s (record { done = []; stopped = inl (refl, none); line = line })

      pub answered_ends : Answers a p o status counts → Ends i words o status counts
      answered_ends answers = by a.redump refl answers
        where
          by : (redump : Bool) → a.redump ≡ redump → AnswersBy redump (plan_of a p.goal) p o status counts → Ends i words o status counts
          by true dumps answers = dumped_ends dumps answers
          by false solves answers = solved_ends solves answers
