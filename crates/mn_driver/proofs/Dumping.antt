-- What a run writes whose words ask for a model's text.
use Rattle.std.proofs.Common.{◌≡◌, ◌≤◌, ℕ, List, length, take, ap, subst, ◌∙◌, inl, inr}
use Rattle.mn_model.specs.Problem.{Problem}
use Rattle.mn_model.specs.declared.limits.TheConstants.{TEXT_BYTES}
use Rattle.mn_outside.specs.Content.{WritesPart, with_bytes}
use Rattle.mn_canonical.specs.Canonical.{canonical_text}
use Rattle.mn_printer.specs.Faults.{IsFaultOf}
use Rattle.mn_printer.specs.declared.sections.PrintFault.{PrintFault}
use Rattle.mn_driver.specs.Counting.{HasNone}
use Rattle.mn_driver.specs.Explains.{CutsText, Dumps, PutsText, Undumps}
use Rattle.mn_driver.specs.Outputs.{Output, HasFailed}
use Rattle.mn_driver.specs.Written.{IsFrontOf}
use Rattle.mn_driver.specs.declared.status.Counts.{Counts}
use Rattle.mn_driver.specs.declared.status.Status.{Status}
use Rattle.mn_driver.proofs.Solving.{part_is_front}

-- the output failed in the text
pub text_cut : (text : List ℕ) (o : Output) → HasFailed o → WritesPart o.before o.after text → CutsText text o
text_cut text o failed (n, less, is) = record { failed = failed; part = take n text; front = part_is_front n text; written = is }

-- the text was written, or a part of it
pub dumped_so : (p : Problem) (text : List ℕ) (o : Output) (status : Status) (counts : Counts) → text ≡ canonical_text p → length text ≤ TEXT_BYTES → HasNone counts → PutsText text o status → Dumps p o status counts
dumped_so p text o status counts is fits none (inl (e, written)) =
    inl (e, record { none = none; fits = subst (λ t. length t ≤ TEXT_BYTES) is fits; written = written ∙ ap (with_bytes o.before) is })
dumped_so p text o status counts is fits none (inr (e, cut)) =
    inr (inr (inl (e, none, record { failed = cut.failed; part = cut.part; front = subst (IsFrontOf cut.part) is cut.front; written = cut.written })))

-- there is no text to write
pub undumped_so : (p : Problem) (fault : PrintFault) (o : Output) (status : Status) (counts : Counts) → IsFaultOf (canonical_text p) fault → HasNone counts → Undumps fault o status → Dumps p o status counts
undumped_so p fault o status counts is_fault none (inl (n, is, e, line)) =
    let long = subst (IsFaultOf (canonical_text p)) is is_fault in
    inr (inl (n, e, record { none = none; long = long.0; is = long.1; line = line }))
undumped_so p fault o status counts is_fault none (inr says) = inr (inr (inr (none, says)))
