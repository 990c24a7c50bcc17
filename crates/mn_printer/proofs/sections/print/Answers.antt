use Rattle.std.proofs.Common.{◌≡◌, ℕ, ◌<◌, ◌≤◌, List, Result, Ok, Err, IfOk, IfErr, IsErr, length, ap, sym, ◌∙◌, subst, refl, arith}
use Rattle.mn_model.specs.declared.limits.TheConstants.{TEXT_BYTES}
use Rattle.mn_model.specs.Problem.{Problem}
use Rattle.mn_language.specs.Texts.{Reads}
use Rattle.mn_canonical.specs.Canonical.{canonical_text}
use Rattle.mn_printer.specs.Faults.{IsFaultOf}
use Rattle.mn_printer.specs.Pages.{Written, onto, blank}
use Rattle.mn_printer.specs.declared.sections.PrintFault.{PrintFault}
use Rattle.mn_printer.specs.declared.sections.PrintFault.TheVariants.{TooLong}
use Rattle.mn_printer.proofs.Finished.{count_is, length_within, length_past, kept_is}
use Rattle.mn_printer.proofs.sections.print.Goals as goal

-- what is answered, by the page
record IsAnswered {V : Type 0} (items : V → List ℕ) (text : List ℕ) (r : Result V PrintFault) : Type 0 where
  is_text : IfOk r (λ bytes. items bytes ≡ text)
  fits : IfOk r (λ bytes. length (items bytes) ≤ TEXT_BYTES)
  too_long : IfErr r (IsFaultOf text)
  long : TEXT_BYTES < length text → IsErr r

answered : {V : Type 0} (items : V → List ℕ) (page : Written) (text : List ℕ) → page ≡ onto blank text → (r : Result V PrintFault)
    → IfOk r (λ bytes. (items bytes ≡ page.kept) × (page.count ≤ TEXT_BYTES)) → IfErr r (λ fault. (TEXT_BYTES < page.count) × (fault ≡ TooLong page.count)) → IsAnswered items text r
answered items page text e (Ok bytes) ok err =
    let few : length text ≤ TEXT_BYTES = length_within (length text) page.count (count_is page text e) ok.1 in
    let whole : items bytes ≡ text = ok.0 ∙ kept_is page text e few in
    record { is_text = whole; fits = omega (arith, few, ap length whole); too_long = tt; long = λ many. absurd (omega (arith, few, many)) }
answered items page text e (Err fault) ok err =
    let told : IsFaultOf text (TooLong page.count) = (length_past (length text) page.count (count_is page text e) err.0, count_is page text e) in
    record { is_text = tt; fits = tt; too_long = subst (IsFaultOf text) (sym err.1) told; long = λ many. refl }

-- what is answered is read again, since its text is
read_again : {V : Type 0} (items : V → List ℕ) (text : List ℕ) (p : Problem) (r : Result V PrintFault) → IfOk r (λ bytes. items bytes ≡ text) → IfOk r (λ bytes. length (items bytes) ≤ TEXT_BYTES)
    → (length text ≤ TEXT_BYTES → Reads text p) → IfOk r (λ bytes. Reads (items bytes) p)
read_again items text p (Ok bytes) is fits law = subst (λ t. Reads t p) (sym is) (law (omega (arith, fits, ap length is)))
read_again items text p (Err fault) is fits law = tt

pub returns : goal.returns
returns c =
    let page : c.sections.new.page ≡ onto blank (canonical_text c.args.inst.now) = c.in_ok-sections.ensures ∙ ap (λ w. onto w (canonical_text c.args.inst.now)) c.new-page.ensures in
    let all = answered (λ bytes. bytes.items) c.sections.new.page (canonical_text c.args.inst.now) page c.finished.result c.finished.ensures.ok c.finished.ensures.err in
    let law = c.canonical_texts_are_read.ensures c.args.inst.now c.lawful.ensures in
    let again = read_again (λ bytes. bytes.items) (canonical_text c.args.inst.now) c.args.inst.now c.finished.result all.is_text all.fits law in
    record { text = all.is_text; reads = again; fits = all.fits; too_long = all.too_long; long = all.long }
