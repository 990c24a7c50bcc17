-- What is known of the named file when its text was read, or wasn't.
use Rattle.std.proofs.Common.{◌≡◌, ℕ, ◌+◌, ◌<◌, List, length, take, Option, Some, None, IsSomeAnd, IfSome, refl, sym, ap, subst, ◌∙◌, ◌⊎◌, inl, inr}
use Rattle.mn_model.specs.Lawful.{IsLawful}
use Rattle.mn_model.specs.Problem.{Problem}
use Rattle.mn_model.specs.declared.limits.TheConstants.{TEXT_BYTES}
use Rattle.mn_model.specs.declared.refusal.Refusal.{Refusal}
use Rattle.mn_model.specs.declared.refusal.Refusal.TheVariants.{Limit}
use Rattle.mn_model.specs.declared.refusal.Which.TheVariants.{Text}
use Rattle.mn_outside.specs.Content.{FileMap, file_at}
use Rattle.mn_outside.specs.Reading.{IsFileAt, IsLongerFile, line_ends}
use Rattle.mn_model.specs.declared.refusal.Refusal.TheVariants as refusals
use Rattle.mn_outside.specs.Fault.{TellsLength}
use Rattle.mn_outside.specs.declared.helpers.FetchFault.{FetchFault}
use Rattle.mn_outside.specs.declared.helpers.FetchFault.TheVariants as faults
use Rattle.mn_driver.specs.Loads.{Unloads, unfetched, unread}
use Rattle.mn_language.specs.Texts.{IsRefused, Reads}
use Rattle.mn_report.specs.Lines.{place_of}
use Rattle.mn_driver.specs.Runs.{Tells, HoldsRefusedText, HoldsText, IsTheModel, IsTheRefused, line_at}
use Rattle.mn_driver.specs.Sources.{Named}
use Rattle.mn_driver.proofs.Verdicts.{OneInstance, long_is_refused}

-- a named file that is told has the bytes that were fetched
told_as : (files : FileMap) (name bytes : List ℕ) (found : Option (List ℕ)) → file_at files name ≡ found → IsSomeAnd found (λ file. bytes ≡ file) → Tells (Some files) name bytes
told_as files name bytes None e is = absurd is
told_as files name bytes (Some file) e is = (files, refl, e ∙ ap Some (sym is))

tells : (told : Option FileMap) (name bytes : List ℕ) → IsFileAt told name bytes → IfSome told (λ _. Tells told name bytes)
tells None name bytes is = tt
tells (Some files) name bytes is = told_as files name bytes (file_at files name) refl is

-- nothing else is told of it
same_text : (told : Option FileMap) (name bytes text : List ℕ) → IsFileAt told name bytes → Tells told name text → bytes ≡ text
same_text None name bytes text is (files, none, there) = cc
same_text (Some files) name bytes text is (others, some, there) =
    let same : files ≡ others = cc in
    by (file_at files name) (ap (λ fs. file_at fs name) same ∙ there) is
  where
    by : (found : Option (List ℕ)) → found ≡ Some text → IsSomeAnd found (λ file. bytes ≡ file) → bytes ≡ text
    by None e is = absurd is
    by (Some file) e is = let here : file ≡ text = cc in is ∙ here

map_some : {X : Type 0} (o : Option X) (P Q : Type 0) → (P → Q) → IfSome o (λ _. P) → IfSome o (λ _. Q)
map_some None P Q f p = tt
map_some (Some x) P Q f p = f p

-- the text was read
pub loaded : OneInstance → (told : Option FileMap) (name bytes : List ℕ) (p : Problem) → IsLawful p → IsFileAt told name bytes → Reads bytes p → IsTheModel told (Named name) p
loaded one told name bytes p lawful is reads = record {
  lawful = lawful;
  held = map_some told (Tells told name bytes) (HoldsText told name p) (λ there. record { text = bytes; there = there; reads = reads }) (tells told name bytes is);
  only = λ r held. one bytes r p (subst (λ text. Reads text r) (sym (same_text told name bytes held.text is held.there)) held.reads) reads;
}

-- the text was refused
pub refused : (told : Option FileMap) (name bytes : List ℕ) (why : Refusal) (line : ℕ) → IsFileAt told name bytes → IsRefused bytes why → line ≡ line_at bytes (place_of why) → IsTheRefused told (Named name) why line
refused told name bytes why line is refused_so at =
    map_some told (Tells told name bytes) (HoldsRefusedText told name why line) (λ there. record { text = bytes; there = there; refused = refused_so; line_is = at }) (tells told name bytes is)

-- it is too long
longer : (files : FileMap) (name : List ℕ) (lines : ℕ) (found : Option (List ℕ)) → file_at files name ≡ found → IsSomeAnd found (λ file. (TEXT_BYTES < length file) × (lines ≡ line_ends (take TEXT_BYTES file)))
    → HoldsRefusedText (Some files) name (Limit Text TEXT_BYTES) (lines + 1)
longer files name lines None e is = absurd is
longer files name lines (Some file) e is = record { text = file; there = (files, refl, e); refused = long_is_refused file is.0; line_is = ap (λ n. n + 1) is.1 }

pub too_long : (told : Option FileMap) (name : List ℕ) (lines : ℕ) → IsLongerFile told name TEXT_BYTES lines → IsTheRefused told (Named name) (Limit Text TEXT_BYTES) (lines + 1)
too_long None name lines is = tt
too_long (Some files) name lines is = longer files name lines (file_at files name) refl is

-- why it wasn't fetched
pub faulted : (told : Option FileMap) (name : List ℕ) (fault : FetchFault) → TellsLength told name TEXT_BYTES fault → Unloads told (Named name) (unfetched fault)
faulted told name faults.Failed tells = tt
faulted told name (faults.TooLong lines) tells = too_long told name lines tells.1
faulted told name faults.NoMemory tells = tt

-- why it wasn't read
module _ (told : Option FileMap) (name bytes : List ℕ) (is : IsFileAt told name bytes) where
  of_text : (why : Refusal) → (why ≡ refusals.NoMemory → ⊥) → (why ≡ refusals.NoMemory) ⊎ IsRefused bytes why → IsTheRefused told (Named name) why (line_at bytes (place_of why))
  of_text why other (inl memory) = absurd (other memory)
  of_text why other (inr so) = refused told name bytes why (line_at bytes (place_of why)) is so refl

  pub unread_so : (why : Refusal) → (why ≡ refusals.NoMemory) ⊎ IsRefused bytes why → Unloads told (Named name) (unread why bytes)
  unread_so refusals.NoMemory so = tt
  unread_so (refusals.Lex at) so = of_text (refusals.Lex at) (λ e. cc) so
  unread_so (refusals.NumberRange at) so = of_text (refusals.NumberRange at) (λ e. cc) so
  unread_so (refusals.Syntax at) so = of_text (refusals.Syntax at) (λ e. cc) so
  unread_so (refusals.Name at) so = of_text (refusals.Name at) (λ e. cc) so
  unread_so (refusals.Shape at) so = of_text (refusals.Shape at) (λ e. cc) so
  unread_so (refusals.EmptyDomain at) so = of_text (refusals.EmptyDomain at) (λ e. cc) so
  unread_so (refusals.Limit which at) so = of_text (refusals.Limit which at) (λ e. cc) so
  unread_so (refusals.Unsupported at) so = of_text (refusals.Unsupported at) (λ e. cc) so
