-- The canonical text of an instance is a text of the language, and stands for that instance.
use Rattle.std.specs.Prelude.{◌≤◌, length}
use Rattle.mn_model.specs.Lawful.{IsLawful}
use Rattle.mn_model.specs.Problem.{Problem}
use Rattle.mn_model.specs.declared.limits.TheConstants.{TEXT_BYTES}
use Rattle.mn_language.specs.Texts.{Reads}
use Rattle.mn_canonical.specs.Canonical.{canonical_text}

-- of every lawful instance, also one that no text made, whose text isn't too long
abbrev pub CanonicalTextsAreRead : Type 0
CanonicalTextsAreRead = (p : Problem) → IsLawful p → length (canonical_text p) ≤ TEXT_BYTES → Reads (canonical_text p) p
