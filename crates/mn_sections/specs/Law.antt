-- The sections of an instance break nothing, and stand for the instance.
use Rattle.std.specs.Prelude.{◌≡◌, []}
use Rattle.mn_model.specs.Lawful.{IsLawful}
use Rattle.mn_model.specs.Problem.{Problem}
use Rattle.mn_language.specs.Texts.{breaks_text, problem_of}
use Rattle.mn_sections.specs.Constraining.{sections_of}

pub record IsSaid (p : Problem) : Type 0 where
  pub kept : breaks_text (sections_of p) ≡ []
  pub means : problem_of (sections_of p) ≡ p

-- of every lawful instance, also one that no text made
abbrev pub InstancesAreSaid : Type 0
InstancesAreSaid = (p : Problem) → IsLawful p → IsSaid p
