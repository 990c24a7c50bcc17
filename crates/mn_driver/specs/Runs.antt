-- What a run owes, by what the words ask for, and what the named file holds or the rule of a generated model says.
use Rattle.std.specs.Prelude.{◌≡◌, ℕ, ◌+◌, List, take, Option, IfSome, Some, None}
use Rattle.mn_model.specs.Lawful.{IsLawful}
use Rattle.mn_model.specs.Problem.{Problem}
use Rattle.mn_model.specs.declared.refusal.Refusal.{Refusal}
use Rattle.mn_gen.specs.Generated.{generated}
use Rattle.mn_outside.specs.Content.{FileMap, file_at}
use Rattle.mn_outside.specs.Reading.{line_ends}
use Rattle.mn_language.specs.Texts.{IsRefused, Reads}
use Rattle.mn_report.specs.Lines.{place_of}
use Rattle.mn_driver.specs.Sources.{Origin, Named, Made}

-- the files tell that the named one is there and has these bytes
abbrev pub Tells : Option FileMap → List ℕ → List ℕ → Type 0
Tells told name text = (files : FileMap) × (told ≡ Some files) × (file_at files name ≡ Some text)

-- the named file holds a text of the language, of the instance p
pub record HoldsText (told : Option FileMap) (name : List ℕ) (p : Problem) : Type 0 where
  pub text : List ℕ
  pub there : Tells told name text
  pub reads : Reads text p

-- p is the instance of which the named file holds a text, or the one that is generated
abbrev pub HoldsModel : Option FileMap → Origin → Problem → Type 0
HoldsModel told (Named name) p = HoldsText told name p
HoldsModel told (Made wanted) p = p ≡ generated wanted.kind wanted.seed wanted.n

-- what holds where the files tell their content; a generated model takes none
abbrev pub WhereTold : Option FileMap → Origin → Type 0 → Type 0
WhereTold told (Named name) P = IfSome told (λ _. P)
WhereTold told (Made wanted) P = P

-- p is a lawful instance, and it is the generated one, or where the files tell their content the one of which the named file
-- holds a text
pub record IsTheModel (told : Option FileMap) (origin : Origin) (p : Problem) : Type 0 where
  pub lawful : IsLawful p
  pub held : WhereTold told origin (HoldsModel told origin p)
  pub only : (r : Problem) → HoldsModel told origin r → r ≡ p

-- the line at a place of a text, counted from 1
abbrev pub line_at : List ℕ → ℕ → ℕ
line_at text at = line_ends (take at text) + 1

-- the named file holds a text that is refused so, at this line
pub record HoldsRefusedText (told : Option FileMap) (name : List ℕ) (why : Refusal) (line : ℕ) : Type 0 where
  pub text : List ℕ
  pub there : Tells told name text
  pub refused : IsRefused text why
  pub line_is : line ≡ line_at text (place_of why)

-- there is such a text; a generated model has none
abbrev pub HoldsRefused : Option FileMap → Origin → Refusal → ℕ → Type 0
HoldsRefused told (Named name) why line = HoldsRefusedText told name why line
HoldsRefused told (Made wanted) why line = ⊥

-- where the files tell their content, the named file holds a text that is refused so
abbrev pub IsTheRefused : Option FileMap → Origin → Refusal → ℕ → Type 0
IsTheRefused told (Named name) why line = IfSome told (λ _. HoldsRefusedText told name why line)
IsTheRefused told (Made wanted) why line = ⊥

-- the files tell that the named one isn't there
abbrev pub IsAbsent : Option FileMap → Origin → Type 0
IsAbsent told (Named name) = (files : FileMap) × (told ≡ Some files) × (file_at files name ≡ None)
IsAbsent told (Made wanted) = ⊥
