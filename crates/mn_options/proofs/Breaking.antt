-- What an option that was not there before breaks.
use Rattle.std.proofs.Common.{◌≡◌, ◌&&◌, true, false, List, length, Some, None, refl, sym, ◌∙◌}
use Rattle.mn_options.specs.Rules.{asks_for, broken_by, names_model}
use Rattle.mn_options.specs.Words.{same_option}
use Rattle.mn_options.specs.declared.table.CommandOption.{CommandOption}
use Rattle.mn_options.specs.declared.table.CommandOption.TheVariants.{Generate}
use Rattle.mn_options.specs.declared.usage.Usage.TheVariants.{Clash}
use Rattle.mn_options.specs.declared.words.Word.{Word}
use Rattle.mn_options.specs.declared.words.Word.TheVariants.{Listed}

one_option : (o p : CommandOption) → Listed o ≡ Listed p → p ≡ o
one_option o p same = cc

pub listed_clashes : (before : List Word) (word : Word) (o p : CommandOption) → word ≡ Listed o → word ≡ Listed p → asks_for o before ≡ false → same_option p Generate && names_model before ≡ true → Some (Clash (length before)) ≡ broken_by before word
listed_clashes before word o p is too new clash =
    let here = rw (one_option o p (sym is ∙ too)) at clash in
    rw is (rw new (rw here refl))

pub listed_breaks_none : (before : List Word) (word : Word) (o p : CommandOption) → word ≡ Listed o → word ≡ Listed p → asks_for o before ≡ false → same_option p Generate && names_model before ≡ false → None ≡ broken_by before word
listed_breaks_none before word o p is too new apart =
    let here = rw (one_option o p (sym is ∙ too)) at apart in
    rw is (rw new (rw here refl))
