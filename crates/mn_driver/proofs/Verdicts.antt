-- What the laws of the language say of one text.
use Rattle.std.proofs.Common.{◌≡◌, ◌<◌, ℕ, List, length, Result, Ok, Err, refl, inl}
use Rattle.mn_language.specs.Texts.{IsRefused, IsVerdict, Reads}
use Rattle.mn_model.specs.Problem.{Problem}
use Rattle.mn_model.specs.declared.limits.TheConstants.{TEXT_BYTES}
use Rattle.mn_model.specs.declared.refusal.Refusal.{Refusal}
use Rattle.mn_model.specs.declared.refusal.Refusal.TheVariants.{Limit}
use Rattle.mn_model.specs.declared.refusal.Which.TheVariants.{Text}

-- no text stands for two instances
abbrev pub OneInstance : Type 0
OneInstance = (text : List ℕ) (p q : Problem) → Reads text p → Reads text q → p ≡ q

-- none has two verdicts
abbrev pub OneVerdict : Type 0
OneVerdict = (text : List ℕ) (r q : Result Problem Refusal) → IsVerdict text r → IsVerdict text q → r ≡ q

same_refusal : (why other : Refusal) → ◌≡◌ {A = Result Problem Refusal} (Err why) (Err other) → other ≡ why
same_refusal why other e = cc

-- so none is refused for two reasons
pub one_refusal_of : OneVerdict → (text : List ℕ) (why other : Refusal) → IsRefused text why → IsRefused text other → other ≡ why
one_refusal_of one text why other refused also = same_refusal why other (one text (Err why) (Err other) refused also)

-- and none that stands for an instance is refused
pub never_both : OneVerdict → (text : List ℕ) (p : Problem) (why : Refusal) → Reads text p → IsRefused text why → ⊥
never_both one text p why reads refused = let both : Ok p ≡ Err why = one text (Ok p) (Err why) reads refused in cc

-- one that is too long is refused as that
pub long_is_refused : (text : List ℕ) → TEXT_BYTES < length text → IsRefused text (Limit Text TEXT_BYTES)
long_is_refused text long = inl (long, refl)
