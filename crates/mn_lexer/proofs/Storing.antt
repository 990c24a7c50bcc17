-- A list of tokens grows by a long one.
use Rattle.std.proofs.Common.{◌≡◌, List, [], ◌∷◌, ◌++◌, map, length, refl, ap, ◌∙◌, ⊎_elim, nat_eq}
use Rattle.std.proofs.lemmas.Bool.{cases_Bool, eqb-true}
use Rattle.std.specs.Prelude.{All}
use Rattle.std.proofs.lemmas.List.{get_or_append_left, map-append}
use Rattle.std.proofs.Math.Seq.{get_or-append_seam}
use Rattle.std.specs.List.{AllByRecursion}
use Rattle.std.proofs.lemmas.List.Elements.{recursion_from_All}
use Rattle.mn_lexer.specs.Stored.{whole, IsStored}
use Rattle.mn_lexer.specs.declared.Token.{Token}
use Rattle.mn_lexer.specs.declared.listing.Stored.{Stored}

module _ (long : List Token) (t : Token) where
  -- one more long token changes no other
  kept : (s : Stored) → IsStored long s → whole (long ++ t ∷ []) s ≡ whole long s
  kept s is =
      ⊎_elim
      (λ same. rw same (get_or_append_left long (t ∷ []) _ s.at (is (eqb-true s.len 65535 same))))
      (λ short. rw short refl)
      (cases_Bool (nat_eq s.len 65535))

  kept_all : (items : List Stored) → AllByRecursion (IsStored long) items → map (whole (long ++ t ∷ [])) items ≡ map (whole long) items
  kept_all [] all = refl
  kept_all (s ∷ items) all = λ i. kept s all.0 i ∷ kept_all items all.1 i

  pub push_long : (items : List Stored) → All (IsStored long) items → map (whole (long ++ t ∷ [])) (items ++ record { at = length long; len = 65535; kind = t.kind } ∷ []) ≡ map (whole long) items ++ t ∷ []
  push_long items all =
      map-append (whole (long ++ t ∷ [])) items (record { at = length long; len = 65535; kind = t.kind } ∷ [])
      ∙ ap (λ x. x ++ whole (long ++ t ∷ []) (record { at = length long; len = 65535; kind = t.kind }) ∷ []) (kept_all items (recursion_from_All (IsStored long) items all))
      ∙ ap (λ x. map (whole long) items ++ x ∷ []) (get_or-append_seam long t [] _)
