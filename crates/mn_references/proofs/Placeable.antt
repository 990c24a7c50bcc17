-- What an entry answers, by its first token and what stands behind it.
use Rattle.std.proofs.Common.{◌≡◌, ℕ, ℤ, true, List, drop, Option, Some, None, refl, ap, ◌∙◌, inl, inr}
use Rattle.mn_lexer.specs.Terminals.{Terminal}
use Rattle.mn_model.specs.Problem.{Problem}
use Rattle.mn_grammar.specs.Reading.{go_on, one, ret, judged, refused}
use Rattle.mn_grammar.specs.Gives.{Stops}
use Rattle.mn_grammar.specs.declared.Kind.{Kind}
use Rattle.mn_grammar.specs.declared.Stop.{Stop}
use Rattle.mn_grammar.specs.declared.Stop.TheVariants.{Refused}
use Rattle.mn_grammar.specs.declared.site.Site.TheVariants.{Free}
use Rattle.mn_references.specs.Conditions.{lesser}
use Rattle.mn_cursor.specs.Looks.{first_as}
use Rattle.mn_references.specs.References.{at_name, lead_of, lead, one_place}
use Rattle.mn_references.specs.Entries.{Place, placed, constant, denied}
use Rattle.mn_references.specs.Referring.{EntryStart, which_entry, at_entry, behind_entry, behind_name, ref_at, entry_at}
use Rattle.mn_cursor.proofs.Looking.{one_seen, unseen_stops}
use Rattle.mn_cursor.proofs.Turning.{stops_first}

module _ (p : Problem) (want : Place) (ts : List Terminal) where
  pub entry_unseen : (e : Stop) → (first_as which_entry ts ≡ None) × (e ≡ Refused (refused Free ts)) → Stops e (entry_at p want ts)
  unfolding entry_at
  entry_unseen e is = stops_first e (one Free which_entry (at_entry p want) ts) (behind_entry p want) (unseen_stops Free which_entry (at_entry p want) ts e is)

  seen : (w : EntryStart) → first_as which_entry ts ≡ Some w → entry_at p want ts ≡ go_on (judged (at_entry p want w) w ts (drop 1 ts)) (behind_entry p want)
  unfolding entry_at
  seen w is = ap (λ r. go_on r (behind_entry p want)) (one_seen Free which_entry (at_entry p want) w ts is)

  by_name : (w : List ℕ) (c : Option Kind) (us : List Terminal) → go_on (judged {W = EntryStart} c (inl w) ts us) (behind_entry p want) ≡ go_on (go_on (judged c (tt {0}) ts us) (λ u. behind_name want.aim (lead p w))) (λ f. ret (placed f))
  unfolding behind_entry
  by_name w None us = refl
  by_name w (Some k) us = refl

  by_number : (z : ℤ) (c : Option Kind) (us : List Terminal) → go_on (judged {W = EntryStart} c (inr (inl z)) ts us) (behind_entry p want) ≡ go_on (judged c (tt {0}) ts us) (λ u. ret (constant z))
  unfolding behind_entry
  by_number z None us = refl
  by_number z (Some k) us = refl

  by_bang : (c : Option Kind) (us : List Terminal) → go_on (judged {W = EntryStart} c (inr (inr tt)) ts us) (behind_entry p want) ≡ go_on (go_on (judged c (tt {0}) ts us) (λ u. ref_at p (one_place p true))) (λ f. ret (denied f))
  unfolding behind_entry
  by_bang None us = refl
  by_bang (Some k) us = refl

  pub entry_named : (w : List ℕ) → first_as which_entry ts ≡ Some (inl w) → entry_at p want ts ≡ go_on (go_on (judged (lesser want.first (at_name want.aim (lead_of p w))) (tt {0}) ts (drop 1 ts)) (λ u. behind_name want.aim (lead p w))) (λ f. ret (placed f))
  entry_named w is = seen (inl w) is ∙ by_name w (lesser want.first (at_name want.aim (lead_of p w))) (drop 1 ts)

  pub entry_number : (z : ℤ) → first_as which_entry ts ≡ Some (inr (inl z)) → entry_at p want ts ≡ go_on (judged (lesser want.first (want.number z)) (tt {0}) ts (drop 1 ts)) (λ u. ret (constant z))
  entry_number z is = seen (inr (inl z)) is ∙ by_number z (lesser want.first (want.number z)) (drop 1 ts)

  pub entry_bang : first_as which_entry ts ≡ Some (inr (inr tt)) → entry_at p want ts ≡ go_on (go_on (judged want.first (tt {0}) ts (drop 1 ts)) (λ u. ref_at p (one_place p true))) (λ f. ret (denied f))
  entry_bang is = seen (inr (inr tt)) is ∙ by_bang want.first (drop 1 ts)
