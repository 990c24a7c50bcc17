-- A pass of a constraint changes the sets alone that its places name.
use Rattle.std.proofs.Common.{◌≡◌, ℕ, zero, suc, ℤ, pos, ◌-ℤ◌, inl, inr, Bool, true, false, List, [], ◌∷◌, filter, refl, sym, subst, ap, ◌∙◌}
use Rattle.mn_model.specs.Decided.{Decided, decide_nat}
use Rattle.mn_model.specs.Domain.{Has}
use Rattle.mn_model.specs.Variable.{number_of}
use Rattle.mn_model.specs.declared.constraint.Term.{Term}
use Rattle.mn_model.specs.declared.constraint.Term.TheVariants.{Var, Const, Not}
use Rattle.mn_boxes.specs.Boxes.{set_of}
use Rattle.mn_boxes.specs.Places.{PlaceHas}
use Rattle.mn_domains.specs.Changes.{kept}
use Rattle.mn_prop.specs.Contexts.{Context, box_of, kept_at}
use Rattle.mn_prop.specs.Losses.{LetsGo, Loses, nothing_goes, some_go}
use Rattle.mn_prop.specs.Posts.{Names, NamesNot, Posted}
use Rattle.mn_prop.proofs.Boxing.{set_elsewhere}
use Rattle.mn_prop.proofs.PlaceLemmas.{back}
use Rattle.mn_prop.proofs.Stepping.{changed_box}

-- all that pass stay
all_pass : (p : ℤ → Bool) (xs : List ℤ) → ((a : ℤ) → Has xs a → p a ≡ true) → filter p xs ≡ xs
all_pass p [] pass = refl
all_pass p (x ∷ xs) pass = let here = pass x (inl refl) in rw here (ap (λ ys. x ∷ ys) (all_pass p xs (λ a has. pass a (inr has))))

kept_whole : (p : ℤ → Bool) (v : ℕ) (sets : List (List ℤ)) → ((a : ℤ) → Has (set_of sets v) a → p a ≡ true) → kept p v sets ≡ sets
kept_whole p v [] pass = refl
kept_whole p zero (xs ∷ sets) pass = ap (λ ys. ys ∷ sets) (all_pass p xs pass)
kept_whole p (suc v) (xs ∷ sets) pass = ap (λ rest. xs ∷ rest) (kept_whole p v sets pass)

kept_other : (p : ℤ → Bool) (w v : ℕ) (sets : List (List ℤ)) → ((a : ℤ) → Has (set_of sets w) a → p a ≡ false → w ≡ v → ⊥) → set_of (kept p w sets) v ≡ set_of sets v
kept_other p w v sets out = by (decide_nat w v)
  where
    by : Decided (w ≡ v) → set_of (kept p w sets) v ≡ set_of sets v
    by (inl same) = ap (λ box. set_of box v) (kept_whole p w sets (λ a has. passes a has (p a) refl))
      where
        passes : (a : ℤ) → Has (set_of sets w) a → (t : Bool) → p a ≡ t → t ≡ true
        passes a has true e = refl
        passes a has false e = absurd (out a has e same)
    by (inr differs) = set_elsewhere sets w v (filter p (set_of sets w)) differs

kept_unnamed : (p : ℤ → Bool) (t : Term) (v : ℕ) (sets : List (List ℤ)) → ((a : ℤ) → PlaceHas sets t a → p a ≡ false → Names t v → ⊥) → set_of (kept_at p t sets) v ≡ set_of sets v
kept_unnamed p (Var w) v sets out = kept_other p (number_of w) v sets (λ a has e same. out a has e same)
kept_unnamed p (Const k) v sets out = refl
kept_unnamed p (Not w) v sets out =
    kept_other (λ b. p (pos 1 -ℤ b)) (number_of w) v sets (λ a has e same. out (pos 1 -ℤ a) (subst (Has (set_of sets (number_of w))) (sym (back a)) has) e same)

-- a variable that no place names keeps its set
pub unnamed_keep : (posted : Posted) {old new : Context} {v : ℕ} → NamesNot posted.con v → Loses (LetsGo posted) old new → set_of (box_of new) v ≡ set_of (box_of old) v
unnamed_keep posted none (nothing_goes c) = refl
unnamed_keep posted {v = v} none (some_go old mid new t p change may rest) =
    unnamed_keep posted none rest ∙ (ap (λ box. set_of box v) (changed_box change) ∙ kept_unnamed p t v (box_of old) (λ a has out names. (let goes = may a has out in none goes.0 t goes.1 names)))
