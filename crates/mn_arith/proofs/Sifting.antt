-- What it leaves to keep the values of a place that pass a test: what has to be supported passes.
use Rattle.std.proofs.Common.{◌≡◌, ℕ, ℤ, pos, ◌-ℤ◌, ◌≤ℤ◌, ◌⊎◌, inl, inr, Bool, true, false, List, Result, Ok, Err, refl, sym, subst, ◌∙◌, arith, true≢false}
use Rattle.std.proofs.lemmas.Int.{ints}
use Rattle.mn_model.specs.Domain.{Has}
use Rattle.mn_model.specs.Variable.{number_of}
use Rattle.mn_model.specs.declared.constraint.Term.{Term}
use Rattle.mn_model.specs.declared.constraint.Term.TheVariants.{Var, Const, Not}
use Rattle.mn_boxes.specs.Boxes.{Inside, IsBox, set_of, variable_at}
use Rattle.mn_boxes.specs.Places.{PlaceHas, is_place_bounded}
use Rattle.mn_boxes.specs.Sets.{Variable}
use Rattle.mn_boxes.proofs.Quiet.{set_or_none}
use Rattle.mn_closure.specs.Closed.{Asked}
use Rattle.mn_closure.specs.Levels.{Arc, Hull}
use Rattle.mn_closure.proofs.Wider.{wider_place}
use Rattle.mn_prop.specs.Contexts.{Context, IsNamed, box_of, vars_of}
use Rattle.mn_prop.specs.Passes.{AllPass, IsStep}
use Rattle.mn_prop.specs.Sifting.{IsSift, IsSifted}
use Rattle.mn_prop.specs.declared.context.Fail.{Fail}
use Rattle.mn_prop.proofs.Boxing.{kept_at_passes}
use Rattle.mn_prop.proofs.Ended.{greatest_of, least_of}
use Rattle.mn_prop.proofs.Kept.{stays_here}
use Rattle.mn_prop.proofs.Sifting.{sift_passes}
use Rattle.mn_prop.proofs.Stepping.{change_step, changed_box, changed_vars}

-- what has to be supported of a place passes
abbrev pub AskedPass : List Variable → (ℤ → Bool) → Term → List (List ℤ) → Type 0
AskedPass vars p t box = (a : ℤ) → Asked Arc vars box t a → p a ≡ true

-- a set whose values go at the ends alone has all of its variable that is between two of them
set_between : (vars : List Variable) (new box : List (List ℤ)) (v : ℕ) (a b c : ℤ) → IsBox vars new → IsBox vars box → (variable_at vars v).bounded ≡ true → Has (set_of new v) a → Has (set_of new v) c → a ≤ℤ b → b ≤ℤ c → Has (set_of box v) b → Has (set_of new v) b
set_between vars new box v a b c is_new is_box bounded low high from to has =
    set_or_none vars new v is_new (λ none. absurd (subst (λ xs. Has xs a) none low))
    (λ set. set_or_none vars box v is_box (λ none. absurd (subst (λ xs. Has xs b) none has)) (λ other. set.stretch bounded a b c low high from to (other.declared b has)))

place_between : (vars : List Variable) (new box : List (List ℤ)) (t : Term) (a b c : ℤ) → IsBox vars new → IsBox vars box → is_place_bounded vars t ≡ true → PlaceHas new t a → PlaceHas new t c → a ≤ℤ b → b ≤ℤ c → PlaceHas box t b → PlaceHas new t b
place_between vars new box (Var v) a b c is_new is_box bounded low high from to has = set_between vars new box (number_of v) a b c is_new is_box bounded low high from to has
place_between vars new box (Const k) a b c is_new is_box bounded low high from to has = has
place_between vars new box (Not v) a b c is_new is_box bounded low high from to has =
    set_between vars new box (number_of v) (pos 1 -ℤ c) (pos 1 -ℤ b) (pos 1 -ℤ a) is_new is_box bounded high low (omega (arith, ints, to)) (omega (arith, ints, from)) has

-- in a box inside the old one whose asked values pass, all values of the place stay
module _ {p : ℤ → Bool} (t : Term) (old new : Context) (named : IsNamed (vars_of old) t) (sift : IsSift p t old new) where
  kept_between : (box : List (List ℤ)) → IsBox (vars_of old) box → Inside box (box_of old) → AskedPass (vars_of old) p t box → is_place_bounded (vars_of old) t ≡ true → AllPass sift.test t box
  kept_between box is inside asked bounded a has =
      let l = least_of Arc (vars_of old) box t is named in
      let g = greatest_of Arc (vars_of old) box t is named in
      kept_at_passes sift.test t (box_of old) a sift.change.some
      (subst (λ (b : List (List ℤ)). PlaceHas b t a) (changed_box sift.change)
      (place_between (vars_of old) (box_of new) box t l.value a g.value (subst (λ (vars : List Variable). IsBox vars (box_of new)) (changed_vars sift.change) sift.change.boxes) is bounded (stayed l.value l.asked) (stayed g.value g.asked) (l.least.least a has) (g.greatest.greatest a has) has))
    where
      stayed : (b : ℤ) → Asked Arc (vars_of old) box t b → PlaceHas (box_of new) t b
      stayed b at =
          let there = wider_place box (box_of old) inside t b at.there in
          subst (λ (sets : List (List ℤ)). PlaceHas sets t b) (sym (changed_box sift.change)) (stays_here sift.test t (box_of old) b there (sift.keeps b there (asked b at)))

  all_kept : (box : List (List ℤ)) → IsBox (vars_of old) box → Inside box (box_of old) → AskedPass (vars_of old) p t box → AllPass sift.test t box
  all_kept box is inside asked = by (is_place_bounded (vars_of old) t) refl
    where
      arc_not_hull : Arc ≡ Hull → ⊥
      arc_not_hull e = cc

      by : (b : Bool) → is_place_bounded (vars_of old) t ≡ b → AllPass sift.test t box
      by true bounded = kept_between box is inside asked bounded
      by false free = λ a has. sift.keeps a (wider_place box (box_of old) inside t a has) (asked a (record { there = has; ends = λ either. absurd (none either) }))
        where
          none : (is_place_bounded (vars_of old) t ≡ true) ⊎ (Arc ≡ Hull) → ⊥
          none (inl bounded) = true≢false (sym bounded ∙ free)
          none (inr hull) = arc_not_hull hull

-- keeping values is a step towards the boxes whose asked values pass
pub sift_asked : {R : List (List ℤ) → Term → ℤ → Type 0} {p : ℤ → Bool} {old new : Context} {result : Result (Unit {0}) Fail} (t : Term) → IsNamed (vars_of old) t → ((a : ℤ) → PlaceHas (box_of old) t a → p a ≡ false → R (box_of old) t a) → IsSifted p t old new result → IsStep R (AskedPass (vars_of old) p t) old new result
sift_asked {R = R} {p = p} {old = old} {new = new} {result = Ok done} t named rule sift =
    let step : IsStep R (AllPass sift.test t) old new (Ok done) = change_step sift.test t named (λ a there goes. rule a there (gone a there (p a) refl goes)) sift.change in
    record {
      loses = step.loses;
      sound = λ box is inside asked. step.sound box is inside (all_kept t old new named sift box is inside asked);
      fail = tt;
      still = λ same a asked. sift_passes Arc sift a (subst (λ (box : List (List ℤ)). Asked Arc (vars_of old) box t a) (sym same) asked);
    }
  where
    gone : (a : ℤ) → PlaceHas (box_of old) t a → (b : Bool) → p a ≡ b → sift.test a ≡ false → b ≡ false
    gone a there true e goes = absurd (true≢false (sym (sift.keeps a there e) ∙ goes))
    gone a there false e goes = refl
sift_asked {R = R} {p = p} {old = old} {new = new} {result = Err fail} t named rule none =
    let step : IsStep R (AllPass p t) old new (Err fail) = change_step p t named rule none in
    record {
      loses = step.loses;
      sound = tt;
      fail = λ box is inside asked. (
          let l = least_of Arc (vars_of old) box t is named in
          true≢false (sym (asked l.value l.asked) ∙ none.0 l.value (wider_place box (box_of old) inside t l.value l.asked.there))
          );
      still = tt;
    }
