-- Values that are taken out of a place where they may go at the ends alone: a step towards what has to be supported.
use Rattle.std.proofs.Common.{◌≡◌, ℕ, ℤ, pos, ◌-ℤ◌, ◌≤ℤ◌, ◌⊎◌, inl, inr, Bool, true, false, IsTrue, List, Result, Ok, Err, refl, sym, subst, ◌∙◌, arith, true≢false}
use Rattle.std.proofs.lemmas.Int.{ints}
use Rattle.mn_model.specs.Domain.{Has}
use Rattle.mn_model.specs.Variable.{number_of}
use Rattle.mn_model.specs.declared.constraint.Term.{Term}
use Rattle.mn_model.specs.declared.constraint.Term.TheVariants.{Var, Const, Not}
use Rattle.mn_boxes.specs.Boxes.{Inside, IsBox, set_of, variable_at}
use Rattle.mn_boxes.specs.Places.{IsPlaceEnd, PlaceHas, is_place_bounded}
use Rattle.mn_boxes.specs.Sets.{Variable}
use Rattle.mn_boxes.proofs.Quiet.{set_or_none}
use Rattle.mn_closure.specs.Closed.{Asked}
use Rattle.mn_closure.specs.Levels.{Arc, Hull}
use Rattle.mn_closure.proofs.Wider.{wider_place}
use Rattle.mn_prop.specs.Contexts.{Context, IsNamed, box_of, kept_at, vars_of}
use Rattle.mn_prop.specs.Losses.{Loses, nothing_goes, some_go}
use Rattle.mn_prop.specs.Passes.{IsStep}
use Rattle.mn_prop.specs.Sifting.{IsSift, IsSifted}
use Rattle.mn_prop.specs.declared.context.Fail.{Fail}
use Rattle.mn_prop.proofs.Boxing.{kept_at_passes, passing_inside}
use Rattle.mn_prop.proofs.Ended.{greatest_of, least_of}
use Rattle.mn_prop.proofs.Kept.{stays_here}
use Rattle.mn_prop.proofs.Sifting.{sift_passes}
use Rattle.mn_prop.proofs.Stepping.{changed_box, changed_vars}
use Rattle.mn_count.specs.Singles.{EachAsked}

-- a declared value between two that are left is left, where values go at the ends alone
between : (vars : List Variable) (box inner : List (List ℤ)) (w : ℕ) (l b g : ℤ) → IsBox vars box → IsBox vars inner → IsTrue (variable_at vars w).bounded → Has (set_of box w) l → Has (set_of box w) g → l ≤ℤ b → b ≤ℤ g → Has (set_of inner w) b → Has (set_of box w) b
between vars box inner w l b g is lawful bounded has_l has_g low high has =
    set_or_none vars box w is (λ none. absurd (subst (λ xs. Has xs l) none has_l))
    (λ set. set.stretch bounded l b g has_l has_g low high (set_or_none vars inner w lawful (λ none. absurd (subst (λ xs. Has xs b) none has)) (λ other. other.declared b has)))

-- each value of a box's place is left, where those are that have to be supported in that box
all_left : (vars : List Variable) (inner box : List (List ℤ)) (t : Term) → IsBox vars inner → IsBox vars box → IsNamed vars t → ((a : ℤ) → Asked Arc vars inner t a → PlaceHas box t a) → (b : ℤ) → PlaceHas inner t b → PlaceHas box t b
all_left vars inner box (Const k) lawful is named left b has = has
all_left vars inner box (Var w) lawful is named left b has = by (variable_at vars (number_of w)).bounded refl
  where
    by : (e : Bool) → (variable_at vars (number_of w)).bounded ≡ e → PlaceHas box (Var w) b
    by true e =
        let l = least_of Arc vars inner (Var w) lawful named in
        let g = greatest_of Arc vars inner (Var w) lawful named in
        between vars box inner (number_of w) l.value b g.value is lawful e (left l.value l.asked) (left g.value g.asked) (l.least.least b has) (g.greatest.greatest b has) has
    by false e = left b (record { there = has; ends = λ ask. never ask })
      where
        never : IsTrue (is_place_bounded vars (Var w)) ⊎ (Arc ≡ Hull) → IsPlaceEnd inner (Var w) b
        never (inl bounded) = absurd (true≢false (sym bounded ∙ e))
        never (inr hull) = cc
all_left vars inner box (Not w) lawful is named left b has = by (variable_at vars (number_of w)).bounded refl
  where
    by : (e : Bool) → (variable_at vars (number_of w)).bounded ≡ e → PlaceHas box (Not w) b
    by true e =
        let l = least_of Arc vars inner (Not w) lawful named in
        let g = greatest_of Arc vars inner (Not w) lawful named in
        let low = l.least.least b has in
        let high = g.greatest.greatest b has in
        between vars box inner (number_of w) (pos 1 -ℤ g.value) (pos 1 -ℤ b) (pos 1 -ℤ l.value) is lawful e (left g.value g.asked) (left l.value l.asked) (omega (arith, ints, high)) (omega (arith, ints, low)) has
    by false e = left b (record { there = has; ends = λ ask. never ask })
      where
        never : IsTrue (is_place_bounded vars (Not w)) ⊎ (Arc ≡ Hull) → IsPlaceEnd inner (Not w) b
        never (inl bounded) = absurd (true≢false (sym bounded ∙ e))
        never (inr hull) = cc

-- a value that goes doesn't pass
gone : (p q : ℤ → Bool) (a : ℤ) → (p a ≡ true → q a ≡ true) → q a ≡ false → p a ≡ false
gone p q a keeps goes = by (p a) refl
  where
    by : (b : Bool) → p a ≡ b → p a ≡ false
    by true e = absurd (true≢false (sym (keeps e) ∙ goes))
    by false e = e

-- a value of the place that doesn't pass
abbrev pub FailsAt : (ℤ → Bool) → Term → List (List ℤ) → Term → ℤ → Type 0
FailsAt p t box u a = (u ≡ t) × (p a ≡ false)

sift_sound : (p : ℤ → Bool) (t : Term) (old new : Context) → IsNamed (vars_of old) t → IsSift p t old new → (box : List (List ℤ)) → IsBox (vars_of old) box → Inside box (box_of old) → EachAsked (vars_of old) t (λ a. p a ≡ true) box → Inside box (box_of new)
sift_sound p t old new named sift box lawful inside each = subst (λ (b : List (List ℤ)). Inside box b) (sym (changed_box sift.change)) (passing_inside sift.test t box (box_of old) inside passes)
  where
    stayed : (a : ℤ) → Asked Arc (vars_of old) box t a → PlaceHas (kept_at sift.test t (box_of old)) t a
    stayed a asked = let there = wider_place box (box_of old) inside t a asked.there in stays_here sift.test t (box_of old) a there (sift.keeps a there (each a asked))

    is : IsBox (vars_of old) (kept_at sift.test t (box_of old))
    is = subst (IsBox (vars_of old)) (changed_box sift.change) (subst (λ (vars : List Variable). IsBox vars (box_of new)) (changed_vars sift.change) sift.change.boxes)

    passes : (b : ℤ) → PlaceHas box t b → sift.test b ≡ true
    passes b has = kept_at_passes sift.test t (box_of old) b sift.change.some (all_left (vars_of old) box (kept_at sift.test t (box_of old)) t lawful is named stayed b has)

pub sift_asked : {p : ℤ → Bool} {old new : Context} {result : Result (Unit {0}) Fail} (t : Term) → IsNamed (vars_of old) t → IsSifted p t old new result → IsStep (FailsAt p t) (EachAsked (vars_of old) t (λ a. p a ≡ true)) old new result
sift_asked {p = p} {old = old} {new = new} {result = Ok done} t named sift = record {
  loses = some_go old new new t sift.test sift.change (λ a there goes. (refl, gone p sift.test a (sift.keeps a there) goes)) (nothing_goes new);
  sound = sift_sound p t old new named sift;
  fail = tt;
  still = λ same a asked. sift_passes Arc sift a (subst (λ (b : List (List ℤ)). Asked Arc (vars_of old) b t a) (sym same) asked);
}
sift_asked {p = p} {old = old} {new = new} {result = Err fail} t named none = record {
  loses = subst (λ (c : Context). Loses (FailsAt p t) old c) (sym none.1) (nothing_goes old);
  sound = tt;
  fail = λ box lawful inside each. (
      let l = least_of Arc (vars_of old) box t lawful named in
      true≢false (sym (each l.value l.asked) ∙ none.0 l.value (wider_place box (box_of old) inside t l.value l.least.there)));
  still = tt;
}
