-- Which values are supported, and when a box is closed.
use Rattle.std.proofs.Common.{◌≡◌, ℕ, zero, suc, ℤ, pos, ◌+ℤ◌, ◌-ℤ◌, ◌<ℤ◌, ◌≤ℤ◌, List, [], ◌∷◌, length, map, slice_get, Some, Err, refl, sym, subst, ap, ◌∙◌, arith}
use Rattle.std.proofs.lemmas.Int.{ints}
use Rattle.mn_model.specs.Parts.{places}
use Rattle.mn_model.specs.declared.constraint.Con.{Con}
use Rattle.mn_model.specs.declared.constraint.Term.{Term}
use Rattle.mn_model.specs.declared.declaration.Tuples.{Tuples}
use Rattle.mn_boxes.specs.Boxes.{Inside, IsBox}
use Rattle.mn_boxes.specs.Places.{PlaceHas}
use Rattle.mn_boxes.specs.Sets.{Variable}
use Rattle.mn_meaning.specs.Meaning.{Meets}
use Rattle.mn_closure.specs.Closed.{Asked, LeafClosed}
use Rattle.mn_closure.specs.Levels.{level}
use Rattle.mn_closure.specs.Supports.{Choice, ChoiceWith, StandsAt, Supported, SupportedAt}
use Rattle.mn_closure.proofs.Wider.{Grows, wider_choice, wider_place}
use Rattle.mn_prop.specs.Contexts.{Context, IsNamed, box_of, vars_of}
use Rattle.mn_prop.specs.Losses.{Unsupported, nothing_goes}
use Rattle.mn_prop.specs.Passes.{IsStep, NoneHas}
use Rattle.mn_prop.specs.Posts.{beside}
use Rattle.mn_prop.specs.declared.context.Fail.{Fail}
use Rattle.mn_prop.proofs.Stepping.{failing}
use Rattle.mn_sums.specs.Parts.{AllFit, cost, least_cost, least_total, term_of, total}
use Rattle.mn_sums.specs.Sums.{IsAtMost}
use Rattle.mn_sums.specs.declared.part.Part.{Part}
use Rattle.mn_sums.proofs.Costs.{AreParts, as_long, cheapest, choice_of, dearest, with_value}

-- each place of a list has in the outer box what it has in the inner one
all_grow : (inner outer : List (List ℤ)) → Inside inner outer → (ts : List Term) → Grows inner outer ts
all_grow inner outer i [] = tt
all_grow inner outer i (t ∷ ts) = (wider_place inner outer i t, all_grow inner outer i ts)

-- the part whose term stands at a place
record IsPartAt (ps : List Part) (i : ℕ) (t : Term) : Type 0 where
  part : Part
  here : slice_get ps i ≡ Some part
  term : term_of part ≡ t

part_at : (ps : List Part) (i : ℕ) (t : Term) → slice_get (map term_of ps) i ≡ Some t → IsPartAt ps i t
part_at [] i t stands = cc
part_at (p ∷ ps) zero t stands = record { part = p; here = refl; term = (let same : term_of p ≡ t = cc in same) }
part_at (p ∷ ps) (suc i) t stands = let next = part_at ps i t stands in record { part = next.part; here = next.here; term = next.term }

pub part_stands : (ps : List Part) (i : ℕ) (p : Part) → slice_get ps i ≡ Some p → slice_get (map term_of ps) i ≡ Some (term_of p)
part_stands [] i p here = cc
part_stands (q ∷ ps) zero p here = let same : q ≡ p = cc in ap (λ r. Some (term_of r)) same
part_stands (q ∷ ps) (suc i) p here = part_stands ps i p here

named_at : (vars : List Variable) (ps : List Part) (i : ℕ) (p : Part) → AreParts vars ps → slice_get ps i ≡ Some p → IsNamed vars (term_of p)
named_at vars [] i p named here = cc
named_at vars (q ∷ ps) zero p named here = let same : q ≡ p = cc in subst (λ r. IsNamed vars (term_of r)) same named.0
named_at vars (q ∷ ps) (suc i) p named here = named_at vars ps i p named.1 here

module _ (vars : List Variable) (lists : List Tuples) (c : Con) (ps : List Part) (bound : ℤ) (is : IsAtMost lists c ps bound) (named : AreParts vars ps) where
  pub stands : (i : ℕ) (p : Part) → slice_get ps i ≡ Some p → StandsAt c i (term_of p)
  stands i p here = subst (λ ts. slice_get ts i ≡ Some (term_of p)) is.placed (part_stands ps i p here)

  -- what a supported value adds is at most what the least of all other places leaves of the bound
  pub supported_fits : (old box : List (List ℤ)) (i : ℕ) (p : Part) (a : ℤ) → IsBox vars old → Inside box old → slice_get ps i ≡ Some p → Supported lists c i a box → (least_total old ps +ℤ cost p a) ≤ℤ (bound +ℤ least_cost old p)
  supported_fits old box i p a lawful inside here supported =
      let choice : ChoiceWith lists c i a box = subst (λ l. SupportedAt l lists c i a box) is.arc supported in
      let narrow : Choice box (map term_of ps) choice.values = subst (λ ts. Choice box ts choice.values) (sym is.placed) choice.chosen in
      let chosen = wider_choice box old (map term_of ps) (all_grow box old inside (map term_of ps)) choice.values narrow in
      let most = is.meets choice.values (as_long old ps choice.values chosen) choice.meets in
      let least = subst (λ b. (least_total old ps +ℤ cost p b) ≤ℤ (total ps choice.values +ℤ least_cost old p)) choice.given (with_value vars old ps choice.values i p lawful named chosen here) in
      omega (arith, ints, most, least)

  -- and one that adds no more is supported
  pub fits_supported : (old : List (List ℤ)) (i : ℕ) (p : Part) (a : ℤ) → IsBox vars old → slice_get ps i ≡ Some p → PlaceHas old (term_of p) a → (least_total old ps +ℤ cost p a) ≤ℤ (bound +ℤ least_cost old p) → Supported lists c i a old
  fits_supported old i p a lawful here has fits =
      let choice = choice_of vars old ps i p a lawful named here has in
      let sum = choice.sum in
      let with_it : ChoiceWith lists c i a old = record {
        values = choice.values;
        chosen = subst (λ ts. Choice old ts choice.values) is.placed choice.chosen;
        given = choice.given;
        meets = is.met choice.values (as_long old ps choice.values choice.chosen) (omega (arith, ints, fits, sum));
      } in
      subst (λ l. SupportedAt l lists c i a old) (sym is.arc) with_it

  -- of a closed box each value fits
  pub closed_fits : (old box : List (List ℤ)) (i : ℕ) (p : Part) → IsBox vars old → IsBox vars box → Inside box old → slice_get ps i ≡ Some p → LeafClosed vars lists c box → AllFit p ((bound -ℤ least_total old ps) +ℤ least_cost old p) box
  closed_fits old box i p lawful is_box inside here closed a has =
      let dear = dearest vars box p is_box (named_at vars ps i p named here) in
      let supported = closed.supported i (term_of p) dear.value (stands i p here) (subst (λ l. Asked l vars box (term_of p) dear.value) (sym is.arc) dear.asked) in
      let fits = supported_fits old box i p dear.value lawful inside here supported in
      let less = dear.others a has in
      omega (arith, ints, fits, less)

  -- and where each does the box is closed
  pub fits_closed : (old : List (List ℤ)) → IsBox vars old → least_total old ps ≤ℤ bound → ((i : ℕ) (p : Part) → slice_get ps i ≡ Some p → AllFit p ((bound -ℤ least_total old ps) +ℤ least_cost old p) old) → LeafClosed vars lists c old
  fits_closed old lawful least fit = record { bare = bare; supported = all_supported }
    where
      none_placed : (qs : List Part) → map term_of qs ≡ [] → qs ≡ []
      none_placed [] e = refl
      none_placed (q ∷ qs) e = cc

      bare : places c ≡ [] → Meets lists c []
      bare none =
          let empty = none_placed ps (is.placed ∙ none) in
          let zero_total : least_total old ps ≡ pos 0 = ap (least_total old) empty in
          let zero_sum : total ps [] ≡ pos 0 = ap (λ qs. total qs []) empty in
          is.met [] (sym (ap length empty)) (omega (arith, ints, zero_total, zero_sum, least))

      all_supported : (i : ℕ) (t : Term) (a : ℤ) → StandsAt c i t → Asked (level c) vars old t a → Supported lists c i a old
      all_supported i t a at_i asked =
          let p = part_at ps i t (subst (λ ts. slice_get ts i ≡ Some t) (sym is.placed) at_i) in
          let has = subst (λ u. PlaceHas old u a) (sym p.term) asked.there in
          let fits = fit i p.part p.here a has in
          fits_supported old i p.part a lawful p.here has (omega (arith, ints, fits))

  -- where the least sum is past the bound no closed box is left
  pub past_fails : (d : Context) (fail : Fail) → vars_of d ≡ vars → IsBox vars (box_of d) → bound <ℤ least_total (box_of d) ps → IsStep (Unsupported (beside lists c)) (LeafClosed (vars_of d) lists c) d d (Err fail)
  past_fails d fail same lawful past = failing fail (nothing_goes d) none
    where
      old : List (List ℤ)
      old = box_of d

      some : (qs : List Part) → qs ≡ ps → (box : List (List ℤ)) → IsBox vars box → Inside box old → LeafClosed vars lists c box → ⊥
      some [] e box is_box inside closed =
          let holds = closed.bare (sym is.placed ∙ ap (map term_of) (sym e)) in
          let most = is.meets [] (ap length e) holds in
          let zero_total : pos 0 ≡ least_total old ps = ap (least_total old) e in
          let zero_sum : pos 0 ≡ total ps [] = ap (λ qs. total qs []) e in
          omega (arith, ints, most, past, zero_total, zero_sum)
      some (p ∷ qs) e box is_box inside closed =
          let here : slice_get ps 0 ≡ Some p = sym (ap (λ rs. slice_get rs 0) e) in
          let dear = dearest vars box p is_box (named_at vars ps 0 p named here) in
          let fits = closed_fits old box 0 p lawful is_box inside here closed dear.value dear.asked.there in
          let least = (cheapest vars old p lawful (named_at vars ps 0 p named here)).others dear.value (wider_place box old inside (term_of p) dear.value dear.asked.there) in
          omega (arith, ints, past, fits, least)

      none : NoneHas (vars_of d) (LeafClosed (vars_of d) lists c) old
      none = subst (λ vs. NoneHas vs (LeafClosed vs lists c) old) (sym same) (λ box is_box inside closed. some ps refl box is_box inside closed)
