-- What is supported where all other places have one value alone.
use Rattle.std.proofs.Common.{◌≡◌, ◌≢◌, ◌==◌, ◌↔◌, ℕ, zero, suc, ◌<◌, ◌≤◌, ℤ, ◌⊎◌, inl, inr, Bool, true, IsTrue, List, [], ◌∷◌, length, map, get_or, slice_get, Some, Result, Ok, Err, ◌+◌, refl, sym, subst, ap, ◌∙◌, arith, true≢false}
use Rattle.std.proofs.lemmas.Bool.Decides.{Decides-eqb}
use Rattle.std.proofs.lemmas.Option.{get_or_from_slice_get, slice_get-get_or, slice_get_read, slice_get_within}
use Rattle.mn_model.specs.Decided.{Decided, decide_nat}
use Rattle.mn_model.specs.Parts.{places}
use Rattle.mn_model.specs.declared.constraint.Con.{Con}
use Rattle.mn_model.specs.declared.constraint.Term.{Term}
use Rattle.mn_model.specs.declared.declaration.Tuples.{Tuples}
use Rattle.mn_boxes.specs.Boxes.{IsBox}
use Rattle.mn_boxes.specs.Places.{PlaceHas}
use Rattle.mn_meaning.specs.Meaning.{HoldsOver, Meets, at, value_of}
use Rattle.mn_closure.specs.Closed.{Asked, IsAlone, LeafClosed}
use Rattle.mn_closure.specs.Levels.{Level, Arc, Fixed, Hull, Last, level}
use Rattle.mn_closure.specs.Supports.{Choice, ChoiceWith, IsOpen, OtherOpen, StandsAt, Supported, SupportedAt}
use Rattle.mn_closure.proofs.Singles.{value_at}
use Rattle.mn_closure.proofs.Wider.{wider_place, wider_supported}
use Rattle.mn_boxes.specs.Sets.{Variable}
use Rattle.mn_prop.specs.Contexts.{Context, IsNamed, box_of, place_lo, vars_of}
use Rattle.mn_prop.specs.Losses.{nothing_goes}
use Rattle.mn_prop.specs.Passes.{IsStep}
use Rattle.mn_prop.specs.Posts.{ClosedUnderLeaf, IsReadyToRun, Posted}
use Rattle.mn_prop.specs.Revising.{PlaceClosed}
use Rattle.mn_prop.specs.declared.context.Fail.{Fail}
use Rattle.mn_prop.proofs.Ready.{ready_named}
use Rattle.mn_prop.proofs.Stepping.{Rules, as_step, failing, no_step}
use Rattle.mn_prop.specs.Trials.{AlwaysOtherOpen, IsTrial, FitsForwardCheck, OthersAlone, has_few_places, is_checked_at}
use Rattle.mn_prop.proofs.Ended.{least_of}

-- its level is Last, or it has one place at most
abbrev Fits : Con → Type 0
Fits c = (level c ≡ Last) ⊎ ((level c ≡ Arc) × (length (places c) ≤ 1))

fits_so : (c : Con) → FitsForwardCheck c → Fits c
fits_so c is = by (level c) refl is
  where
    few : (ts : List Term) → has_few_places ts ≡ true → length ts ≤ 1
    few [] is = omega arith
    few (x ∷ []) is = omega arith
    few (x ∷ y ∷ ts) is = absurd (true≢false (sym is))

    by : (l : Level) → level c ≡ l → is_checked_at l (places c) ≡ true → Fits c
    by Last e is = inl e
    by Arc e is = inr (e, few (places c) is)
    by Fixed e is = absurd (true≢false (sym is))
    by Hull e is = absurd (true≢false (sym is))

-- choices that agree at each place are the same
same_choice : (box : List (List ℤ)) (ts : List Term) (xs ys : List ℤ) → Choice box ts xs → Choice box ts ys
    → ((j : ℕ) (t : Term) → slice_get ts j ≡ Some t → PlaceHas box t (at xs j) → PlaceHas box t (at ys j) → at xs j ≡ at ys j) → xs ≡ ys
same_choice box [] [] [] one another agree = refl
same_choice box [] [] (y ∷ ys) one another agree = absurd another
same_choice box [] (x ∷ xs) ys one another agree = absurd one
same_choice box (t ∷ ts) [] ys one another agree = absurd one
same_choice box (t ∷ ts) (x ∷ xs) [] one another agree = absurd another
same_choice box (t ∷ ts) (x ∷ xs) (y ∷ ys) one another agree =
    let first : x ≡ y = agree 0 t refl one.0 another.0 in
    let later : xs ≡ ys = same_choice box ts xs ys one.1 another.1 (λ j u stands. agree (suc j) u stands) in
    λ i. first i ∷ later i

-- the values of a trial are a choice
trial_choice : (box : List (List ℤ)) (f : Term → ℤ) (ts : List Term) → ((j : ℕ) (t : Term) → slice_get ts j ≡ Some t → PlaceHas box t (f t)) → Choice box ts (map f ts)
trial_choice box f [] there = tt
trial_choice box f (t ∷ ts) there = (there 0 t refl, trial_choice box f ts (λ j u stands. there (suc j) u stands))

-- all places of the constraint name variables or are constants
abbrev pub AreNamed : Con → List Variable → Type 0
AreNamed c vars = (j : ℕ) (t : Term) → StandsAt c j t → IsNamed vars t

holds_choice : (vars : List Variable) (lists : List Tuples) (c : Con) (i : ℕ) (t : Term) (a : ℤ) (box : List (List ℤ)) (values : ℕ → ℤ) → StandsAt c i t → AreNamed c vars → IsTrial vars box t a values → HoldsOver lists values c → ChoiceWith lists c i a box
holds_choice vars lists c i t a box values stands named trial holds = record {
  values = map (value_of values) (places c);
  chosen = trial_choice box (value_of values) (places c) (λ j u at. trial.there u (named j u at));
  given = value_at (value_of values) (places c) i t stands ∙ trial.given;
  meets = holds;
}

choice_holds : (vars : List Variable) (lists : List Tuples) (c : Con) (i : ℕ) (t : Term) (a : ℤ) (box : List (List ℤ)) (values : ℕ → ℤ) → StandsAt c i t → AreNamed c vars → OthersAlone c i box → IsTrial vars box t a values → ChoiceWith lists c i a box → HoldsOver lists values c
choice_holds vars lists c i t a box values stands named alone trial choice =
    subst (Meets lists c) (same_choice box (places c) choice.values (map (value_of values) (places c)) choice.chosen (trial_choice box (value_of values) (places c) (λ j u at. trial.there u (named j u at))) agree) choice.meets
  where
    agree : (j : ℕ) (u : Term) → StandsAt c j u → PlaceHas box u (at choice.values j) → PlaceHas box u (at (map (value_of values) (places c)) j) → at choice.values j ≡ at (map (value_of values) (places c)) j
    agree j u at_j one another = by (decide_nat j i)
      where
        by : Decided (j ≡ i) → at choice.values j ≡ at (map (value_of values) (places c)) j
        by (inl same) = ap (at choice.values) same ∙ (choice.given ∙ sym (ap (at (map (value_of values) (places c))) same ∙ (value_at (value_of values) (places c) i t stands ∙ trial.given)))
        by (inr differs) = alone j u at_j differs (at choice.values j) one ∙ sym (alone j u at_j differs (at (map (value_of values) (places c)) j) another)

choice_supported : (lists : List Tuples) (c : Con) (i : ℕ) (a : ℤ) (box : List (List ℤ)) → Fits c → ChoiceWith lists c i a box → Supported lists c i a box
choice_supported lists c i a box (inl last) choice = subst (λ l. SupportedAt l lists c i a box) (sym last) (inr choice)
choice_supported lists c i a box (inr arc) choice = subst (λ l. SupportedAt l lists c i a box) (sym arc.0) choice

open_supported : (lists : List Tuples) (c : Con) (i : ℕ) (a : ℤ) (box : List (List ℤ)) → Fits c → i < length (places c) → OtherOpen c i box → Supported lists c i a box
open_supported lists c i a box (inl last) within other = subst (λ l. SupportedAt l lists c i a box) (sym last) (inl other)
open_supported lists c i a box (inr arc) within other =
    absurd (other.other (let below : other.place < length (places c) = slice_get_within (places c) other.place other.term other.stands in let few : length (places c) ≤ 1 = arc.1 in omega (arith, below, few, within)))

supported_choice : (lists : List Tuples) (c : Con) (i : ℕ) (a : ℤ) (box : List (List ℤ)) → Fits c → OthersAlone c i box → Supported lists c i a box → ChoiceWith lists c i a box
supported_choice lists c i a box (inl last) alone supported = by (subst (λ l. SupportedAt l lists c i a box) last supported)
  where
    by : OtherOpen c i box ⊎ ChoiceWith lists c i a box → ChoiceWith lists c i a box
    by (inl o) = absurd (o.is_open.differ (alone o.place o.term o.stands o.other o.is_open.one o.is_open.has_one ∙ sym (alone o.place o.term o.stands o.other o.is_open.another o.is_open.has_another)))
    by (inr choice) = choice
supported_choice lists c i a box (inr arc) alone supported = subst (λ l. SupportedAt l lists c i a box) arc.0 supported

-- where all other places have one value alone, it is supported exactly where the constraint holds of the trial
pub trial_tells : (vars : List Variable) (lists : List Tuples) (c : Con) (i : ℕ) (t : Term) (a : ℤ) (box : List (List ℤ)) (values : ℕ → ℤ) (m : Bool) → FitsForwardCheck c → StandsAt c i t → AreNamed c vars → OthersAlone c i box → IsTrial vars box t a values
    → IsTrue m ↔ HoldsOver lists values c → IsTrue m ↔ Supported lists c i a box
trial_tells vars lists c i t a box values m is stands named alone trial tells = (
  λ e. choice_supported lists c i a box (fits_so c is) (holds_choice vars lists c i t a box values stands named trial (tells.0 e)),
  λ supported. tells.1 (choice_holds vars lists c i t a box values stands named alone trial (supported_choice lists c i a box (fits_so c is) alone supported)),
)

-- with no terms there are no places
pub none_placed : (ts us : List Term) (n : ℕ) → ts ≡ us → n ≡ length ts → (n == 0) ≡ true → us ≡ []
none_placed ts [] n placed long none = refl
none_placed ts (u ∷ us) n placed long none = let zero_long = (Decides-eqb n 0).0 none in let same = ap length placed in absurd (omega (arith, long, zero_long, same))

-- the term at a place
pub placed_at : (c : Con) (ts : List Term) (j : ℕ) (d : Term) → ts ≡ places c → j < length ts → StandsAt c j (get_or ts j d)
placed_at c ts j d placed below = subst (λ us. slice_get us j ≡ Some (get_or ts j d)) placed (slice_get-get_or ts j d below)

pub index_stands : (c : Con) (ts : List Term) (i : ℕ) (x : Term) → ts ≡ places c → i < length (places c) → x ≡ get_or ts i x → StandsAt c i x
index_stands c ts i x placed within read = let same = ap length placed in subst (λ us. slice_get us i ≡ Some x) placed (slice_get_read ts (length ts) i x refl (omega (arith, same, within)) read)

-- the places before j other than i have one value alone
abbrev pub AloneBefore : List Term → ℕ → ℕ → List (List ℤ) → Type 0
AloneBefore ts j i box = (k : ℕ) (t : Term) → slice_get ts k ≡ Some t → k < j → k ≢ i → IsAlone box t (place_lo box t)

pub one_more_alone : (ts us : List Term) (j i : ℕ) (d : Term) (box : List (List ℤ)) → us ≡ ts → AloneBefore ts j i box → (j ≢ i → IsAlone box (get_or us j d) (place_lo box (get_or us j d))) → AloneBefore ts (j + 1) i box
one_more_alone ts us j i d box is before here k t at_k below differs = by (decide_nat k j)
  where
    by : Decided (k ≡ j) → IsAlone box t (place_lo box t)
    by (inl same) =
        let stands : slice_get us j ≡ Some t = subst (λ ws. slice_get ws j ≡ Some t) (sym is) (subst (λ n. slice_get ts n ≡ Some t) same at_k) in
        subst (λ u. IsAlone box u (place_lo box u)) (get_or_from_slice_get us j t d stands) (here (λ e. differs (same ∙ e)))
    by (inr other) = before k t at_k (omega (arith, below, other)) differs

pub all_alone : (c : Con) (ts : List Term) (j i : ℕ) (box : List (List ℤ)) → ts ≡ places c → length ts ≤ j → AloneBefore ts j i box → OthersAlone c i box
all_alone c ts j i box placed past before k t stands differs =
    let at_k : slice_get ts k ≡ Some t = subst (λ us. slice_get us k ≡ Some t) (sym placed) stands in
    let below : k < length ts = slice_get_within ts k t at_k in
    before k t at_k (omega (arith, below, past)) differs

-- two open places
pub always_open : (c : Con) (j : ℕ) (t : Term) (box : List (List ℤ)) → StandsAt c j t → IsOpen box t → OtherOpen c j box → AlwaysOtherOpen c box
always_open c j t box stands two other i = by (decide_nat j i)
  where
    by : Decided (j ≡ i) → OtherOpen c i box
    by (inl same) = subst (λ n. OtherOpen c n box) same other
    by (inr differs) = record { place = j; term = t; stands = stands; other = differs; is_open = two }

pub open_closed : {R : Rules} (posted : Posted) (c : Context) → FitsForwardCheck posted.con → AlwaysOtherOpen posted.con (box_of c) → IsStep R (ClosedUnderLeaf (vars_of c) posted) c c (Ok tt)
open_closed posted c is always = no_step c (record {
  bare = λ none. (let other = always 0 in let below : other.place < length (places posted.con) = slice_get_within (places posted.con) other.place other.term other.stands in absurd (let same = ap length none in omega (arith, below, same)));
  supported = λ i t a stands asked. open_supported posted.lists posted.con i a (box_of c) (fits_so posted.con is) (slice_get_within (places posted.con) i t stands) (always i);
})

-- ---- the place that alone may have several values

-- the value of a choice at a place is there
choice_there : (box : List (List ℤ)) (ts : List Term) (xs : List ℤ) (i : ℕ) (t : Term) → Choice box ts xs → slice_get ts i ≡ Some t → PlaceHas box t (at xs i)
choice_there box [] xs i t chosen stands = cc
choice_there box (u ∷ ts) [] i t chosen stands = absurd chosen
choice_there box (u ∷ ts) (x ∷ xs) zero t chosen stands = let same : u ≡ t = cc in subst (λ v. PlaceHas box v x) same chosen.0
choice_there box (u ∷ ts) (x ∷ xs) (suc i) t chosen stands = choice_there box ts xs i t chosen.1 stands

-- a choice with the value of one place has that of each place that has one alone
choice_elsewhere : (lists : List Tuples) (c : Con) (i j : ℕ) (t : Term) (a b : ℤ) (box : List (List ℤ)) → StandsAt c i t → IsAlone box t (place_lo box t) → PlaceHas box t a → ChoiceWith lists c j b box → ChoiceWith lists c i a box
choice_elsewhere lists c i j t a b box stands alone has choice = record {
  values = choice.values;
  chosen = choice.chosen;
  given = alone (at choice.values i) (choice_there box (places c) choice.values i t choice.chosen stands) ∙ sym (alone a has);
  meets = choice.meets;
}

-- where its values are supported, so are those of all other places
left_closed : (vars : List Variable) (lists : List Tuples) (c : Con) (box : List (List ℤ)) (j : ℕ) → FitsForwardCheck c → IsBox vars box → AreNamed c vars → j < length (places c) → OthersAlone c j box → PlaceClosed vars (record { con = c; lists = lists }) j box → LeafClosed vars lists c box
left_closed vars lists c box j is lawful named within alone here = record {
  bare = λ none. (let same = ap length none in absurd (omega (arith, same, within)));
  supported = λ i t a stands asked. by i t a stands asked (decide_nat i j);
}
  where
    by : (i : ℕ) (t : Term) (a : ℤ) → StandsAt c i t → Asked (level c) vars box t a → Decided (i ≡ j) → Supported lists c i a box
    by i t a stands asked (inl same) = subst (λ n. Supported lists c n a box) (sym same) (here t a (subst (λ n. StandsAt c n t) same stands) asked)
    by i t a stands asked (inr differs) =
        let u : Term = get_or (places c) j t in
        let at_j : StandsAt c j u = slice_get-get_or (places c) j t within in
        let least = least_of (level c) vars box u lawful (named j u at_j) in
        choice_supported lists c i a box (fits_so c is) (choice_elsewhere lists c i j t a least.value box stands (alone i t stands differs) asked.there (supported_choice lists c j least.value box (fits_so c is) alone (here u least.value at_j least.asked)))

pub same_term : (c : Con) (j : ℕ) (t u : Term) → StandsAt c j t → StandsAt c j u → t ≡ u
same_term c j t u one another = cc (one, another)

module _ {R : Rules} {j : ℕ} (posted : Posted) (is : FitsForwardCheck posted.con) where
  pub left_step : {old new : Context} {result : Result (Unit {0}) Fail} → IsBox (vars_of old) (box_of old) → IsReadyToRun (vars_of old) posted → j < length (places posted.con) → OthersAlone posted.con j (box_of old) → IsStep R (PlaceClosed (vars_of old) posted j) old new result
      → IsStep R (ClosedUnderLeaf (vars_of old) posted) old new result
  left_step {old = old} lawful ready within alone step =
      as_step (λ box lawful_box inside closed t a stands asked. closed.supported j t a stands asked)
      (left_closed (vars_of old) posted.lists posted.con (box_of old) j is lawful (λ i t stands. ready_named posted _ ready stands) within alone) step

  -- where that place has one value alone too, the constraint is met by all of them or can't be met
  pub single_met : {t : Term} {a : ℤ} {c : Context} → IsBox (vars_of c) (box_of c) → IsReadyToRun (vars_of c) posted → j < length (places posted.con) → OthersAlone posted.con j (box_of c) → StandsAt posted.con j t → IsAlone (box_of c) t a → Supported posted.lists posted.con j a (box_of c)
      → IsStep R (ClosedUnderLeaf (vars_of c) posted) c c (Ok tt)
  single_met {t = t} {a = a} {c = c} lawful ready within alone stands one supported =
      left_step lawful ready within alone
      (no_step c (λ u b at asked. subst (λ x. Supported posted.lists posted.con j x (box_of c)) (sym (one b (subst (λ v. PlaceHas (box_of c) v b) (same_term posted.con j u t at stands) asked.there))) supported))

  pub single_unmet : {t : Term} {a : ℤ} {c : Context} (fail : Fail) → IsBox (vars_of c) (box_of c) → IsReadyToRun (vars_of c) posted → j < length (places posted.con) → OthersAlone posted.con j (box_of c) → StandsAt posted.con j t → IsAlone (box_of c) t a
      → (Supported posted.lists posted.con j a (box_of c) → ⊥) → IsStep R (ClosedUnderLeaf (vars_of c) posted) c c (Err fail)
  single_unmet {t = t} {a = a} {c = c} fail lawful ready within alone stands one unsupported =
      left_step lawful ready within alone
      (failing fail (nothing_goes c)
      (λ box is_box inside closed.
      (let least = least_of (level posted.con) (vars_of c) box t is_box (ready_named posted _ ready stands) in
      let same : least.value ≡ a = one least.value (wider_place box (box_of c) inside t least.value least.least.there) in
      unsupported (wider_supported (level posted.con) posted.lists posted.con j a box (box_of c) inside (subst (λ x. Supported posted.lists posted.con j x box) same (closed t least.value stands least.asked))))))

-- a constraint with no places holds, or it doesn't
pub bare_closed : {R : Rules} (posted : Posted) (c : Context) → places posted.con ≡ [] → (places posted.con ≡ [] → Meets posted.lists posted.con []) → IsStep R (ClosedUnderLeaf (vars_of c) posted) c c (Ok tt)
bare_closed posted c none holds = no_step c (record {
  bare = holds;
  supported = λ i t a stands asked. absurd (let below : i < length (places posted.con) = slice_get_within (places posted.con) i t stands in let same = ap length none in omega (arith, below, same));
})

pub bare_fails : {R : Rules} (posted : Posted) (c : Context) (fail : Fail) → ((places posted.con ≡ [] → Meets posted.lists posted.con []) → ⊥) → IsStep R (ClosedUnderLeaf (vars_of c) posted) c c (Err fail)
bare_fails posted c fail never = failing fail (nothing_goes c) (λ box is inside closed. never closed.bare)
