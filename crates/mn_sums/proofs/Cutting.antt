-- Cuts of one place.
use Rattle.std.proofs.Common.{◌≡◌, ℤ, pos, negsuc, ◌+ℤ◌, ◌-ℤ◌, ◌*ℤ◌, ◌<ℤ◌, ◌≤ℤ◌, ◌↔◌, ◌⊎◌, inl, inr, true, false, int_le, List, Result, Ok, refl, sym, subst, ap, ◌∙◌, arith}
use Rattle.std.proofs.lemmas.Int.{ints}
use Rattle.std.specs.Ordering.{int_eq}
use Rattle.mn_model.specs.Decided.{Decided, decide_int}
use Rattle.mn_model.specs.Lawful.{IsNear, IsNearTerm}
use Rattle.mn_model.specs.Variable.{number_of}
use Rattle.mn_model.specs.declared.constraint.Term.{Term}
use Rattle.mn_model.specs.declared.constraint.Term.TheVariants.{Var, Const, Not}
use Rattle.mn_boxes.specs.Boxes.{IsBox}
use Rattle.mn_boxes.specs.Places.{PlaceHas}
use Rattle.mn_boxes.specs.Sets.{Variable}
use Rattle.mn_meaning.proofs.Places.{int_eq-same}
use Rattle.mn_closure.specs.Deciding.{decide_place}
use Rattle.mn_domains.proofs.Filtered.{eq_so}
use Rattle.mn_prop.specs.Contexts.{AreValued, ChangedAt, Context, IsGreatestAt, IsLeastAt, IsNamed, box_of, place_hi, place_lo, vars_of}
use Rattle.mn_prop.specs.Passes.{IsStep}
use Rattle.mn_prop.specs.declared.context.Fail.{Fail}
use Rattle.mn_prop.proofs.Narrowing.{high_step, low_step}
use Rattle.mn_prop.proofs.Stepping.{as_step, by_rule, change_step, no_step}
use Rattle.mn_prop.proofs.Trying.{at_most_or}
use Rattle.mn_prop.proofs.Valued.{valued_at}
use Rattle.mn_sums.specs.Parts.{AllFit, IsSmall, IsSpan, TooMuch, cost, least_cost, least_when}
use Rattle.mn_sums.specs.declared.part.Part.{Part}
use Rattle.mn_sums.specs.declared.part.Part.TheVariants.{Times, Is}
use Rattle.mn_sums.proofs.Costs.{above_cost, below_cost, cost_between, falls, is_cost, other_cost}
use Rattle.mn_sums.proofs.Numbers.{never, times_le}

-- the values of a place are at most one past the limits
pub near_in : (vars : List Variable) (box : List (List ℤ)) (t : Term) (a : ℤ) → IsBox vars box → AreValued vars → IsNearTerm t → PlaceHas box t a → IsNear a
near_in vars box (Var v) a is valued near has = let value = valued_at vars box (number_of v) a is valued has in (omega (arith, ints, value.0), omega (arith, ints, value.1))
near_in vars box (Const k) a is valued near has = subst IsNear has near
near_in vars box (Not v) a is valued near has = let value = valued_at vars box (number_of v) (pos 1 -ℤ a) is valued has in (omega (arith, ints, value.0, value.1), omega (arith, ints, value.0, value.1))

-- ---- spans

pub span_below : (w lo hi : ℤ) (t : Term) (box : List (List ℤ)) → w <ℤ pos 0 → hi ≡ place_hi box t → IsLeastAt box t lo → IsSmall (w *ℤ hi) → IsSmall (w *ℤ lo) → IsSpan box (Times w t) (w *ℤ hi) (w *ℤ lo)
span_below (pos n) lo hi t box below is least low high = absurd (omega (arith, ints, below))
span_below (negsuc m) lo hi t box below is least low high = record { is = ap (λ a. negsuc m *ℤ a) is ∙ sym (below_cost m box t); most = λ a has. falls m lo a (least.least a has); small_low = low; small_high = high }

pub span_above : (w lo hi : ℤ) (t : Term) (box : List (List ℤ)) → pos 0 ≤ℤ w → lo ≡ place_lo box t → IsGreatestAt box t hi → IsSmall (w *ℤ lo) → IsSmall (w *ℤ hi) → IsSpan box (Times w t) (w *ℤ lo) (w *ℤ hi)
span_above (pos n) lo hi t box above is great low high = record { is = ap (λ a. pos n *ℤ a) is ∙ sym (above_cost n box t); most = λ a has. times_le n a hi (great.greatest a has); small_low = low; small_high = high }
span_above (negsuc m) lo hi t box above is great low high = absurd (omega (arith, ints, above))

pub least_has : (box : List (List ℤ)) (k : ℤ) (t : Term) → PlaceHas box t k → least_cost box (Is k t) ≡ negsuc 0
least_has box k t has = by (decide_place box t k)
  where
    by : (d : Decided (PlaceHas box t k)) → least_when d ≡ negsuc 0
    by (inl at) = refl
    by (inr not) = absurd (not has)

pub least_lacks : (box : List (List ℤ)) (k : ℤ) (t : Term) → (PlaceHas box t k → ⊥) → least_cost box (Is k t) ≡ pos 0
least_lacks box k t lacks = by (decide_place box t k)
  where
    by : (d : Decided (PlaceHas box t k)) → least_when d ≡ pos 0
    by (inl at) = absurd (lacks at)
    by (inr not) = refl

pub span_has : (box : List (List ℤ)) (k : ℤ) (t : Term) → PlaceHas box t k → IsSpan box (Is k t) (negsuc 0) (pos 0)
span_has box k t has = record { is = sym (least_has box k t has); most = λ a at. (cost_between k a t).1; small_low = (omega (arith, ints), omega (arith, ints)); small_high = (omega (arith, ints), omega (arith, ints)) }

pub span_lacks : (box : List (List ℤ)) (k : ℤ) (t : Term) → (PlaceHas box t k → ⊥) → IsSpan box (Is k t) (pos 0) (pos 0)
span_lacks box k t lacks = record { is = sym (least_lacks box k t lacks); most = λ a at. (cost_between k a t).1; small_low = (omega (arith, ints), omega (arith, ints)); small_high = (omega (arith, ints), omega (arith, ints)) }

-- ---- steps

-- what adds more isn't at most a number that tells what adds no more
out_above : (w a m most : ℤ) → (a ≤ℤ m ↔ (w *ℤ a) ≤ℤ most) → m <ℤ a → most <ℤ (w *ℤ a)
out_above w a m most fits out = by (at_most_or (w *ℤ a) most)
  where
    by : ((w *ℤ a) ≤ℤ most) ⊎ (most <ℤ (w *ℤ a)) → most <ℤ (w *ℤ a)
    by (inl le) = absurd (let within = fits.1 le in omega (arith, ints, within, out))
    by (inr more) = more

out_below : (w a m most : ℤ) → (m ≤ℤ a ↔ (w *ℤ a) ≤ℤ most) → a <ℤ m → most <ℤ (w *ℤ a)
out_below w a m most fits out = by (at_most_or (w *ℤ a) most)
  where
    by : ((w *ℤ a) ≤ℤ most) ⊎ (most <ℤ (w *ℤ a)) → most <ℤ (w *ℤ a)
    by (inl le) = absurd (let within = fits.1 le in omega (arith, ints, within, out))
    by (inr more) = more

-- a cut at such a number
step_above : {old new : Context} {result : Result (Unit {0}) Fail} (w m most : ℤ) (t : Term) → ((a : ℤ) → a ≤ℤ m ↔ (w *ℤ a) ≤ℤ most) → IsNamed (vars_of old) t → ChangedAt (λ x. int_le x m) t old new result → IsStep (TooMuch (Times w t) most) (AllFit (Times w t) most) old new result
step_above w m most t fits named changed =
    as_step (λ box is inside all a has. (fits a).1 (all a has)) (λ all a has. (fits a).0 (all a has)) (by_rule (λ box inside u a has more. (more.0, out_above w a m most (fits a) more.1)) (high_step m t named changed))

step_below : {old new : Context} {result : Result (Unit {0}) Fail} (w m most : ℤ) (t : Term) → ((a : ℤ) → m ≤ℤ a ↔ (w *ℤ a) ≤ℤ most) → IsNamed (vars_of old) t → ChangedAt (λ x. int_le m x) t old new result → IsStep (TooMuch (Times w t) most) (AllFit (Times w t) most) old new result
step_below w m most t fits named changed =
    as_step (λ box is inside all a has. (fits a).1 (all a has)) (λ all a has. (fits a).0 (all a has)) (by_rule (λ box inside u a has less. (less.0, out_below w a m most (fits a) less.1)) (low_step m t named changed))

pub cut_above : {old new : Context} {result : Result (Unit {0}) Fail} (w lo slack m : ℤ) (t : Term) → pos 0 <ℤ w → lo ≡ place_lo (box_of old) t → ((a : ℤ) → a ≤ℤ m ↔ (w *ℤ a) ≤ℤ ((w *ℤ lo) +ℤ slack)) → IsNamed (vars_of old) t → ChangedAt (λ x. int_le x m) t old new result
    → IsStep (TooMuch (Times w t) (least_cost (box_of old) (Times w t) +ℤ slack)) (AllFit (Times w t) (least_cost (box_of old) (Times w t) +ℤ slack)) old new result
cut_above {old = old} {new = new} {result = result} (pos n) lo slack m t above is fits named changed =
    let e : (pos n *ℤ lo) +ℤ slack ≡ least_cost (box_of old) (Times (pos n) t) +ℤ slack = ap (λ a. (pos n *ℤ a) +ℤ slack) is ∙ ap (λ b. b +ℤ slack) (sym (above_cost n (box_of old) t)) in
    subst (λ most. IsStep (TooMuch (Times (pos n) t) most) (AllFit (Times (pos n) t) most) old new result) e (step_above (pos n) m ((pos n *ℤ lo) +ℤ slack) t fits named changed)
cut_above (negsuc k) lo slack m t above is fits named changed = absurd (omega (arith, ints, above))

pub cut_below : {old new : Context} {result : Result (Unit {0}) Fail} (w hi slack m : ℤ) (t : Term) → w <ℤ pos 0 → hi ≡ place_hi (box_of old) t → ((a : ℤ) → m ≤ℤ a ↔ (w *ℤ a) ≤ℤ ((w *ℤ hi) +ℤ slack)) → IsNamed (vars_of old) t → ChangedAt (λ x. int_le m x) t old new result
    → IsStep (TooMuch (Times w t) (least_cost (box_of old) (Times w t) +ℤ slack)) (AllFit (Times w t) (least_cost (box_of old) (Times w t) +ℤ slack)) old new result
cut_below {old = old} {new = new} {result = result} (negsuc k) hi slack m t below is fits named changed =
    let e : (negsuc k *ℤ hi) +ℤ slack ≡ least_cost (box_of old) (Times (negsuc k) t) +ℤ slack = ap (λ a. (negsuc k *ℤ a) +ℤ slack) is ∙ ap (λ b. b +ℤ slack) (sym (below_cost k (box_of old) t)) in
    subst (λ most. IsStep (TooMuch (Times (negsuc k) t) most) (AllFit (Times (negsuc k) t) most) old new result) e (step_below (negsuc k) m ((negsuc k *ℤ hi) +ℤ slack) t fits named changed)
cut_below (pos n) hi slack m t below is fits named changed = absurd (omega (arith, ints, below))

-- a weight of 0 adds nothing
pub cut_never : (c : Context) (w slack : ℤ) (t : Term) → w ≡ pos 0 → pos 0 ≤ℤ slack → IsStep (TooMuch (Times w t) (least_cost (box_of c) (Times w t) +ℤ slack)) (AllFit (Times w t) (least_cost (box_of c) (Times w t) +ℤ slack)) c c (Ok tt)
cut_never c w slack t none some = no_step c (subst (λ v. AllFit (Times v t) (least_cost (box_of c) (Times v t) +ℤ slack) (box_of c)) (sym none) (λ a has. (let e = never a in let f = above_cost 0 (box_of c) t in let g = never (place_lo (box_of c) t) in omega (arith, ints, e, f, g, some))))

-- where the number fits and every other value adds too much
int_eq_false : (a k : ℤ) → int_eq a k ≡ false → a ≡ k → ⊥
int_eq_false a k e same = absurd (true_false (sym (int_eq-same a k same) ∙ e))
  where
    true_false : true ≡ false → ⊥
    true_false t = cc

pub cut_is : {old new : Context} {result : Result (Unit {0}) Fail} (k slack : ℤ) (t : Term) → slack ≡ pos 0 → PlaceHas (box_of old) t k → IsNamed (vars_of old) t → ChangedAt (λ x. int_eq x k) t old new result
    → IsStep (TooMuch (Is k t) (least_cost (box_of old) (Is k t) +ℤ slack)) (AllFit (Is k t) (least_cost (box_of old) (Is k t) +ℤ slack)) old new result
cut_is {old = old} {new = new} {result = result} k slack t none has named changed =
    let least = least_has (box_of old) k t has in
    as_step
    (λ box is inside all a at. same a (let fits = all a at in omega (arith, ints, least, none, fits)))
    (λ all a at. (let e = is_cost k a t (eq_so a k (all a at)) in omega (arith, ints, least, none, e)))
    (change_step (λ x. int_eq x k) t named (λ a at out. (refl, (let e = other_cost k a t (int_eq_false a k out) in omega (arith, ints, least, none, e)))) changed)
  where
    same : (a : ℤ) → cost (Is k t) a ≤ℤ negsuc 0 → int_eq a k ≡ true
    same a le = by (decide_int a k)
      where
        by : Decided (a ≡ k) → int_eq a k ≡ true
        by (inl is) = int_eq-same a k is
        by (inr other) = let e = other_cost k a t other in absurd (omega (arith, ints, e, le))

pub cut_loose : (c : Context) (k slack : ℤ) (t : Term) → pos 0 <ℤ slack → IsStep (TooMuch (Is k t) (least_cost (box_of c) (Is k t) +ℤ slack)) (AllFit (Is k t) (least_cost (box_of c) (Is k t) +ℤ slack)) c c (Ok tt)
cut_loose c k slack t some = no_step c (λ a has. by (decide_place (box_of c) t k) a)
  where
    by : (d : Decided (PlaceHas (box_of c) t k)) (a : ℤ) → cost (Is k t) a ≤ℤ (least_when d +ℤ slack)
    by (inl at) a = let most = (cost_between k a t).1 in omega (arith, ints, most, some)
    by (inr not) a = let most = (cost_between k a t).1 in omega (arith, ints, most, some)

pub cut_lacks : (c : Context) (k slack : ℤ) (t : Term) → pos 0 ≤ℤ slack → (PlaceHas (box_of c) t k → ⊥) → IsStep (TooMuch (Is k t) (least_cost (box_of c) (Is k t) +ℤ slack)) (AllFit (Is k t) (least_cost (box_of c) (Is k t) +ℤ slack)) c c (Ok tt)
cut_lacks c k slack t some lacks = no_step c (λ a has. (let least = least_lacks (box_of c) k t lacks in let most = (cost_between k a t).1 in omega (arith, ints, least, most, some)))

-- all fit where the span is at most the slack
pub cut_narrow : (c : Context) (p : Part) (low high slack : ℤ) → IsSpan (box_of c) p low high → (high -ℤ low) ≤ℤ slack → IsStep (TooMuch p (least_cost (box_of c) p +ℤ slack)) (AllFit p (least_cost (box_of c) p +ℤ slack)) c c (Ok tt)
cut_narrow c p low high slack span narrow = no_step c (λ a has. (let e = span.is in let most = span.most a has in omega (arith, ints, e, most, narrow)))
