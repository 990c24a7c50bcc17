-- What is supported where tuples are forbidden: the values with which there are more choices than forbidden ones.
use Rattle.std.proofs.Common.{◌≡◌, ◌≢◌, ℕ, zero, suc, ◌*◌, ◌<◌, ◌≤◌, ℤ, pos, ◌-ℤ◌, ◌<ℤ◌, inl, inr, List, [], ◌∷◌, length, map, slice_get, Some, refl, sym, subst, ap, ◌∙◌, arith}
use Rattle.std.proofs.Math.Nat.{lt_of_mul-lt-mul_right, mul-lt-mul_of_pos_left, mul_comm, mul_left_comm}
use Rattle.std.proofs.lemmas.Int.{ints}
use Rattle.std.proofs.lemmas.List.{length-map}
use Rattle.std.specs.List.{AllByRecursion, AllZip}
use Rattle.std.specs.Set.{is_member}
use Rattle.mn_model.specs.Domain.{Ascends, Has}
use Rattle.mn_model.specs.Members.{AreDistinct, HasMember}
use Rattle.mn_model.specs.Variable.{number_of}
use Rattle.mn_model.specs.declared.constraint.Con.TheVariants as con
use Rattle.mn_model.specs.declared.constraint.Tab.{Tab}
use Rattle.mn_model.specs.declared.constraint.Term.{Term}
use Rattle.mn_model.specs.declared.constraint.Term.TheVariants.{Var, Const, Not}
use Rattle.mn_model.specs.declared.declaration.Tuples.{Tuples}
use Rattle.mn_model.proofs.Lists.{all_at, all_so}
use Rattle.mn_boxes.specs.Boxes.{IsBox, set_of}
use Rattle.mn_boxes.specs.Places.{PlaceHas}
use Rattle.mn_boxes.specs.Sets.{Variable}
use Rattle.mn_boxes.proofs.Quiet.{ascends_at}
use Rattle.mn_meaning.specs.Choices.{choices}
use Rattle.mn_meaning.specs.Meaning.{at, tuples_of}
use Rattle.mn_closure.specs.Closed.{LeafClosed}
use Rattle.mn_closure.specs.Supports.{Choice, Supported}
use Rattle.mn_table.specs.Choosing.{CountsWith, choice_count, place_size, place_values, row_eq}
use Rattle.mn_table.proofs.Choosing.{choice_member, choices_distinct, choices_length, fewer_lack, member_choice, member_so, no_more, product_of, so_member}

-- ---- the values of a place

size_is : (box : List (List ℤ)) (t : Term) → length (place_values box t) ≡ place_size box t
size_is box (Var v) = refl
size_is box (Const k) = refl
size_is box (Not v) = length-map (set_of box (number_of v)) (λ a. pos 1 -ℤ a)

to_turned : (xs : List ℤ) (a : ℤ) → Has xs (pos 1 -ℤ a) → Has (map (λ b. pos 1 -ℤ b) xs) a
to_turned [] a has = absurd has
to_turned (x ∷ xs) a (inl same) = inl (omega (arith, ints, same))
to_turned (x ∷ xs) a (inr has) = inr (to_turned xs a has)

from_turned : (xs : List ℤ) (a : ℤ) → Has (map (λ b. pos 1 -ℤ b) xs) a → Has xs (pos 1 -ℤ a)
from_turned [] a has = absurd has
from_turned (x ∷ xs) a (inl same) = inl (omega (arith, ints, same))
from_turned (x ∷ xs) a (inr has) = inr (from_turned xs a has)

to_values : (box : List (List ℤ)) (t : Term) (a : ℤ) → PlaceHas box t a → Has (place_values box t) a
to_values box (Var v) a has = has
to_values box (Const k) a has = inl has
to_values box (Not v) a has = to_turned (set_of box (number_of v)) a has

from_values : (box : List (List ℤ)) (t : Term) (a : ℤ) → Has (place_values box t) a → PlaceHas box t a
from_values box (Var v) a has = has
from_values box (Const k) a (inl same) = same
from_values box (Const k) a (inr none) = absurd none
from_values box (Not v) a has = from_turned (set_of box (number_of v)) a has

-- ---- no value is there twice

all_differ : (x : ℤ) (xs : List ℤ) → AllByRecursion (λ y. x ≢ y) xs → AllByRecursion (λ y. (pos 1 -ℤ x) ≢ y) (map (λ b. pos 1 -ℤ b) xs)
all_differ x [] all = tt
all_differ x (y ∷ xs) all = (λ same. all.0 (omega (arith, ints, same)), all_differ x xs all.1)

turned_distinct : (xs : List ℤ) → AreDistinct xs → AreDistinct (map (λ b. pos 1 -ℤ b) xs)
turned_distinct [] distinct = tt
turned_distinct (x ∷ xs) distinct = (all_differ x xs distinct.0, turned_distinct xs distinct.1)

rising_distinct : (xs : List ℤ) → Ascends xs → AreDistinct xs
rising_distinct [] ascends = tt
rising_distinct (x ∷ xs) ascends = (all_so (λ y. x <ℤ y) (λ y. x ≢ y) (λ y less same. omega (arith, ints, less, same)) xs ascends.0, rising_distinct xs ascends.1)

values_distinct : (vars : List Variable) (box : List (List ℤ)) (t : Term) → IsBox vars box → AreDistinct (place_values box t)
values_distinct vars box (Var v) is = rising_distinct (set_of box (number_of v)) (ascends_at vars box (number_of v) is)
values_distinct vars box (Const k) is = (tt, tt)
values_distinct vars box (Not v) is = turned_distinct (set_of box (number_of v)) (rising_distinct (set_of box (number_of v)) (ascends_at vars box (number_of v) is))

-- ---- the sets of all places, with one value alone at place i

abbrev sets_with : List (List ℤ) → List Term → ℕ → ℤ → List (List ℤ)
sets_with box [] i a = []
sets_with box (t ∷ v) zero a = (a ∷ []) ∷ map (place_values box) v
sets_with box (t ∷ v) (suc i) a = place_values box t ∷ sets_with box v i a

all_counted : (box : List (List ℤ)) (v : List Term) → product_of (map (place_values box) v) ≡ choice_count box v
all_counted box [] = refl
all_counted box (t ∷ v) = ap (λ n. n * product_of (map (place_values box) v)) (size_is box t) ∙ ap (λ n. place_size box t * n) (all_counted box v)

others_counted : (box : List (List ℤ)) (v : List Term) (i : ℕ) (t : Term) (a : ℤ) → slice_get v i ≡ Some t → place_size box t * product_of (sets_with box v i a) ≡ choice_count box v
others_counted box [] i t a stands = cc
others_counted box (u ∷ v) zero t a stands =
    let same : t ≡ u = cc in
    let one : 1 * product_of (map (place_values box) v) ≡ choice_count box v = (let all = all_counted box v in omega (arith, all)) in
    ap (λ n. place_size box t * n) one ∙ ap (λ x. place_size box x * choice_count box v) same
others_counted box (u ∷ v) (suc i) t a stands =
    mul_left_comm (place_size box t) (length (place_values box u)) (product_of (sets_with box v i a))
    ∙ (ap (λ n. n * (place_size box t * product_of (sets_with box v i a))) (size_is box u)
    ∙ ap (λ n. place_size box u * n) (others_counted box v i t a stands))

all_distinct : (vars : List Variable) (box : List (List ℤ)) (v : List Term) → IsBox vars box → AllByRecursion AreDistinct (map (place_values box) v)
all_distinct vars box [] is = tt
all_distinct vars box (t ∷ v) is = (values_distinct vars box t is, all_distinct vars box v is)

with_distinct : (vars : List Variable) (box : List (List ℤ)) (v : List Term) (i : ℕ) (a : ℤ) → IsBox vars box → AllByRecursion AreDistinct (sets_with box v i a)
with_distinct vars box [] i a is = tt
with_distinct vars box (t ∷ v) zero a is = ((tt, tt), all_distinct vars box v is)
with_distinct vars box (t ∷ v) (suc i) a is = (values_distinct vars box t is, with_distinct vars box v i a is)

all_chosen : (box : List (List ℤ)) (v : List Term) (q : List ℤ) → Choice box v q → AllZip Has (map (place_values box) v) q
all_chosen box [] [] chosen = tt
all_chosen box [] (b ∷ q) chosen = absurd chosen
all_chosen box (t ∷ v) [] chosen = absurd chosen
all_chosen box (t ∷ v) (b ∷ q) chosen = (to_values box t b chosen.0, all_chosen box v q chosen.1)

chosen_all : (box : List (List ℤ)) (v : List Term) (q : List ℤ) → AllZip Has (map (place_values box) v) q → Choice box v q
chosen_all box [] [] all = tt
chosen_all box [] (b ∷ q) all = absurd all
chosen_all box (t ∷ v) [] all = absurd all
chosen_all box (t ∷ v) (b ∷ q) all = (from_values box t b all.0, chosen_all box v q all.1)

chosen_with : (box : List (List ℤ)) (v : List Term) (i : ℕ) (a : ℤ) (q : List ℤ) → at q i ≡ a → Choice box v q → AllZip Has (sets_with box v i a) q
chosen_with box [] i a [] given chosen = tt
chosen_with box [] i a (b ∷ q) given chosen = absurd chosen
chosen_with box (t ∷ v) i a [] given chosen = absurd chosen
chosen_with box (t ∷ v) zero a (b ∷ q) given chosen = (inl (sym given), all_chosen box v q chosen.1)
chosen_with box (t ∷ v) (suc i) a (b ∷ q) given chosen = (to_values box t b chosen.0, chosen_with box v i a q given chosen.1)

with_chosen : (box : List (List ℤ)) (v : List Term) (i : ℕ) (t : Term) (a : ℤ) (q : List ℤ) → slice_get v i ≡ Some t → PlaceHas box t a → AllZip Has (sets_with box v i a) q → (at q i ≡ a) × Choice box v q
with_chosen box [] i t a q stands there all = cc
with_chosen box (u ∷ v) zero t a [] stands there all = absurd all
with_chosen box (u ∷ v) zero t a (b ∷ q) stands there all = (sym (alone all.0), (subst (λ (x : Term). PlaceHas box x b) same (subst (PlaceHas box t) (alone all.0) there), chosen_all box v q all.1))
  where
    same : t ≡ u
    same = cc

    alone : Has (a ∷ []) b → a ≡ b
    alone (inl is) = is
    alone (inr none) = absurd none
with_chosen box (u ∷ v) (suc i) t a [] stands there all = absurd all
with_chosen box (u ∷ v) (suc i) t a (b ∷ q) stands there all = let more = with_chosen box v i t a q stands there all.1 in (more.0, (from_values box u b all.0, more.1))

-- ---- so it is told by numbers

module _ (vars : List Variable) (box : List (List ℤ)) (v : List Term) (i : ℕ) (t : Term) (a : ℤ) (is : IsBox vars box) (stands : slice_get v i ≡ Some t) where
  abbrev others : ℕ
  others = product_of (sets_with box v i a)

  fewer_than_others : (n : ℕ) → n * place_size box t < choice_count box v → n < others
  fewer_than_others n fewer = lt_of_mul-lt-mul_right (place_size box t) (subst (λ k. n * place_size box t < k) (sym (others_counted box v i t a stands) ∙ mul_comm (place_size box t) others) fewer)

  -- a choice with the value that is none of the tuples
  pub record FreeChoice (rows : List (List ℤ)) : Type 0 where
    pub values : List ℤ
    pub given : at values i ≡ a
    pub chosen : Choice box v values
    pub free : HasMember rows values → ⊥

  module _ (there : PlaceHas box t a) where
    pub free_choice : (rows : List (List ℤ)) → length rows * place_size box t < choice_count box v → FreeChoice rows
    free_choice rows fewer =
        let less : length rows < length (choices (sets_with box v i a)) = subst (λ n. length rows < n) (sym (choices_length (sets_with box v i a))) (fewer_than_others (length rows) fewer) in
        let lack = fewer_lack (choices (sets_with box v i a)) rows (choices_distinct (sets_with box v i a) (with_distinct vars box v i a is)) less in
        let with = with_chosen box v i t a lack.row stands there (member_choice (sets_with box v i a) lack.row lack.stands) in
        record { values = lack.row; given = with.0; chosen = with.1; free = lack.lacks }

    -- where fewer tuples with it are choices than there are choices, one of the choices is free
    pub counted_free : (rows : List (List ℤ)) (n : ℕ) → CountsWith box v i a rows n → n * place_size box t < choice_count box v → FreeChoice rows
    counted_free rows n counts fewer =
        let free = free_choice counts.those (subst (λ k. k * place_size box t < choice_count box v) (sym counts.size) fewer) in
        record { values = free.values; given = free.given; chosen = free.chosen; free = λ has. free.free ((counts.told free.values).1 (has, free.given, free.chosen)) }

    -- and where one is free they are fewer
    pub free_counted : (rows : List (List ℤ)) (n : ℕ) → CountsWith box v i a rows n → FreeChoice rows → n * place_size box t < choice_count box v
    free_counted rows n counts free =
        let most = no_more (free.values ∷ counts.those) (choices (sets_with box v i a)) (all_other, counts.distinct) inside in
        let less : n < others = (let many = counts.size in let is_many = choices_length (sets_with box v i a) in omega (arith, most, many, is_many)) in
        subst (λ k. k < choice_count box v) (mul_comm (place_size box t) n) (subst (λ k. place_size box t * n < k) (others_counted box v i t a stands) (mul-lt-mul_of_pos_left less some))
      where
        all_other : AllByRecursion (λ q. free.values ≢ q) counts.those
        all_other = of_each counts.those (λ q has same. free.free ((counts.told free.values).0 (subst (HasMember counts.those) (sym same) has)).0)
          where
            of_each : (xs : List (List ℤ)) → ((q : List ℤ) → HasMember xs q → free.values ≢ q) → AllByRecursion (λ q. free.values ≢ q) xs
            of_each [] each = tt
            of_each (x ∷ xs) each = (each x (inl refl), of_each xs (λ q has. each q (inr has)))

        inside : (q : List ℤ) → HasMember (free.values ∷ counts.those) q → HasMember (choices (sets_with box v i a)) q
        inside q (inl same) = subst (HasMember (choices (sets_with box v i a))) same (choice_member (sets_with box v i a) free.values (chosen_with box v i a free.values free.given free.chosen))
        inside q (inr has) = let told = (counts.told q).0 has in choice_member (sets_with box v i a) q (chosen_with box v i a q told.1 told.2)

        some : 0 < place_size box t
        some = subst (λ n. 0 < n) (size_is box t) (filled (place_values box t) (to_values box t a there))
          where
            filled : (xs : List ℤ) → Has xs a → 0 < length xs
            filled [] has = absurd has
            filled (x ∷ xs) has = omega arith

-- ---- and so is support

module _ (lists : List Tuples) (v : List Term) (tab : Tab) (rows box : List (List ℤ)) (i : ℕ) (t : Term) (a : ℤ) (same : (q : List ℤ) → is_member row_eq rows q ≡ is_member row_eq (tuples_of lists tab) q) (vars : List Variable) (is : IsBox vars box) (stands : slice_get v i ≡ Some t) where
  pub free_supports : FreeChoice vars box v i t a is stands rows → Supported lists (con.Negativetable v tab) i a box
  free_supports free = record { values = free.values; chosen = free.chosen; given = free.given; meets = λ has. free.free (member_so rows free.values (same free.values ∙ so_member (tuples_of lists tab) free.values has)) }

  pub support_free : Supported lists (con.Negativetable v tab) i a box → FreeChoice vars box v i t a is stands rows
  support_free s = record { values = s.values; given = s.given; chosen = s.chosen; free = λ has. s.meets (member_so (tuples_of lists tab) s.values (sym (same s.values) ∙ so_member rows s.values has)) }

-- where the tuples are too few at each place, nothing has to go
pub few_close : (lists : List Tuples) (v : List Term) (tab : Tab) (rows box : List (List ℤ)) → ((q : List ℤ) → is_member row_eq rows q ≡ is_member row_eq (tuples_of lists tab) q) → (vars : List Variable) → IsBox vars box → 1 ≤ length v
    → AllByRecursion (λ t. length rows * place_size box t < choice_count box v) v → LeafClosed vars lists (con.Negativetable v tab) box
few_close lists v tab rows box same vars is some few = record {
  bare = λ none. absurd (filled v some none);
  supported = λ i t a stands asked. free_supports lists v tab rows box i t a same vars is stands (free_choice vars box v i t a is stands asked.there rows (all_at (λ u. length rows * place_size box u < choice_count box v) v i t few stands));
}
  where
    filled : (v : List Term) → 1 ≤ length v → v ≡ [] → ⊥
    filled [] some e = omega (arith, some)
    filled (t ∷ v) some e = cc
