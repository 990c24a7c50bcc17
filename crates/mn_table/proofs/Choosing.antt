-- The choices of one value from each of several sets: how many there are, and that a list with fewer tuples lacks one.
use Rattle.std.proofs.Common.{◌≡◌, ◌≢◌, ℕ, ◌*◌, ◌<◌, ◌≤◌, ℤ, ◌⊎◌, inl, inr, Bool, true, false, ◌||◌, List, [], ◌∷◌, length, map, refl, sym, subst, ap, ◌∙◌, arith, true≢false}
use Rattle.std.proofs.lemmas.List.{length-append, length-map}
use Rattle.std.proofs.lemmas.Map.Made.{length-le_from_is_member}
use Rattle.std.specs.Cmp.{int_eq_equiv}
use Rattle.std.specs.Cmp.Lexicographic.{lists_equiv}
use Rattle.std.specs.Cmp.Rules.{signed_items}
use Rattle.std.specs.List.{AllByRecursion, AllZip, IsDistinct, flat_map}
use Rattle.std.specs.Set.{is_member}
use Rattle.mn_model.specs.Decided.{Decided}
use Rattle.mn_model.specs.Domain.{Has}
use Rattle.mn_model.specs.Members.{AreDistinct, HasMember}
use Rattle.mn_model.proofs.Lists.{all_map, all_so}
use Rattle.mn_meaning.specs.Choices.{choices}
use Rattle.mn_meaning.specs.Families.{decide_member}
use Rattle.mn_meaning.proofs.Assignments.{has_member, member_has}
use Rattle.mn_meaning.proofs.MemberLemmas.{HoldsInOrder-flat_map, HoldsInOrder-weakened, flat_map_member, map_member, member_flat_map, of_members}
use Rattle.mn_table.specs.Choosing.{row_eq}

-- ---- how many

-- the sizes of the sets, multiplied
abbrev pub product_of : List (List ℤ) → ℕ
product_of [] = 1
product_of (xs ∷ sets) = length xs * product_of sets

length_parts : (rows : List (List ℤ)) (xs : List ℤ) → length (flat_map (λ a. map (λ s. a ∷ s) rows) xs) ≡ length xs * length rows
length_parts rows [] = omega arith
length_parts rows (x ∷ xs) =
    let more = length_parts rows xs in
    let front = length-map rows (λ s. x ∷ s) in
    let both = length-append (map (λ s. x ∷ s) rows) (flat_map (λ a. map (λ s. a ∷ s) rows) xs) in
    both ∙ grind (arith, more, front)

pub choices_length : (sets : List (List ℤ)) → length (choices sets) ≡ product_of sets
choices_length [] = refl
choices_length (xs ∷ sets) = length_parts (choices sets) xs ∙ ap (λ n. length xs * n) (choices_length sets)

-- ---- which

record FromFront (a : ℤ) (rows : List (List ℤ)) (q : List ℤ) : Type 0 where
  behind : List ℤ
  has : HasMember rows behind
  same : a ∷ behind ≡ q

from_front : (a : ℤ) (rows : List (List ℤ)) (q : List ℤ) → HasMember (map (λ s. a ∷ s) rows) q → FromFront a rows q
from_front a [] q has = absurd has
from_front a (row ∷ rows) q (inl same) = record { behind = row; has = inl refl; same = same }
from_front a (row ∷ rows) q (inr has) = let more = from_front a rows q has in record { behind = more.behind; has = inr more.has; same = more.same }

pub choice_member : (sets : List (List ℤ)) (q : List ℤ) → AllZip Has sets q → HasMember (choices sets) q
choice_member [] [] all = inl refl
choice_member [] (a ∷ q) all = absurd all
choice_member (xs ∷ sets) [] all = absurd all
choice_member (xs ∷ sets) (a ∷ q) all = flat_map_member (λ b. map (λ s. b ∷ s) (choices sets)) xs a (a ∷ q) (has_member xs a all.0) (map_member (λ s. a ∷ s) (choices sets) q (choice_member sets q all.1))

pub member_choice : (sets : List (List ℤ)) (q : List ℤ) → HasMember (choices sets) q → AllZip Has sets q
member_choice [] q (inl same) = subst (λ (r : List ℤ). AllZip Has [] r) same tt
member_choice [] q (inr none) = absurd none
member_choice (xs ∷ sets) q has =
    let from = member_flat_map (λ b. map (λ s. b ∷ s) (choices sets)) xs q has in
    let rest = from_front from.source (choices sets) q from.left in
    subst (λ (r : List ℤ). AllZip Has (xs ∷ sets) r) rest.same (member_has xs from.source from.has, member_choice sets rest.behind rest.has)

heads : (a b : ℤ) (s t : List ℤ) → a ∷ s ≡ b ∷ t → a ≡ b
heads a b s t e = cc

tails : (a b : ℤ) (s t : List ℤ) → a ∷ s ≡ b ∷ t → s ≡ t
tails a b s t e = cc

front_distinct : (a : ℤ) (rows : List (List ℤ)) → AreDistinct rows → AreDistinct (map (λ s. a ∷ s) rows)
front_distinct a [] distinct = tt
front_distinct a (row ∷ rows) distinct = (
  all_map (λ q. a ∷ row ≢ q) (λ s. a ∷ s) rows (all_so (λ s. row ≢ s) (λ s. a ∷ row ≢ a ∷ s) (λ s differ same. differ (tails a a row s same)) rows distinct.0),
  front_distinct a rows distinct.1,
)

fronts_differ : (rows : List (List ℤ)) (a b : ℤ) → a ≢ b → AllByRecursion (λ s. AllByRecursion (λ t. s ≢ t) (map (λ r. b ∷ r) rows)) (map (λ r. a ∷ r) rows)
fronts_differ rows a b differ =
    of_members (λ s. AllByRecursion (λ t. s ≢ t) (map (λ r. b ∷ r) rows)) (map (λ r. a ∷ r) rows) (λ s here.
    of_members (λ t. s ≢ t) (map (λ r. b ∷ r) rows) (λ t there same. (
    let one = from_front a rows s here in
    let another = from_front b rows t there in
    differ (heads a b one.behind another.behind (one.same ∙ (same ∙ sym another.same)))
    )))

pub choices_distinct : (sets : List (List ℤ)) → AllByRecursion AreDistinct sets → AreDistinct (choices sets)
choices_distinct [] distinct = (tt, tt)
choices_distinct (xs ∷ sets) distinct =
    HoldsInOrder-flat_map (λ s t. s ≢ t) (λ a. map (λ s. a ∷ s) (choices sets)) xs (λ a has. front_distinct a (choices sets) (choices_distinct sets distinct.1))
    (HoldsInOrder-weakened (λ a b. a ≢ b) (λ a b. AllByRecursion (λ s. AllByRecursion (λ t. s ≢ t) (map (λ r. b ∷ r) (choices sets))) (map (λ r. a ∷ r) (choices sets))) (fronts_differ (choices sets)) xs distinct.0)

-- ---- different tuples among others are at most as many

pub member_so : (rows : List (List ℤ)) (q : List ℤ) → is_member row_eq rows q ≡ true → HasMember rows q
member_so [] q e = absurd (true≢false (sym e))
member_so (row ∷ rows) q e = by (λ more. member_so rows q more) (row_eq q row) refl
  where
    by : (is_member row_eq rows q ≡ true → HasMember rows q) → (b : Bool) → row_eq q row ≡ b → HasMember (row ∷ rows) q
    by later true same = inl (sym ((signed_items q row).0 same))
    by later false other = inr (later (subst (λ (b : Bool). (b || is_member row_eq rows q) ≡ true) other e))

pub so_member : (rows : List (List ℤ)) (q : List ℤ) → HasMember rows q → is_member row_eq rows q ≡ true
so_member [] q has = absurd has
so_member (row ∷ rows) q (inl same) = ap (λ (b : Bool). b || is_member row_eq rows q) ((signed_items q row).1 (sym same))
so_member (row ∷ rows) q (inr has) = by (so_member rows q has) (row_eq q row)
  where
    by : is_member row_eq rows q ≡ true → (b : Bool) → (b || is_member row_eq rows q) ≡ true
    by later true = refl
    by later false = later

not_same : (row q : List ℤ) → row ≢ q → row_eq row q ≡ false
not_same row q differ = by (row_eq row q) refl
  where
    by : (b : Bool) → row_eq row q ≡ b → row_eq row q ≡ false
    by true same = absurd (differ ((signed_items row q).0 same))
    by false other = other

none_same : (rows : List (List ℤ)) → AreDistinct rows → IsDistinct row_eq rows
unfolding IsDistinct
none_same [] distinct = tt
none_same (row ∷ rows) distinct = (all_so (λ q. row ≢ q) (λ q. row_eq row q ≡ false) (not_same row) rows distinct.0, none_same rows distinct.1)

pub differ_so : (row q : List ℤ) → row_eq row q ≡ false → row ≢ q
differ_so row q other same = true≢false (sym ((signed_items row q).1 same) ∙ other)

pub distinct_so : (rows : List (List ℤ)) → IsDistinct row_eq rows → AreDistinct rows
unfolding IsDistinct
distinct_so [] distinct = tt
distinct_so (row ∷ rows) distinct = (all_so (λ q. row_eq row q ≡ false) (λ q. row ≢ q) (differ_so row) rows distinct.0, distinct_so rows distinct.1)

pub no_more : (some all : List (List ℤ)) → AreDistinct some → ((q : List ℤ) → HasMember some q → HasMember all q) → length some ≤ length all
no_more some all distinct inside = length-le_from_is_member (lists_equiv int_eq_equiv) some all (none_same some distinct) (λ q e. so_member all q (inside q (member_so some q e)))

-- ---- a list with fewer tuples lacks one

pub record Lacks (all rows : List (List ℤ)) : Type 0 where
  pub row : List ℤ
  pub stands : HasMember all row
  pub lacks : HasMember rows row → ⊥

all_or_lacks : (all rows : List (List ℤ)) → ((q : List ℤ) → HasMember all q → HasMember rows q) ⊎ Lacks all rows
all_or_lacks [] rows = inl (λ q has. absurd has)
all_or_lacks (row ∷ all) rows = by (decide_member rows row) (all_or_lacks all rows)
  where
    by : Decided (HasMember rows row) → ((q : List ℤ) → HasMember all q → HasMember rows q) ⊎ Lacks all rows → ((q : List ℤ) → HasMember (row ∷ all) q → HasMember rows q) ⊎ Lacks (row ∷ all) rows
    by (inr none) more = inr (record { row = row; stands = inl refl; lacks = none })
    by (inl has) (inr lack) = inr (record { row = lack.row; stands = inr lack.stands; lacks = lack.lacks })
    by (inl has) (inl each) = inl here
      where
        here : (q : List ℤ) → HasMember (row ∷ all) q → HasMember rows q
        here q (inl same) = subst (HasMember rows) same has
        here q (inr there) = each q there

pub fewer_lack : (all rows : List (List ℤ)) → AreDistinct all → length rows < length all → Lacks all rows
fewer_lack all rows distinct fewer = by (all_or_lacks all rows)
  where
    by : ((q : List ℤ) → HasMember all q → HasMember rows q) ⊎ Lacks all rows → Lacks all rows
    by (inl each) = absurd (let most = no_more all rows distinct each in omega (arith, fewer, most))
    by (inr lack) = lack
