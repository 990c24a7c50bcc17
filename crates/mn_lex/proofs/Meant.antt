-- What the constraints of vectors mean, said of lists that lead or differ.
use Rattle.std.proofs.Common.{◌≡◌, ◌+◌, ◌≤◌, ℤ, ◌⊎◌, inl, inr, Bool, true, false, if◌then◌else◌, List, [], ◌∷◌, refl, sym, ◌∙◌, arith, true≢false}
use Rattle.std.specs.Ordering.{int_eq}
use Rattle.mn_domains.proofs.Filtered.{eq_so, eq_true}
use Rattle.mn_meaning.specs.Families.{IsBelow, differing}
use Rattle.mn_lex.specs.Leading.{Differ, Leads}

-- a list that is less leads
pub below_leads : (e : Bool) (xs ys : List ℤ) → IsBelow xs ys → Leads e xs ys
below_leads e [] ys below = absurd below
below_leads e (a ∷ xs) [] below = absurd below
below_leads e (a ∷ xs) (b ∷ ys) (inl less) = inl less
below_leads e (a ∷ xs) (b ∷ ys) (inr both) = inr (both.0, below_leads e xs ys both.1)

pub leads_below : (xs ys : List ℤ) → Leads false xs ys → IsBelow xs ys
leads_below [] [] leads = cc
leads_below [] (b ∷ ys) leads = absurd leads
leads_below (a ∷ xs) [] leads = absurd leads
leads_below (a ∷ xs) (b ∷ ys) (inl less) = inl less
leads_below (a ∷ xs) (b ∷ ys) (inr both) = inr (both.0, leads_below xs ys both.1)

heads : {a b : ℤ} {xs ys : List ℤ} → a ∷ xs ≡ b ∷ ys → a ≡ b
heads e = cc

tails : {a b : ℤ} {xs ys : List ℤ} → a ∷ xs ≡ b ∷ ys → xs ≡ ys
tails e = cc

-- and so does an equal one, where that is asked
pub same_leads : (xs ys : List ℤ) → xs ≡ ys → Leads true xs ys
same_leads [] [] same = refl
same_leads [] (b ∷ ys) same = cc
same_leads (a ∷ xs) [] same = cc
same_leads (a ∷ xs) (b ∷ ys) same = inr (heads same, same_leads xs ys (tails same))

pub leads_either : (xs ys : List ℤ) → Leads true xs ys → IsBelow xs ys ⊎ (xs ≡ ys)
leads_either [] [] leads = inr refl
leads_either [] (b ∷ ys) leads = absurd leads
leads_either (a ∷ xs) [] leads = absurd leads
leads_either (a ∷ xs) (b ∷ ys) (inl less) = inl (inl less)
leads_either (a ∷ xs) (b ∷ ys) (inr both) = by (leads_either xs ys both.1)
  where
    by : IsBelow xs ys ⊎ (xs ≡ ys) → IsBelow (a ∷ xs) (b ∷ ys) ⊎ (a ∷ xs ≡ b ∷ ys)
    by (inl below) = inl (inr (both.0, below))
    by (inr same) = inr (λ i. both.0 i ∷ same i)

-- lists differ where they do so at one place at least
pub differ_so : (xs ys : List ℤ) → 1 ≤ differing xs ys → Differ xs ys
differ_so [] ys some = absurd (omega (arith, some))
differ_so (a ∷ xs) [] some = absurd (omega (arith, some))
differ_so (a ∷ xs) (b ∷ ys) some = by (int_eq a b) refl (differ_so xs ys)
  where
    by : (t : Bool) → int_eq a b ≡ t → (1 ≤ differing xs ys → Differ xs ys) → Differ (a ∷ xs) (b ∷ ys)
    by true e later = inr (later (let one : 1 ≤ (if true then 0 else 1) + differing xs ys = rw e at some in omega (arith, one)))
    by false e later = inl (λ same. true≢false (sym (eq_true a b same) ∙ e))

pub so_differ : (xs ys : List ℤ) → Differ xs ys → 1 ≤ differing xs ys
so_differ [] ys differ = absurd differ
so_differ (a ∷ xs) [] differ = absurd differ
so_differ (a ∷ xs) (b ∷ ys) (inl differ) = by (int_eq a b) refl
  where
    by : (t : Bool) → int_eq a b ≡ t → 1 ≤ differing (a ∷ xs) (b ∷ ys)
    by true e = absurd (differ (eq_so a b e))
    by false e = rw e (omega arith)
so_differ (a ∷ xs) (b ∷ ys) (inr later) = let more = so_differ xs ys later in by (int_eq a b) refl more
  where
    by : (t : Bool) → int_eq a b ≡ t → 1 ≤ differing xs ys → 1 ≤ differing (a ∷ xs) (b ∷ ys)
    by true e more = rw e (omega (arith, more))
    by false e more = rw e (omega (arith, more))
