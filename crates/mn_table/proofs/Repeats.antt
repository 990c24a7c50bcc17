-- Tuples that are put into a set one after another.
use Rattle.std.proofs.Common.{◌≡◌, ◌≢◌, ℕ, zero, suc, ◌+◌, ◌<◌, ℤ, Bool, true, false, ◌||◌, List, [], ◌∷◌, ◌++◌, length, drop, get_or, if◌then◌else◌, refl, sym, subst, ap, ◌∙◌}
use Rattle.std.proofs.lemmas.List.{drop_more, length-map}
use Rattle.std.specs.List.{AllByRecursion, IsDistinct, list_any}
use Rattle.std.specs.Prelude.{Vec}
use Rattle.std.specs.Set.{is_member}
use Rattle.std.specs.Cmp.Rules.{signed_items}
use Rattle.std.specs.declared.alloc.Global.{Global}
use Rattle.indexmap.specs.IndexSet.{insert_key}
use Rattle.mn_model.specs.Members.{AreDistinct}
use Rattle.mn_model.proofs.Lists.{all_push}
use Rattle.mn_table.specs.Choosing.{row_eq, rows_in}
use Rattle.mn_table.proofs.Choosing.{differ_so}

-- two tuples that are kept one by one are the same
abbrev pub kept_eq : Vec ℤ Global → Vec ℤ Global → Bool
kept_eq row other = row_eq row.items other.items

is_kept : (rows : List (Vec ℤ Global)) (row : Vec ℤ Global) → list_any (kept_eq row) rows ≡ is_member row_eq (rows_in rows) row.items
is_kept [] row = refl
is_kept (other ∷ rows) row = ap (λ b. kept_eq row other || b) (is_kept rows row)

or_false : (b : Bool) → (b || false) ≡ b
or_false true = refl
or_false false = refl

or_again : (b same : Bool) → (same ≡ true → b ≡ true) → b ≡ (b || same)
or_again true same so = refl
or_again false true so = so refl
or_again false false so = refl

any_push : (rows : List (List ℤ)) (row q : List ℤ) → is_member row_eq (rows ++ row ∷ []) q ≡ (is_member row_eq rows q || row_eq q row)
any_push [] row q = or_false (row_eq q row)
any_push (other ∷ rows) row q = ap (λ b. row_eq q other || b) (any_push rows row q) ∙ sym (assoc (row_eq q other) (is_member row_eq rows q) (row_eq q row))
  where
    assoc : (a b c : Bool) → ((a || b) || c) ≡ (a || (b || c))
    assoc true b c = refl
    assoc false b c = refl

rows_push : (rows : List (Vec ℤ Global)) (row : Vec ℤ Global) → rows_in (rows ++ row ∷ []) ≡ rows_in rows ++ row.items ∷ []
rows_push [] row = refl
rows_push (other ∷ rows) row = ap (λ r. other.items ∷ r) (rows_push rows row)

-- with one more there are those before and that one
pub member_more : (rows : List (Vec ℤ Global)) (row : Vec ℤ Global) (q : List ℤ) → is_member row_eq (rows_in (insert_key kept_eq rows row)) q ≡ (is_member row_eq (rows_in rows) q || row_eq q row.items)
member_more rows row q = by (list_any (kept_eq row) rows) refl
  where
    by : (b : Bool) → list_any (kept_eq row) rows ≡ b → is_member row_eq (rows_in (if list_any (kept_eq row) rows then rows else rows ++ row ∷ [])) q ≡ (is_member row_eq (rows_in rows) q || row_eq q row.items)
    by true there = rw there (or_again (is_member row_eq (rows_in rows) q) (row_eq q row.items) (λ same. subst (λ (r : List ℤ). is_member row_eq (rows_in rows) r ≡ true) (sym ((signed_items q row.items).0 same)) (sym (is_kept rows row) ∙ there)))
    by false new = rw new (ap (λ (rs : List (List ℤ)). is_member row_eq rs q) (rows_push rows row) ∙ any_push (rows_in rows) row.items q)

-- a row that is of a length with those before
pub level_more : (n : ℕ) (rows : List (Vec ℤ Global)) (row : Vec ℤ Global) → length row.items ≡ n → AllByRecursion (λ r. length r ≡ n) (rows_in rows) → AllByRecursion (λ r. length r ≡ n) (rows_in (insert_key kept_eq rows row))
level_more n rows row here all = by (list_any (kept_eq row) rows) refl
  where
    by : (b : Bool) → list_any (kept_eq row) rows ≡ b → AllByRecursion (λ r. length r ≡ n) (rows_in (if list_any (kept_eq row) rows then rows else rows ++ row ∷ []))
    by true there = rw there all
    by false new = rw new (subst (AllByRecursion (λ r. length r ≡ n)) (sym (rows_push rows row)) (all_push (λ r. length r ≡ n) (rows_in rows) row.items all here))

-- what is in front of the rest and in the rest is as before
pub member_on : (rows : List (Vec ℤ Global)) (row : Vec ℤ Global) (here next all : List (List ℤ)) (q : List ℤ) → here ≡ row.items ∷ next → (is_member row_eq (rows_in rows) q || is_member row_eq here q) ≡ is_member row_eq all q → (is_member row_eq (rows_in (insert_key kept_eq rows row)) q || is_member row_eq next q) ≡ is_member row_eq all q
member_on rows row here next all q is so_far =
    ap (λ b. b || is_member row_eq next q) (member_more rows row q)
    ∙ (assoc (is_member row_eq (rows_in rows) q) (row_eq q row.items) (is_member row_eq next q)
    ∙ subst (λ (h : List (List ℤ)). (is_member row_eq (rows_in rows) q || is_member row_eq h q) ≡ is_member row_eq all q) is so_far)
  where
    assoc : (a b c : Bool) → ((a || b) || c) ≡ (a || (b || c))
    assoc true b c = refl
    assoc false b c = refl

-- none is left
pub member_all : (rows : List (Vec ℤ Global)) (here all : List (List ℤ)) (q : List ℤ) → here ≡ [] → (is_member row_eq (rows_in rows) q || is_member row_eq here q) ≡ is_member row_eq all q → is_member row_eq (rows_in rows) q ≡ is_member row_eq all q
member_all rows here all q end so_far = sym (or_false (is_member row_eq (rows_in rows) q)) ∙ subst (λ (h : List (List ℤ)). (is_member row_eq (rows_in rows) q || is_member row_eq h q) ≡ is_member row_eq all q) end so_far

-- ---- looking at them one after another

apart : (row : Vec ℤ Global) (rows : List (Vec ℤ Global)) → AllByRecursion (λ other. kept_eq row other ≡ false) rows → AllByRecursion (λ q. row.items ≢ q) (rows_in rows)
apart row [] all = tt
apart row (other ∷ rows) all = (differ_so row.items other.items all.0, apart row rows all.1)

pub kept_distinct : (rows : List (Vec ℤ Global)) → IsDistinct kept_eq rows → AreDistinct (rows_in rows)
unfolding IsDistinct
kept_distinct [] distinct = tt
kept_distinct (row ∷ rows) distinct = (apart row rows distinct.0, kept_distinct rows distinct.1)

pub distinct_left : (n : ℕ) (rows : List (Vec ℤ Global)) → AreDistinct (rows_in rows) → AreDistinct (rows_in (drop n rows))
distinct_left zero rows distinct = distinct
distinct_left (suc n) [] distinct = tt
distinct_left (suc n) (row ∷ rows) distinct = distinct_left n rows distinct.1

pub rows_next : (rows : List (Vec ℤ Global)) (n : ℕ) (row : Vec ℤ Global) → n < length rows → row ≡ get_or rows n row → rows_in (drop n rows) ≡ row.items ∷ rows_in (drop (n + 1) rows)
rows_next rows n row within is = ap rows_in (drop_more rows n row within) ∙ ap (λ (r : Vec ℤ Global). r.items ∷ rows_in (drop (n + 1) rows)) (sym is)

all_left : (P : List ℤ → Type 0) (n : ℕ) (rows : List (Vec ℤ Global)) → AllByRecursion P (rows_in rows) → AllByRecursion P (rows_in (drop n rows))
all_left P zero rows all = all
all_left P (suc n) [] all = tt
all_left P (suc n) (row ∷ rows) all = all_left P n rows all.1

pub row_at : (P : List ℤ → Type 0) (rows : List (Vec ℤ Global)) (n : ℕ) (row : Vec ℤ Global) → n < length rows → row ≡ get_or rows n row → AllByRecursion P (rows_in rows) → P row.items
row_at P rows n row within is all = (subst (AllByRecursion P) (rows_next rows n row within is) (all_left P n rows all)).0

pub as_many : (rows : List (Vec ℤ Global)) → length (rows_in rows) ≡ length rows
as_many rows = length-map rows (λ (row : Vec ℤ Global). row.items)
