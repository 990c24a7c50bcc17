-- A number that is taken out of its circle and put behind a head.
use Rattle.std.proofs.Common.{◌≡◌, ◌≢◌, ℕ, ◌+◌, ◌≤◌, ◌<◌, Bool, not, cond, nat_eq, List, [], ◌∷◌, length, get_or, refl, sym, ap, subst, ◌∙◌, arith}
use Rattle.std.specs.Prelude.{All, map, sum_by}
use Rattle.std.proofs.lemmas.Bool.Decides.{nat_tests}
use Rattle.std.proofs.lemmas.List.{get_or-map, get_or-set_other, get_or-set_same, length-map, length-set}
use Rattle.std.proofs.lemmas.List.Elements.{All-cons, All-filter, All-get_or, All-head, All-map, All-set, All-tail, All-weaker}
use Rattle.std.proofs.lemmas.List.Sums.{sum_by-cons, sum_by-set}
use Rattle.mn_lists.specs.Circles.{Follow, Mutual, IsLinked, IsRun, skip}
use Rattle.mn_lists.specs.Standing.{EachOnOneList, count_of, moved_to, without}
use Rattle.mn_lists.proofs.Cases.{by_same}
use Rattle.mn_lists.proofs.Counts.{count_of-cons_other, count_of-cons_same, count_of-without-le, count_of-without_other, count_of-without_same}

pub skip_same : (f : ℕ → ℕ) (t x : ℕ) → x ≡ t → skip f t x ≡ f t
skip_same f t x e = grind (arith, nat_tests)

pub skip_other : (f : ℕ → ℕ) (t x : ℕ) → x ≢ t → skip f t x ≡ x
skip_other f t x far = grind (arith, nat_tests)

skip_twice : (f : ℕ → ℕ) (t : ℕ) → skip f t (f t) ≡ f t
skip_twice f t = by_same (f t) t (λ same _. skip_same f t (f t) same) (λ other _. skip_other f t (f t) other)

pub follow_moved : (f F : ℕ → ℕ) (n t : ℕ) → ((x : ℕ) → x < n → x ≢ t → F x ≡ skip f t (f x)) → (xs : List ℕ) (s e : ℕ) → e ≢ t → All (λ x. x < n) xs → Follow f s xs e → Follow F (skip f t s) (without t xs) e
follow_moved f F n t moves [] s e far only is = skip_other f t s (λ z. far (sym is ∙ z)) ∙ is
follow_moved f F n t moves (x ∷ xs) s e far only is =
    let rest = follow_moved f F n t moves xs (f x) e far (All-tail (λ x. x < n) x xs only) is.1 in
    let P : Bool → Type 0 = λ b. Follow F (skip f t s) (cond (not b) (x ∷ without t xs) (without t xs)) e in
    by_same x t
    (λ same test. subst P (sym test) (let there : skip f t (f x) ≡ skip f t s = ap (λ (z : ℕ). skip f t (f z)) same ∙ skip_twice f t ∙ sym (skip_same f t s (is.0 ∙ same)) in
    subst (λ (z : ℕ). Follow F z (without t xs) e) there rest))
    (λ other test. subst P (sym test) (skip_other f t s (λ z. other (sym is.0 ∙ z)) ∙ is.0, subst (λ (z : ℕ). Follow F z (without t xs) e) (sym (moves x (All-head (λ x. x < n) x xs only) other)) rest))

-- F is f with t taken out of its circle and put behind h
pub record Moves (f F : ℕ → ℕ) (m t h : ℕ) : Type 0 where
  pub others : (x : ℕ) → x < m → x ≢ t → x ≢ h → F x ≡ skip f t (f x)
  pub head : F h ≡ t
  pub node : F t ≡ skip f t (f h)

-- ---- the lists
pub length-moved_to : (t l : ℕ) (lists : List (List ℕ)) → length (moved_to t l lists) ≡ length lists
length-moved_to t l lists = length-set (map (without t) lists) l (t ∷ get_or (map (without t) lists) l []) ∙ length-map lists (without t)

pub get_or-moved_to_here : (t l : ℕ) (lists : List (List ℕ)) → l < length lists → get_or (moved_to t l lists) l [] ≡ t ∷ without t (get_or lists l [])
get_or-moved_to_here t l lists h =
    let others = map (without t) lists in
    get_or-set_same others l (t ∷ get_or others l []) [] (omega (arith, length-map lists (without t))) ∙ ap (λ (xs : List ℕ). t ∷ xs) (get_or-map (without t) lists l [] [] h)

pub get_or-moved_to_other : (t l i : ℕ) (lists : List (List ℕ)) → i < length lists → i ≢ l → get_or (moved_to t l lists) i [] ≡ without t (get_or lists i [])
get_or-moved_to_other t l i lists h far =
    let others = map (without t) lists in
    get_or-set_other others l i (t ∷ get_or others l []) [] far ∙ get_or-map (without t) lists i [] [] h

sum_without_same : (t : ℕ) (lists : List (List ℕ)) → sum_by (count_of t) (map (without t) lists) ≡ 0
sum_without_same t [] = refl
sum_without_same t (xs ∷ lists) = sum_by-cons (count_of t) (without t xs) (map (without t) lists) ∙ omega (arith, count_of-without_same t xs, sum_without_same t lists)

sum_without_other : (t u : ℕ) (lists : List (List ℕ)) → u ≢ t → sum_by (count_of u) (map (without t) lists) ≡ sum_by (count_of u) lists
sum_without_other t u [] far = refl
sum_without_other t u (xs ∷ lists) far =
    sum_by-cons (count_of u) (without t xs) (map (without t) lists) ∙ omega (arith, count_of-without_other t u xs far, sum_without_other t u lists far, sum_by-cons (count_of u) xs lists)

module _ (n t l : ℕ) (lists : List (List ℕ)) (here : t < n) (inside : l < length lists) (each : EachOnOneList n lists) where
  abbrev others : List (List ℕ)
  others = map (without t) lists

  inside_others : l < length others
  inside_others = omega (arith, length-map lists (without t))

  once_moved : (u : ℕ) → u < n → sum_by (count_of u) (moved_to t l lists) ≡ 1
  once_moved u below =
      let all = sum_by-set (count_of u) others l (t ∷ get_or others l []) [] inside_others in
      by_same t u
      (λ same test. let none : sum_by (count_of u) others ≡ 0 = subst (λ (k : ℕ). sum_by (count_of k) others ≡ 0) same (sum_without_same t lists) in omega (arith, all, none, count_of-cons_same u t (get_or others l []) test))
      (λ other test. omega (arith, all, sum_without_other t u lists (λ e. other (sym e)), each.once u below, count_of-cons_other u t (get_or others l []) test))

  only_others : All (All (λ x. x < n)) others
  only_others = All-map (All (λ x. x < n)) (without t) lists (All-weaker (All (λ x. x < n)) (λ xs. All (λ x. x < n) (without t xs)) (λ xs. All-filter (λ x. not (nat_eq x t)) (λ x. x < n) xs) lists each.only)

  pub each_moved : EachOnOneList n (moved_to t l lists)
  each_moved = record {
    once = once_moved;
    only = All-set (All (λ x. x < n)) others l (t ∷ get_or others l []) (All-cons (λ x. x < n) t (get_or others l []) here (All-get_or (All (λ x. x < n)) others l [] inside_others only_others)) only_others;
  }

-- ---- the circles
module _ (f g F G : ℕ → ℕ) (n t l : ℕ) (lists : List (List ℕ)) (here : t < n) (inside : l < length lists) (linked : IsLinked f g n lists)
    (moves : Moves f F (n + length lists) t (n + l)) (mutual_now : Mutual F G (n + length lists)) where
  moved_runs : (xs : List ℕ) (s e : ℕ) → n ≤ e → All (λ x. x < n) xs → Follow f s xs e → Follow F (skip f t s) (without t xs) e
  moved_runs xs s e far = follow_moved f F n t (λ x h other. moves.others x (omega arith) other (omega arith)) xs s e (omega arith)

  loops_moved : (i : ℕ) → i < length lists → Follow F (F (n + i)) (get_or (moved_to t l lists) i []) (n + i)
  loops_moved i h =
      let run = moved_runs (get_or lists i []) (f (n + i)) (n + i) (omega arith) (All-get_or (All (λ x. x < n)) lists i [] h linked.each.only) (linked.loops i h) in
      by_same i l
      (λ same _. let this : Follow F (F (n + l)) (t ∷ without t (get_or lists l [])) (n + l) = (moves.head, subst (λ (z : ℕ). Follow F z (without t (get_or lists l [])) (n + l)) (sym moves.node) (subst (λ (k : ℕ). Follow F (skip f t (f (n + k))) (without t (get_or lists k [])) (n + k)) same run)) in
      subst (λ (k : ℕ). Follow F (F (n + k)) (get_or (moved_to t l lists) k []) (n + k)) (sym same) (subst (λ (xs : List ℕ). Follow F (F (n + l)) xs (n + l)) (sym (get_or-moved_to_here t l lists inside)) this))
      (λ other _. subst (λ (xs : List ℕ). Follow F (F (n + i)) xs (n + i)) (sym (get_or-moved_to_other t l i lists h other))
      (subst (λ (z : ℕ). Follow F z (without t (get_or lists i [])) (n + i)) (sym (moves.others (n + i) (omega arith) (omega arith) (omega arith))) run))

  pub linked_moved : IsLinked F G n (moved_to t l lists)
  linked_moved = record {
    mutual_nodes = subst (λ (k : ℕ). Mutual F G (n + k)) (sym (length-moved_to t l lists)) mutual_now;
    loops = λ i h. loops_moved i (omega (arith, length-moved_to t l lists));
    each = each_moved n t l lists here inside linked.each;
  }

  -- a walk goes on behind t where it stood at t
  pub run_moved : (s : ℕ) (xs : List ℕ) → IsRun f n (n + length lists) s xs → IsRun F n (n + length lists) (skip f t s) (without t xs)
  run_moved s xs run = record {
    end = run.end;
    is_end = run.is_end;
    in_range = run.in_range;
    follows = moved_runs xs s run.end run.is_end run.only run.follows;
    only = All-filter (λ x. not (nat_eq x t)) (λ x. x < n) xs run.only;
    once = λ x h. omega (arith, count_of-without-le t x xs, run.once x h);
  }
