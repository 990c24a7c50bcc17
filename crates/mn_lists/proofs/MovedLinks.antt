-- The lists and the walk in a row in which a trigger was moved.
use Rattle.std.proofs.Common.{◌≡◌, ◌≢◌, ℕ, ◌+◌, ◌<◌, cond, nat_eq, List, Option, None, Some, length, refl, sym, ap, subst, ◌∙◌, arith}
use Rattle.std.specs.Option.{option_map}
use Rattle.mn_lists.specs.Circles.{chain, circles, IsLinked, IsRun, IsWalk, skip}
use Rattle.mn_lists.specs.Links.{AreLinks, TriggerLists, trigger_lists, lists_of, walk_of}
use Rattle.mn_lists.specs.Row.{HasNode, IsClosed, next_node, prev_node, joined, unlinked, inserted}
use Rattle.mn_lists.specs.Standing.{EachOnOneList, moved_to, without}
use Rattle.mn_lists.proofs.Cases.{by_same, cond_same, cond_other}
use Rattle.mn_lists.proofs.Chains.{circles_is, length-circles, run_is}
use Rattle.mn_lists.proofs.Moves.{length-moved_to, linked_moved, run_moved}
use Rattle.mn_lists.proofs.Relinked.{moves, mutual_moved}
use Rattle.mn_lists.proofs.Rows.{length-joined, next-joined, prev-joined}

module _ (row : List ℕ) (t h : ℕ) (closed : IsClosed row) (here : HasNode row t) (there : HasNode row h) where
  abbrev f : ℕ → ℕ
  f = next_node row

  abbrev g : ℕ → ℕ
  g = prev_node row

  abbrev row₁ : List ℕ
  row₁ = unlinked row t

  -- the node after the head, once t is out of its circle
  abbrev first : ℕ
  first = cond (nat_eq h (g t)) (f t) (f h)

  abbrev row₂ : List ℕ
  row₂ = joined row₁ h t

  next₁ : (k : ℕ) → next_node row₁ k ≡ cond (nat_eq k (g t)) (f t) (f k)
  next₁ k = next-joined row (g t) (f t) k (closed t here).1

  prev₁ : (k : ℕ) → prev_node row₁ k ≡ cond (nat_eq k (f t)) (g t) (g k)
  prev₁ k = prev-joined row (g t) (f t) k (closed t here).0

  long₁ : length row₁ ≡ length row
  long₁ = length-joined row (g t) (f t)

  long₂ : length row₂ ≡ length row
  long₂ = length-joined row₁ h t ∙ long₁

  first_is : next_node row₁ h ≡ first
  first_is = next₁ h

  has_first : HasNode row first
  has_first = by_same h (g t) (λ same _. subst (HasNode row) (sym (cond_same h (g t) (f t) (f h) same)) (closed t here).0)
      (λ other _. subst (HasNode row) (sym (cond_other h (g t) (f t) (f h) other)) (closed h there).0)

  pub has_next : HasNode row₁ (next_node row₁ h)
  has_next = subst (HasNode row₁) (sym first_is) (omega (arith, long₁, has_first))

  -- the row after the move
  abbrev now_is : inserted row₁ h t ≡ joined row₂ t first
  now_is = ap (joined row₂ t) first_is

  pub next_now : (k : ℕ) → next_node (inserted row₁ h t) k ≡ cond (nat_eq k t) first (cond (nat_eq k h) t (cond (nat_eq k (g t)) (f t) (f k)))
  next_now k = ap (λ (r : List ℕ). next_node r k) now_is ∙ next-joined row₂ t first k (omega (arith, long₂)) ∙
      ap (λ (x : ℕ). cond (nat_eq k t) first x) (next-joined row₁ h t k (omega (arith, long₁)) ∙ ap (λ (x : ℕ). cond (nat_eq k h) t x) (next₁ k))

  pub prev_now : (k : ℕ) → prev_node (inserted row₁ h t) k ≡ cond (nat_eq k first) t (cond (nat_eq k t) h (cond (nat_eq k (f t)) (g t) (g k)))
  prev_now k = ap (λ (r : List ℕ). prev_node r k) now_is ∙ prev-joined row₂ t first k (omega (arith, long₂, has_first)) ∙
      ap (λ (x : ℕ). cond (nat_eq k first) t x) (prev-joined row₁ h t k (omega (arith, long₁)) ∙ ap (λ (x : ℕ). cond (nat_eq k t) h x) (prev₁ k))

  pub length_now : length (inserted row₁ h t) ≡ length row
  length_now = ap length now_is ∙ length-joined row₂ t first ∙ long₂

module _ (row : List ℕ) (n heads : ℕ) (cursor : Option ℕ) (links : AreLinks row n heads cursor) where
  abbrev lists : List (List ℕ)
  lists = lists_of row n heads

  pub count : length lists ≡ heads
  count = length-circles (next_node row) n heads

  pub all_closed : IsClosed row
  all_closed k has =
      let M = links.linked.mutual_nodes in let e = links.nodes in
      let below : k < n + length lists = omega (arith, count) in
      (omega (arith, count, M.next_below k below), omega (arith, count, M.prev_below k below))

  module _ (t l : ℕ) (here : t < n) (inside : l < heads) where
    abbrev F : ℕ → ℕ
    F = next_node (inserted (unlinked row t) (n + l) t)

    abbrev G : ℕ → ℕ
    G = prev_node (inserted (unlinked row t) (n + l) t)

    pub has_trigger : HasNode row t
    has_trigger = omega (arith, links.nodes)

    pub has_head : HasNode row (n + l)
    has_head = omega (arith, links.nodes)

    abbrev now : List ℕ
    now = inserted (unlinked row t) (n + l) t

    inside_lists : l < length lists
    inside_lists = omega (arith, count)

    below_all : (k : ℕ) → k < n + heads → k < n + length lists
    below_all k h = omega (arith, count)

    relinked : IsLinked F G n (moved_to t l lists)
    relinked =
        let M = links.linked.mutual_nodes in let at_t = below_all t (omega arith) in let at_h = below_all (n + l) (omega arith) in let far : t ≢ n + l = λ e. omega arith in
        let next_is = next_now row t (n + l) all_closed has_trigger has_head in let prev_is = prev_now row t (n + l) all_closed has_trigger has_head in
        linked_moved (next_node row) (prev_node row) F G n t l lists here inside_lists links.linked
        (moves (next_node row) (prev_node row) (n + length lists) t (n + l) M at_t at_h far F G next_is prev_is)
        (mutual_moved (next_node row) (prev_node row) (n + length lists) t (n + l) M at_t at_h far F G next_is prev_is)

    pub lists_now : lists_of now n heads ≡ moved_to t l lists
    lists_now = subst (λ (k : ℕ). circles F n k ≡ moved_to t l lists) (length-moved_to t l lists ∙ count) (circles_is F G n (moved_to t l lists) relinked)

    run_now : (s : ℕ) → IsRun (next_node row) n (n + heads) s (chain (next_node row) n n s) → IsRun F n (n + heads) (skip (next_node row) t s) (without t (chain (next_node row) n n s))
    run_now s run =
        let M = links.linked.mutual_nodes in let at_t = below_all t (omega arith) in let at_h = below_all (n + l) (omega arith) in let far : t ≢ n + l = λ e. omega arith in
        let next_is = next_now row t (n + l) all_closed has_trigger has_head in let prev_is = prev_now row t (n + l) all_closed has_trigger has_head in
        let P : ℕ → Type 0 = λ k. IsRun F n (n + k) (skip (next_node row) t s) (without t (chain (next_node row) n n s)) in
        subst P count (run_moved (next_node row) (prev_node row) F G n t l lists here inside_lists links.linked
        (moves (next_node row) (prev_node row) (n + length lists) t (n + l) M at_t at_h far F G next_is prev_is)
        (mutual_moved (next_node row) (prev_node row) (n + length lists) t (n + l) M at_t at_h far F G next_is prev_is) s (chain (next_node row) n n s)
        (subst (λ (k : ℕ). IsRun (next_node row) n (n + k) s (chain (next_node row) n n s)) (sym count) run))

    walks_on : (c : Option ℕ) → IsWalk (next_node row) n (n + heads) c → walk_of now n (option_map (skip (next_node row) t) c) ≡ option_map (without t) (walk_of row n c)
    walks_on None walk = refl
    walks_on (Some s) walk = ap (λ (xs : List ℕ). Some xs) (run_is F n (n + heads) (skip (next_node row) t s) (without t (chain (next_node row) n n s)) (run_now s walk))

    walking_now : (c : Option ℕ) → IsWalk (next_node row) n (n + heads) c → IsWalk F n (n + heads) (option_map (skip (next_node row) t) c)
    walking_now None walk = tt
    walking_now (Some s) walk =
        let run = run_now s walk in let at : ℕ = skip (next_node row) t s in
        subst (IsRun F n (n + heads) at) (sym (run_is F n (n + heads) at (without t (chain (next_node row) n n s)) run)) run

    pub walk_now : walk_of now n (option_map (skip (next_node row) t) cursor) ≡ option_map (without t) (walk_of row n cursor)
    walk_now = walks_on cursor links.walking

    pub each_now : EachOnOneList n (lists_of now n heads)
    each_now = subst (EachOnOneList n) (sym lists_now) relinked.each

    pub links_now : AreLinks now n heads (option_map (skip (next_node row) t) cursor)
    links_now = record {
      nodes = length_now row t (n + l) all_closed has_trigger has_head ∙ links.nodes;
      fits = links.fits;
      linked = subst (IsLinked F G n) (sym lists_now) relinked;
      walking = walking_now cursor links.walking;
    }

-- ---- what `move_to` leaves, from what its calls ensure
pub record IsMoved (row : List ℕ) (n heads : ℕ) (cursor : Option ℕ) (t l : ℕ) (old : TriggerLists) : Type 0 where
  pub links : AreLinks row n heads cursor
  pub lists_are : lists_of row n heads ≡ moved_to t l old.lists
  pub walk_is : walk_of row n cursor ≡ option_map (without t) old.walk
  pub each : EachOnOneList n (lists_of row n heads)

-- a list that is seen from outside has a head
pub head_of : (row : List ℕ) (n heads : ℕ) (cursor : Option ℕ) (old : TriggerLists) (l : ℕ) → AreLinks row n heads cursor → trigger_lists row n heads cursor ≡ old → l < length old.lists → l < heads
head_of row n heads cursor old l links view h = omega (arith, count row n heads cursor links, ap (λ (v : TriggerLists). length v.lists) view)

pub is_moved : (row : List ℕ) (n heads : ℕ) (cursor : Option ℕ) (old : TriggerLists) (t l : ℕ) (row' read : List ℕ) (cursor' : Option ℕ) → AreLinks row n heads cursor → trigger_lists row n heads cursor ≡ old
    → t < old.triggers → l < length old.lists → row' ≡ inserted (unlinked row t) (n + l) t → read ≡ row → cursor' ≡ option_map (skip (next_node read) t) cursor → IsMoved row' n heads cursor' t l old
is_moved row n heads cursor old t l row' read cursor' links view in_triggers in_lists row_is read_is cursor_is =
    let here : t < n = subst (λ (k : ℕ). t < k) (ap (λ (v : TriggerLists). v.triggers) (sym view)) in_triggers in
    let inside : l < heads = head_of row n heads cursor old l links view in_lists in
    let goes : cursor' ≡ option_map (skip (next_node row) t) cursor = cursor_is ∙ ap (λ (r : List ℕ). option_map (skip (next_node r) t) cursor) read_is in
    let P : List ℕ × Option ℕ → Type 0 = λ u. IsMoved u.0 n heads u.1 t l old in
    subst P (λ i. (sym row_is i, sym goes i)) (record {
      links = links_now row n heads cursor links t l here inside;
      lists_are = lists_now row n heads cursor links t l here inside ∙ ap (λ (v : TriggerLists). moved_to t l v.lists) view;
      walk_is = walk_now row n heads cursor links t l here inside ∙ ap (λ (v : TriggerLists). option_map (without t) v.walk) view;
      each = each_now row n heads cursor links t l here inside;
    })
