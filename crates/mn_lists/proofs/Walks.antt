-- A walk begins at the front of a list, and goes on node by node.
use Rattle.std.proofs.Common.{◌≡◌, ℕ, zero, suc, ◌+◌, ◌≤◌, ◌<◌, Bool, false, cond, nat_lt, List, [], ◌∷◌, Option, None, Some, length, get_or, refl, sym, ap, subst, ◌∙◌, arith}
use Rattle.std.specs.Prelude.{drop, slice_get}
use Rattle.std.proofs.lemmas.Bool.Decides.{nat_tests}
use Rattle.std.proofs.lemmas.List.Elements.{All-tail}
use Rattle.mn_lists.specs.Circles.{chain, Follow, IsRun, IsWalk}
use Rattle.mn_lists.specs.Links.{AreLinks, TriggerLists, trigger_lists, lists_of, walk_of}
use Rattle.mn_lists.specs.Row.{next_node, prev_node}
use Rattle.mn_lists.specs.Standing.{ahead, count_of}
use Rattle.mn_lists.proofs.Cases.{by_same}
use Rattle.mn_lists.proofs.Chains.{list_runs, run_is}
use Rattle.mn_lists.proofs.Counts.{count_of-cons-le, count_of-cons_same}
use Rattle.mn_lists.proofs.MovedLinks.{count, head_of}

pub chain_ends : (f : ℕ → ℕ) (n most s : ℕ) → n ≤ s → chain f n most s ≡ []
chain_ends f n zero s far = refl
chain_ends f n (suc most) s far = let test : nat_lt s n ≡ false = grind (arith, nat_tests) in ap (λ (b : Bool). cond b (s ∷ chain f n most (f s)) []) test

-- a run from a number has it in front, and goes on behind it
pub record Steps (f : ℕ → ℕ) (n m s : ℕ) (xs : List ℕ) : Type 0 where
  pub others : List ℕ
  pub front : xs ≡ s ∷ others
  pub run : IsRun f n m (f s) others
  pub gone : count_of s others ≡ 0

pub steps : (f : ℕ → ℕ) (n m s : ℕ) (xs : List ℕ) → IsRun f n m s xs → s < n → Steps f n m s xs
steps f n m s [] r below = absurd (let far = r.is_end in let is : s ≡ r.end = r.follows in omega arith)
steps f n m s (x ∷ xs) r below =
    let is : s ≡ x = r.follows.0 in
    record {
      others = xs;
      front = ap (λ (y : ℕ). y ∷ xs) (sym is);
      run = record {
        end = r.end;
        is_end = r.is_end;
        in_range = r.in_range;
        follows = subst (λ (y : ℕ). Follow f (f y) xs r.end) (sym is) r.follows.1;
        only = All-tail (λ y. y < n) x xs r.only;
        once = λ y h. omega (arith, count_of-cons-le y x xs, r.once y h);
      };
      gone = subst (λ (y : ℕ). count_of y xs ≡ 0) (sym is) (by_same x x (λ _ test. omega (arith, count_of-cons_same x x xs test, r.once x (subst (λ (y : ℕ). y < n) is below))) (λ other _. absurd (other refl)));
    }

module _ (row : List ℕ) (n heads : ℕ) (cursor : Option ℕ) (links : AreLinks row n heads cursor) where
  abbrev f : ℕ → ℕ
  f = next_node row

  at_most : (s : ℕ) → IsRun f n (n + heads) s (chain f n n s) → AreLinks row n heads (Some s)
  at_most s run = record { nodes = links.nodes; fits = links.fits; linked = links.linked; walking = run }

  module _ (l : ℕ) (inside : l < heads) where
    front_run : IsRun f n (n + heads) (f (n + l)) (get_or (lists_of row n heads) l [])
    front_run = subst (λ (k : ℕ). IsRun f n (n + k) (f (n + l)) (get_or (lists_of row n heads) l [])) (count row n heads cursor links)
        (list_runs f (prev_node row) n (lists_of row n heads) links.linked l (omega (arith, count row n heads cursor links)))

    pub ahead_at_front : chain f n n (f (n + l)) ≡ get_or (lists_of row n heads) l []
    ahead_at_front = run_is f n (n + heads) (f (n + l)) (get_or (lists_of row n heads) l []) front_run

    pub opened : AreLinks row n heads (Some (f (n + l)))
    opened = at_most (f (n + l)) (subst (IsRun f n (n + heads) (f (n + l))) (sym ahead_at_front) front_run)

  module _ (s : ℕ) (run : IsRun f n (n + heads) s (chain f n n s)) (below : s < n) where
    step : Steps f n (n + heads) s (chain f n n s)
    step = steps f n (n + heads) s (chain f n n s) run below

    others_are : chain f n n (f s) ≡ step.others
    others_are = run_is f n (n + heads) (f s) step.others step.run

    pub ahead_is : chain f n n s ≡ s ∷ chain f n n (f s)
    ahead_is = step.front ∙ ap (λ (xs : List ℕ). s ∷ xs) (sym others_are)

    pub met_once : count_of s (chain f n n (f s)) ≡ 0
    met_once = ap (count_of s) others_are ∙ step.gone

    pub stepped : AreLinks row n heads (Some (f s))
    stepped = at_most (f s) (subst (IsRun f n (n + heads) (f s)) (sym others_are) step.run)

-- ---- what the calls of a walk leave, from what their calls ensure
module _ (row : List ℕ) (n heads : ℕ) (cursor : Option ℕ) (old : TriggerLists) (links : AreLinks row n heads cursor) (view : trigger_lists row n heads cursor ≡ old) where
  -- where the walk goes on at s, the walk that is seen from outside is the chain from s on
  ahead_was : (s : ℕ) → cursor ≡ Some s → ahead old.walk ≡ chain (next_node row) n n s
  ahead_was s at = ap (λ (v : TriggerLists). ahead v.walk) (sym view) ∙ ap (λ (c : Option ℕ). ahead (walk_of row n c)) at

  pub ended : (s : ℕ) → cursor ≡ Some s → n ≤ s → None ≡ slice_get (ahead old.walk) 0
  ended s at far = ap (λ (xs : List ℕ). slice_get xs 0) (sym (ahead_was s at ∙ chain_ends (next_node row) n n s far))

  pub record GoesOn (s next : ℕ) : Type 0 where
    pub still : AreLinks row n heads (Some next)
    pub given : Some s ≡ slice_get (ahead old.walk) 0
    pub rest : Some (chain (next_node row) n n next) ≡ Some (drop 1 (ahead old.walk))
    pub once : count_of s (chain (next_node row) n n next) ≡ 0

  pub goes_on : (s next : ℕ) (read : List ℕ) → cursor ≡ Some s → s < n → next ≡ next_node read s → read ≡ row → GoesOn s next
  goes_on s next read at below next_is read_is =
      let run = subst (IsWalk (next_node row) n (n + heads)) at links.walking in
      let was : ahead old.walk ≡ s ∷ chain (next_node row) n n (next_node row s) = ahead_was s at ∙ ahead_is row n heads cursor links s run below in
      subst (GoesOn s) (sym (next_is ∙ ap (λ (r : List ℕ). next_node r s) read_is)) (record {
        still = stepped row n heads cursor links s run below;
        given = ap (λ (xs : List ℕ). slice_get xs 0) (sym was);
        rest = ap (λ (xs : List ℕ). Some (drop 1 xs)) (sym was);
        once = met_once row n heads cursor links s run below;
      })

  pub record Opens (l next : ℕ) : Type 0 where
    pub still : AreLinks row n heads (Some next)
    pub all : Some (chain (next_node row) n n next) ≡ Some (get_or old.lists l [])

  pub opens : (l next : ℕ) (read : List ℕ) → l < length old.lists → next ≡ next_node read (n + l) → read ≡ row → Opens l next
  opens l next read h next_is read_is =
      let inside = head_of row n heads cursor old l links view h in
      subst (Opens l) (sym (next_is ∙ ap (λ (r : List ℕ). next_node r (n + l)) read_is)) (record {
        still = opened row n heads cursor links l inside;
        all = ap (λ (xs : List ℕ). Some xs) (ahead_at_front row n heads cursor links l inside ∙ ap (λ (v : TriggerLists). get_or v.lists l []) view);
      })
