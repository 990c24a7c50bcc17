-- The names of the lists: they are names, and differ.
use Rattle.std.proofs.Common.{◌≡◌, ℕ, zero, suc, ◌+◌, ◌<◌, ◌≤◌, Bool, true, false, cond, List, map, refl, ap, ◌∙◌, arith, Some, None, bytes_eq}
use Rattle.std.proofs.lemmas.Slice.Eq.{bytes_eq-Decides}
use Rattle.std.proofs.lemmas.Fmt.{decimal_injective}
use Rattle.std.specs.List.{range_with_len}
use Rattle.mn_model.specs.Problem.{Problem, listed_as}
use Rattle.mn_gen.specs.Generated.{list_name, tuple_list}
use Rattle.mn_gen.specs.Rings.{ring}

-- two lists that differ have names that differ
other_name : (j k : ℕ) → j < k → k < 64 → (b : Bool) → bytes_eq (list_name k) (list_name j) ≡ b → b ≡ false
other_name j k below few false e = refl
other_name j k below few true e =
    let same : list_name k ≡ list_name j = (bytes_eq-Decides (list_name k) (list_name j)).0 e in
    absurd (omega (arith, decimal_injective k j (omega arith) (omega arith) cc))

-- none of the lists before has the name of list k
pub unused_name : (seed n from m k : ℕ) → from + m ≤ k → k < 64 → listed_as (map (tuple_list seed n) (range_with_len from m)) (list_name k) ≡ None
unused_name seed n from zero k within few = refl
unused_name seed n from (suc m) k within few =
    let later = unused_name seed n (from + 1) m k (omega arith) few in
    ap (λ b. cond b (Some (tuple_list seed n from)) (listed_as (map (tuple_list seed n) (range_with_len (from + 1) m)) (list_name k))) (other_name from k (omega arith) few (bytes_eq (list_name k) (list_name from)) refl) ∙ later

-- so it is unused where only the lists before it are there
pub unused_in_ring : (seed n k : ℕ) (p : Problem) (name : List ℕ) → p ≡ ring seed n k 0 → name ≡ list_name k → k < 64 → listed_as p.tuples name ≡ None
unfolding ring
unused_in_ring seed n k p name is named few = (λ i. listed_as (is i).tuples (named i)) ∙ unused_name seed n 0 k k (omega arith) few
