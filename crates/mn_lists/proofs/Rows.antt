-- The nodes of a row in which one node was made to follow another.
use Rattle.std.proofs.Common.{◌≡◌, ℕ, ◌+◌, ◌*◌, cond, nat_eq, List, length, get_or, set, sym, subst, ◌∙◌, arith}
use Rattle.std.proofs.lemmas.List.{get_or-set_other, get_or-set_same, length-set}
use Rattle.mn_lists.specs.Row.{HasNode, next_node, prev_node, joined}
use Rattle.mn_lists.proofs.Cases.{by_same, cond_same, cond_other}

module _ (row : List ℕ) (a b : ℕ) where
  abbrev first : List ℕ
  first = set row (2 * a) b

  pub length-joined : length (joined row a b) ≡ length row
  length-joined = length-set first (2 * b + 1) a ∙ length-set row (2 * a) b

  pub next-joined : (k : ℕ) → HasNode row a → next_node (joined row a b) k ≡ cond (nat_eq k a) b (next_node row k)
  next-joined k has =
      get_or-set_other first (2 * b + 1) (2 * k) a 0 (λ e. omega arith) ∙
      by_same k a (λ same _. subst (λ (j : ℕ). get_or first (2 * j) 0 ≡ b) (sym same) (get_or-set_same row (2 * a) b 0 (omega arith)) ∙ sym (cond_same k a b (next_node row k) same))
      (λ other _. get_or-set_other row (2 * a) (2 * k) b 0 (λ e. other (omega arith)) ∙ sym (cond_other k a b (next_node row k) other))

  pub prev-joined : (k : ℕ) → HasNode row b → prev_node (joined row a b) k ≡ cond (nat_eq k b) a (prev_node row k)
  prev-joined k has =
      by_same k b (λ same _. subst (λ (j : ℕ). get_or (joined row a b) (2 * j + 1) 0 ≡ a) (sym same) (get_or-set_same first (2 * b + 1) a 0 (omega (arith, length-set row (2 * a) b))) ∙ sym (cond_same k b a (prev_node row k) same))
      (λ other _. get_or-set_other first (2 * b + 1) (2 * k + 1) a 0 (λ e. other (omega arith)) ∙ get_or-set_other row (2 * a) (2 * k + 1) b 0 (λ e. omega arith) ∙ sym (cond_other k b a (prev_node row k) other))
