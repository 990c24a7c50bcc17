-- How far the numbers of a list reach.
use Rattle.std.proofs.Common.{◌≡◌, ℕ, ◌+◌, ◌<◌, ◌≤◌, ℤ, pos, ◌≤ℤ◌, ◌⊎◌, inl, inr, List, [], ◌∷◌, ◌++◌, length, drop, take, get_or, refl, sym, subst, arith}
use Rattle.std.proofs.lemmas.Int.{ints}
use Rattle.std.proofs.lemmas.List.{drop_more}
use Rattle.mn_model.specs.Domain.{Has}
use Rattle.mn_model.proofs.Ordered.{has_at}
use Rattle.mn_meaning.specs.Families.{InIntervals}
use Rattle.mn_basic.specs.Intervals.{IsIn}
use Rattle.mn_basic.specs.declared.interval.Interval.{Interval}

-- what is between the ends of an interval is in it
pub spans : (s : Interval) (lo hi : ℤ) → s.lo ≡ lo → s.hi ≡ hi → (b : ℤ) → lo ≤ℤ b → b ≤ℤ hi → IsIn s b
spans s lo hi is_lo is_hi b from to = (omega (arith, ints, from, is_lo), omega (arith, ints, to, is_hi))

-- and what is between two of its numbers
pub between : (s : Interval) (low high a : ℤ) → IsIn s low → IsIn s high → low ≤ℤ a → a ≤ℤ high → IsIn s a
between s low high a one another from to = (let le = one.0 in omega (arith, ints, le, from), let le = another.1 in omega (arith, ints, le, to))

-- a number of what is left is the first of it, or behind it
has_left : (ks : List ℤ) (i : ℕ) (d b : ℤ) → i < length ks → Has (drop i ks) b → (get_or ks i d ≡ b) ⊎ Has (drop (i + 1) ks) b
has_left ks i d b below has = subst (λ xs. Has xs b) (drop_more ks i d below) has

-- what is done and what is left have all numbers that are in a span
abbrev pub Reaches : List ℤ → ℕ → Interval → Interval → Type 0
Reaches ks i own span = (b : ℤ) → Has ks b → IsIn own b → IsIn span b ⊎ Has (drop i ks) b

pub reach_on : (items ks : List ℤ) (i : ℕ) (d : ℤ) (own before part after : Interval) → items ≡ ks → i < length items → Reaches ks i own before → ((b : ℤ) → IsIn before b → IsIn after b) → ((b : ℤ) → get_or items i d ≤ℤ b → b ≤ℤ get_or items i d → IsIn part b)
    → ((b : ℤ) → IsIn part b → IsIn own b → IsIn after b) → Reaches ks (i + 1) own after
reach_on items ks i d own before part after is below reaches kept of added b has inside = by (reaches b has inside)
  where
    here : (get_or items i d ≡ b) ⊎ Has (drop (i + 1) ks) b → IsIn after b ⊎ Has (drop (i + 1) ks) b
    here (inl same) = inl (added b (of b (omega (arith, ints, same)) (omega (arith, ints, same))) inside)
    here (inr later) = inr later

    by : IsIn before b ⊎ Has (drop i ks) b → IsIn after b ⊎ Has (drop (i + 1) ks) b
    by (inl in_span) = inl (kept b in_span)
    by (inr left) = here (subst (λ xs. (get_or items i d ≡ b) ⊎ Has (drop (i + 1) xs) b) is (has_left items i d b below (subst (λ xs. Has (drop i xs) b) (sym is) left)))

-- so it is with intervals
abbrev pub Crosses : List ℤ → List ℤ → Interval → Interval → Type 0
Crosses ends rest own span = (b : ℤ) → InIntervals ends b → IsIn own b → IsIn span b ⊎ InIntervals rest b

pub cross_on : (ends rest first others : List ℤ) (own before part after : Interval) → 2 ≤ length rest → first ≡ take 2 rest → others ≡ drop 2 rest → Crosses ends rest own before → ((b : ℤ) → IsIn before b → IsIn after b)
    → ((b : ℤ) → get_or first 0 (pos 0) ≤ℤ b → b ≤ℤ get_or first 1 (pos 0) → IsIn part b) → ((b : ℤ) → IsIn part b → IsIn own b → IsIn after b) → Crosses ends others own after
cross_on ends [] first others own before part after more front back crosses kept of added b within inside = absurd (omega (arith, more))
cross_on ends (lo ∷ []) first others own before part after more front back crosses kept of added b within inside = absurd (omega (arith, more))
cross_on ends (lo ∷ hi ∷ rest) first others own before part after more front back crosses kept of added b within inside = by (crosses b within inside)
  where
    whole : (b : ℤ) → lo ≤ℤ b → b ≤ℤ hi → IsIn part b
    whole = subst (λ (xs : List ℤ). (b : ℤ) → get_or xs 0 (pos 0) ≤ℤ b → b ≤ℤ get_or xs 1 (pos 0) → IsIn part b) front of

    by : IsIn before b ⊎ ((lo ≤ℤ b) × (b ≤ℤ hi)) ⊎ InIntervals rest b → IsIn after b ⊎ InIntervals others b
    by (inl in_span) = inl (kept b in_span)
    by (inr (inl both)) = inl (added b (whole b both.0 both.1) inside)
    by (inr (inr later)) = inr (subst (λ xs. InIntervals xs b) (sym back) later)

-- none is left of one end
pub all_crossed : (ends rest : List ℤ) (own span : Interval) → length rest < 2 → Crosses ends rest own span → (b : ℤ) → InIntervals ends b → IsIn own b → IsIn span b
all_crossed ends rest own span few crosses b within inside = by rest few (crosses b within inside)
  where
    by : (xs : List ℤ) → length xs < 2 → IsIn span b ⊎ InIntervals xs b → IsIn span b
    by xs few (inl in_span) = in_span
    by [] few (inr later) = absurd later
    by (lo ∷ []) few (inr later) = absurd later
    by (lo ∷ hi ∷ xs) few (inr later) = absurd (omega (arith, few))

-- all numbers of a span but those of a list
abbrev pub Remains : List ℤ → Interval → Interval → Type 0
Remains ks own span = (b : ℤ) → (Has ks b → ⊥) → IsIn own b → IsIn span b

pub remain_on : (items ks : List ℤ) (i : ℕ) (d : ℤ) (own before after : Interval) → items ≡ ks → i < length items → Remains ks own before → ((b : ℤ) → IsIn before b → ((get_or items i d ≤ℤ b) × (b ≤ℤ get_or items i d) → ⊥) → IsIn after b) → Remains ks own after
remain_on items ks i d own before after is below remains kept b lacks inside =
    kept b (remains b lacks inside) (λ both. lacks (let from = both.0 in let to = both.1 in let same : get_or items i d ≡ b = omega (arith, ints, from, to) in subst (λ xs. Has xs b) is (subst (Has items) same (has_at items i d below))))

-- one number less is left at the end of the list
pub record Lowers (ks rest : List ℤ) (own span : Interval) : Type 0 where
  pub remains : Remains ks own span
  pub part : (b : ℤ) → Has rest b → Has ks b

has_before : (rest : List ℤ) (k b : ℤ) → Has rest b → Has (rest ++ k ∷ []) b
has_before [] k b has = absurd has
has_before (x ∷ rest) k b (inl is) = inl is
has_before (x ∷ rest) k b (inr later) = inr (has_before rest k b later)

has_last : (rest : List ℤ) (k : ℤ) → Has (rest ++ k ∷ []) k
has_last [] k = inl refl
has_last (x ∷ rest) k = inr (has_last rest k)

pub lower_on : (ks rest others : List ℤ) (k : ℤ) (own before after : Interval) → rest ≡ others ++ k ∷ [] → Lowers ks rest own before → ((b : ℤ) → IsIn before b → ((k ≤ℤ b) × (b ≤ℤ k) → ⊥) → IsIn after b) → Lowers ks others own after
lower_on ks rest others k own before after is lowers kept = record {
  remains = λ b lacks inside. kept b (lowers.remains b lacks inside)
      (λ both. lacks (lowers.part b (let from = both.0 in let to = both.1 in let same : k ≡ b = omega (arith, ints, from, to) in subst (λ xs. Has xs b) (sym is) (subst (Has (others ++ k ∷ [])) same (has_last others k)))));
  part = λ b has. lowers.part b (subst (λ xs. Has xs b) (sym is) (has_before others k b has));
}
