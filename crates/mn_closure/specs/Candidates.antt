-- It can be told of a list of sets whether it is a closed box inside another one.
use Rattle.std.proofs.Common.{◌≡◌, ℕ, zero, suc, ℤ, ◌≤ℤ◌, inl, inr, Bool, true, false, IsTrue, List, [], ◌∷◌, refl}
use Rattle.mn_model.specs.Decided.{Decided, decide_all, decide_at_most, decide_below, decide_both, decide_never, decide_not}
use Rattle.mn_model.specs.Domain.{Ascends, Has}
use Rattle.mn_model.specs.declared.constraint.Con.{Con}
use Rattle.mn_model.specs.declared.declaration.Tuples.{Tuples}
use Rattle.mn_boxes.specs.Boxes.{Inside, IsBox, set_of}
use Rattle.mn_boxes.specs.Sets.{IsSetOf, IsUnbroken, Variable}
use Rattle.mn_meaning.specs.Families.{decide_has, decide_implies, decide_same}
use Rattle.mn_closure.specs.Closed.{ClosedAll}
use Rattle.mn_closure.specs.Deciding.{decide_among, decide_closed_all, decide_each, decided_as}

-- each member of a list is Q
decide_members : (xs : List ℤ) (Q : ℤ → Type 0) → ((a : ℤ) → Decided (Q a)) → Decided ((a : ℤ) → Has xs a → Q a)
decide_members xs Q decide = decide_each (Has xs) Q decide (decide_among (λ a. Q a → ⊥) (λ a. decide_not (decide a)) xs)

-- each member of xs is one of ys
abbrev PartOf : List ℤ → List ℤ → Type 0
PartOf xs ys = (a : ℤ) → Has xs a → Has ys a

decide_part : (xs ys : List ℤ) → Decided (PartOf xs ys)
decide_part xs ys = decide_members xs (Has ys) (decide_has ys)

decide_ascends : (xs : List ℤ) → Decided (Ascends xs)
decide_ascends [] = inl tt
decide_ascends (x ∷ xs) = decide_both (decide_all (decide_below x) xs) (decide_ascends xs)

decide_unbroken : (declared xs : List ℤ) → Decided (IsUnbroken declared xs)
decide_unbroken declared xs = decided_as (λ f a b c at_a at_c low high there. f a at_a c at_c b there low high, λ f a at_a c at_c b there low high. f a b c at_a at_c low high there)
    (decide_members xs (λ a. (c : ℤ) → Has xs c → (b : ℤ) → Has declared b → a ≤ℤ b → b ≤ℤ c → Has xs b) (λ a.
    decide_members xs (λ c. (b : ℤ) → Has declared b → a ≤ℤ b → b ≤ℤ c → Has xs b) (λ c.
    decide_members declared (λ b. a ≤ℤ b → b ≤ℤ c → Has xs b) (λ b. decide_implies (decide_at_most a b) (decide_implies (decide_at_most b c) (decide_has xs b))))))

decide_true : (b : Bool) → Decided (IsTrue b)
decide_true true = inl refl
decide_true false = inr (λ e. cc)

decide_set : (var : Variable) (xs : List ℤ) → Decided (IsSetOf var xs)
decide_set var xs = decided_as
    (λ all. record { filled = all.0; ascends = all.1.0; declared = all.1.1.0; stretch = all.1.1.1 }, λ set. (set.filled, (set.ascends, (set.declared, set.stretch))))
    (decide_both (decide_not (decide_same xs [])) (decide_both (decide_ascends xs) (decide_both (decide_part xs var.declared) (decide_implies (decide_true var.bounded) (decide_unbroken var.declared xs)))))

decide_box : (vars : List Variable) (box : List (List ℤ)) → Decided (IsBox vars box)
decide_box [] [] = inl tt
decide_box [] (xs ∷ box) = decide_never
decide_box (var ∷ vars) [] = decide_never
decide_box (var ∷ vars) (xs ∷ box) = decide_both (decide_set var xs) (decide_box vars box)

-- the first set is part of another, and the others are inside others
both_inside : (xs : List ℤ) (inner outer rest : List (List ℤ)) (ys : List ℤ) → set_of outer 0 ≡ ys → ((v : ℕ) → set_of outer (suc v) ≡ set_of rest v) → PartOf xs ys → Inside inner rest → (v : ℕ) (a : ℤ) → Has (set_of (xs ∷ inner) v) a → Has (set_of outer v) a
both_inside xs inner outer rest ys first later part inside zero a has = rw first (part a has)
both_inside xs inner outer rest ys first later part inside (suc v) a has = rw (later v) (inside.within v a has)

decide_inside : (inner outer : List (List ℤ)) → Decided (Inside inner outer)
decide_inside [] outer = inl (record { within = λ v a has. absurd has })
decide_inside (xs ∷ inner) [] = decided_as
    (λ both. record { within = both_inside xs inner [] [] [] refl (λ v. refl) both.0 both.1 }, λ i. (λ a has. i.within 0 a has, record { within = λ v a has. i.within (suc v) a has }))
    (decide_both (decide_part xs []) (decide_inside inner []))
decide_inside (xs ∷ inner) (ys ∷ outer) = decided_as
    (λ both. record { within = both_inside xs inner (ys ∷ outer) outer ys refl (λ v. refl) both.0 both.1 }, λ i. (λ a has. i.within 0 a has, record { within = λ v a has. i.within (suc v) a has }))
    (decide_both (decide_part xs ys) (decide_inside inner outer))

-- a closed box inside the outer one
pub record IsCandidate (vars : List Variable) (lists : List Tuples) (cons : List Con) (outer box : List (List ℤ)) : Type 0 where
  pub lawful : IsBox vars box
  pub inside : Inside box outer
  pub closed : ClosedAll vars lists cons box

pub decide_candidate : (vars : List Variable) (lists : List Tuples) (cons : List Con) (outer box : List (List ℤ)) → Decided (IsCandidate vars lists cons outer box)
decide_candidate vars lists cons outer box = decided_as
    (λ all. record { lawful = all.0; inside = all.1.0; closed = all.1.1 }, λ candidate. (candidate.lawful, (candidate.inside, candidate.closed)))
    (decide_both (decide_box vars box) (decide_both (decide_inside box outer) (decide_closed_all vars lists cons box)))
