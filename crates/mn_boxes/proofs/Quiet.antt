-- What it means that an event wasn't fired.
use Rattle.std.proofs.Common.{◌≡◌, ◌≢◌, ℕ, zero, suc, ◌-◌, ℤ, length, true, false, Option, Some, None, List, [], ◌∷◌, refl, sym, subst, ap, ◌∙◌, inl, inr, arith}
use Rattle.mn_model.specs.Decided.{Decided, decide_int}
use Rattle.mn_model.specs.Domain.{Ascends, Has, IsFirst, IsLast}
use Rattle.mn_boxes.specs.Boxes.{Inside, IsBox, set_of, variable_at}
use Rattle.mn_boxes.specs.Events.{Lower, Upper, Any, Gone, Fires}
use Rattle.mn_boxes.specs.Sets.{IsSetOf, Variable, least, greatest}
use Rattle.mn_boxes.proofs.Members.{PartOf, decide_has, decide_list, same_members, so, stands_first, stands_last}

-- a number that no variable has has no values, and every other one a set
pub set_or_none : {P : Type 0} (vars : List Variable) (box : List (List ℤ)) (v : ℕ) → IsBox vars box → (set_of box v ≡ [] → P) → (IsSetOf (variable_at vars v) (set_of box v) → P) → P
set_or_none [] [] v is none some = none refl
set_or_none [] (xs ∷ box) v is none some = absurd is
set_or_none (var ∷ vars) [] v is none some = absurd is
set_or_none (var ∷ vars) (xs ∷ box) zero is none some = some is.0
set_or_none (var ∷ vars) (xs ∷ box) (suc v) is none some = set_or_none vars box v is.1 none some

pub ascends_at : (vars : List Variable) (box : List (List ℤ)) (v : ℕ) → IsBox vars box → Ascends (set_of box v)
ascends_at vars box v is = set_or_none vars box v is (λ none. subst Ascends (sym none) tt) (λ s. s.ascends)

pub quiet_boxes : (vars : List Variable) (old new : List (List ℤ)) → IsBox vars old → IsBox vars new → ((v : ℕ) → Fires vars v Any old new → ⊥) → new ≡ old
quiet_boxes [] [] [] is_old is_new quiet = refl
quiet_boxes [] [] (ys ∷ new) is_old is_new quiet = absurd is_new
quiet_boxes [] (xs ∷ old) new is_old is_new quiet = absurd is_old
quiet_boxes (var ∷ vars) [] new is_old is_new quiet = absurd is_old
quiet_boxes (var ∷ vars) (xs ∷ old) [] is_old is_new quiet = absurd is_new
quiet_boxes (var ∷ vars) (xs ∷ old) (ys ∷ new) is_old is_new quiet =
    let first : xs ≡ ys = so (decide_list xs ys) (λ differs. quiet 0 (tt, differs)) in
    let rest : new ≡ old = quiet_boxes vars old new is_old.1 is_new.1 (λ v fires. quiet (suc v) fires) in
    cc

-- a value that may be missing
pub decide_option : (a b : Option ℤ) → Decided (a ≡ b)
decide_option None None = inl refl
decide_option None (Some b) = inr (λ e. cc)
decide_option (Some a) None = inr (λ e. cc)
decide_option (Some a) (Some b) = by (decide_int a b)
  where
    by : Decided (a ≡ b) → Decided (Some a ≡ Some b)
    by (inl is) = inl (ap Some is)
    by (inr differs) = inr (λ e. differs (cc))

-- the ends of a set
pub some_least : (xs : List ℤ) → (xs ≡ [] → ⊥) → (a : ℤ) × IsFirst a xs
some_least [] filled = absurd (filled refl)
some_least (x ∷ xs) filled = (x, refl)

pub some_greatest : (xs : List ℤ) → (xs ≡ [] → ⊥) → (a : ℤ) × IsLast a xs
some_greatest [] filled = absurd (filled refl)
some_greatest (x ∷ []) filled = (x, refl)
some_greatest (x ∷ y ∷ xs) filled = let rest = some_greatest (y ∷ xs) (λ e. cc) in (rest.0, step rest.0 rest.1)
  where
    step : (a : ℤ) → IsLast a (y ∷ xs) → IsLast a (x ∷ y ∷ xs)
    step a e = let same : suc (suc (length xs)) - 1 ≡ suc (suc (length xs) - 1) = omega arith in rw same e

-- an unbroken part with the same ends is the whole
same_ends : (var : Variable) (xs ys : List ℤ) → var.bounded ≡ true → IsSetOf var xs → IsSetOf var ys → PartOf ys xs → least xs ≡ least ys → greatest xs ≡ greatest ys → ys ≡ xs
same_ends var xs ys bounded set_x set_y part low high = same_members ys xs set_y.ascends set_x.ascends part around
  where
    around : PartOf xs ys
    around a has =
        let l = some_least xs set_x.filled in
        let h = some_greatest xs set_x.filled in
        let low_x = stands_first xs l.0 set_x.ascends l.1 in
        let low_y = stands_first ys l.0 set_y.ascends (sym low ∙ l.1) in
        let high_x = stands_last xs h.0 set_x.ascends h.1 in
        let high_y = stands_last ys h.0 set_y.ascends (sym high ∙ h.1) in
        set_y.stretch bounded l.0 a h.0 low_y.has high_y.has (low_x.others a has) (high_x.others a has) (set_x.declared a has)

pub quiet_ends : (vars : List Variable) (v : ℕ) (old new : List (List ℤ)) → IsBox vars old → IsBox vars new → Inside new old → (variable_at vars v).bounded ≡ true
    → (Fires vars v Lower old new → ⊥) → (Fires vars v Upper old new → ⊥) → set_of new v ≡ set_of old v
quiet_ends vars v old new is_old is_new inside bounded lower upper =
    set_or_none vars old v is_old
    (λ none. set_or_none vars new v is_new (λ none_too. none_too ∙ sym none) (λ s. absurd (empty none s)))
    (λ s. set_or_none vars new v is_new (λ none. absurd (lower (tt, full s none))) (λ s_too. same_ends (variable_at vars v) (set_of old v) (set_of new v) bounded s s_too (λ a has. inside.within v a has) low high))
  where
    low : least (set_of old v) ≡ least (set_of new v)
    low = so (decide_option (least (set_of old v)) (least (set_of new v))) (λ differs. lower (tt, differs))

    high : greatest (set_of old v) ≡ greatest (set_of new v)
    high = so (decide_option (greatest (set_of old v)) (greatest (set_of new v))) (λ differs. upper (tt, differs))

    empty : set_of old v ≡ [] → IsSetOf (variable_at vars v) (set_of new v) → ⊥
    empty none s = let l = some_least (set_of new v) s.filled in let f = stands_first (set_of new v) l.0 s.ascends l.1 in let has = inside.within v l.0 f.has in subst (λ xs. Has xs l.0) none has

    full : IsSetOf (variable_at vars v) (set_of old v) → set_of new v ≡ [] → least (set_of old v) ≢ least (set_of new v)
    full s none e = let l = some_least (set_of old v) s.filled in let absent : least (set_of new v) ≡ None = ap least none in cc

pub quiet_values : (vars : List Variable) (v : ℕ) (old new : List (List ℤ)) → IsBox vars old → IsBox vars new → Inside new old → (variable_at vars v).bounded ≡ false
    → ((a : ℤ) → Fires vars v (Gone a) old new → ⊥) → set_of new v ≡ set_of old v
quiet_values vars v old new is_old is_new inside unbounded gone =
    same_members (set_of new v) (set_of old v) (ascends_at vars new v is_new) (ascends_at vars old v is_old) (λ a has. inside.within v a has)
    (λ a has. so (decide_has (set_of new v) a) (λ none. gone a (unbounded, (has, none))))
