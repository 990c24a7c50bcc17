-- The closure is computed: it is the join of the closed boxes.
use Rattle.std.proofs.Common.{◌≡◌, ℤ, ◌<ℤ◌, ◌⊎◌, inl, inr, ⊎_elim, ◌↔◌, true, List, [], ◌∷◌, map, Option, Some, None, refl, sym, subst, ap, arith}
use Rattle.std.proofs.lemmas.Int.{ints}
use Rattle.std.specs.List.{AllByRecursion}
use Rattle.mn_model.specs.Decided.{Decided, decide_int, kept}
use Rattle.mn_model.specs.Domain.{Ascends}
use Rattle.mn_model.specs.Members.{HasMember}
use Rattle.mn_model.specs.declared.constraint.Con.{Con}
use Rattle.mn_model.specs.declared.declaration.Tuples.{Tuples}
use Rattle.mn_model.proofs.Lists.{member_back, member_front}
use Rattle.mn_model.proofs.Ordered.{above_all}
use Rattle.mn_boxes.specs.Boxes.{Inside, IsBox}
use Rattle.mn_boxes.specs.Sets.{Variable}
use Rattle.mn_boxes.proofs.Members.{PartOf}
use Rattle.mn_boxes.proofs.Totals.{rest_inside}
use Rattle.mn_meaning.proofs.MemberLemmas.{flat_map_member, kept_member, map_member, member_kept}
use Rattle.mn_closure.specs.Closed.{ClosedAll}
use Rattle.mn_closure.specs.Closures.{IsClosure, NoClosure, join}
use Rattle.mn_closure.specs.Computed.{boxes_in, closure_of, join_all, join_onto, parts_of}
use Rattle.mn_closure.specs.Laws.{HasClosure}
use Rattle.mn_closure.specs.Ready.{DeclaredAscend, Suits}
use Rattle.mn_closure.specs.Candidates.{IsCandidate, decide_candidate}
use Rattle.mn_closure.proofs.Covering.{closed_join, covers_join}
use Rattle.mn_closure.proofs.Joined.{is_join}
use Rattle.mn_closure.proofs.Solving.{closure_there, closure_unique}

-- ---- the boxes inside a box

-- a part that ascends is one of the parts
part_there : (xs ys : List ℤ) → Ascends xs → Ascends ys → PartOf ys xs → HasMember (parts_of xs) ys
part_there [] [] up_x up_y part = inl refl
part_there [] (y ∷ ys) up_x up_y part = absurd (part y (inl refl))
part_there (x ∷ xs) [] up_x up_y part = member_back (map (λ zs. x ∷ zs) (parts_of xs)) (parts_of xs) [] (part_there xs [] up_x.1 tt (λ a none. absurd none))
part_there (x ∷ xs) (y ∷ ys) up_x up_y part = by (decide_int x y)
    (λ is. member_front (map (λ zs. x ∷ zs) (parts_of xs)) (parts_of xs) (y ∷ ys) (subst (λ b. HasMember (map (λ zs. x ∷ zs) (parts_of xs)) (b ∷ ys)) is (map_member (λ zs. x ∷ zs) (parts_of xs) ys (part_there xs ys up_x.1 up_y.1 (rest is)))))
    (λ differs. member_back (map (λ zs. x ∷ zs) (parts_of xs)) (parts_of xs) (y ∷ ys) (part_there xs (y ∷ ys) up_x.1 up_y (behind differs)))
  where
    rest : x ≡ y → PartOf ys xs
    rest is a has = ⊎_elim (λ same. absurd (let less = above_all y ys a up_y.0 has in omega (arith, ints, less, same, is))) (λ later. later) (part a (inr has))

    first : (x ≡ y → ⊥) → x <ℤ y
    first differs = ⊎_elim (λ same. absurd (differs same)) (λ later. above_all x xs y up_x.0 later) (part y (inl refl))

    behind : (x ≡ y → ⊥) → PartOf (y ∷ ys) xs
    behind differs a (inl same) = ⊎_elim (λ is. absurd (let less = first differs in omega (arith, ints, less, same, is))) (λ later. later) (part a (inl same))
    behind differs a (inr has) = ⊎_elim (λ is. absurd (let less = first differs in let above = above_all y ys a up_y.0 has in omega (arith, ints, less, above, is))) (λ later. later) (part a (inr has))

    by : Decided (x ≡ y) → (x ≡ y → HasMember (parts_of (x ∷ xs)) (y ∷ ys)) → ((x ≡ y → ⊥) → HasMember (parts_of (x ∷ xs)) (y ∷ ys)) → HasMember (parts_of (x ∷ xs)) (y ∷ ys)
    by (inl is) here there = here is
    by (inr differs) here there = there differs

boxes_there : (vars : List Variable) (outer box : List (List ℤ)) → IsBox vars outer → IsBox vars box → Inside box outer → HasMember (boxes_in outer) box
boxes_there [] [] [] is_outer is inside = inl refl
boxes_there [] [] (ys ∷ box) is_outer is inside = absurd is
boxes_there [] (xs ∷ outer) box is_outer is inside = absurd is_outer
boxes_there (var ∷ vars) [] box is_outer is inside = absurd is_outer
boxes_there (var ∷ vars) (xs ∷ outer) [] is_outer is inside = absurd is
boxes_there (var ∷ vars) (xs ∷ outer) (ys ∷ box) is_outer is inside = flat_map_member (λ zs. map (λ inner. zs ∷ inner) (boxes_in outer)) (parts_of xs) ys (ys ∷ box)
    (part_there xs ys is_outer.0.ascends is.0.ascends (λ a has. inside.within 0 a has))
    (map_member (λ inner. ys ∷ inner) (boxes_in outer) box (boxes_there vars outer box is_outer.1 is.1 (rest_inside ys xs box outer inside)))

-- ---- the join of several

all_joined : (vars : List Variable) (lists : List Tuples) (cons : List Con) (one another : List (List ℤ)) → DeclaredAscend vars → AllByRecursion (Suits vars) cons → IsBox vars one → IsBox vars another
    → ClosedAll vars lists cons one → ClosedAll vars lists cons another → ClosedAll vars lists cons (join vars one another)
all_joined vars lists [] one another ascend suit is_one is_another first second = tt
all_joined vars lists (c ∷ cons) one another ascend suit is_one is_another first second = (
  closed_join vars lists c true one another (join vars one another) (covers_join vars one another ascend is_one is_another) suit.0.bits first.0 second.0,
  all_joined vars lists cons one another ascend suit.1 is_one is_another first.1 second.1,
)

-- what is found is a closed box around all of the list, or there are none
abbrev IsFound : List Variable → List Tuples → List Con → List (List ℤ) → List (List (List ℤ)) → Option (List (List ℤ)) → Type 0
IsFound vars lists cons outer boxes None = (box : List (List ℤ)) → HasMember boxes box → ⊥
IsFound vars lists cons outer boxes (Some found) = IsCandidate vars lists cons outer found × ((box : List (List ℤ)) → HasMember boxes box → Inside box found)

itself : (box other : List (List ℤ)) → box ≡ other → Inside other box
itself box other same = subst (λ b. Inside b box) same (record { within = λ v a has. has })

found_all : (vars : List Variable) (lists : List Tuples) (cons : List Con) (outer : List (List ℤ)) → DeclaredAscend vars → AllByRecursion (Suits vars) cons → IsBox vars outer
    → (boxes : List (List (List ℤ))) → ((box : List (List ℤ)) → HasMember boxes box → IsCandidate vars lists cons outer box) → IsFound vars lists cons outer boxes (join_all vars boxes)
found_all vars lists cons outer ascend suit is_outer [] all = λ box none. none
found_all vars lists cons outer ascend suit is_outer (b ∷ boxes) all = by (all b (inl refl)) (join_all vars boxes) (found_all vars lists cons outer ascend suit is_outer boxes (λ box member. all box (inr member)))
  where
    by : IsCandidate vars lists cons outer b → (rest : Option (List (List ℤ))) → IsFound vars lists cons outer boxes rest → IsFound vars lists cons outer (b ∷ boxes) (Some (join_onto vars b rest))
    by first None none = (first, λ box. ⊎_elim (itself b box) (λ later. absurd (none box later)))
    by first (Some found) rest =
        let joined = is_join vars b found ascend first.lawful rest.0.lawful in (
          record {
            lawful = joined.lawful;
            inside = joined.least outer is_outer first.inside rest.0.inside;
            closed = all_joined vars lists cons b found ascend suit first.lawful rest.0.lawful first.closed rest.0.closed;
          },
          λ box. ⊎_elim (λ same. subst (λ c. Inside c (join vars b found)) same joined.around_one) (λ later. record { within = λ v a has. joined.around_another.within v a ((rest.1 box later).within v a has) }),
        )

-- ---- the closure

-- what a function that finds the closure answers
abbrev pub IsAnswer : List Variable → List Tuples → List Con → List (List ℤ) → Option (List (List ℤ)) → Type 0
IsAnswer vars lists cons outer None = NoClosure vars lists cons outer
IsAnswer vars lists cons outer (Some inner) = IsClosure vars lists cons outer inner

answered : (vars : List Variable) (lists : List Tuples) (cons : List Con) (outer : List (List ℤ)) → IsBox vars outer → (found : Option (List (List ℤ)))
    → IsFound vars lists cons outer (kept (decide_candidate vars lists cons outer) (boxes_in outer)) found → IsAnswer vars lists cons outer found
answered vars lists cons outer is_outer None none =
    λ box is inside closed. none box (kept_member (IsCandidate vars lists cons outer) (decide_candidate vars lists cons outer) (boxes_in outer) box (boxes_there vars outer box is_outer is inside) (record { lawful = is; inside = inside; closed = closed }))
answered vars lists cons outer is_outer (Some found) f = record {
  lawful = f.0.lawful;
  inside = f.0.inside;
  closed = f.0.closed;
  greatest = λ box is inside closed. f.1 box
      (kept_member (IsCandidate vars lists cons outer) (decide_candidate vars lists cons outer) (boxes_in outer) box (boxes_there vars outer box is_outer is inside) (record { lawful = is; inside = inside; closed = closed }));
}

pub closure_answers : (vars : List Variable) (lists : List Tuples) (cons : List Con) (outer : List (List ℤ)) → DeclaredAscend vars → AllByRecursion (Suits vars) cons → IsBox vars outer → IsAnswer vars lists cons outer (closure_of vars lists cons outer)
unfolding closure_of
closure_answers vars lists cons outer ascend suit is_outer =
    let boxes = kept (decide_candidate vars lists cons outer) (boxes_in outer) in
    answered vars lists cons outer is_outer (join_all vars boxes)
    (found_all vars lists cons outer ascend suit is_outer boxes (λ box member. (member_kept (IsCandidate vars lists cons outer) (decide_candidate vars lists cons outer) (boxes_in outer) box member).1))

-- an answer is the closure exactly where there is one
pub answer_some : (vars : List Variable) (lists : List Tuples) (cons : List Con) (outer : List (List ℤ)) (found : Option (List (List ℤ))) → IsAnswer vars lists cons outer found → (inner : List (List ℤ)) → (found ≡ Some inner) ↔ IsClosure vars lists cons outer inner
answer_some vars lists cons outer None none inner = (λ e. absurd (cc), λ c. absurd (closure_there vars lists cons outer inner c none))
answer_some vars lists cons outer (Some found) is inner = (λ e. let same : found ≡ inner = cc in subst (IsClosure vars lists cons outer) same is, λ c. ap Some (sym (closure_unique vars lists cons outer found inner is c)))

pub answer_none : (vars : List Variable) (lists : List Tuples) (cons : List Con) (outer : List (List ℤ)) (found : Option (List (List ℤ))) → IsAnswer vars lists cons outer found → (found ≡ None) ↔ NoClosure vars lists cons outer
answer_none vars lists cons outer None none = (λ e. none, λ n. refl)
answer_none vars lists cons outer (Some found) is = (λ e. absurd (cc), λ none. absurd (closure_there vars lists cons outer found is none))

-- each box has a closure or none
closure_either : (vars : List Variable) (lists : List Tuples) (cons : List Con) (outer : List (List ℤ)) (found : Option (List (List ℤ))) → IsAnswer vars lists cons outer found → HasClosure vars lists cons outer ⊎ NoClosure vars lists cons outer
closure_either vars lists cons outer None none = inr none
closure_either vars lists cons outer (Some inner) is = inl (record { inner = inner; is = is })

pub closure_or_none : (vars : List Variable) (lists : List Tuples) (cons : List Con) (outer : List (List ℤ)) → DeclaredAscend vars → AllByRecursion (Suits vars) cons → IsBox vars outer → HasClosure vars lists cons outer ⊎ NoClosure vars lists cons outer
closure_or_none vars lists cons outer ascend suit is = closure_either vars lists cons outer (closure_of vars lists cons outer) (closure_answers vars lists cons outer ascend suit is)
