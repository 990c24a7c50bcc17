-- The assignments of a problem and its solutions, in the order of its search.
use Rattle.std.proofs.Common.{◌↔◌, ℕ, zero, suc, ℤ, List, [], ◌∷◌, map, replicate}
use Rattle.std.proofs.lemmas.List.{map-append}
use Rattle.std.specs.List.{AllByRecursion}
use Rattle.mn_model.specs.Domain.{Ascends}
use Rattle.mn_model.specs.Lawful.{IsLawfulDecl}
use Rattle.mn_model.specs.Members.{HasMember, HoldsInOrder, AreDistinct}
use Rattle.mn_model.specs.Problem.{Problem, size_of_dims, domains_of, variables_of, variable_count}
use Rattle.mn_model.specs.declared.declaration.Decl.{Decl}
use Rattle.mn_model.proofs.Lists.{all_append}
use Rattle.mn_model.proofs.Variables.{length-domains_of}
use Rattle.mn_meaning.specs.Laws.{DomainsAscend, IsAssignment, OrderIsKnown, Precedes}
use Rattle.mn_meaning.specs.Meaning.{HoldsAll, decide_holds_all}
use Rattle.mn_meaning.specs.Solutions.{search_order, all_assignments, solutions}
use Rattle.mn_meaning.proofs.Assignments.{chosen_is, is_chosen, chosen_ordered, ordered_distinct}
use Rattle.mn_meaning.proofs.MemberLemmas.{member_kept, kept_member, HoldsInOrder-kept}
use Rattle.mn_meaning.proofs.Turns.{order_known, order_ready}

-- the domains of lawful declarations ascend
copies_ascend : (n : ℕ) (d : Decl) → Ascends d.domain → AllByRecursion Ascends (map (λ (x : Decl). x.domain) (replicate n d))
copies_ascend zero d ascends = tt
copies_ascend (suc n) d ascends = (ascends, copies_ascend n d ascends)

pub domains_ascend : (decls : List Decl) → AllByRecursion IsLawfulDecl decls → AllByRecursion Ascends (domains_of decls)
domains_ascend [] lawful = tt
domains_ascend (d ∷ decls) lawful =
    rw (map-append (λ (x : Decl). x.domain) (replicate (size_of_dims d.dims) d) (variables_of decls))
    (all_append Ascends (map (λ (x : Decl). x.domain) (replicate (size_of_dims d.dims) d)) (domains_of decls) (copies_ascend (size_of_dims d.dims) d lawful.0.domain.ascends) (domains_ascend decls lawful.1))

-- the assignments have a value of each domain
pub assignments_all : (p : Problem) → OrderIsKnown p → (s : List ℤ) → HasMember (all_assignments p) s ↔ IsAssignment (domains_of p.decls) s
assignments_all p known s = (
  chosen_is (search_order p) (domains_of p.decls) s (order_ready p),
  is_chosen (search_order p) (variable_count p.decls) (domains_of p.decls) s (length-domains_of p.decls) (order_known p known) (order_ready p),
)

pub assignments_ordered : (p : Problem) → DomainsAscend p → HoldsInOrder (Precedes p) (all_assignments p)
assignments_ordered p ascend = chosen_ordered (search_order p) (domains_of p.decls) (order_ready p) ascend

pub assignments_distinct : (p : Problem) → DomainsAscend p → AreDistinct (all_assignments p)
assignments_distinct p ascend = ordered_distinct (search_order p) (all_assignments p) (assignments_ordered p ascend)

-- the solutions are those under which all constraints hold
pub solutions_hold : (p : Problem) (s : List ℤ) → HasMember (solutions p) s ↔ (HasMember (all_assignments p) s × HoldsAll p.tuples p.cons s)
solutions_hold p s = (
  member_kept (HoldsAll p.tuples p.cons) (decide_holds_all p.tuples p.cons) (all_assignments p) s,
  λ both. kept_member (HoldsAll p.tuples p.cons) (decide_holds_all p.tuples p.cons) (all_assignments p) s both.0 both.1,
)

pub solutions_ordered : (p : Problem) → DomainsAscend p → HoldsInOrder (Precedes p) (solutions p)
solutions_ordered p ascend = HoldsInOrder-kept (HoldsAll p.tuples p.cons) (Precedes p) (decide_holds_all p.tuples p.cons) (all_assignments p) (assignments_ordered p ascend)

pub solutions_distinct : (p : Problem) → DomainsAscend p → AreDistinct (solutions p)
solutions_distinct p ascend = ordered_distinct (search_order p) (solutions p) (solutions_ordered p ascend)
