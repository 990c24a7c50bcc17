-- Tuple lists that break nothing are lawful in the model, and so is a problem with them.
use Rattle.std.proofs.Common.{◌≡◌, ℕ, ◌*◌, ℤ, pos, ◌*ℤ◌, ◌≤ℤ◌, int_lt, false, List, [], ◌∷◌, ◌++◌, length, map, Option, Some, None, is_some, nat_abs, refl, sym, ap, ◌∙◌, subst, arith, append_assoc, append-nil}
use Rattle.std.specs.List.{AllByRecursion}
use Rattle.std.proofs.lemmas.Int.{ints}
use Rattle.mn_lexer.specs.Terminals.{number}
use Rattle.mn_grammar.specs.Places.{when}
use Rattle.mn_grammar.specs.declared.Kind.TheVariants as kinds
use Rattle.mn_grammar.proofs.Steps.{on_kept}
use Rattle.mn_model.specs.Domain.{IsValue}
use Rattle.mn_model.specs.Lawful.{IsLawful}
use Rattle.mn_model.specs.Problem.{Problem, listed_as}
use Rattle.mn_model.proofs.Kept.{IsLawful-tuples}
use Rattle.mn_model.proofs.Lists.{all_back, all_front}
use Rattle.mn_cursor.specs.declared.heads.Head.{Head}
use Rattle.mn_cursor.proofs.Fair.{is_a_name}
use Rattle.mn_references.proofs.LawfulVectors.{IsFairToken, AreFair}
use Rattle.mn_references.proofs.Unbroken.{token_kept, part_kept, when_kept}
use Rattle.mn_decls.specs.TupleLists.{TupleList, Listing, spell_list, spell_lists, after_list, new_list, end_of_lists, fair_count, fair_size, fair_number, breaks_numbers, breaks_list, breaks_lists, value_lists}
use Rattle.mn_decls.proofs.TupleListSteps.{below_wanted, one_more, if_none, count_least, size_least, at_least, no_less, room_for, is_lawful}

-- 1. No more numbers than are wanted
numbers_few : (wanted : ℤ) (before zs : List ℤ) → pos (length before) ≤ℤ wanted → breaks_numbers wanted before zs ≡ [] → pos (length (before ++ zs)) ≤ℤ wanted
numbers_few wanted before [] few kept = subst (λ l. pos (length l) ≤ℤ wanted) (sym (append-nil before)) few
numbers_few wanted before (z ∷ zs) few kept =
    let parts = token_kept (fair_number wanted before z) 1 (breaks_numbers wanted (before ++ z ∷ []) zs) kept in
    let less = below_wanted (int_lt (pos (length before)) wanted) parts.0 in
    subst (λ l. pos (length l) ≤ℤ wanted) (append_assoc before (z ∷ []) zs)
    (numbers_few wanted (before ++ z ∷ []) zs (one_more before wanted z less) parts.1)

none_wanted : (p : Problem) (count size : ℤ) → fair_count p count ≡ None → fair_size p count size ≡ None → pos 0 ≤ℤ (count *ℤ size)
none_wanted p count size counted sized =
    let c = no_less count (count_least p count size counted) in
    let s = at_least size (size_least p count size sized) in
    let all : count *ℤ size ≡ pos (c.0 * s.0) = ap (λ z. z *ℤ size) c.1 ∙ ap (λ z. pos c.0 *ℤ z) s.1 in
    omega (arith, ints, all)

-- 2. Values and names
all_valued : (zs : List ℤ) → AreFair (map (λ z. number z) zs) → AllByRecursion IsValue zs
all_valued [] fair = tt
all_valued (z ∷ zs) fair = (fair.0, all_valued zs fair.1)

pub none_there : {X : Type 0} (o : Option X) → is_some o ≡ false → o ≡ None
none_there None e = refl
none_there (Some x) e = cc

-- 3. A list behind others
name_kept : (s : Listing) (name : List ℕ) → new_list s name ≡ None → (listed_as s.problem.tuples name ≡ None) × (s.lacks ≡ false)
name_kept s name kept =
    let parts = if_none (is_some (listed_as s.problem.tuples name)) kinds.Name (when s.lacks kinds.Shape) kept in
    (none_there (listed_as s.problem.tuples name) parts.0, when_kept s.lacks kinds.Shape parts.1)

-- what stands behind a list says that it lacks nothing
lacks_none : (s : Listing) (ls : List TupleList) → breaks_lists s ls ≡ [] → s.lacks ≡ false
lacks_none s [] kept = when_kept s.lacks kinds.Shape (on_kept (end_of_lists s) kept)
lacks_none s (l ∷ ls) kept =
    let list = (part_kept (length (spell_list l)) (breaks_list s l) (breaks_lists (after_list s l) ls) kept).0 in
    (name_kept s l.name.bytes (token_kept (new_list s l.name.bytes) 1 _ list).0).1

list_added : (s : Listing) → IsLawful s.problem → (l : TupleList) → breaks_list s l ≡ [] → (after_list s l).lacks ≡ false → AreFair (spell_list l) → IsLawful (after_list s l).problem
list_added s lawful l kept whole fair =
    let p : Problem = s.problem in
    let wanted : ℤ = l.count *ℤ l.size in
    let first = token_kept (new_list s l.name.bytes) 1 _ kept in
    let second = token_kept (fair_count p l.count) 1 _ first.1 in
    let third = token_kept (fair_size p l.count l.size) 1 (breaks_numbers wanted [] l.numbers) second.1 in
    let few = numbers_few wanted [] l.numbers (none_wanted p l.count l.size second.0 third.0) third.1 in
    IsLawful-tuples p (record { name = l.name.bytes; arity = nat_abs l.size; cells = l.numbers }) lawful
    (is_lawful p l.name.bytes l.count l.size l.numbers (is_a_name l.name.bytes fair.0 l.name.lawful) fair.1.1.0 second.0 third.0 whole few (all_valued l.numbers fair.1.1.1))
    (name_kept s l.name.bytes first.0).0
    (room_for p l.count l.size third.0 l.numbers few)

-- 4. So is the problem behind all of them
pub lists_lawful : (s : Listing) → IsLawful s.problem → (ls : List TupleList) (h : Head) → breaks_lists s ls ≡ [] → AreFair (spell_lists ls h) → IsLawful (value_lists s ls)
lists_lawful s lawful [] h kept fair = lawful
lists_lawful s lawful (l ∷ ls) h kept fair =
    let parts = part_kept (length (spell_list l)) (breaks_list s l) (breaks_lists (after_list s l) ls) kept in
    lists_lawful (after_list s l)
    (list_added s lawful l parts.0 (lacks_none (after_list s l) ls parts.1) (all_front IsFairToken (spell_list l) (spell_lists ls h) fair))
    ls h parts.1 (all_back IsFairToken (spell_list l) (spell_lists ls h) fair)
