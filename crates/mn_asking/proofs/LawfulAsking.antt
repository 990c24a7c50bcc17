-- What the section on search says is lawful in the model.
use Rattle.std.proofs.Common.{◌≡◌, ℕ, zero, suc, ◌+◌, ◌≤◌, leb, ltb, Bool, true, false, not, ◌&&◌, ◌||◌, List, [], ◌∷◌, ◌++◌, length, replicate, take, drop, Option, Some, None, Ok, Err, refl, ◌∙◌, subst, arith, length-append}
use Rattle.std.specs.List.{AllByRecursion, range_with_len}
use Rattle.std.proofs.lemmas.Bool.{or_parts, not-false}
use Rattle.std.proofs.lemmas.List.FromFn.{length-range_with_len}
use Rattle.std.proofs.lemmas.List.{length-map, length-replicate}
use Rattle.mn_lexer.specs.Terminals.{Terminal, mark}
use Rattle.mn_lexer.specs.declared.marks.Mark.TheVariants.{CloseSquare, Comma, OpenSquare}
use Rattle.mn_model.specs.Lawful.{IsLawful, IsKnown, IsLawfulOrder, IsLawfulPrint, IsLawfulRow}
use Rattle.mn_model.specs.Problem.{Problem, domains_of, size_of_dims}
use Rattle.mn_model.specs.declared.constraint.Term.{Term}
use Rattle.mn_model.specs.declared.limits.TheConstants.{PLACES}
use Rattle.mn_model.specs.declared.search.Print.{Print}
use Rattle.mn_model.specs.declared.variable.VarId.{VarId}
use Rattle.mn_model.proofs.Kept.{IsLawful-search}
use Rattle.mn_model.proofs.Sizes.{size_of_dims-positive}
use Rattle.mn_model.proofs.Lists.{all_drop, all_take, all_append, all_back, all_front, all_so}
use Rattle.mn_grammar.specs.Places.{when, on, behind}
use Rattle.mn_grammar.specs.Reading.{Answer, Reader, go_on, mark_at, one_of}
use Rattle.mn_grammar.specs.Lawful.{Said}
use Rattle.mn_grammar.specs.Lists.{Items, final, also, spell_items, breaks_items, breaks_maybe, value_items, value_maybe, spell_maybe}
use Rattle.mn_grammar.specs.declared.Kind.TheVariants.{Shape}
use Rattle.mn_grammar.specs.declared.site.Site.TheVariants.{Fixed, MarksOnly}
use Rattle.mn_grammar.proofs.Steps.{on_kept}
use Rattle.mn_cursor.specs.declared.heads.Head.{Head}
use Rattle.mn_references.specs.Conditions.{lesser, as_kind}
use Rattle.mn_references.specs.References.{Ref, Sub, Aim, Lead, Found, Within, spell_ref, breaks_ref, value_ref, value_subs, lead, at_start, entered, sub_judge, found_at, are_bits, one_place}
use Rattle.mn_references.specs.Entries.{Row, plain, bracketed, any_number, in_list, parted, rows_of, runs, run, spell_row, breaks_row, value_row, value_entry, breaks_list, Rows}
use Rattle.mn_references.specs.Referring.{ref_at}
use Rattle.mn_references.specs.declared.want.Unfit.TheVariants.{Form, Length}
use Rattle.mn_references.proofs.Unbroken.{token_kept, part_kept, behind_kept, when_kept, as_kind_kept, unfit_kept, lesser_kept, not_less, not_at_most}
use Rattle.mn_references.proofs.LawfulReferences.{IsGood, ref_good}
use Rattle.mn_references.proofs.LawfulVectors.{IsFairToken, AreFair, IsTerm, known_in, entry_comes, front_more, no_front, list_vector}
use Rattle.mn_references.proofs.Referable.{ref_spec, ref_law}
use Rattle.mn_references.proofs.Rowing.{IsShaped, shaped_lead}
use Rattle.mn_asking.specs.Search.{order_aim, order_judge, at_full, all_vars, values_judge, at_way, all_ways, no_ways, rows_judge, all_rows, Printing, print_all, print_none, print_rows, spell_printing, breaks_printing, value_printing, first_of, Asking, Item, var_order, val_order, objective, print, says_order, says_values, prints, at_word, goal_word, spell_static, spell_item, breaks_behind, breaks_item, value_item, spell_section, breaks_section, value_section}
use Rattle.mn_asking.specs.Searching.{static_token, both, no_break, order_at, behind_static, var_order_at, ways_at, val_order_at, print_at}
use Rattle.mn_asking.proofs.Askable.{order_spec, order_law, ways_spec, ways_law, print_spec, print_law}

-- what is read behind a part was read somewhere
read_on : {V W : Type 0} (a : Answer V) (b : V → Reader W) (w : W) (vs : List Terminal) → go_on a b ≡ Ok (w, vs) → (v : V) × (us : List Terminal) × (b v us ≡ Ok (w, vs))
read_on (Ok (v, us)) b w vs is = (v, us, is)
read_on (Err f) b w vs is = cc

module _ (p : Problem) where
  abbrev Known : VarId → Type 0
  Known v = IsKnown (domains_of p.decls) v

  -- 1. VARORDER: its variables are known, and no more than the limit allows
  pub record AreOrdered (vars : List VarId) : Type 0 where
    pub known : AllByRecursion Known vars
    pub few : length vars ≤ PLACES

  more_ordered : IsLawful p → (before : List VarId) (r : Ref) → AllByRecursion Known before → breaks_ref p (order_aim before) r ≡ [] → (value_ref p (order_aim before) r).behind ≡ None → AreOrdered (before ++ (value_ref p (order_aim before) r).vars)
  more_ordered lawful before r all kept ends =
      let vars = (value_ref p (order_aim before) r).vars in
      let good = ref_good p lawful (order_aim before) r kept in
      let short = not_less PLACES (length before + length vars) (unfit_kept (ltb PLACES (length before + length vars)) Length (good.ends ∙ ends)) in
      let size = length-append before vars in
      record {
        known = all_append Known before vars all (all_so _ Known (known_in p) vars good.known);
        few = omega (arith, short, size);
      }

  items_ordered : IsLawful p → (l : Items Ref) (before : List VarId) → AllByRecursion Known before → breaks_items (order_judge p) l before ≡ [] → AreOrdered (value_items (order_judge p) all_vars l before)
  items_ordered lawful (final r) before all kept =
      let f : Found = value_ref p (order_aim before) r in
      let parts = part_kept (length (spell_ref r)) (breaks_ref p (order_aim before) r) (on (as_kind f.behind)) kept in
      more_ordered lawful before r all parts.0 (as_kind_kept f.behind (on_kept (as_kind f.behind) parts.1))
  items_ordered lawful (also r l) before all kept =
      let f : Found = value_ref p (order_aim before) r in
      let comma = lesser (as_kind f.behind) (at_full (before ++ f.vars)) in
      let more = breaks_items (order_judge p) l (before ++ f.vars) in
      let parts = part_kept (length (spell_ref r)) (breaks_ref p (order_aim before) r) (on comma ++ behind 1 more) kept in
      let later = token_kept comma 1 more parts.1 in
      let ends = lesser_kept (as_kind f.behind) (at_full (before ++ f.vars)) later.0 in
      items_ordered lawful l (before ++ f.vars) (more_ordered lawful before r all parts.0 (as_kind_kept f.behind ends.0)).known later.1

  maybe_ordered : IsLawful p → (l : Option (Items Ref)) → breaks_maybe (order_judge p) None l [] ≡ [] → AreOrdered (value_maybe (order_judge p) [] all_vars l [])
  maybe_ordered lawful None kept = record { known = tt; few = omega arith }
  maybe_ordered lawful (Some l) kept = items_ordered lawful l [] tt kept

  list_ordered : IsLawful p → (ts us : List Terminal) (vars : List VarId) → order_at p ts ≡ Ok (vars, us) → AreOrdered vars
  list_ordered lawful ts us vars is =
      let read = subst (Said (order_spec p) (order_at p) ts) is ((order_law p).said ts) in
      subst AreOrdered read.means (maybe_ordered lawful read.tree read.kept)

  static_ordered : IsLawful p → (b : Bool) (ts us : List Terminal) (vars : List VarId) → behind_static p b ts ≡ Ok (vars, us) → AreOrdered vars
  unfolding behind_static
  static_ordered lawful true ts us vars is = let on = read_on (mark_at MarksOnly OpenSquare None ts) (λ u. order_at p) vars us is in list_ordered lawful on.1 us vars on.2
  static_ordered lawful false ts us vars is = list_ordered lawful ts us vars is

  pub order_lawful : IsLawful p → (ts us : List Terminal) (vars : List VarId) (down : List Bool) → length down ≡ length vars → var_order_at p ts ≡ Ok (vars, us) → IsLawfulOrder (domains_of p.decls) (record { vars = vars; down = down })
  unfolding var_order_at
  order_lawful lawful ts us vars down directed is =
      let on = read_on (one_of Fixed static_token both no_break ts) (behind_static p) vars us is in
      let are = static_ordered lawful on.0 on.1 us vars on.2 in
      record { known = are.known; few = are.few; directed = directed }

  -- 2. VALORDER: a direction for each variable
  module _ (wanted : ℕ) where
    items_directed : (l : Items Bool) (before : List Bool) → breaks_items (values_judge wanted) l before ≡ [] → length (value_items (values_judge wanted) all_ways l before) ≡ wanted
    items_directed (final d) before kept =
        let parts = part_kept 1 (on (at_way wanted before d)) (on (when (ltb (length before + 1) wanted) Shape)) kept in
        let room = not_at_most wanted (length before) (when_kept (leb wanted (length before)) Shape (on_kept (at_way wanted before d) parts.0)) in
        let full = not_less (length before + 1) wanted (when_kept (ltb (length before + 1) wanted) Shape (on_kept (when (ltb (length before + 1) wanted) Shape) parts.1)) in
        let size = length-append before (d ∷ []) in
        omega (arith, room, full, size)
    items_directed (also d l) before kept =
        let comma = when (leb wanted (length before + 1)) Shape in
        let more = breaks_items (values_judge wanted) l (before ++ d ∷ []) in
        let parts = part_kept 1 (on (at_way wanted before d)) (on comma ++ behind 1 more) kept in
        let later = token_kept comma 1 more parts.1 in
        items_directed l (before ++ d ∷ []) later.1

    maybe_directed : (l : Option (Items Bool)) → breaks_maybe (values_judge wanted) (no_ways wanted) l [] ≡ [] → length (value_maybe (values_judge wanted) [] all_ways l []) ≡ wanted
    maybe_directed None kept = let none = not_less 0 wanted (when_kept (ltb 0 wanted) Shape (on_kept (no_ways wanted) kept)) in omega (arith, none)
    maybe_directed (Some l) kept = items_directed l [] kept

    list_directed : (ts us : List Terminal) (down : List Bool) → ways_at wanted ts ≡ Ok (down, us) → length down ≡ wanted
    list_directed ts us down is =
        let read = subst (Said (ways_spec wanted) (ways_at wanted) ts) is ((ways_law wanted).said ts) in
        subst (λ (l : List Bool). length l ≡ wanted) read.means (maybe_directed read.tree read.kept)

    pub are_directed : (ts us : List Terminal) (down : List Bool) → val_order_at wanted ts ≡ Ok (down, us) → length down ≡ wanted
    unfolding val_order_at
    are_directed ts us down is = let on = read_on (mark_at MarksOnly OpenSquare None ts) (λ u. ways_at wanted) down us is in list_directed on.1 us down on.2

  -- 3. An objective: its reference names one variable at least
  abbrev goal_aim : Aim
  goal_aim = one_place p false

  subs_closed : (l : Lead) (subs : Items Sub) (w : Within) → (value_items (sub_judge goal_aim l) (found_at l) subs w).behind ≡ None
  subs_closed l (final sub) w = refl
  subs_closed l (also sub subs) w = subs_closed l subs (entered w sub)

  full_of : (full : Bool) (vars : List VarId) → goal_aim.ends full vars ≡ None → full ≡ true
  full_of full vars ends = not-false full (or_parts (not full) (false && not (are_bits p vars)) (unfit_kept (not full || (false && not (are_bits p vars))) Form ends)).0

  some_vars : (l : Lead) → IsShaped l.dims → (o : Option (Items Sub)) → IsGood p goal_aim (value_subs goal_aim l o) → 1 ≤ length (value_subs goal_aim l o).vars
  some_vars l shaped None good =
      let size = length-map (range_with_len 0 (size_of_dims l.dims)) l.at ∙ length-range_with_len 0 (size_of_dims l.dims) in
      let some = size_of_dims-positive l.dims shaped in
      omega (arith, size, some)
  some_vars l shaped (Some subs) good =
      let one = good.one (full_of good.full (value_subs goal_aim l (Some subs)).vars (good.ends ∙ subs_closed l subs (at_start l.dims))) in
      omega (arith, one)

  first_known : (vars : List VarId) → AllByRecursion Known vars → 1 ≤ length vars → Known (first_of vars)
  first_known [] all some = absurd (omega arith)
  first_known (v ∷ vars) all some = all.0

  pub record IsGoal (f : Found) : Type 0 where
    pub known : Known (first_of f.vars)
    pub some : 1 ≤ length f.vars

  goal_kept : IsLawful p → (r : Ref) → breaks_ref p goal_aim r ≡ [] → IsGoal (value_ref p goal_aim r)
  goal_kept lawful r kept =
      let good = ref_good p lawful goal_aim r kept in
      let some = some_vars (lead p r.name.bytes) (shaped_lead p lawful r.name.bytes) r.subs good in
      record { known = first_known (value_ref p goal_aim r).vars (all_so _ Known (known_in p) (value_ref p goal_aim r).vars good.known) some; some = some }

  pub goal_lawful : IsLawful p → (ts us : List Terminal) (f : Found) → ref_at p goal_aim ts ≡ Ok (f, us) → IsGoal f
  goal_lawful lawful ts us f is =
      let read = subst (Said (ref_spec p goal_aim) (ref_at p goal_aim) ts) is ((ref_law p goal_aim).said ts) in
      subst IsGoal read.means (goal_kept lawful read.tree read.kept)

  -- 4. PRINT: lawful terms, and no row longer than a vector
  abbrev IsRow : List Term → Type 0
  IsRow row = IsLawfulRow (domains_of p.decls) row

  take_short : (m : ℕ) (terms : List Term) → length (take m terms) ≤ length terms
  take_short zero terms = omega arith
  take_short (suc m) [] = omega arith
  take_short (suc m) (x ∷ terms) = let short = take_short m terms in omega (arith, short)

  drop_short : (m : ℕ) (terms : List Term) → length (drop m terms) ≤ length terms
  drop_short zero terms = omega arith
  drop_short (suc m) [] = omega arith
  drop_short (suc m) (x ∷ terms) = let short = drop_short m terms in omega (arith, short)

  parted_rows : (n m : ℕ) (terms : List Term) → AllByRecursion (IsTerm p) terms → length terms ≤ PLACES → AllByRecursion IsRow (parted n m terms)
  parted_rows zero m terms all short = tt
  parted_rows (suc n) m terms all short =
      let front = take_short m terms in
      let back = drop_short m terms in
      (record { named = all_take (IsTerm p) m terms all; short = omega (arith, front, short) }, parted_rows n m (drop m terms) (all_drop (IsTerm p) m terms all) (omega (arith, back, short)))

  matrix_rows : (dims : List ℕ) (terms : List Term) → AllByRecursion (IsTerm p) terms → length terms ≤ PLACES → AllByRecursion IsRow (rows_of dims terms)
  matrix_rows [] terms all short = (record { named = all; short = short }, tt)
  matrix_rows (dim ∷ dims) terms all short = parted_rows (runs (dim ∷ dims)) (run (dim ∷ dims)) terms all short

  row_lawful : IsLawful p → (r : Row) → breaks_row p r ≡ [] → (value_row p r).behind ≡ None → AreFair (spell_row r) → AllByRecursion IsRow (value_row p r).rows
  row_lawful lawful (plain e) kept ends fair =
      let v = value_entry p (in_list p any_number []) e in
      let front = front_more p any_number [] v.terms (no_front p any_number) (omega arith) (entry_comes p lawful (in_list p any_number []) e kept ends fair) in
      matrix_rows v.dims v.terms front.lawful front.short
  row_lawful lawful (bracketed l) kept ends fair =
      let vector = list_vector p lawful any_number l (behind_kept 1 (breaks_list p any_number l) kept) fair.1 in
      (record { named = vector.lawful; short = vector.short }, tt)

  items_printed : IsLawful p → (l : Items Row) (before : List (List Term)) → AllByRecursion IsRow before → breaks_items (rows_judge p) l before ≡ [] → AreFair (spell_items CloseSquare spell_row l) → AllByRecursion IsRow (value_items (rows_judge p) all_rows l before)
  items_printed lawful (final r) before all kept fair =
      let v : Rows = value_row p r in
      let parts = part_kept (length (spell_row r)) (breaks_row p r) (on (as_kind v.behind)) kept in
      let ends = as_kind_kept v.behind (on_kept (as_kind v.behind) parts.1) in
      all_append IsRow before v.rows all (row_lawful lawful r parts.0 ends (all_front IsFairToken (spell_row r) (mark CloseSquare ∷ []) fair))
  items_printed lawful (also r l) before all kept fair =
      let v : Rows = value_row p r in
      let more = breaks_items (rows_judge p) l (before ++ v.rows) in
      let parts = part_kept (length (spell_row r)) (breaks_row p r) (on (as_kind v.behind) ++ behind 1 more) kept in
      let later = token_kept (as_kind v.behind) 1 more parts.1 in
      let ends = as_kind_kept v.behind later.0 in
      let rest = all_back IsFairToken (spell_row r) (mark Comma ∷ spell_items CloseSquare spell_row l) fair in
      items_printed lawful l (before ++ v.rows)
      (all_append IsRow before v.rows all (row_lawful lawful r parts.0 ends (all_front IsFairToken (spell_row r) (mark Comma ∷ spell_items CloseSquare spell_row l) fair)))
      later.1 rest.1

  maybe_printed : IsLawful p → (l : Option (Items Row)) → breaks_maybe (rows_judge p) None l [] ≡ [] → AreFair (spell_maybe CloseSquare spell_row l) → AllByRecursion IsRow (value_maybe (rows_judge p) [] all_rows l [])
  maybe_printed lawful None kept fair = tt
  maybe_printed lawful (Some l) kept fair = items_printed lawful l [] tt kept fair

  printed_lawful : IsLawful p → (x : Printing) → breaks_printing p x ≡ [] → AreFair (spell_printing x) → IsLawfulPrint (domains_of p.decls) (value_printing p x)
  printed_lawful lawful print_all kept fair = tt
  printed_lawful lawful print_none kept fair = tt
  printed_lawful lawful (print_rows l) kept fair = maybe_printed lawful l (behind_kept 1 (breaks_maybe (rows_judge p) None l []) kept) fair.1

  pub print_lawful : IsLawful p → (ts us : List Terminal) (what : Print) → AreFair ts → print_at p ts ≡ Ok (what, us) → IsLawfulPrint (domains_of p.decls) what
  print_lawful lawful ts us what fair is =
      let read = subst (Said (print_spec p) (print_at p) ts) is ((print_law p).said ts) in
      let tree_fair = all_front IsFairToken (spell_printing read.tree) us (subst AreFair read.parts fair) in
      subst (IsLawfulPrint (domains_of p.decls)) read.means (printed_lawful lawful read.tree read.kept tree_fair)

-- 5. So is a problem with one more item
item_added : (s : Asking) → IsLawful s.problem → (i : Item) → breaks_item s i ≡ [] → AreFair (spell_item i) → IsLawful (value_item s i).problem
item_added s lawful (var_order static refs) kept fair =
    let p : Problem = s.problem in
    let vars : List VarId = value_maybe (order_judge p) [] all_vars refs [] in
    let parts = token_kept (at_word s says_order) 1 (breaks_behind p (var_order static refs)) kept in
    let are = maybe_ordered p lawful refs (behind_kept (length (spell_static static)) (breaks_maybe (order_judge p) None refs []) parts.1) in
    IsLawful-search p (record { vars = vars; down = replicate (length vars) false }) p.goal p.print lawful
    (record { known = are.known; few = are.few; directed = length-replicate (length vars) false }) lawful.goal lawful.print
item_added s lawful (val_order ways) kept fair =
    let p : Problem = s.problem in
    let wanted : ℕ = length p.order.vars in
    let parts = token_kept (at_word s says_values) 1 (breaks_behind p (val_order ways)) kept in
    let directed = maybe_directed p wanted ways (behind_kept 1 (breaks_maybe (values_judge wanted) (no_ways wanted) ways []) parts.1) in
    IsLawful-search p (record (p.order) { down = value_maybe (values_judge wanted) [] all_ways ways [] }) p.goal p.print lawful
    (record { known = lawful.order.known; few = lawful.order.few; directed = directed }) lawful.goal lawful.print
item_added s lawful (objective maximise r) kept fair =
    let p : Problem = s.problem in
    let parts = token_kept (at_word s (goal_word maximise)) 1 (breaks_ref p (one_place p false) r) kept in
    IsLawful-search p p.order (Some (record { var = first_of (value_ref p (one_place p false) r).vars; maximise = maximise })) p.print lawful
    lawful.order (goal_kept p lawful r parts.1).known lawful.print
item_added s lawful (print x) kept fair =
    let p : Problem = s.problem in
    let parts = token_kept (at_word s prints) 1 (breaks_printing p x) kept in
    IsLawful-search p p.order p.goal (value_printing p x) lawful lawful.order lawful.goal (printed_lawful p lawful x parts.1 fair.1)

-- and with all of them
pub items_lawful : (s : Asking) → IsLawful s.problem → (items : List Item) (h : Head) → breaks_section s items ≡ [] → AreFair (spell_section items h) → IsLawful (value_section s items).problem
items_lawful s lawful [] h kept fair = lawful
items_lawful s lawful (i ∷ items) h kept fair =
    let parts = part_kept (length (spell_item i)) (breaks_item s i) (breaks_section (value_item s i) items) kept in
    items_lawful (value_item s i) (item_added s lawful i parts.0 (all_front IsFairToken (spell_item i) (spell_section items h) fair)) items h parts.1
    (all_back IsFairToken (spell_item i) (spell_section items h) fair)
