-- What an instance says of the search, entry by entry: the variables of VARORDER, their directions, and the rows of PRINT.
use Rattle.std.proofs.Common.{◌≡◌, ℕ, ◌+◌, ◌≤◌, ltb, leb, Bool, true, false, List, [], ◌∷◌, ◌++◌, length, map, None, refl, sym, ap, ◌∙◌, arith}
use Rattle.std.specs.List.{AllByRecursion}
use Rattle.std.proofs.lemmas.List.{map-id, length_push}
use Rattle.mn_model.specs.Lawful.{IsKnown, IsLawfulRow}
use Rattle.mn_model.specs.Problem.{Problem, domains_of}
use Rattle.mn_model.specs.declared.constraint.Term.{Term}
use Rattle.mn_model.specs.declared.limits.TheConstants.{PLACES}
use Rattle.mn_model.specs.declared.variable.VarId.{VarId}
use Rattle.mn_grammar.specs.Places.{when}
use Rattle.mn_grammar.specs.Lists.{breaks_maybe, value_maybe}
use Rattle.mn_grammar.specs.declared.Kind.TheVariants as kinds
use Rattle.mn_grammar.specs.declared.Limit.TheVariants as limits
use Rattle.mn_references.specs.Conditions.{lesser, as_kind, unfit}
use Rattle.mn_references.specs.declared.want.Unfit.{Unfit}
use Rattle.mn_references.specs.declared.want.Unfit.TheVariants.{Length}
use Rattle.mn_references.specs.Entries.{Rows, value_row, one_row}
use Rattle.mn_references.specs.References.{Found, value_ref}
use Rattle.mn_asking.specs.Search.{order_aim, at_full, order_judge, all_vars, values_judge, at_way, all_ways, no_ways, rows_judge, all_rows}
use Rattle.mn_sections.specs.Trees.{ref_of, row_of, maybe_items}
use Rattle.mn_sections.proofs.Entries.{row_breaks, row_value}
use Rattle.mn_sections.proofs.Gathering.{mark_breaks, mark_none, AreGathered, maybe_breaks, maybe_means}
use Rattle.mn_sections.proofs.References.{HasVariables, ref_breaks, ref_value}
use Rattle.mn_sections.proofs.Kept.{on_none, when_not, ltb_not, leb_not, one_of_all, lengths}

pub unfit_not : (b : Bool) (u : Unfit) → b ≡ false → unfit b u ≡ None
unfit_not true u e = cc
unfit_not false u e = refl

-- 1. Variables in order
module _ (p q : Problem) (has : HasVariables p q) where
  order_gathered : (vars : List VarId) → AllByRecursion (IsKnown (domains_of p.decls)) vars → length vars ≤ PLACES → AreGathered (order_judge q) all_vars (ref_of p) vars
  order_gathered vars known few before v left e =
      let here = one_of_all (IsKnown (domains_of p.decls)) vars before v left e known in
      let value : value_ref q (order_aim before) (ref_of p v) ≡ record { vars = v ∷ []; dims = []; behind = None } = ref_value p q has v here (order_aim before) in
      let sizes = lengths vars before v left e in
      let more = length_push before v in
      record {
        breaks = ref_breaks p q has v here (order_aim before) (unfit_not (ltb PLACES (length before + 1)) Length (ltb_not PLACES (length before + 1) (omega (arith, sizes, few))));
        mark =
            ap (λ (f : Found). mark_breaks left (lesser (as_kind f.behind) (at_full (before ++ f.vars))) (as_kind f.behind)) value
            ∙ mark_none left (at_full (before ++ v ∷ [])) None
            (λ some. when_not (leb PLACES (length (before ++ v ∷ []))) (kinds.Limit limits.Vector) (leb_not PLACES (length (before ++ v ∷ [])) (omega (arith, sizes, more, few, some))))
            (λ done. refl);
        next = ap (λ (f : Found). before ++ f.vars) value;
        last = ap (λ (f : Found). before ++ f.vars) value;
      }

  pub order_breaks : (vars : List VarId) → AllByRecursion (IsKnown (domains_of p.decls)) vars → length vars ≤ PLACES → breaks_maybe (order_judge q) None (maybe_items (map (ref_of p) vars)) [] ≡ []
  order_breaks vars known few = maybe_breaks (order_judge q) all_vars (ref_of p) None vars (λ e. refl) (order_gathered vars known few)

  pub order_means : (vars : List VarId) → AllByRecursion (IsKnown (domains_of p.decls)) vars → length vars ≤ PLACES → value_maybe (order_judge q) [] all_vars (maybe_items (map (ref_of p) vars)) [] ≡ vars
  order_means vars known few = maybe_means (order_judge q) all_vars (ref_of p) vars (order_gathered vars known few)

  -- 2. Rows
  rows_gathered : (rows : List (List Term)) → AllByRecursion (IsLawfulRow (domains_of p.decls)) rows → AreGathered (rows_judge q) all_rows (row_of p) rows
  rows_gathered rows lawful before row left e =
      let here = one_of_all (IsLawfulRow (domains_of p.decls)) rows before row left e lawful in
      let value : value_row q (row_of p row) ≡ one_row row = row_value p q has row here in
      record {
        breaks = row_breaks p q has row here;
        mark =
            ap (λ (r : Rows). mark_breaks left (as_kind r.behind) (as_kind r.behind)) value
            ∙ mark_none left None None (λ some. refl) (λ done. refl);
        next = ap (λ (r : Rows). before ++ r.rows) value;
        last = ap (λ (r : Rows). before ++ r.rows) value;
      }

  pub rows_break : (rows : List (List Term)) → AllByRecursion (IsLawfulRow (domains_of p.decls)) rows → breaks_maybe (rows_judge q) None (maybe_items (map (row_of p) rows)) [] ≡ []
  rows_break rows lawful = maybe_breaks (rows_judge q) all_rows (row_of p) None rows (λ e. refl) (rows_gathered rows lawful)

  pub rows_mean : (rows : List (List Term)) → AllByRecursion (IsLawfulRow (domains_of p.decls)) rows → value_maybe (rows_judge q) [] all_rows (maybe_items (map (row_of p) rows)) [] ≡ rows
  rows_mean rows lawful = maybe_means (rows_judge q) all_rows (row_of p) rows (rows_gathered rows lawful)

-- 3. Directions, as many as are wanted
module _ (wanted : ℕ) (down : List Bool) (all : length down ≡ wanted) where
  ways_gathered : AreGathered (values_judge wanted) all_ways (λ d. d) down
  ways_gathered before d left e =
      let sizes = lengths down before d left e in
      record {
        breaks = on_none (at_way wanted before d) (when_not (leb wanted (length before)) kinds.Shape (leb_not wanted (length before) (omega (arith, sizes, all))));
        mark = mark_none left (when (leb wanted (length before + 1)) kinds.Shape) (when (ltb (length before + 1) wanted) kinds.Shape)
            (λ some. when_not (leb wanted (length before + 1)) kinds.Shape (leb_not wanted (length before + 1) (omega (arith, sizes, all, some))))
            (λ done. when_not (ltb (length before + 1) wanted) kinds.Shape (ltb_not (length before + 1) wanted (omega (arith, sizes, all, done))));
        next = refl;
        last = refl;
      }

  pub ways_break : breaks_maybe (values_judge wanted) (no_ways wanted) (maybe_items down) [] ≡ []
  ways_break =
      ap (λ l. breaks_maybe (values_judge wanted) (no_ways wanted) (maybe_items l) []) (sym (map-id down))
      ∙ maybe_breaks (values_judge wanted) all_ways (λ d. d) (no_ways wanted) down
      (λ e. when_not (ltb 0 wanted) kinds.Shape (ltb_not 0 wanted (let none = ap length e in omega (arith, all, none)))) ways_gathered

  pub ways_mean : value_maybe (values_judge wanted) [] all_ways (maybe_items down) [] ≡ down
  ways_mean =
      ap (λ l. value_maybe (values_judge wanted) [] all_ways (maybe_items l) []) (sym (map-id down))
      ∙ maybe_means (values_judge wanted) all_ways (λ d. d) down ways_gathered
