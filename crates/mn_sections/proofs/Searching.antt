-- The section on search of an instance, as it is read.
use Rattle.std.proofs.Common.{◌≡◌, ◌≤◌, Bool, true, false, List, [], ◌∷◌, ◌++◌, length, map, replicate, Option, Some, None, is_some, if◌then◌else◌, refl, sym, ap, ◌∙◌, subst, append_assoc, append-nil}
use Rattle.std.specs.List.{AllByRecursion, list_any}
use Rattle.std.proofs.lemmas.Bool.{or_parts}
use Rattle.mn_model.specs.Lawful.{IsKnown, IsLawfulGoal, IsLawfulPrint}
use Rattle.mn_model.specs.Problem.{Problem, domains_of, nothing}
use Rattle.mn_model.specs.declared.search.Goal.{Goal}
use Rattle.mn_model.specs.declared.search.Order.{Order}
use Rattle.mn_model.specs.declared.search.Print.{Print}
use Rattle.mn_model.specs.declared.search.Print.TheVariants.{All, Nothing, Rows}
use Rattle.mn_model.specs.declared.limits.TheConstants.{PLACES}
use Rattle.mn_model.specs.declared.variable.VarId.{VarId}
use Rattle.mn_cursor.specs.Progress.{nothing_asked}
use Rattle.mn_references.specs.References.{Found, breaks_ref, one_place}
use Rattle.mn_asking.specs.Search.{Asking, Item, var_order, val_order, objective, print, goal_word, at_word, spell_static, spell_item, breaks_printing, breaks_behind, breaks_item, with_order, with_values, with_goal, with_print, value_printing, value_item, breaks_section, value_section}
use Rattle.mn_sections.specs.Trees.{ref_of, maybe_items, order_items, goal_items, printing_of, search_of}
use Rattle.mn_sections.proofs.Orders.{order_breaks, order_means, rows_break, rows_mean, ways_break, ways_mean}
use Rattle.mn_sections.proofs.References.{HasVariables, ref_breaks, ref_value}
use Rattle.mn_sections.proofs.Kept.{behind_nothing, part_nothing, token_nothing}

-- 1. Items that break nothing, behind what is said before them, and what is said behind them
record Leads (s : Asking) (items : List Item) (t : Asking) : Type 0 where
  kept : (others : List Item) → breaks_section t others ≡ [] → breaks_section s (items ++ others) ≡ []
  means : (others : List Item) → value_section s (items ++ others) ≡ value_section t others

no_items : (s : Asking) → Leads s [] s
no_items s = record { kept = λ others e. e; means = λ others. refl }

one_item : (s t : Asking) (i : Item) → breaks_item s i ≡ [] → value_item s i ≡ t → Leads s (i ∷ []) t
one_item s t i unbroken next = record {
  kept = λ others e. part_nothing (length (spell_item i)) (breaks_item s i) (breaks_section (value_item s i) others) unbroken (ap (λ u. breaks_section u others) next ∙ e);
  means = λ others. ap (λ u. value_section u others) next;
}

both_leads : (s t u : Asking) (is js : List Item) → Leads s is t → Leads t js u → Leads s (is ++ js) u
both_leads s t u is js one two = record {
  kept = λ others e. ap (breaks_section s) (append_assoc is js others) ∙ one.kept (js ++ others) (two.kept others e);
  means = λ others. ap (value_section s) (append_assoc is js others) ∙ one.means (js ++ others) ∙ two.means others;
}

-- what is said so far, where nothing is to be printed yet
abbrev asking : Problem → Bool → Bool → Bool → Asking
asking q order values goal = record { problem = q; asked = record { order = order; values = values; goal = goal; print = false }; behind = None }

abbrev some_vars : List VarId → Bool
some_vars [] = false
some_vars (v ∷ vars) = true

abbrev in_order : Problem → List VarId → List Bool → Problem
in_order q vars down = record q { order = record { vars = vars; down = down } }

-- 2. VARORDER and VALORDER
module _ (p q : Problem) (has : HasVariables p q) where
  order_leads : (vars : List VarId) → AllByRecursion (IsKnown (domains_of p.decls)) vars → length vars ≤ PLACES → q.order ≡ nothing.order →
      Leads (asking q false false false) (order_items p vars) (asking (in_order q vars (replicate (length vars) false)) (some_vars vars) false false)
  order_leads [] known few none = subst (λ (o : Order). Leads (asking q false false false) [] (asking (record q { order = o }) false false false)) none (no_items (asking q false false false))
  order_leads (v ∷ vars) known few none =
      let l = maybe_items (map (ref_of p) (v ∷ vars)) in
      one_item (asking q false false false) _ (var_order false l)
      (token_nothing None 1 (breaks_behind q (var_order false l)) refl (behind_nothing (length (spell_static false)) _ (order_breaks p q has (v ∷ vars) known few)))
      (ap (with_order (asking q false false false)) (order_means p q has (v ∷ vars) known few))

all_false : (down : List Bool) → list_any (λ d. d) down ≡ false → down ≡ replicate (length down) false
all_false [] e = refl
all_false (d ∷ down) e = let parts = or_parts d (list_any (λ d. d) down) e in λ i. parts.0 i ∷ all_false down parts.1 i

module _ (q : Problem) where
  values_leads : (vars : List VarId) (down : List Bool) → length down ≡ length vars → (b : Bool) → list_any (λ d. d) down ≡ b →
      Leads (asking (in_order q vars (replicate (length vars) false)) (some_vars vars) false false) (if b then val_order (maybe_items down) ∷ [] else []) (asking (in_order q vars down) (some_vars vars) b false)
  values_leads vars down all false none =
      let same : replicate (length vars) false ≡ down = ap (λ n. replicate n false) (sym all) ∙ sym (all_false down none) in
      subst (λ ds. Leads (asking (in_order q vars (replicate (length vars) false)) (some_vars vars) false false) [] (asking (in_order q vars ds) (some_vars vars) false false)) same (no_items _)
  values_leads [] [] all true some = absurd cc
  values_leads [] (d ∷ down) all true some = absurd cc
  values_leads (v ∷ vars) down all true some =
      let s = asking (in_order q (v ∷ vars) (replicate (length (v ∷ vars)) false)) true false false in
      one_item s _ (val_order (maybe_items down))
      (token_nothing None 1 (breaks_behind s.problem (val_order (maybe_items down))) refl (behind_nothing 1 _ (ways_break (length (v ∷ vars)) down all)))
      (ap (with_values s) (ways_mean (length (v ∷ vars)) down all))

-- 3. The objective, and what is printed
module _ (p q : Problem) (has : HasVariables p q) (order values : Bool) where
  objective_leads : (g : Goal) → IsKnown (domains_of p.decls) g.var → Leads (asking q order values false) (objective g.maximise (ref_of p g.var) ∷ []) (asking (record q { goal = Some g }) order values true)
  objective_leads g known =
      let s = asking q order values false in
      one_item s _ (objective g.maximise (ref_of p g.var))
      (token_nothing (at_word s (goal_word g.maximise)) 1 (breaks_ref q (one_place q false) (ref_of p g.var)) (at_goal g.maximise) (ref_breaks p q has g.var known (one_place q false) refl))
      (ap (λ (f : Found). with_goal s g.maximise f) (ref_value p q has g.var known (one_place q false)))
    where
      at_goal : (b : Bool) → at_word (asking q order values false) (goal_word b) ≡ None
      at_goal true = refl
      at_goal false = refl

  goal_leads : (g : Option Goal) → IsLawfulGoal (domains_of p.decls) g → q.goal ≡ None → Leads (asking q order values false) (goal_items p g) (asking (record q { goal = g }) order values (is_some g))
  goal_leads None lawful none = subst (λ (g : Option Goal). Leads (asking q order values false) [] (asking (record q { goal = g }) order values false)) none (no_items (asking q order values false))
  goal_leads (Some g) lawful none = objective_leads g lawful

  printing_nothing : (w : Print) → IsLawfulPrint (domains_of p.decls) w → breaks_printing q (printing_of p w) ≡ []
  printing_nothing All lawful = refl
  printing_nothing Nothing lawful = refl
  printing_nothing (Rows rows) lawful = behind_nothing 1 _ (rows_break p q has rows lawful)

  printing_means : (w : Print) → IsLawfulPrint (domains_of p.decls) w → value_printing q (printing_of p w) ≡ w
  printing_means All lawful = refl
  printing_means Nothing lawful = refl
  printing_means (Rows rows) lawful = ap (λ rs. Rows rs) (rows_mean p q has rows lawful)

  print_leads : (w : Print) (goal : Bool) → IsLawfulPrint (domains_of p.decls) w → Leads (asking q order values goal) (print (printing_of p w) ∷ []) (with_print (asking q order values goal) w)
  print_leads w goal lawful =
      let s = asking q order values goal in
      one_item s _ (print (printing_of p w))
      (token_nothing None 1 (breaks_printing q (printing_of p w)) refl (printing_nothing w lawful))
      (ap (with_print s) (printing_means w lawful))

-- 4. The section
module _ (p q : Problem) (has : HasVariables p q) (no_order : q.order ≡ nothing.order) (no_goal : q.goal ≡ None) where
  abbrev ordered : Problem
  ordered = record q { order = p.order }

  abbrev aimed : Problem
  aimed = record ordered { goal = p.goal }

  abbrev ended : Asking
  ended = with_print (asking aimed (some_vars p.order.vars) (list_any (λ d. d) p.order.down) (is_some p.goal)) p.print

  section_leads : Leads (asking q false false false) (search_of p) ended
  section_leads =
      let vars = p.order.vars in
      let down = p.order.down in
      let b = list_any (λ d. d) down in
      let lawful = has.lawful in
      let has_ordered : HasVariables p ordered = record { lawful = lawful; same = has.same } in
      let has_aimed : HasVariables p aimed = record { lawful = lawful; same = has.same } in
      let one = order_leads p q has vars lawful.order.known lawful.order.few no_order in
      let two = values_leads q vars down lawful.order.directed b refl in
      let three = goal_leads p ordered has_ordered (some_vars vars) b p.goal lawful.goal no_goal in
      let four = print_leads p aimed has_aimed (some_vars vars) b p.print (is_some p.goal) lawful.print in
      both_leads _ _ _ _ _ (both_leads _ _ _ _ _ (both_leads _ _ _ _ _ one two) three) four

  abbrev at_start : Asking
  at_start = record { problem = q; asked = nothing_asked; behind = None }

  section_said : (breaks_section at_start (search_of p) ≡ []) × ((value_section at_start (search_of p)).problem ≡ record q { order = p.order; goal = p.goal; print = p.print })
  section_said =
      let leads = section_leads in
      let whole = append-nil (search_of p) in (
        ap (breaks_section at_start) (sym whole) ∙ leads.kept [] refl,
        ap (λ (s : Asking). s.problem) (ap (value_section at_start) (sym whole) ∙ leads.means []),
      )

pub search_said : (p q : Problem) → HasVariables p q → q.order ≡ nothing.order → q.goal ≡ None → q.print ≡ All
    → (breaks_section (record { problem = q; asked = nothing_asked; behind = None }) (search_of p) ≡ [])
    × ((value_section (record { problem = q; asked = nothing_asked; behind = None }) (search_of p)).problem ≡ record q { order = p.order; goal = p.goal; print = p.print })
search_said p q has no_order no_goal all = section_said p q has no_order no_goal
