use Rattle.std.proofs.Common.{rules, ◌≡◌, ◌+◌, Bool, true, false, is_some, None, Ok, refl, sym, ap, ◌∙◌, subst, arith}
use Rattle.std.proofs.lemmas.Result.{err_from_is_err_and}
use Rattle.mn_lexer.specs.declared.marks.Mark.TheVariants.{CloseCurly}
use Rattle.mn_grammar.specs.Gives.{Stops}
use Rattle.mn_grammar.specs.Lists.{turn_at}
use Rattle.mn_grammar.specs.Reading.{which_mark}
use Rattle.mn_cursor.specs.Looks.{first_as}
use Rattle.mn_cursor.specs.Progress.{Progress, rest}
use Rattle.mn_cursor.proofs.Turning.{gives_same}
use Rattle.mn_model.specs.Parts.{cell_count}
use Rattle.mn_model.specs.Problem.{Problem, total}
use Rattle.mn_model.proofs.Kept.{total-push}
use Rattle.std.proofs.Math.Nat.{add-zero}
use Rattle.mn_references.specs.Listing.{turn_of}
use Rattle.mn_references.proofs.ListTurns.{list_stops, list_on, list_done, turn_gives}
use Rattle.mn_references.proofs.Stepping.{moves_on}
use Rattle.mn_language.specs.Constraints.{at_inside, inside}
use Rattle.mn_language.specs.Constructing.{child_ends, constraint_at, with_child}
use Rattle.mn_language.specs.declared.forms.Form.{Form}
use Rattle.mn_constraints.specs.Nesting.{child_at}
use Rattle.mn_constraints.proofs.FormSteps.{name_stops, leaf_gives, gather_gives, tie_gives, gather_round_stops, gather_curly_stops, gather_children_stop, gather_close_stops, gather_reads, tie_round_stops, tie_child_stops, tie_bit_stops, tie_reads, children_stop, no_children, some_children_are, children_start, child_leaves, gathered_cells, tied_cells, if_ok}
use Rattle.mn_constraints.proofs.nested.+constraints.Goals as goal

-- 1. A constraint
pub constraint-returns-in_err-name-clause-gives : goal.constraint-returns-in_err-name-clause-gives
constraint-returns-in_err-name-clause-gives t c =
    let p = err_from_is_err_and c.from_residual.result c.from_residual.ensures.1 in
    rw (p.1, p.2)
    (name_stops c.args.scan.now.problem c.args.depth (record { full = c.args.full; cells = c.args.used.now }) (rest c.args.scan.now) c.in_err-name.field-0.0 (c.in_err-name.ensures.gives c.args.used.now))

pub constraint-returns-in-Leaf-clause-gives : goal.constraint-returns-in-Leaf-clause-gives
constraint-returns-in-Leaf-clause-gives t c =
    let us = rest c.form.new.scan in
    let same : c.form.new.scan.problem ≡ c.args.scan.now.problem = ap (λ (s : Progress). s.problem) c.in_ok-name.ensures.moves in
    leaf_gives c.args.scan.now.problem c.args.depth (record { full = c.args.full; cells = c.args.used.now }) (rest c.args.scan.now) _ c.counted.result c.form.new.scan.problem same us c.in-Leaf.name
    (c.in_ok-name.ensures.gives c.args.used.now ∙ ap (λ (f : Form). Ok (f, us)) c.in-Leaf.is) c.counted.ensures.gives

pub constraint-returns-in-Gather-clause-gives : goal.constraint-returns-in-Gather-clause-gives
constraint-returns-in-Gather-clause-gives t c =
    let us = rest c.form.new.scan in
    let same : c.form.new.scan.problem ≡ c.args.scan.now.problem = ap (λ (s : Progress). s.problem) c.in_ok-name.ensures.moves in
    gather_gives c.args.scan.now.problem c.args.depth (record { full = c.args.full; cells = c.args.used.now }) (rest c.args.scan.now) _ c.gather.result c.form.new.scan.problem same us c.in-Gather.name
    (c.in_ok-name.ensures.gives c.args.used.now ∙ ap (λ (f : Form). Ok (f, us)) c.in-Gather.is)
    (subst (λ (f : Form). at_inside c.args.depth f ≡ None) c.in-Gather.is c.in_ok-name.ensures.deep) c.gather.ensures.gives

pub constraint-returns-in-Tie-clause-gives : goal.constraint-returns-in-Tie-clause-gives
constraint-returns-in-Tie-clause-gives t c =
    let us = rest c.form.new.scan in
    let same : c.form.new.scan.problem ≡ c.args.scan.now.problem = ap (λ (s : Progress). s.problem) c.in_ok-name.ensures.moves in
    tie_gives c.args.scan.now.problem c.args.depth (record { full = c.args.full; cells = c.args.used.now }) (rest c.args.scan.now) _ c.tie.result c.form.new.scan.problem same us c.in-Tie.name
    (c.in_ok-name.ensures.gives c.args.used.now ∙ ap (λ (f : Form). Ok (f, us)) c.in-Tie.is)
    (subst (λ (f : Form). at_inside c.args.depth f ≡ None) c.in-Tie.is c.in_ok-name.ensures.deep) c.tie.ensures.gives

-- 2. A form of several constraints
pub gather-returns-in_err-mark-clause-gives : goal.gather-returns-in_err-mark-clause-gives
gather-returns-in_err-mark-clause-gives t c =
    let p = err_from_is_err_and c.from_residual.result c.from_residual.ensures.1 in
    rw (p.1, p.2) (gather_round_stops c.args.scan.now.problem c.args.depth c.args.used.now c.args.name (rest c.args.scan.now) c.in_err-mark.field-0.0 c.in_err-mark.ensures.gives)

pub gather-returns-in_err-mark-2-clause-gives : goal.gather-returns-in_err-mark-2-clause-gives
gather-returns-in_err-mark-2-clause-gives t c =
    let p = err_from_is_err_and c.from_residual-in_err-mark-2.result c.from_residual-in_err-mark-2.ensures.1 in
    rw (p.1, p.2)
    (gather_curly_stops c.args.scan.now.problem c.args.depth c.args.used.now c.args.name (rest c.args.scan.now) (rest c.mark.new.self) c.in_ok-mark.ensures.gives c.in_err-mark-2.field-0.0 c.in_err-mark-2.ensures.gives)

pub gather-returns-in_err-children-clause-gives : goal.gather-returns-in_err-children-clause-gives
gather-returns-in_err-children-clause-gives t c =
    let p = err_from_is_err_and c.from_residual-in_err-children.result c.from_residual-in_err-children.ensures.1 in
    let same : c.mark-2.new.self.problem ≡ c.args.scan.now.problem = ap (λ (s : Progress). s.problem) c.in_ok-mark-2.ensures.moves ∙ ap (λ (s : Progress). s.problem) c.in_ok-mark.ensures.moves in
    rw (p.1, p.2)
    (gather_children_stop c.args.scan.now.problem c.args.depth c.args.used.now c.args.name (rest c.args.scan.now) (rest c.mark.new.self) c.in_ok-mark.ensures.gives (rest c.mark-2.new.self) c.in_ok-mark-2.ensures.gives
    c.mark-2.new.self.problem same c.in_err-children.field-0.0 c.in_err-children.ensures.gives)

pub gather-returns-in_err-mark-3-clause-gives : goal.gather-returns-in_err-mark-3-clause-gives
gather-returns-in_err-mark-3-clause-gives t c =
    let p = err_from_is_err_and c.from_residual-in_err-mark-3.result c.from_residual-in_err-mark-3.ensures.1 in
    let same : c.mark-2.new.self.problem ≡ c.args.scan.now.problem = ap (λ (s : Progress). s.problem) c.in_ok-mark-2.ensures.moves ∙ ap (λ (s : Progress). s.problem) c.in_ok-mark.ensures.moves in
    rw (p.1, p.2)
    (gather_close_stops c.args.scan.now.problem c.args.depth c.args.used.now c.args.name (rest c.args.scan.now) (rest c.mark.new.self) c.in_ok-mark.ensures.gives (rest c.mark-2.new.self) c.in_ok-mark-2.ensures.gives
    c.mark-2.new.self.problem same c.in_ok-children.children.items (rest c.children.new.scan) c.in_ok-children.ensures.gives c.in_err-mark-3.field-0.0 c.in_err-mark-3.ensures.gives)

pub gather-returns-clause-gives : goal.gather-returns-clause-gives
gather-returns-clause-gives t c =
    let same : c.mark-2.new.self.problem ≡ c.args.scan.now.problem = ap (λ (s : Progress). s.problem) c.in_ok-mark-2.ensures.moves ∙ ap (λ (s : Progress). s.problem) c.in_ok-mark.ensures.moves in
    gather_reads c.args.scan.now.problem c.args.depth c.args.used.now c.args.name (rest c.args.scan.now) (rest c.mark.new.self) c.in_ok-mark.ensures.gives (rest c.mark-2.new.self) c.in_ok-mark-2.ensures.gives
    c.mark-2.new.self.problem same c.in_ok-children.children.items (rest c.children.new.scan) c.in_ok-children.ensures.gives
    (rest c.mark-3.new.self) c.in_ok-together.field-0 c.in_ok-mark-3.ensures.gives c.in_ok-together.ensures

pub gather-returns-clause-counts : goal.gather-returns-clause-counts
gather-returns-clause-counts t c =
    c.in_ok-children.ensures.counts ∙ ap (λ n. c.args.used.now + n) (sym (ap cell_count c.in_ok-together.ensures ∙ gathered_cells c.args.name c.in_ok-children.children.items))

-- 3. The constraints inside
pub children-returns-in_err-mark-clause-gives : goal.children-returns-in_err-mark-clause-gives
children-returns-in_err-mark-clause-gives t c =
    let p = err_from_is_err_and c.from_residual.result c.from_residual.ensures.1 in
    let there : is_some (first_as (which_mark CloseCurly) (rest c.args.scan.now)) ≡ true = search rules in
    rw (p.1, p.2) (children_stop c.args.scan.now.problem c.args.depth c.args.used.now (rest c.args.scan.now) there c.in_err-mark.field-0.0 c.in_err-mark.ensures.gives)

pub children-returns-then-is_mark-clause-gives : goal.children-returns-then-is_mark-clause-gives
children-returns-then-is_mark-clause-gives t c =
    let there : is_some (first_as (which_mark CloseCurly) (rest c.args.scan.now)) ≡ true = search rules in
    no_children c.args.scan.now.problem c.args.depth c.args.used.now (rest c.args.scan.now) there (rest c.mark.new.self) c.in_ok-mark.ensures.gives
    ∙ ap (λ l. Ok (l, rest c.mark.new.self)) (sym c.new.ensures.items)

pub children-returns-clause-gives : goal.children-returns-clause-gives
children-returns-clause-gives t c =
    let absent : is_some (first_as (which_mark CloseCurly) (rest c.args.scan.now)) ≡ false = search rules in
    gives_same _ c.some_children.result _ _ (some_children_are c.args.scan.now.problem c.args.depth c.args.used.now (rest c.args.scan.now) absent) c.some_children.ensures.gives

pub some_children-loop-children-init : goal.some_children-loop-children-init
some_children-loop-children-init t c =
    let items = c.new-children.ensures.items in
    record {
      same = children_start c.args.scan.now.problem c.args.depth c.args.used.now (rest c.args.scan.now) c.new-children.result.items items;
      moves = refl;
      before = refl;
      counted = sym (ap (λ l. c.args.used.now + total cell_count l) items ∙ add-zero c.args.used.now);
      few = c.requires;
    }

pub some_children-returns-in_err-more-clause-gives : goal.some_children-returns-in_err-more-clause-gives
some_children-returns-in_err-more-clause-gives t c =
    let p = err_from_is_err_and c.from_residual.result c.from_residual.ensures.1 in
    let e = c.in_err-more.field-0.0 in
    let q = c.args.scan.now.problem in
    let d = c.args.depth in
    let n = c.args.used.now in
    let ts = rest c.loop-children.scan in
    let cs = c.loop-children.children.items in
    let problem : c.loop-children.scan.problem ≡ q = ap (λ (s : Progress). s.problem) c.loop-children.invariant.moves in
    let stops = subst (λ (r : Problem). Stops e (turn_at CloseCurly child_ends with_child (child_at r d n) cs ts)) problem c.in_err-more.ensures.gives in
    rw (p.1, p.2) (list_stops CloseCurly child_ends (child_at q d n) (child_leaves q d n) cs ts e _ stops c.loop-children.invariant.same)

pub some_children-returns-then-not-more-clause-gives : goal.some_children-returns-then-not-more-clause-gives
some_children-returns-then-not-more-clause-gives t c =
    let q = c.args.scan.now.problem in
    let d = c.args.depth in
    let n = c.args.used.now in
    let ts = rest c.loop-children.scan in
    let us = rest c.turn.new.scan in
    let cs = c.loop-children.children.items in
    let ds = c.turn.new.children.items in
    let problem : c.loop-children.scan.problem ≡ q = ap (λ (s : Progress). s.problem) c.loop-children.invariant.moves in
    let last : c.in_ok-more.more ≡ false = search rules in
    let turned = subst (λ (r : Problem). turn_at CloseCurly child_ends with_child (child_at r d n) cs ts ≡ Ok (turn_of ds c.in_ok-more.more, us)) problem c.in_ok-more.ensures.gives in
    list_done CloseCurly child_ends (child_at q d n) (child_leaves q d n) cs ds ts us _ (turned ∙ ap (λ (x : Bool). Ok (turn_of ds x, us)) last) c.loop-children.invariant.same

pub some_children-loop-children-smaller : goal.some_children-loop-children-smaller
some_children-loop-children-smaller t c =
    let q = c.args.scan.now.problem in
    let d = c.args.depth in
    let n = c.args.used.now in
    let ts = rest c.loop-children.scan in
    let us = rest c.turn.new.scan in
    let cs = c.loop-children.children.items in
    let ds = c.turn.new.children.items in
    let problem : c.loop-children.scan.problem ≡ q = ap (λ (s : Progress). s.problem) c.loop-children.invariant.moves in
    let more : c.in_ok-more.more ≡ true = search rules in
    let turned = subst (λ (r : Problem). turn_at CloseCurly child_ends with_child (child_at r d n) cs ts ≡ Ok (turn_of ds c.in_ok-more.more, us)) problem c.in_ok-more.ensures.gives in
    (list_on CloseCurly child_ends (child_at q d n) (child_leaves q d n) cs ds ts us _ (turned ∙ ap (λ (x : Bool). Ok (turn_of ds x, us)) more) c.loop-children.invariant.same).1

pub some_children-loop-children-preserved : goal.some_children-loop-children-preserved
some_children-loop-children-preserved t c =
    let q = c.args.scan.now.problem in
    let d = c.args.depth in
    let n = c.args.used.now in
    let ts = rest c.loop-children.scan in
    let us = rest c.turn.new.scan in
    let cs = c.loop-children.children.items in
    let ds = c.turn.new.children.items in
    let problem : c.loop-children.scan.problem ≡ q = ap (λ (s : Progress). s.problem) c.loop-children.invariant.moves in
    let more : c.in_ok-more.more ≡ true = search rules in
    let turned = subst (λ (r : Problem). turn_at CloseCurly child_ends with_child (child_at r d n) cs ts ≡ Ok (turn_of ds c.in_ok-more.more, us)) problem c.in_ok-more.ensures.gives in
    record {
      same = (list_on CloseCurly child_ends (child_at q d n) (child_leaves q d n) cs ds ts us _ (turned ∙ ap (λ (x : Bool). Ok (turn_of ds x, us)) more) c.loop-children.invariant.same).0;
      moves = moves_on c.args.scan.now c.loop-children.scan c.turn.new.scan c.loop-children.invariant.moves c.in_ok-more.ensures.moves;
      before = c.loop-children.invariant.before;
      counted = c.in_ok-more.ensures.counts;
      few = c.in_ok-more.ensures.few;
    }

pub turn-returns-clause-gives : goal.turn-returns-clause-gives
turn-returns-clause-gives t c =
    let q = c.args.scan.now.problem in
    let d = c.args.depth in
    let cs = c.args.children.now.items in
    let ts = rest c.args.scan.now in
    let us = rest c.constraint.new.scan in
    let child = c.in_ok-child.child in
    turn_gives CloseCurly child_ends (child_at q d c.args._first) cs c.push.new.self.items child ts us _ None None c.ends.result
    (subst (λ m. constraint_at q d (inside m) ts ≡ Ok (child, us)) c.requires.counted c.in_ok-child.ensures.gives) c.in_ok-push.ensures.items refl refl c.ends.ensures.gives

pub turn-returns-clause-counts : goal.turn-returns-clause-counts
turn-returns-clause-counts t c =
    let cs = c.args.children.now.items in
    let counts = c.in_ok-child.ensures.counts in
    let counted = c.requires.counted in
    let size = ap (total cell_count) c.in_ok-push.ensures.items ∙ total-push cell_count cs c.in_ok-child.child in
    let whole : c.constraint.new.used ≡ c.args._first + total cell_count c.push.new.self.items = omega (arith, counts, counted, size) in
    if_ok c.ends.result whole

-- 4. A form of a constraint and a 0/1 term
pub tie-returns-in_err-mark-clause-gives : goal.tie-returns-in_err-mark-clause-gives
tie-returns-in_err-mark-clause-gives t c =
    let p = err_from_is_err_and c.from_residual.result c.from_residual.ensures.1 in
    rw (p.1, p.2) (tie_round_stops c.args.scan.now.problem c.args.depth c.args.used.now c.args.name (rest c.args.scan.now) c.in_err-mark.field-0.0 c.in_err-mark.ensures.gives)

pub tie-returns-in_err-con-clause-gives : goal.tie-returns-in_err-con-clause-gives
tie-returns-in_err-con-clause-gives t c =
    let p = err_from_is_err_and c.from_residual-in_err-con.result c.from_residual-in_err-con.ensures.1 in
    let same : c.mark.new.self.problem ≡ c.args.scan.now.problem = ap (λ (s : Progress). s.problem) c.in_ok-mark.ensures.moves in
    rw (p.1, p.2)
    (tie_child_stops c.args.scan.now.problem c.args.depth c.args.used.now c.args.name (rest c.args.scan.now) (rest c.mark.new.self) c.in_ok-mark.ensures.gives c.mark.new.self.problem same
    c.in_err-con.field-0.0 c.in_err-con.ensures.gives)

pub tie-returns-in_err-bit-clause-gives : goal.tie-returns-in_err-bit-clause-gives
tie-returns-in_err-bit-clause-gives t c =
    let p = err_from_is_err_and c.from_residual-in_err-bit.result c.from_residual-in_err-bit.ensures.1 in
    let same : c.mark.new.self.problem ≡ c.args.scan.now.problem = ap (λ (s : Progress). s.problem) c.in_ok-mark.ensures.moves in
    let alike : c.constraint.new.scan.problem ≡ c.args.scan.now.problem = ap (λ (s : Progress). s.problem) c.in_ok-con.ensures.moves ∙ same in
    rw (p.1, p.2)
    (tie_bit_stops c.args.scan.now.problem c.args.depth c.args.used.now c.args.name (rest c.args.scan.now) (rest c.mark.new.self) c.in_ok-mark.ensures.gives c.mark.new.self.problem same
    c.in_ok-con.con (rest c.constraint.new.scan) c.in_ok-con.ensures.gives c.constraint.new.scan.problem alike c.in_err-bit.field-0.0 c.in_err-bit.ensures.gives)

pub tie-returns-clause-gives : goal.tie-returns-clause-gives
tie-returns-clause-gives t c =
    let same : c.mark.new.self.problem ≡ c.args.scan.now.problem = ap (λ (s : Progress). s.problem) c.in_ok-mark.ensures.moves in
    let alike : c.constraint.new.scan.problem ≡ c.args.scan.now.problem = ap (λ (s : Progress). s.problem) c.in_ok-con.ensures.moves ∙ same in
    tie_reads c.args.scan.now.problem c.args.depth c.args.used.now c.args.name (rest c.args.scan.now) (rest c.mark.new.self) c.in_ok-mark.ensures.gives c.mark.new.self.problem same
    c.in_ok-con.con (rest c.constraint.new.scan) c.in_ok-con.ensures.gives c.constraint.new.scan.problem alike
    c.in_ok-bit.bit (rest c.bit.new.scan) c.in_ok-beside.field-0 c.in_ok-bit.ensures.gives c.in_ok-beside.ensures

pub tie-returns-clause-counts : goal.tie-returns-clause-counts
tie-returns-clause-counts t c =
    c.in_ok-con.ensures.counts ∙ ap (λ n. c.args.used.now + n) (sym (ap cell_count c.in_ok-beside.ensures ∙ tied_cells c.args.name c.in_ok-con.con c.in_ok-bit.bit))
