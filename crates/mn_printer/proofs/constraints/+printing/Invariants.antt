use Rattle.std.proofs.Common.{◌≡◌, ◌≤◌, ◌+◌, ◌*◌}
use Rattle.mn_model.specs.declared.constraint.Con.{size-Con}
use Rattle.mn_model.specs.declared.constraint.Cons.{size-Cons}
use Rattle.mn_printer.specs.Pages.{onto}
use Rattle.mn_printer.proofs.Made.{further_texts}
use Rattle.mn_printer.proofs.constraints.+printing.Given as goal

-- what is written and what is left to write are the whole, and what is left is no deeper than the whole
abbrev pub invariant-further_children-loop-rest : goal.invariant-further_children-loop-rest
invariant-further_children-loop-rest l = record {
  whole : onto l.page (further_texts l.inst l.rest) ≡ onto l.fn.page (further_texts l.inst l.initial.rest);
  depth : size-Cons l.rest ≤ size-Cons l.initial.rest;
}

-- a call goes into a part, or from a form to what is in it
abbrev pub decreases-constraint : goal.decreases-constraint
decreases-constraint l = 3 * size-Con l.con.now

abbrev pub decreases-gathered : goal.decreases-gathered
decreases-gathered l = 3 * size-Cons l.cons.now + 2

abbrev pub decreases-children : goal.decreases-children
decreases-children l = 3 * size-Cons l.cons.now + 1

abbrev pub decreases-further_children : goal.decreases-further_children
decreases-further_children l = 3 * size-Cons l.cons.now

abbrev pub decreases-tied : goal.decreases-tied
decreases-tied l = 3 * size-Con l.con.now + 1
