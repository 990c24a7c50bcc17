use Rattle.std.proofs.Common.{List, length, sym, subst, arith}
use Rattle.mn_model.specs.Lawful.{IsLawfulTerm}
use Rattle.mn_model.proofs.Lists.{all_at}
use Rattle.mn_boxes.specs.Sets.{Variable}
use Rattle.mn_closure.specs.Ready.{declared_sets}
use Rattle.mn_meaning.specs.Families.{rows_of}
use Rattle.mn_prop.specs.Contexts.{vars_of}
use Rattle.mn_prop.proofs.Stepping.{same_vars}
use Rattle.mn_table.specs.Tables.{listed_of}
use Rattle.mn_table.proofs.Keeping.{all_kept, keep_fails, none_kept, one_more_kept}
use Rattle.mn_table.proofs.Marking.{all_covered, wide_itself, wide_through}
use Rattle.mn_table.proofs.listed.Listed.keep_each.Goals as goal

pub loop-i-init : goal.loop-i-init
loop-i-init c = record { wide = wide_itself c.args.found.now; kept = none_kept (listed_of c.args.self.now) c.args.c.now }

pub gather-requires-clause-covered : goal.gather-requires-clause-covered
gather-requires-clause-covered c = all_covered c.args.found.now c.loop-i.found c.args.self.now.cells.now c.loop-i.invariant.wide c.requires.covered

pub keep-requires : goal.keep-requires
keep-requires c =
    let s = c.args.self.now in
    subst (λ (vars : List Variable). IsLawfulTerm (declared_sets vars) c.get.result.now) (sym (same_vars c.loop-i.invariant.kept.going.loses))
    (all_at (IsLawfulTerm (declared_sets (vars_of c.args.c.now))) s.v.now c.loop-i.i c.get.result.now c.requires.ready.suits.named c.get.ensures)

pub returns-in_err-keep-clause-step : goal.returns-in_err-keep-clause-step
returns-in_err-keep-clause-step c =
    let s = c.args.self.now in
    keep_fails s.inst.now.tuples s.v.now s.tab.now (rows_of (length s.v.now) s.cells.now) s.rows c.args.c.now c.requires.ready c.args.alive.now c.requires.alive c.gather.new.found c.loop-i.i c.get.result.now c.get.ensures c.gather.ensures.found
    c.loop-i.c c.keep.new.self c.loop-i.invariant.kept c.keep.result c.from_residual.result _ c.in_err-keep.ensures c.from_residual.ensures.0

pub loop-i-preserved : goal.loop-i-preserved
loop-i-preserved c =
    let s = c.args.self.now in
    record {
      wide = wide_through c.args.found.now c.loop-i.found c.gather.new.found c.loop-i.invariant.wide c.gather.ensures.wide;
      kept = one_more_kept s.inst.now.tuples s.v.now s.tab.now (rows_of (length s.v.now) s.cells.now) s.rows c.args.c.now c.requires.ready c.args.alive.now c.requires.alive c.gather.new.found c.loop-i.i c.get.result.now c.get.ensures c.gather.ensures.found
          c.loop-i.c c.keep.new.self c.loop-i.invariant.kept c.in_ok-keep.field-0 c.in_ok-keep.ensures;
    }

pub returns-in_err-keep-clause-wide : goal.returns-in_err-keep-clause-wide
returns-in_err-keep-clause-wide c = wide_through c.args.found.now c.loop-i.found c.gather.new.found c.loop-i.invariant.wide c.gather.ensures.wide

pub returns-clause-step : goal.returns-clause-step
returns-clause-step c =
    let s = c.args.self.now in
    all_kept s.inst.now.tuples s.v.now s.tab.now (rows_of (length s.v.now) s.cells.now) s.rows c.args.c.now c.loop-i.c c.loop-i.i s.some (omega (arith, c.loop-i-test.false, c.len-i-end.ensures)) c.loop-i.invariant.kept
