use Rattle.std.proofs.Common.{◌≡◌, map}
use Rattle.mn_engine.proofs.Rounding.{Passing}
use Rattle.mn_engine.proofs.rounds.pass_all.Given as goal

abbrev pub invariant-loop-i : goal.invariant-loop-i
invariant-loop-i g l = record {
  posted : map g.P.Scoped.posted l.runners.items ≡ map g.P.Scoped.posted l.initial.runners.items;
  passing : Passing l.back (map g.P.Scoped.posted l.initial.runners.items) l.initial.c l.c l.i l.last;
}
