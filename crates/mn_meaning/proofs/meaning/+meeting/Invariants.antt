use Rattle.std.proofs.Common.{◌↔◌, ◌+◌, ◌≤◌, length}
use Rattle.std.specs.List.{AllByRecursion}
use Rattle.mn_model.specs.Lawful.{HaveNearConstants}
use Rattle.mn_model.specs.Parts.{vectors_of}
use Rattle.mn_model.specs.declared.constraint.Cons.{size-Cons}
use Rattle.mn_model.specs.declared.limits.TheConstants.{PLACES}
use Rattle.mn_meaning.specs.Meaning.{EachHolds, SomeHolds}
use Rattle.mn_meaning.proofs.meaning.+meeting.Given as goal

-- those that are left decide of all
abbrev pub invariant-some_meets-loop-rest : goal.invariant-some_meets-loop-rest
invariant-some_meets-loop-rest g l = record {
  near : HaveNearConstants l.rest;
  short : AllByRecursion (λ v. length v ≤ PLACES + 1) (vectors_of l.rest);
  decide : SomeHolds l.lists (g.V.Values.values l.s) l.rest ↔ SomeHolds l.lists (g.V.Values.values l.s) l.initial.rest;
  depth : size-Cons l.rest ≤ size-Cons l.initial.rest;
}

abbrev pub invariant-each_meets-loop-rest : goal.invariant-each_meets-loop-rest
invariant-each_meets-loop-rest g l = record {
  near : HaveNearConstants l.rest;
  short : AllByRecursion (λ v. length v ≤ PLACES + 1) (vectors_of l.rest);
  decide : EachHolds l.lists (g.V.Values.values l.s) l.rest ↔ EachHolds l.lists (g.V.Values.values l.s) l.initial.rest;
  depth : size-Cons l.rest ≤ size-Cons l.initial.rest;
}
