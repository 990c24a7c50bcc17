use Rattle.std.proofs.Common.{◌≡◌, ◌≤◌, ◌+◌, length, min}
use Rattle.mn_model.specs.Parts.{places_of}
use Rattle.mn_model.specs.declared.constraint.Cons.{size-Cons}
use Rattle.mn_model.proofs.constraint.+counting_places.Given as goal

-- the places counted and those of the children that are left are all of them
abbrev pub invariant-Cons::place_count-loop-rest : goal.invariant-Cons::place_count-loop-rest
invariant-Cons::place_count-loop-rest l = record {
  whole : min (l.count + length (places_of l.rest)) 18446744073709551615 ≡ min (length (places_of l.initial.rest)) 18446744073709551615;
  most : l.count ≤ 18446744073709551615;
  depth : size-Cons l.rest ≤ size-Cons l.initial.rest;
}
