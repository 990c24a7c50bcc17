use Rattle.std.proofs.Common.{◌≡◌, ◌++◌}
use Rattle.std.specs.Iterator.Adapters.{zip_first, zip_second}
use Rattle.std.specs.List.{AllByRecursion}
use Rattle.std.specs.Slice.Iter.{iter_rest}
use Rattle.mn_model.specs.Lawful.{IsNear}
use Rattle.mn_sums.specs.Parts.{made_of}
use Rattle.mn_sums.proofs.build.each.Given as goal

-- the parts so far and those of the places that are left are the whole
abbrev pub invariant-loop-k : goal.invariant-loop-k
invariant-loop-k l = record {
  whole : l.parts.items ++ made_of l.making (iter_rest (zip_first l.k-iterator)) (iter_rest (zip_second l.k-iterator)) ≡ made_of l.making l.ks l.v;
  near : AllByRecursion IsNear (iter_rest (zip_first l.k-iterator));
}
