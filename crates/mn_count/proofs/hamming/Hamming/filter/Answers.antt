use Rattle.std.proofs.Common.{◌≡◌, ◌<ℤ◌, FitsSigned, to_z, of_z, rules, w64, arith}
use Rattle.std.proofs.lemmas.Int.{ints, to_z-of_z}
use Rattle.mn_prop.specs.Contexts.{box_of, vars_of}
use Rattle.mn_prop.proofs.Stepping.{no_step}
use Rattle.mn_count.proofs.Apart.{few_fails, many_closed}
use Rattle.mn_count.proofs.OpenPairs.{few_open, just_open, many_open}
use Rattle.mn_count.proofs.hamming.Hamming.filter.Goals as goal
use mir.Syntax.{w128}

pub returns-then-open-least : goal.returns-then-open-least
returns-then-open-least c =
    let s = c.args.self.now in
    let least : FitsSigned w64 s.least = search rules in
    let from : c.from-least.result ≡ s.least = rw (to_z-of_z w64 s.least least) at c.from-least.ensures in
    let counted : to_z w128 (of_z w128 c.open_pairs-open.result) ≡ c.open_pairs-open.result = to_z-of_z w128 c.open_pairs-open.result (search rules) in
    let few : c.open_pairs-open.result <ℤ s.least = omega (arith, ints, c.if-open-least.true, counted, from) in
    few_fails s.v.now s.w.now s.least s.inst.now.tuples c.args.c.now c.lawful.ensures.boxes.now c.requires _ (few_open (box_of c.args.c.now) s.v.now s.w.now s.least _ c.open_pairs-open.ensures few)

pub returns-then-least-open : goal.returns-then-least-open
returns-then-least-open c =
    let s = c.args.self.now in
    let least : FitsSigned w64 s.least = search rules in
    let from : c.from-least.result ≡ s.least = rw (to_z-of_z w64 s.least least) at c.from-least.ensures in
    let counted : to_z w128 (of_z w128 c.open_pairs-open.result) ≡ c.open_pairs-open.result = to_z-of_z w128 c.open_pairs-open.result (search rules) in
    let many : s.least <ℤ c.open_pairs-open.result = omega (arith, ints, c.if-least-open.true, counted, from) in
    no_step c.args.c.now (many_closed s.v.now s.w.now s.least s.inst.now.tuples (vars_of c.args.c.now) (box_of c.args.c.now) c.lawful.ensures.boxes.now c.requires (many_open (box_of c.args.c.now) s.v.now s.w.now s.least _ c.open_pairs-open.ensures many))

pub part_all-requires-clause-tight : goal.part_all-requires-clause-tight
part_all-requires-clause-tight c =
    let s = c.args.self.now in
    let least : FitsSigned w64 s.least = search rules in
    let from : c.from-least.result ≡ s.least = rw (to_z-of_z w64 s.least least) at c.from-least.ensures in
    let counted : to_z w128 (of_z w128 c.open_pairs-open.result) ≡ c.open_pairs-open.result = to_z-of_z w128 c.open_pairs-open.result (search rules) in
    let same : c.open_pairs-open.result ≡ s.least = omega (arith, ints, c.if-open-least.false, c.if-least-open.false, counted, from) in
    just_open (box_of c.args.c.now) s.v.now s.w.now s.least _ c.open_pairs-open.ensures same
