use Rattle.std.proofs.Common.{◌∙◌, sym, arith}
use Rattle.mn_prop.specs.Contexts.{vars_of}
use Rattle.mn_count.proofs.Apart.{all_parted, hamming_is, next_parted, none_parted, passed_parted, ready_now, wrong_parted}
use Rattle.mn_count.proofs.Vectors.{first_named, second_named}
use Rattle.mn_count.proofs.hamming.Hamming.part_all.Goals as goal

pub loop-i-init : goal.loop-i-init
loop-i-init c = let s = c.args.self.now in none_parted s.v.now s.w.now s.least s.inst.now.tuples c.args.c.now c.lawful.ensures.boxes.now c.requires.ready c.requires.tight

pub are_one-requires-clause-first : goal.are_one-requires-clause-first
are_one-requires-clause-first c =
    let s = c.args.self.now in
    let ready = ready_now s.v.now s.w.now s.least s.inst.now.tuples c.args.c.now c.lawful.ensures.boxes.now c.requires.ready c.requires.tight c.loop-i.invariant in
    first_named (hamming_is s.v.now s.w.now s.least s.inst.now.tuples) (vars_of c.loop-i.c) s.inst.now.tuples c.loop-i.i c.get.result.now ready c.get.ensures

pub are_one-requires-clause-second : goal.are_one-requires-clause-second
are_one-requires-clause-second c =
    let s = c.args.self.now in
    let ready = ready_now s.v.now s.w.now s.least s.inst.now.tuples c.args.c.now c.lawful.ensures.boxes.now c.requires.ready c.requires.tight c.loop-i.invariant in
    second_named (hamming_is s.v.now s.w.now s.least s.inst.now.tuples) (vars_of c.loop-i.c) s.inst.now.tuples c.loop-i.i c.get-in-loop-i.result.now ready c.get-in-loop-i.ensures

pub loop-i-preserved-then-are_one : goal.loop-i-preserved-then-are_one
loop-i-preserved-then-are_one c =
    let s = c.args.self.now in
    passed_parted s.v.now s.w.now s.least s.inst.now.tuples c.args.c.now c.lawful.ensures.boxes.now c.requires.ready c.requires.tight c.loop-i.i c.get.result.now c.get-in-loop-i.result.now c.loop-i.invariant c.get.ensures c.get-in-loop-i.ensures (sym c.are_one.ensures.is ∙ c.if-are_one.true)

pub part_pair-requires-clause-first : goal.part_pair-requires-clause-first
part_pair-requires-clause-first c =
    let s = c.args.self.now in
    let ready = ready_now s.v.now s.w.now s.least s.inst.now.tuples c.args.c.now c.lawful.ensures.boxes.now c.requires.ready c.requires.tight c.loop-i.invariant in
    first_named (hamming_is s.v.now s.w.now s.least s.inst.now.tuples) (vars_of c.loop-i.c) s.inst.now.tuples c.loop-i.i c.get.result.now ready c.get.ensures

pub part_pair-requires-clause-second : goal.part_pair-requires-clause-second
part_pair-requires-clause-second c =
    let s = c.args.self.now in
    let ready = ready_now s.v.now s.w.now s.least s.inst.now.tuples c.args.c.now c.lawful.ensures.boxes.now c.requires.ready c.requires.tight c.loop-i.invariant in
    second_named (hamming_is s.v.now s.w.now s.least s.inst.now.tuples) (vars_of c.loop-i.c) s.inst.now.tuples c.loop-i.i c.get-in-loop-i.result.now ready c.get-in-loop-i.ensures

pub returns-in_err-part_pair : goal.returns-in_err-part_pair
returns-in_err-part_pair c =
    let s = c.args.self.now in
    wrong_parted s.v.now s.w.now s.least s.inst.now.tuples c.args.c.now c.lawful.ensures.boxes.now c.requires.ready c.requires.tight c.loop-i.i c.get.result.now c.get-in-loop-i.result.now c.loop-i.invariant c.get.ensures c.get-in-loop-i.ensures (c.are_one.ensures.differ c.if-are_one.false) c.in_err-part_pair.ensures c.from_residual.ensures.0

pub loop-i-preserved : goal.loop-i-preserved
loop-i-preserved c =
    let s = c.args.self.now in
    next_parted s.v.now s.w.now s.least s.inst.now.tuples c.args.c.now c.lawful.ensures.boxes.now c.requires.ready c.requires.tight c.loop-i.i c.get.result.now c.get-in-loop-i.result.now c.loop-i.invariant c.get.ensures c.get-in-loop-i.ensures (c.are_one.ensures.differ c.if-are_one.false) c.in_ok-part_pair.ensures

pub returns : goal.returns
returns c =
    let s = c.args.self.now in
    all_parted s.v.now s.w.now s.least s.inst.now.tuples c.args.c.now c.lawful.ensures.boxes.now c.requires.ready c.requires.tight c.loop-i.i (omega (arith, c.loop-i-test.false, c.len-i-end.ensures)) c.loop-i.invariant
