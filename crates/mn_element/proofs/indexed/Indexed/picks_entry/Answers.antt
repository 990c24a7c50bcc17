use Rattle.mn_prop.specs.Contexts.{vars_of}
use Rattle.mn_element.proofs.Supporting.{entry_named, is_indexed, result_named}
use Rattle.mn_element.proofs.indexed.Indexed.picks_entry.Goals as goal

pub share-requires-clause-first : goal.share-requires-clause-first
share-requires-clause-first c = let s = c.args.self.now in entry_named (is_indexed s.form s.v.now s.x s.y) (vars_of c.args.c.now) s.inst.now.tuples c.requires.ready c.args.k c.get-t.result.now c.get-t.ensures

pub share-requires-clause-second : goal.share-requires-clause-second
share-requires-clause-second c = let s = c.args.self.now in result_named (is_indexed s.form s.v.now s.x s.y) (vars_of c.args.c.now) s.inst.now.tuples c.requires.ready

pub share_value-requires-clause-first : goal.share_value-requires-clause-first
share_value-requires-clause-first c = let s = c.args.self.now in entry_named (is_indexed s.form s.v.now s.x s.y) (vars_of c.args.c.now) s.inst.now.tuples c.requires.ready c.args.k c.get-t.result.now c.get-t.ensures

pub share_value-requires-clause-second : goal.share_value-requires-clause-second
share_value-requires-clause-second c = let s = c.args.self.now in result_named (is_indexed s.form s.v.now s.x s.y) (vars_of c.args.c.now) s.inst.now.tuples c.requires.ready

pub share-requires-else-k-j-clause-first : goal.share-requires-else-k-j-clause-first
share-requires-else-k-j-clause-first c = let s = c.args.self.now in entry_named (is_indexed s.form s.v.now s.x s.y) (vars_of c.args.c.now) s.inst.now.tuples c.requires.ready c.args.k c.get-t.result.now c.get-t.ensures

pub share-requires-else-k-j-clause-second : goal.share-requires-else-k-j-clause-second
share-requires-else-k-j-clause-second c = let s = c.args.self.now in result_named (is_indexed s.form s.v.now s.x s.y) (vars_of c.args.c.now) s.inst.now.tuples c.requires.ready

pub share_value-requires-in-OfResult-clause-first : goal.share_value-requires-in-OfResult-clause-first
share_value-requires-in-OfResult-clause-first c = let s = c.args.self.now in entry_named (is_indexed s.form s.v.now s.x s.y) (vars_of c.args.c.now) s.inst.now.tuples c.requires.ready c.args.k c.get-t.result.now c.get-t.ensures

pub share_value-requires-in-OfResult-clause-second : goal.share_value-requires-in-OfResult-clause-second
share_value-requires-in-OfResult-clause-second c = let s = c.args.self.now in result_named (is_indexed s.form s.v.now s.x s.y) (vars_of c.args.c.now) s.inst.now.tuples c.requires.ready
