use Rattle.std.proofs.Common.{◌≡◌, ◌++◌, ◌∷◌, [], ◌+◌, ◌≤◌, None, ap, subst, sym, ◌∙◌, arith, length, string_bytes, string_eq}
use Rattle.indexmap.proofs.CallerLemmas.{insert_entry-new}
use Rattle.indexmap.specs.IndexMap.{get}
use Rattle.mn_model.proofs.Found.{lookup-entries_read}
use Rattle.mn_model.proofs.Growing.{IsKept-tuples, new_list}
use Rattle.mn_model.proofs.Kept.{read-push}
use Rattle.mn_model.specs.Index.{entries_read}
use Rattle.mn_model.specs.Lawful.{IsLawfulTuples}
use Rattle.mn_model.specs.Problem.{Problem, listed_as, cells_of}
use Rattle.mn_model.specs.declared.declaration.Tuples.{Tuples}
use Rattle.mn_model.specs.declared.limits.TheConstants.{CELLS}
use Rattle.mn_model.proofs.instance.Instance.tuples_add.Goals as goal

pub invariant_of-self-2 : goal.invariant_of-self-2
invariant_of-self-2 c =
    let new : Tuples = record { name = c.args.name; arity = c.args.arity; cells = c.in_ok-cells.cells } in
    let same : new ≡ record { name = c.args.name; arity = c.args.arity; cells = c.args.cells } = λ i. record { name = c.args.name; arity = c.args.arity; cells = c.in_ok-cells.ensures i } in
    let unused = subst (λ (p : Problem). listed_as p.tuples c.args.name ≡ None) (sym c.self.view_is) c.requires.unused in
    let room = subst (λ (p : Problem). cells_of p + length c.args.cells ≤ CELLS) (sym c.self.view_is) c.requires.room in
    let key = c.in_ok-key.ensures ∙ c.as_slice.ensures in
    let lists = c.self.inside.lists.entries in
    let none : get string_eq c.self.inside.lists c.in_ok-key.key ≡ None =
    lookup-entries_read (string_bytes c.in_ok-key.key) lists
    ∙ new_list _ c.self.inside.names.entries lists c.self.inside.owners.items c.self.inside.cells c.self.invariant (string_bytes c.in_ok-key.key)
    (subst (λ name. listed_as c.self.inside.tuples.items name ≡ None) (sym key) unused) in
    IsKept-tuples _ c.self.inside.names.entries lists c.self.inside.owners.items c.self.inside.cells c.self.invariant
    new c.push.new.self.items c.insert.new.self.entries c.len-place.result c.len-count.result (c.in_ok-push.ensures.items ∙ ap (λ ts. ts ++ new ∷ []) c.reserve.ensures.items)
    (subst IsLawfulTuples (sym same) c.requires.lawful) unused (omega (arith, room, ap length c.in_ok-cells.ensures))
    (ap entries_read (c.in_ok-insert.ensures.entries ∙ insert_entry-new string_eq c.self.inside.lists c.in_ok-key.key c.len-place.result none) ∙ read-push lists c.in_ok-key.key c.len-place.result c.args.name key)
    (c.len-place.ensures ∙ c.self.inside.tuples.ok.0) (omega (arith, c.len-count.ensures, ap length c.in_ok-cells.ensures))
