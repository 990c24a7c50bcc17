use Rattle.std.proofs.Common.{◌≡◌, ℕ, List, Some, get_or, slice_get, sym, ap, ◌∙◌}
use Rattle.std.specs.Option.{option_and_then}
use Rattle.std.proofs.lemmas.Option.{slice_get-get_or}
use Rattle.mn_model.specs.Problem.{listed_as}
use Rattle.mn_model.specs.declared.declaration.Tuples.{Tuples}
use Rattle.mn_constraints.proofs.ListPlaces.{place_is, kind_of_other}
use Rattle.mn_constraints.proofs.tables.named.Goals as goal

pub returns-then-size-from-clause-place : goal.returns-then-size-from-clause-place
returns-then-size-from-clause-place c =
    let ts = c.args.inst.now.tuples in
    let place = c.in-Some.place in
    let x = get_or ts place c.index-tuples-place.result in
    let at : slice_get ts place ≡ Some x = slice_get-get_or ts place c.index-tuples-place.result c.in-Some.ensures.within in
    let found : option_and_then (slice_get ts) (Some place) ≡ listed_as ts c.args.name.now = c.in-Some.ensures.found ∙ ap (λ (n : List ℕ). listed_as ts n) c.str_of.ensures in
    place_is ts c.args.name.now place x c.lawful.ensures.new_tuples at found

pub returns-else-size-from-clause-kind : goal.returns-else-size-from-clause-kind
returns-else-size-from-clause-kind c =
    let ts = c.args.inst.now.tuples in
    let place = c.in-Some.place in
    let x = get_or ts place c.index-tuples-place.result in
    let at : slice_get ts place ≡ Some x = slice_get-get_or ts place c.index-tuples-place.result c.in-Some.ensures.within in
    let found : option_and_then (slice_get ts) (Some place) ≡ listed_as ts c.args.name.now = c.in-Some.ensures.found ∙ ap (λ (n : List ℕ). listed_as ts n) c.str_of.ensures in
    kind_of_other c.args.arity (listed_as ts c.args.name.now) x (sym found ∙ at)
    (λ same. c.if-size-from.false (ap (λ (l : List Tuples). (get_or l place c.index-tuples-place.result).arity) c.tuples.ensures ∙ same ∙ sym c.from.ensures))
