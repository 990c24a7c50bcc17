use Rattle.std.proofs.Common.{◌≡◌, ℕ, ◌+◌, ◌*◌, ◌≤◌, List, slice_index_or, sym, ap, ◌∙◌, subst, arith}
use Rattle.std.specs.List.{AllByRecursion}
use Rattle.mn_model.proofs.Sizes.{shaped-drop}
use Rattle.mn_model.specs.Problem.{size_of_dims}
use Rattle.mn_references.specs.References.{places_below}
use Rattle.mn_references.specs.Lookups.{sub_seen}
use Rattle.mn_references.proofs.Indexing.{fits_first, stays_within, tail_is}
use Rattle.mn_references.proofs.indices.Indices.entered.Goals as goal

pub places_below-requires-clause-fits : goal.places_below-requires-clause-fits
places_below-requires-clause-fits c =
    subst (AllByRecursion _) (sym c.as_slice.ensures.value) (fits_first c.args.self.dims.now c.args.self.places.items c.args.self.size c.in-len1-up.len_at_least c.requires.inside.shaped (omega arith) c.requires.inside.within)

pub returns-clause-inside : goal.returns-clause-inside
returns-clause-inside c =
    let dims = c.args.self.dims.now in
    let places = c.args.self.places.items in
    let size = c.args.self.size in
    let below : c.in_ok-places_below-in-len1-up.field-0.items ≡ places_below (slice_index_or dims 0 0) (sub_seen c.args.index) places =
    c.in_ok-places_below-in-len1-up.ensures ∙ ap (places_below (slice_index_or dims 0 0) (sub_seen c.args.index)) c.as_slice.ensures.value in
    let stays = stays_within dims places c.in_ok-places_below-in-len1-up.field-0.items size (sub_seen c.args.index) c.in-len1-up.len_at_least c.requires.fine c.requires.inside.within below in
    record {
      shaped = subst (AllByRecursion (λ dim. 1 ≤ dim)) (sym (tail_is dims)) (shaped-drop 1 dims c.requires.inside.shaped);
      within = subst (λ (l : List ℕ). AllByRecursion (λ place. (place + 1) * size_of_dims l ≤ size) c.in_ok-places_below-in-len1-up.field-0.items) (sym (tail_is dims)) stays;
    }
