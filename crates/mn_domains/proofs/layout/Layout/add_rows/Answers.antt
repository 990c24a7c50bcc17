use Rattle.std.proofs.Common.{◌++◌, ◌∷◌, [], false, replicate, ap, ◌∙◌, arith}
use Rattle.std.proofs.lemmas.List.{append-nil, length-append, length-map, length-replicate}
use Rattle.mn_boxes.specs.Sets.{Variable}
use Rattle.mn_domains.specs.Held.{variable_held}
use Rattle.mn_domains.specs.Laid.{laid}
use Rattle.mn_domains.proofs.Layers.{length-laid, shapes_next}
use Rattle.mn_domains.proofs.layout.Layout.add_rows.Goals as goal

pub loop-init : goal.loop-init
loop-init c = rw (append-nil (laid c.args.self.now)) c.requires.before

pub row-shape-requires-clause-few : goal.row-shape-requires-clause-few
row-shape-requires-clause-few c =
    let before = laid c.args.self.now in
    let var : Variable = record { declared = c.args.domain.now; bounded = false } in
    let many = length-laid c.loop.self.listed.items c.loop.self.shapes.items c.loop.self.bits (before ++ replicate c.loop.counter var) c.loop.invariant in
    omega (arith, many, c.loop.invariant.few, c.loop-test.true, c.requires.few, length-append before (replicate c.loop.counter var), length-replicate c.loop.counter var, length-map c.args.self.now.shapes.items (variable_held c.args.self.now.listed.items))

pub loop-preserved : goal.loop-preserved
loop-preserved c =
    let var : Variable = record { declared = c.args.domain.now; bounded = false } in
    let are = shapes_next c.loop.self.listed.items c.row-shape.new.self.listed.items c.loop.self.shapes.items c.row-shape.result c.loop.self.bits c.row-shape.new.self.bits (laid c.args.self.now) c.loop.counter var c.loop.invariant c.row-shape.ensures.shape in
    let items = c.in_ok-push.ensures.items ∙ ap (λ ss. ss ++ c.row-shape.result ∷ []) c.row-shape.ensures.shapes in
    rw items are
