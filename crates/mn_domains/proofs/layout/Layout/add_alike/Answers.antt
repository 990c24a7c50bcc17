use Rattle.std.proofs.Common.{◌≡◌, ◌+◌, ◌-◌, arith, length, take, ◌∙◌}
use Rattle.std.proofs.lemmas.List.{take_all}
use Rattle.std.specs.Vec.{vec_len}
use Rattle.mn_domains.specs.Laid.{laid}
use Rattle.mn_domains.proofs.Layers.{shapes_alike}
use Rattle.mn_domains.proofs.layout.Layout.add_alike.Goals as goal

pub returns : goal.returns
returns c =
    let before = c.args.self.now in
    let n = c.len.result + c.args.count in
    let size : c.len.result ≡ length before.shapes.items = c.len.ensures ∙ before.shapes.ok.0 in
    let all : take n before.shapes.items ≡ before.shapes.items = take_all n before.shapes.items (omega (arith, size)) in
    let rest : n - vec_len before.shapes ≡ c.args.count = omega (arith, c.len.ensures) in
    let are = shapes_alike before.listed.items before.shapes.items c.args.shape before.bits (laid before) c.args.count c.requires.before c.requires.shape c.requires.plain in
    rw (c.in_ok-resize.ensures.items, all, rest) are
