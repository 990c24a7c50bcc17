use Rattle.std.proofs.Common.{◌≡◌, ◌++◌, OnOk, pos, inl, inr, replicate, subst, sym, ap, ◌∙◌, FitsSigned, rules, true, w64}
use Rattle.std.proofs.lemmas.Int.{to_z-of_z}
use Rattle.mn_boxes.specs.Sets.{is_bounded, variable_of}
use Rattle.mn_domains.specs.Held.{variable_held}
use Rattle.mn_domains.specs.Laid.{IsLaid, laid}
use Rattle.mn_domains.specs.declared.shape.Shape.TheVariants.{Stretch}
use Rattle.mn_domains.proofs.Layers.{is_listed}
use Rattle.mn_domains.proofs.Laying.{adds_stretch, two_values}
use Rattle.mn_domains.proofs.layout.Layout.add.Goals as goal

pub add_alike-requires-clause-shape : goal.add_alike-requires-clause-shape
add_alike-requires-clause-shape c =
    let low : FitsSigned w64 c.lo.result = search rules in
    let high : FitsSigned w64 c.hi.result = search rules in
    let lawful = c.requires.lawful in
    let s = rw c.in-Bounded.is at lawful.suits in
    rw (to_z-of_z w64 c.lo.result low, to_z-of_z w64 c.hi.result high)
    (adds_stretch c.args.self.now.listed.items c.args.decl.now.domain c.args.self.now.bits s.0 s.1 c.lo.result c.hi.result lawful.domain s.2 c.lo.ensures c.hi.ensures).shaped

pub add_alike-requires-in-Sparse-clause-before : goal.add_alike-requires-in-Sparse-clause-before
add_alike-requires-in-Sparse-clause-before c =
    let made = c.in_ok-shape-in-Sparse in
    (is_listed c.args.self.now c.listing.new.self (record { declared = c.args.decl.now.domain; bounded = true }) made.shape c.requires.before made.ensures.shape made.ensures.plain made.ensures.shapes).before

pub add_rows-requires-clause-suits : goal.add_rows-requires-clause-suits
add_rows-requires-clause-suits c =
    elim c.in-Binary.is [
      | inl is ↦ (let s = rw is at c.requires.lawful.suits in (pos 0, pos 1, s, two_values c.args.decl.now.domain s))
      | inr is ↦ (rw is at c.requires.lawful.suits)
    ]

pub returns-in-Bounded : goal.returns-in-Bounded
returns-in-Bounded c =
    let low : FitsSigned w64 c.lo.result = search rules in
    let high : FitsSigned w64 c.hi.result = search rules in
    let d = c.args.decl.now in
    let s = rw c.in-Bounded.is at c.requires.lawful.suits in
    let adds = adds_stretch c.args.self.now.listed.items d.domain c.args.self.now.bits s.0 s.1 c.lo.result c.hi.result c.requires.lawful.domain s.2 c.lo.ensures c.hi.ensures in
    let is : variable_held c.args.self.now.listed.items (Stretch c.lo.result c.hi.result) ≡ variable_of d = adds.holds ∙ ap (λ k. record { declared = d.domain; bounded = is_bounded k }) (sym c.in-Bounded.is) in
    let added = rw (to_z-of_z w64 c.lo.result low, to_z-of_z w64 c.hi.result high) at c.add_alike.ensures in
    subst (λ v. OnOk c.add_alike.result (IsLaid c.add_alike.new.self (laid c.args.self.now ++ replicate c.args.count v))) is added

pub returns-in_ok-shape-in-Sparse : goal.returns-in_ok-shape-in-Sparse
returns-in_ok-shape-in-Sparse c =
    let made = c.in_ok-shape-in-Sparse in
    let d = c.args.decl.now in
    let listed = is_listed c.args.self.now c.listing.new.self (record { declared = d.domain; bounded = true }) made.shape c.requires.before made.ensures.shape made.ensures.plain made.ensures.shapes in
    let is : variable_held c.listing.new.self.listed.items made.shape ≡ variable_of d = made.ensures.shape.holds ∙ ap (λ k. record { declared = d.domain; bounded = is_bounded k }) (sym c.in-Sparse.is) in
    let added = rw listed.same at c.add_alike-in-Sparse.ensures in
    subst (λ v. OnOk c.add_alike-in-Sparse.result (IsLaid c.add_alike-in-Sparse.new.self (laid c.args.self.now ++ replicate c.args.count v))) is added
