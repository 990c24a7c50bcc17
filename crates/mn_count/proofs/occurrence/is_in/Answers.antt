use Rattle.std.proofs.Common.{◌≡◌, ◌≤ℤ◌, refl, sym, true≢false, arith, length}
use Rattle.std.proofs.lemmas.Int.{ints}
use Rattle.mn_boxes.specs.Boxes.{set_of}
use Rattle.mn_boxes.proofs.Quiet.{ascends_at}
use Rattle.mn_model.specs.Variable.{number_of}
use Rattle.mn_prop.specs.Contexts.{box_of, vars_of}
use Rattle.mn_count.proofs.Whole.{all_there}
use Rattle.mn_count.proofs.occurrence.is_in.Goals as goal
use Rattle.mn_count.proofs.occurrence.is_in.Goals.{then-k-lo-via-then-k-lo, then-k-lo-via-else-k-lo+then-hi-k}

pub returns-then-k-lo : goal.returns-then-k-lo
returns-then-k-lo c = (
  λ never. absurd (true≢false (sym never)),
  λ there.
      let low : c.lo-lo.result ≤ℤ c.args.k = c.lo-lo.ensures.least.least c.args.k there in
      let high : c.args.k ≤ℤ c.hi-hi.result = c.hi-hi.ensures.greatest.greatest c.args.k there in
      elim c.then-k-lo.branch [
        | then-k-lo-via-then-k-lo w ↦ absurd (omega (arith, ints, w.if-k-lo.true))
        | then-k-lo-via-else-k-lo+then-hi-k w ↦ absurd (omega (arith, ints, w.if-hi-k.true))
      ],
)

pub returns-then-abs_diff-size : goal.returns-then-abs_diff-size
returns-then-abs_diff-size c =
    let same : length (set_of c.doms.result.now.now.sets (number_of c.args.v)) ≡ length (set_of (box_of c.args.c.now) (number_of c.args.v)) = λ i. length (set_of (c.doms.ensures i).now.sets (number_of c.args.v)) in (
      λ always. all_there (set_of (box_of c.args.c.now) (number_of c.args.v)) c.lo-lo.result c.hi-hi.result c.args.k
          (ascends_at (vars_of c.args.c.now) (box_of c.args.c.now) (number_of c.args.v) c.lawful.ensures.boxes.now)
          c.lo-lo.ensures.least.least c.hi-hi.ensures.greatest.greatest
          (omega (arith, ints, same, c.abs_diff.ensures, c.size.ensures, c.if-abs_diff-size.true))
          (omega (arith, ints, c.if-k-lo.false)) (omega (arith, ints, c.if-hi-k.false)),
      λ there. refl,
    )
