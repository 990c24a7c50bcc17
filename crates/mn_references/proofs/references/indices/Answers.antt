use Rattle.std.proofs.Common.{◌≡◌, Ok, ap, ◌∙◌, subst, refl}
use Rattle.std.proofs.lemmas.Result.{err_from_is_err_and}
use Rattle.mn_lexer.specs.declared.marks.Mark.TheVariants.{CloseSquare}
use Rattle.mn_grammar.specs.Lists.{turn_at, items_at}
use Rattle.mn_grammar.specs.Gives.{Stops}
use Rattle.mn_model.specs.Problem.{Problem}
use Rattle.mn_references.specs.Aims.{aim_seen}
use Rattle.mn_references.specs.Lookups.{found_seen, lead_seen, subs_turn, within_seen, IsOn}
use Rattle.mn_cursor.specs.Progress.{Progress, rest}
use Rattle.mn_references.specs.References.{Within, sub_ends, found_at}
use Rattle.mn_references.specs.Referring.{sub_at, subs_at}
use Rattle.mn_references.specs.declared.references.Step.{Step}
use Rattle.mn_references.proofs.Stepping.{subs_on, subs_done, subs_stop, subs_start, moves_on}
use Rattle.mn_references.proofs.references.indices.Goals as goal

pub loop-next-init : goal.loop-next-init
loop-next-init c =
    let aim = aim_seen c.args.scan.now.problem c.args.aim in
    let l = lead_seen c.args.lookup.now in
    record {
      same = ap (λ (w : Within). items_at CloseSquare (sub_ends aim l) (found_at l) (sub_at aim) w (rest c.args.scan.now)) c.in_ok-indices.ensures.seen
          ∙ subs_start aim l (rest c.args.scan.now);
      moves = refl;
      inside = c.in_ok-indices.ensures.inside;
      size = c.in_ok-indices.ensures.size;
    }

pub returns-in_err-next-clause-gives : goal.returns-in_err-next-clause-gives
returns-in_err-next-clause-gives c =
    let aim = aim_seen c.args.scan.now.problem c.args.aim in
    let l = lead_seen c.args.lookup.now in
    let problem : c.loop-next.scan.problem ≡ c.args.scan.now.problem = ap (λ (s : Progress). s.problem) c.loop-next.invariant.moves in
    let stops = subst (λ (p : Problem). Stops c.in_err-next.field-0.0 (turn_at CloseSquare (sub_ends (aim_seen p c.args.aim) l) (found_at l) (sub_at (aim_seen p c.args.aim)) (within_seen c.loop-next.indices) (rest c.loop-next.scan))) problem c.in_err-next.ensures.gives in
    let p = err_from_is_err_and c.from_residual-in_err-next.result c.from_residual-in_err-next.ensures.1 in
    rw (p.1, p.2) (subs_stop aim l (within_seen c.loop-next.indices) (rest c.loop-next.scan) c.in_err-next.field-0.0 (subs_at aim l (rest c.args.scan.now)) stops c.loop-next.invariant.same)

pub loop-next-preserved : goal.loop-next-preserved
loop-next-preserved c =
    let aim = aim_seen c.args.scan.now.problem c.args.aim in
    let l = lead_seen c.args.lookup.now in
    let problem : c.loop-next.scan.problem ≡ c.args.scan.now.problem = ap (λ (s : Progress). s.problem) c.loop-next.invariant.moves in
    let turned = subst (λ (p : Problem). turn_at CloseSquare (sub_ends (aim_seen p c.args.aim) l) (found_at l) (sub_at (aim_seen p c.args.aim)) (within_seen c.loop-next.indices) (rest c.loop-next.scan) ≡ Ok (subs_turn c.in_ok-next.field-0, rest c.turn.new.scan)) problem c.in_ok-next.ensures.gives in
    let on = subst (λ (s : Step). IsOn c.args.lookup.now.size s) c.in-On.is c.in_ok-next.ensures.on in
    record {
      same = subs_on aim l (within_seen c.loop-next.indices) (within_seen c.in-On.next) (rest c.loop-next.scan) (rest c.turn.new.scan) (subs_at aim l (rest c.args.scan.now))
          (turned ∙ ap (λ (s : Step). Ok (subs_turn s, rest c.turn.new.scan)) c.in-On.is) c.loop-next.invariant.same;
      moves = moves_on c.args.scan.now c.loop-next.scan c.turn.new.scan c.loop-next.invariant.moves c.in_ok-next.ensures.moves;
      inside = on.0;
      size = on.1;
    }

pub returns-in-Done-clause-gives : goal.returns-in-Done-clause-gives
returns-in-Done-clause-gives c =
    let aim = aim_seen c.args.scan.now.problem c.args.aim in
    let l = lead_seen c.args.lookup.now in
    let problem : c.loop-next.scan.problem ≡ c.args.scan.now.problem = ap (λ (s : Progress). s.problem) c.loop-next.invariant.moves in
    let turned = subst (λ (p : Problem). turn_at CloseSquare (sub_ends (aim_seen p c.args.aim) l) (found_at l) (sub_at (aim_seen p c.args.aim)) (within_seen c.loop-next.indices) (rest c.loop-next.scan) ≡ Ok (subs_turn c.in_ok-next.field-0, rest c.turn.new.scan)) problem c.in_ok-next.ensures.gives in
    subs_done aim l (within_seen c.loop-next.indices) (found_seen c.in-Done.reference) (rest c.loop-next.scan) (rest c.turn.new.scan) (subs_at aim l (rest c.args.scan.now))
    (turned ∙ ap (λ (s : Step). Ok (subs_turn s, rest c.turn.new.scan)) c.in-Done.is) c.loop-next.invariant.same
