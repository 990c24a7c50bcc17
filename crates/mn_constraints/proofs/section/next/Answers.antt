use Rattle.std.proofs.Common.{◌≡◌, ◌<◌, Ok, length, leb, sym, ap, ap₂, ◌∙◌, subst}
use Rattle.mn_model.specs.Lawful.{IsLawful, IsLawfulCon}
use Rattle.mn_model.specs.Problem.{Problem, cells_of, domains_of}
use Rattle.mn_model.specs.declared.limits.TheConstants.{CONSTRAINTS}
use Rattle.mn_cursor.specs.Progress.{Progress, rest}
use Rattle.mn_constraints.proofs.SectionSteps.{read_stops, read_added, read_next, added_problem, added_rest}
use Rattle.mn_constraints.proofs.section.next.Goals as goal

pub add-requires-clause-lawful : goal.add-requires-clause-lawful
add-requires-clause-lawful c =
    let old = c.args.c.now in
    let full : c.is_full-full.result ≡ leb CONSTRAINTS (length old.problem.cons) = c.is_full-full.ensures ∙ ap (λ (x : Problem). leb CONSTRAINTS (length x.cons)) c.inst-3.ensures in
    let cells : c.cells-used.result ≡ cells_of old.problem = c.cells-used.ensures ∙ ap cells_of c.inst-2.ensures in
    let may = read_added c.new-scan.result old c.new-scan.ensures c.is_full-full.result full c.cells-used.result cells c.in-Ok.con (rest c.constraint-result.new.scan) c.in-Ok.ensures.gives
    (subst IsLawful c.inst.ensures c.lawful-2.ensures) c.lawful.ensures in
    let same : c.go_to.new.self.problem ≡ old.problem = ap (λ (s : Progress). s.problem) c.go_to.ensures in
    subst (λ (x : Problem). IsLawfulCon (domains_of x.decls) x.tuples c.in-Ok.con) (sym same) may.lawful

pub add-requires-clause-room : goal.add-requires-clause-room
add-requires-clause-room c =
    let old = c.args.c.now in
    let full : c.is_full-full.result ≡ leb CONSTRAINTS (length old.problem.cons) = c.is_full-full.ensures ∙ ap (λ (x : Problem). leb CONSTRAINTS (length x.cons)) c.inst-3.ensures in
    let cells : c.cells-used.result ≡ cells_of old.problem = c.cells-used.ensures ∙ ap cells_of c.inst-2.ensures in
    let may = read_added c.new-scan.result old c.new-scan.ensures c.is_full-full.result full c.cells-used.result cells c.in-Ok.con (rest c.constraint-result.new.scan) c.in-Ok.ensures.gives
    (subst IsLawful c.inst.ensures c.lawful-2.ensures) c.lawful.ensures in
    let same : c.go_to.new.self.problem ≡ old.problem = ap (λ (s : Progress). s.problem) c.go_to.ensures in
    subst (λ (x : Problem). length x.cons < CONSTRAINTS) (sym same) may.room

pub returns-in_ok-add-in-Ok-clause-gives : goal.returns-in_ok-add-in-Ok-clause-gives
returns-in_ok-add-in-Ok-clause-gives c =
    let old = c.args.c.now in
    let full : c.is_full-full.result ≡ leb CONSTRAINTS (length old.problem.cons) = c.is_full-full.ensures ∙ ap (λ (x : Problem). leb CONSTRAINTS (length x.cons)) c.inst-3.ensures in
    let cells : c.cells-used.result ≡ cells_of old.problem = c.cells-used.ensures ∙ ap cells_of c.inst-2.ensures in
    let con = c.in-Ok.con in
    let scan = c.constraint-result.new.scan in
    let moves : scan ≡ record old { left = scan.left } = subst (λ (x : Progress). scan ≡ record x { left = scan.left }) c.new-scan.ensures c.in-Ok.ensures.moves in
    read_next c.new-scan.result old c.new-scan.ensures c.is_full-full.result full c.cells-used.result cells con (rest scan) c.in-Ok.ensures.gives
    ∙ ap₂ (λ (x : Problem) us. Ok (x, us)) (added_problem old c.go_to.new.self c.add.new.self con c.left-left.result c.go_to.ensures c.in_ok-add-in-Ok.ensures.ok)
    (added_rest old c.go_to.new.self scan c.add.new.self con c.left-left.result c.go_to.ensures moves c.left-left.ensures.number c.in_ok-add-in-Ok.ensures.ok)

pub returns-in-Err-clause-gives : goal.returns-in-Err-clause-gives
returns-in-Err-clause-gives c =
    let old = c.args.c.now in
    let full : c.is_full-full.result ≡ leb CONSTRAINTS (length old.problem.cons) = c.is_full-full.ensures ∙ ap (λ (x : Problem). leb CONSTRAINTS (length x.cons)) c.inst-3.ensures in
    let cells : c.cells-used.result ≡ cells_of old.problem = c.cells-used.ensures ∙ ap cells_of c.inst-2.ensures in
    read_stops c.new-scan.result old c.new-scan.ensures c.is_full-full.result full c.cells-used.result cells c.in-Err.stop c.in-Err.ensures.gives
