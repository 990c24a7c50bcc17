use Rattle.std.proofs.Common.{◌≡◌, ap}
use Rattle.std.proofs.lemmas.Result.{err_from_is_err_and}
use Rattle.mn_cursor.specs.Progress.{Progress, rest}
use Rattle.mn_references.specs.Listing.{listed_seen}
use Rattle.mn_constraints.proofs.FormSteps.{bit_comma_stops, bit_term_stops, bit_close_stops, bit_reads}
use Rattle.mn_constraints.proofs.nested.bit.Goals as goal

pub returns-in_err-mark-clause-gives : goal.returns-in_err-mark-clause-gives
returns-in_err-mark-clause-gives c =
    let p = err_from_is_err_and c.from_residual.result c.from_residual.ensures.1 in
    rw (p.1, p.2) (bit_comma_stops c.args.scan.now.problem (rest c.args.scan.now) c.in_err-mark.field-0.0 c.in_err-mark.ensures.gives)

pub returns-in_err-listed-clause-gives : goal.returns-in_err-listed-clause-gives
returns-in_err-listed-clause-gives c =
    let p = err_from_is_err_and c.from_residual-in_err-listed.result c.from_residual-in_err-listed.ensures.1 in
    let same : c.mark.new.self.problem ≡ c.args.scan.now.problem = ap (λ (s : Progress). s.problem) c.in_ok-mark.ensures.moves in
    rw (p.1, p.2)
    (bit_term_stops c.args.scan.now.problem (rest c.args.scan.now) (rest c.mark.new.self) c.in_ok-mark.ensures.gives c.mark.new.self.problem same
    c.in_err-listed.field-0.0 c.in_err-listed.ensures.gives)

pub returns-in_err-mark-2-clause-gives : goal.returns-in_err-mark-2-clause-gives
returns-in_err-mark-2-clause-gives c =
    let p = err_from_is_err_and c.from_residual-in_err-mark-2.result c.from_residual-in_err-mark-2.ensures.1 in
    let same : c.mark.new.self.problem ≡ c.args.scan.now.problem = ap (λ (s : Progress). s.problem) c.in_ok-mark.ensures.moves in
    rw (p.1, p.2)
    (bit_close_stops c.args.scan.now.problem (rest c.args.scan.now) (rest c.mark.new.self) c.in_ok-mark.ensures.gives c.mark.new.self.problem same
    (listed_seen c.in_ok-listed.listed) (rest c.term.new.scan) c.in_ok-listed.ensures.gives c.kind_of.result c.kind_of.ensures
    c.in_err-mark-2.field-0.0 c.in_err-mark-2.ensures.gives)

pub returns-clause-gives : goal.returns-clause-gives
returns-clause-gives c =
    let same : c.mark.new.self.problem ≡ c.args.scan.now.problem = ap (λ (s : Progress). s.problem) c.in_ok-mark.ensures.moves in
    bit_reads c.args.scan.now.problem (rest c.args.scan.now) (rest c.mark.new.self) c.in_ok-mark.ensures.gives c.mark.new.self.problem same
    (listed_seen c.in_ok-listed.listed) (rest c.term.new.scan) c.in_ok-listed.ensures.gives c.kind_of.result c.kind_of.ensures
    (rest c.mark-2.new.self) c.only.result c.in_ok-mark-2.ensures.gives c.only.ensures
