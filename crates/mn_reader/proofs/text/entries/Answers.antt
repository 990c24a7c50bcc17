use Rattle.std.proofs.Common.{Ok, sym, subst}
use Rattle.mn_cursor.specs.Progress.{rest}
use Rattle.mn_reader.specs.TextProgress.{ReadsEntries, stated_of}
use Rattle.mn_reader.proofs.TextSteps.{variables_read, lists_read, search_read, constraints_read, ends_behind}
use Rattle.mn_reader.proofs.text.entries.Goals as goal

pub returns-in-Variables-clause-reads : goal.returns-in-Variables-clause-reads
returns-in-Variables-clause-reads c =
    subst (λ h. ReadsEntries h c.args.c.now c.variables.new.c c.variables.result) (sym c.in-Variables.is)
    (variables_read c.args.c.now c.variables.new.c c.variables.result c.variables.ensures.goes_on c.variables.ensures.reads)

pub returns-in-TupleList-clause-reads : goal.returns-in-TupleList-clause-reads
returns-in-TupleList-clause-reads c =
    subst (λ h. ReadsEntries h c.args.c.now c.tuplelist.new.c c.tuplelist.result) (sym c.in-TupleList.is)
    (lists_read c.args.c.now c.tuplelist.new.c c.tuplelist.result c.tuplelist.ensures.goes_on c.tuplelist.ensures.reads)

pub returns-in-Search-clause-reads : goal.returns-in-Search-clause-reads
returns-in-Search-clause-reads c =
    subst (λ h. ReadsEntries h c.args.c.now c.search.new.c c.search.result) (sym c.in-Search.is)
    (search_read c.args.c.now c.search.new.c c.search.result c.search.ensures.reads)

pub returns-in-Constraints-clause-reads : goal.returns-in-Constraints-clause-reads
returns-in-Constraints-clause-reads c =
    subst (λ h. ReadsEntries h c.args.c.now c.constraints.new.c c.constraints.result) (sym c.in-Constraints.is)
    (constraints_read c.args.c.now c.constraints.new.c c.constraints.result c.constraints.ensures.goes_on c.constraints.ensures.reads)

pub returns-in-End-clause-reads : goal.returns-in-End-clause-reads
returns-in-End-clause-reads c =
    subst (λ h. ReadsEntries h c.args.c.now c.args.c.now (Ok (tt {0}))) (sym c.in-End.is) (ends_behind (stated_of c.args.c.now) (rest c.args.c.now))
