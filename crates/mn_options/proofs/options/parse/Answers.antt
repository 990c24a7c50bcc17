use Rattle.std.proofs.Common.{◌≡◌, None, map, rules, string_bytes}
use Rattle.mn_options.proofs.Limited.{limit_is, wanted_has_size}
use Rattle.mn_options.proofs.Wanting.{one_source}
use Rattle.mn_options.specs.Meant.{limit_of}
use Rattle.mn_options.specs.Words.{words_behind}
use Rattle.mn_options.specs.declared.table.CommandOption.TheVariants.{NodeLimit, SolLimit}
use Rattle.mn_options.proofs.options.parse.Goals as goal

pub returns-clause-named : goal.returns-clause-named
returns-clause-named c = search (rules, one_source)

pub returns-clause-size : goal.returns-clause-size
returns-clause-size c = search (rules, wanted_has_size)

pub returns-clause-sol_limit : goal.returns-clause-sol_limit
returns-clause-sol_limit c =
    let is : c.limit_of.result ≡ limit_of SolLimit (words_behind None (map string_bytes c.args.words.now.items)) = search rules in
    limit_is SolLimit (map string_bytes c.args.words.now.items) c.limit_of.result is

pub returns-clause-node_limit : goal.returns-clause-node_limit
returns-clause-node_limit c =
    let is : c.limit_of-2.result ≡ limit_of NodeLimit (words_behind None (map string_bytes c.args.words.now.items)) = search rules in
    limit_is NodeLimit (map string_bytes c.args.words.now.items) c.limit_of-2.result is
