use Rattle.mn_options.proofs.Unbroken.{lawful, unbroken}
use Rattle.mn_options.specs.Words.{words_of}
use Rattle.mn_options.proofs.laws.lawful_words_break_no_rule.Goals as goal

pub returns : goal.returns
returns c = λ words. (lawful (words_of words), unbroken (words_of words))
