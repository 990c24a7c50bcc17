-- What stops a part stops the whole.
use Rattle.std.proofs.Common.{◌≡◌, Err}
use Rattle.mn_grammar.specs.Reading.{Answer}
use Rattle.mn_grammar.specs.Gives.{Stops}
use Rattle.mn_grammar.specs.declared.Fault.{Fault}
use Rattle.mn_grammar.specs.declared.Stop.{Stop}
use Rattle.mn_grammar.specs.declared.Stop.TheVariants.{Refused, NoMemory}

pub stops_whole : {V W : Type 0} (e : Stop) (part : Answer V) (all : Answer W) → ((f : Fault) → part ≡ Err f → all ≡ Err f) → Stops e part → Stops e all
stops_whole (Refused f) part all fails stops = fails f stops
stops_whole NoMemory part all fails stops = tt
