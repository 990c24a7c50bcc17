use Rattle.mn_domains.proofs.Unmarking.{kept_restored}
use Rattle.mn_domains.proofs.doms.Doms.restore.Goals as goal

pub invariant_of-self : goal.invariant_of-self
invariant_of-self c = kept_restored c.self.inside.listed.items c.self.inside.shapes.items c.self.inside.current c.in-Some.last c.self.inside.saved.items c.pop.new.self.items c.self.invariant c.in-Some.ensures.items
