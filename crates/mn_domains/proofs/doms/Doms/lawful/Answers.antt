use Rattle.mn_domains.proofs.BoxLemmas.{are_boxes}
use Rattle.mn_domains.proofs.doms.Doms.lawful.Goals as goal

pub returns : goal.returns
returns c = are_boxes c.self.inside.listed.items c.self.inside.shapes.items c.self.inside.current c.self.inside.saved.items c.args.self.now c.self.view_is c.self.invariant
