use Rattle.mn_prop.proofs.forward.ForwardCheckSupportTest.supported.Goals as goal

pub holds_with-requires-clause-left : goal.holds_with-requires-clause-left
holds_with-requires-clause-left c = (c.requires.place, c.is_other_open.ensures.alone c.if-is_other_open.false)
