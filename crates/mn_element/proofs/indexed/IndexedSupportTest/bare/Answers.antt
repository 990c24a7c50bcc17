use Rattle.std.proofs.Common.{refl}
use Rattle.mn_element.proofs.Closing.{filled}
use Rattle.mn_element.proofs.Supporting.{is_indexed}
use Rattle.mn_element.proofs.indexed.IndexedSupportTest.bare.Goals as goal

pub returns : goal.returns
returns c = let s = c.args.self.now in (λ e none. absurd (filled (is_indexed s.form s.v.now s.x s.y) none), λ f. refl)
