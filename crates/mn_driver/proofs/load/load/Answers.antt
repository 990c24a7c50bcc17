use Rattle.std.proofs.Common.{sym, subst, List, ℕ}
use Rattle.mn_outside.specs.Reading.{IsFileAt}
use Rattle.mn_driver.specs.Loads.{Unloads}
use Rattle.mn_driver.specs.Sources.{Named}
use Rattle.mn_driver.specs.declared.load.Unloaded.{Unloaded}
use Rattle.mn_driver.proofs.Loading.{faulted, loaded, unread_so}
use Rattle.mn_driver.proofs.load.load.Goals as goal

pub returns-in-Err-clause-unloaded : goal.returns-in-Err-clause-unloaded
returns-in-Err-clause-unloaded g c =
    subst (λ (why : Unloaded). Unloads (g.F.Files.content c.args.files.now) (Named c.args.name.now) why) (sym c.unfetched.ensures)
    (faulted (g.F.Files.content c.args.files.now) c.args.name.now c.in-Err.fault c.in-Err.ensures.too_long)

pub returns-in-Ok-read-clause-model : goal.returns-in-Ok-read-clause-model
returns-in-Ok-read-clause-model g c =
    loaded c.one_instance.ensures (g.F.Files.content c.args.files.now) c.args.name.now c.as_slice-bytes.result.now c.in-Ok-read.inst c.lawful.ensures
    (subst (λ (bytes : List ℕ). IsFileAt (g.F.Files.content c.args.files.now) c.args.name.now bytes) (sym c.as_slice-bytes.ensures.value) c.in-Ok.ensures.whole) c.in-Ok-read.ensures.reads

pub returns-clause-unloaded : goal.returns-clause-unloaded
returns-clause-unloaded g c =
    subst (λ (why : Unloaded). Unloads (g.F.Files.content c.args.files.now) (Named c.args.name.now) why) (sym c.unread.ensures)
    (unread_so (g.F.Files.content c.args.files.now) c.args.name.now c.as_slice-bytes.result.now
    (subst (λ (bytes : List ℕ). IsFileAt (g.F.Files.content c.args.files.now) c.args.name.now bytes) (sym c.as_slice-bytes.ensures.value) c.in-Ok.ensures.whole)
    c.in-Err-read.why c.in-Err-read.ensures.refused)
