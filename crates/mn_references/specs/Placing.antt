-- What the code reads of entries.
use Rattle.std.proofs.Common.{inl, inr}
use Rattle.mn_model.specs.Name.{IsName}
use Rattle.mn_model.specs.Problem.{Problem}
use Rattle.mn_references.specs.Aims.{aim_seen}
use Rattle.mn_references.specs.Entries.{Place, at_number, placed, constant, denied}
use Rattle.mn_references.specs.Lookups.{found_seen}
use Rattle.mn_references.specs.Referring.{EntryStart}
use Rattle.mn_references.specs.declared.entries.Placed.{Placed}
use Rattle.mn_references.specs.declared.entries.Placed.TheVariants.{Named, Constant, Denied}
use Rattle.mn_references.specs.declared.entries.Placing.{Placing}
use Rattle.mn_references.specs.declared.scan.Start.{Start}
use Rattle.mn_references.specs.declared.scan.Start.TheVariants as start

-- the first token of an entry
abbrev pub start_seen : Start → EntryStart
start_seen (start.Name bytes) = inl bytes.now
start_seen (start.Number z) = inr (inl z)
start_seen start.Bang = inr (inr tt)

-- a name is one
abbrev pub IsStartName : Start → Type 0
IsStartName (start.Name bytes) = IsName bytes.now
IsStartName _ = Unit {0}

-- what is wanted of an entry
abbrev pub place_seen : Problem → Placing → Place
place_seen p w = record { first = w.first; number = at_number w.bits; aim = aim_seen p w.aim }

-- what an entry stands for
abbrev pub placed_seen : Placed → Rattle.mn_references.specs.Entries.Placed
placed_seen (Named r) = placed (found_seen r)
placed_seen (Constant z) = constant z
placed_seen (Denied r) = denied (found_seen r)
