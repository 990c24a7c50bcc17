-- What a `&` to the fields of `Cells` shows of each. Assumes `Logic`.
use Rattle.std.proofs.Common.{ℕ, ◌+◌, [], ◌∷◌}
use seplogic.Ra.Ura.{Ura}
use mir.Syntax.{w64}
use base.Logic.{ent, sep}
use base.Fml.{Lft, Fml}
use types.Logic.{Logic, sem}
use types.Kit.{‵, ◌$◌, ◌∵◌, !, qed, keep, drop, fsplit, done}
use denote.Array.{Array, Array-row_laws}
use denote.Builtin.{u64, usize}
use denote.RattleType.{RattleType, RowLaws}
use denote.Memory.{hidden_shr}
use denote.Opens.{shr_dup, unhide, hide}
use denote.Plain.{uint_row_laws}
use denote.RawPtr.{RawPtr, ptr_row_laws}
use denote.SharingLaws.{beside_shr_laws}
use denote.Struct.Lending.{lent_at, lent_at_shr_laws}
use denote.Struct.Struct.{Struct, Struct-row_laws}
use denote.Struct.Owning.{shape}
use Rattle.mn_block.specs.declared.cells.Cells.{Cells}
use Rattle.mn_block.specs.contracts.cells.Cells as C

-- the pointer and the count
abbrev pub Fields : RattleType
Fields = Struct (shape C.the_type)

abbrev pub fields_of : Cells → Fields.Denot
fields_of d = (d.ptr, (d.len, tt))

pub fields_laws : RowLaws Fields
fields_laws = Struct-row_laws (shape C.the_type) (ptr_row_laws, (uint_row_laws w64, tt))

pub cells_laws : RowLaws C.the_row
cells_laws d b o = beside_shr_laws (Fields.shr_at (fields_of d) b o) (lent_at (Array u64 d.len) d.ptr d.words) (fields_laws (fields_of d) b o) (lent_at_shr_laws (Array u64 d.len) (Array-row_laws u64 (uint_row_laws w64) d.len) d.ptr d.words)

module _ {M : Type 1} {𝓤 : Ura M} (𝓛 : Logic 𝓤) (κ : Lft) (b o : ℕ) (d : Cells) where
  abbrev S : Fml
  S = hidden_shr Fields κ (fields_of d) b o

  pub shows_ptr : ent 𝓤 (sem 𝓛 S) (sep 𝓤 (sem 𝓛 (hidden_shr RawPtr κ d.ptr b (o + 0))) (sem 𝓛 S))
  shows_ptr = qed 𝓛 (‵ S ∷ []) ∵ shr_dup ! Fields fields_laws (fields_of d) b o κ $ unhide ! $ fsplit ! $ fsplit ! $ hide ! $ keep ! (0 ∷ 3 ∷ []) $ done !

  pub shows_len : ent 𝓤 (sem 𝓛 S) (sep 𝓤 (sem 𝓛 (hidden_shr usize κ d.len b (o + 8))) (sem 𝓛 S))
  shows_len = qed 𝓛 (‵ S ∷ []) ∵ shr_dup ! Fields fields_laws (fields_of d) b o κ $ unhide ! $ fsplit ! $ fsplit ! $ drop ! $ fsplit ! $ hide ! $ keep ! (0 ∷ 3 ∷ []) $ done !
