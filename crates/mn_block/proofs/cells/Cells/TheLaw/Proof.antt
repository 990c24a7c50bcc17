-- A `&` to the cells is made where one to a word is. Assumes `Logic`.
use mir.Syntax.{w64}
use denote.Array.{Array, Array-row_laws}
use denote.Builtin.{u64}
use denote.Plain.{uint_row_laws}
use denote.Param.Shared.{copy_shared}
use denote.Shares.{Shares-Array}
use denote.Struct.Field.{RawPtr-field, usize-field, u64-field}
use denote.Struct.Laws.{RawPtr-copy, usize-copy, u64-copy}
use denote.Struct.Lending.{Lends-lies, lent_at_shr_laws, of_Lends}
use Rattle.mn_block.specs.contracts.cells.Cells as C
use Rattle.mn_block.proofs.cells.Cells.TheLaw.Statement.{statement}

pub shares : statement
shares = of_Lends C.struct C.the_codes C.the_heap C.the_lent (λ d p. lent_at_shr_laws (Array u64 d.len) (Array-row_laws u64 (uint_row_laws w64) d.len) d.ptr d.words)
    (copy_shared RawPtr-field RawPtr-copy, (copy_shared usize-field usize-copy, tt))
    (λ M 𝓤 𝓛 d p. Lends-lies 𝓛 (Array u64 d.len) (C.the_row).lives d.ptr d.words
    (Shares-Array 𝓛 u64 tt d.len (C.the_row).lives ((copy_shared u64-field u64-copy).shares M 𝓤 𝓛) d.words))
