-- The names that the walks cite, and the parts of a body that they name. Assumes `Logic`.
use Rattle.std.proofs.Common.{ℕ, zero, suc, refl}
use seplogic.Ra.Ura.{Ura}
use mir.Syntax.{Body}
use prog.Wp.{Env, Calls, Loops, Wp, after_seq, after_block}
use types.Logic.{Logic}
use types.Kit.{Post, any_q, post}
use mathlib.Core.List.{List, [], ◌∷◌}
use denote.Builtin.{unit, u64}
use denote.Param.Laws.{of_field}
use denote.Param.Shared.{copy_shared}
use denote.Struct.Field.{u64-field}
use denote.Struct.Laws.{u64-laws, u64-copy}
use Rattle.core.proofs.ptr.Rows.{El}
use denote.Signature.{Slot, plain}

-- parameter k of a signature
abbrev pub slot_at : {n : ℕ} → ℕ → List (Slot n) → Slot n
slot_at k [] = plain (λ _. unit)
slot_at zero (s ∷ ss) = s
slot_at (suc k) (s ∷ ss) = slot_at k ss

module _ {M : Type 1} {𝓤 : Ura M} (𝓛 : Logic 𝓤) where
  open 𝓛 use {H}

  -- the body b runs next
  abbrev pub then_runs : Calls 𝓤 H → Loops 𝓤 H → Env 𝓤 H → Body → Post 𝓤 H → Post 𝓤 H
  then_runs C Λ E b q = any_q (after_seq 𝓤 H (Wp 𝓤 H C Λ E b (post 𝓤 H q)) (post 𝓤 H q))

  -- the block that is being run ends
  abbrev pub out_of_block : Post 𝓤 H → Post 𝓤 H
  out_of_block q = any_q (after_block 𝓤 H (post 𝓤 H q))

-- a word as the element of an array: `u64` and a parameter that stands for it lie alike in memory
abbrev pub Word : El
Word = record { row = u64; laws = of_field u64-field u64-laws refl (copy_shared u64-field u64-copy) }
