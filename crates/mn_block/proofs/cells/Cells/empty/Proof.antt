-- `empty` points to a local of no words. Assumes `Logic`.
use Rattle.std.proofs.Common.{◌≡◌, [], ◌∷◌, refl, lit<}
use mir.Syntax.{Fn}
use mir.Val.{Val}
use base.Fraction.{full_share}
use base.Logic.{SProp, emp}
use base.Fml.{ftrue}
use contract.Monad.{fact, fact_i}
use contract.Running.{tables}
use types.Kit.{‵, raw, ◌⊛◌, ◌$◌, ◌∵◌, !, qed, by, move, drop, use0, split, fjoin}
use types.Part.{agg}
use types.Run.{stop, from, lit, addr, no_more, and_then, returns, enter}
use types.ByLocal.{alloc_all, pass_all, free_all, look_at, get, sets}
use denote.RattleType.{owns}
use denote.Array.{Array}
use denote.Builtin.{u64}
use denote.RawPtr.{Ptr, block_ptr, lies_at}
use denote.Signature.{types_at}
use denote.Steps.{nothing}
use denote.Triple.Entry.{alive}
use denote.Triple.Walked.{Stays, walk_of}
use Rattle.std.proofs.raw_atomic.Walks.{proved_at, leaves}
use Rattle.mn_block.proofs.Steps.{Word}
use Rattle.core.proofs.ptr.Rows.{empty}
use Rattle.mn_block.proofs.Values.{row_val, row_own, row_made}
use Rattle.mn_block.specs.contracts.cells.Cells as cells
use Rattle.mn_block.specs.contracts.cells.Cells.empty.{ended, clauses}
use Rattle.mn_block.specs.contracts.cells.Cells.empty.Key.{name as #self}
use Rattle.mn_block.proofs.cells.Cells.empty.Statement.{statement}
use Rattle.mn_block.proofs.cells.Cells.empty.Code as compiled

pub empty_spec : {M : Type 1} → statement M
empty_spec 𝓤 𝓛 𝓜 𝓡 wired =
    let H = 𝓛.H in
    let c = clauses 𝓛 𝓜.mem 𝓡.returns in
    let fn : Fn = compiled.function in
    let stays : Stays ended.signature.params ended.kept = tt in
    let C = (tables 𝓤 H 𝓜 𝓡 𝓡.env).C in
    let Λ = (tables 𝓤 H 𝓜 𝓡 𝓡.env).Λ in
    proved_at 𝓛 ended stays c 𝓜 𝓡 tt #self fn (compiled.unfolded 𝓤 H 𝓜 𝓡 wired) (λ z are.
    let Post : Val → SProp 𝓤 = (walk_of 𝓛 ended stays c).post z in
    qed 𝓛 ((raw (alive 𝓛 ended.signature z.0.0 z.0.1) ⊛ ‵ (owns (types_at ended.signature.params z.0.0) z.0.3 z.0.4)) ∷ ‵ ftrue ∷ []) ∵ split ! $ move ! (1 ∷ []) $ drop ! $ move ! (1 ∷ []) $ drop ! $
    enter ! C Λ fn [] Post $
    alloc_all ! (λ l. pass_all ! refl tt $
    sets ! (agg ! (no_more !)) refl (tt, tt) $
    sets ! (addr ! (from ! (stop !))) refl (tt, tt) $
    sets ! (agg ! (and_then ! (get ! refl) (and_then ! (lit ! tt) (no_more !)))) refl (tt, (tt, (record { fits = lit< tt }, tt))) $
    returns ! (look_at ! 0 refl) $ free_all ! refl $
    let p : Ptr = block_ptr (l 1) 0 in let x : (cells.the_row).Denot = record { ptr = p; len = 0; words = []; fits = (refl, lit< tt) } in
    use0 𝓛 (‵ (lies_at (Array u64 0) full_share p [])) (empty Word 𝓛 [] (l 1) 0 refl) $
    use0 𝓛 (‵ (row_own p 0 (row_val p 0 ∷ []))) (row_made 𝓛 p 0 (lit< tt)) $ fjoin ! $ use0 𝓛 (raw (fact 𝓤 (x.words ≡ []))) (fact_i 𝓤 (x.words ≡ []) (emp 𝓤) refl) $ nothing ! $ move ! (3 ∷ 0 ∷ 2 ∷ 1 ∷ []) $
    by ! (leaves 𝓛 ended stays c z (row_val p 0) x tt tt)))
