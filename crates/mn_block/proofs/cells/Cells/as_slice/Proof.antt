-- `as_slice` reads the pointer and the count through a `&`. Assumes `Logic`.
use Rattle.std.proofs.Common.{◌≡◌, ℕ, ◌+◌, ◌*◌, ◌^◌, ◌<◌, List, [], ◌∷◌, length, refl, sym, subst}
use mir.Syntax.{named}
use mir.Val.{Val, vptr}
use base.Fml.{Lft, Share, ftrue, fhide, flft}
use prog.Wp.{Env}
use contract.Monad.{fact}
use contract.Running.{tables}
use types.Kit.{‵, raw, ◌⊛◌, at_ret, ◌$◌, ◌∵◌, !, qed, move, keep, use1, drop, split, join, fsplit, fjoin, feq_i, flt_i, suffices, frame, done}
use types.Part.{agg}
use types.Run.{look, fld, stop, load, no_more, and_then, of_opd, first, blocks, exec, returns, enter}
use types.ByLocal.{alloc_all, pass_all, free_all, look_at, get, through, sets, sets_last, env}
use denote.Memory.{hidden_shr}
use denote.Opens.{shr_dup, unhide, hide}
use denote.Slice.{slice_val}
use denote.RawPtr.{block_of, count_of, InBlock}
use denote.Ref.{ShrRef, shr_vals, shr_Tells}
use denote.Signature.{plain}
use denote.Steps.{heard, nothing}
use denote.Struct.Lending.{in_block_says, lent_out}
use denote.Exit.{yes}
use denote.Triple.Walked.{Stays, says, stay_none_ref, walk_of, ends_at, Goes-none_ref}
use Rattle.std_alloc.proofs.Words.{word_in, word_out, pointer_in, pointer_out}
use Rattle.core.proofs.alloc.Shapes.{after}
use Rattle.std.proofs.raw_atomic.Walks.{proved}
use Rattle.mn_block.proofs.Fields.{Fields, fields_of, cells_laws, shows_ptr, shows_len}
use Rattle.mn_block.specs.declared.cells.Cells.{Cells}
use Rattle.mn_block.specs.contracts.cells.Cells as C
use Rattle.mn_block.specs.contracts.cells.Cells.as_slice as f
use Rattle.mn_block.proofs.cells.Cells.as_slice.Statement.{statement}
use Rattle.mn_block.proofs.cells.Cells.as_slice.Code as code

abbrev stayed : Stays f.ended.signature.params f.ended.kept
stayed = (stay_none_ref (0 ∷ []) tt (plain (λ _. C.the_row)) yes, tt)

pub as_slice_spec : {M : Type 1} → statement M
as_slice_spec 𝓤 𝓛 𝓜 𝓡 wired =
    let c = f.clauses 𝓛 𝓜.mem 𝓡.returns in let W = walk_of 𝓛 f.ended stayed c in let 𝓣 = tables 𝓤 𝓛.H 𝓜 𝓡 𝓡.env in
    proved 𝓛 f.ended stayed c 𝓜 𝓡 (Goes-none_ref 𝓛 1 (0 ∷ []) tt (plain (λ _. C.the_row)) yes, tt)
    f.Key.name code.function (code.unfolded 𝓤 𝓛.H 𝓜 𝓡 wired)
    (λ κs. (shr_vals, tt)) (λ κs. (shr_Tells (named 0) κs.0 C.the_row, tt)) (λ κs qs bounds a _ are.
    let κ : Lft = κs.0 in let q : Share = qs.0 in let b : ℕ = a.0.ref_ptr.0 in let o : ℕ = a.0.ref_ptr.1 in let d : Cells = a.0.now in
    let y : W.Ghost = ((κs, qs, bounds, a, (shr_vals a.0, tt)), tt) in
    let at : ℕ × ℕ = (block_of d.ptr, count_of d.ptr) in
    let lens : length d.words ≡ d.len = sym d.fits.0 in
    let small : d.len * 8 < 2 ^ 63 = d.fits.1 in
    qed 𝓛 (((‵ (flft κ q) ⊛ ‵ ftrue) ⊛ ‵ ((ShrRef (named 0) κ C.the_row).own_val a.0 (shr_vals a.0)) ⊛ ‵ ftrue) ∷ ‵ ftrue ∷ []) ∵
    split ! $ split ! $ move ! (2 ∷ []) $ split ! $ keep ! (0 ∷ 2 ∷ []) $
    enter ! _ _ _ _ _ $ alloc_all ! (λ l. pass_all ! refl ((tt, tt), tt) $ let En : Env 𝓤 𝓛.H = env (code.function).locals l in
    fsplit ! $ drop ! $ shr_dup ! C.the_row cells_laws d b o κ $
    use1 𝓛 (‵ (hidden_shr Fields κ (fields_of d) b o) ⊛ ‵ (fhide (C.the_lent d d.ptr κ))) (lent_out 𝓛 C.struct C.the_codes C.the_heap C.the_lent κ d b o) $ split ! $
    move ! (1 ∷ []) $ unhide ! $ fsplit ! $ use1 𝓛 (raw (fact 𝓤 (InBlock d.ptr))) (in_block_says 𝓛 d.ptr) $ heard ! (InBlock d.ptr) (λ inb. fsplit ! $ drop ! $ hide ! $
    -- [the elements; the fields; the `&`; the token]
    move ! (1 ∷ 3 ∷ []) $ first ! $ blocks ! $
    pointer_in ! tt d.ptr inb b (o + 0) (shows_ptr 𝓛 κ b o d) (λ q0.
    sets ! (of_opd ! (load ! (through ! refl (fld ! refl (stop !))) (look ! 1 refl))) refl (tt, tt) $
    pointer_out ! tt d.ptr inb b (o + 0) $ move ! (1 ∷ 0 ∷ []) $
    word_in ! tt d.len b (o + 8) (shows_len 𝓛 κ b o d) (λ q1 fn.
    sets ! (of_opd ! (load ! (through ! refl (fld ! refl (stop !))) (look ! 1 refl))) refl (tt, record { fits = fn }) $
    word_out ! tt d.len b (o + 8) fn $
    sets_last ! (agg ! (and_then ! (get ! refl) (and_then ! (get ! refl) (no_more !)))) refl (tt, (tt, (record { fits = fn }, tt))) $
    exec ! 𝓣.C 𝓣.Λ En (after 1 (code.function).body) (at_ret En (W.post y)) $
    sets ! (of_opd ! (get ! refl)) refl (tt, (tt, (record { fits = fn }, tt))) $
    returns ! (look_at ! 0 refl) $ free_all ! refl $
    -- [the token; the fields; the elements; the `&`]
    keep ! (0 ∷ 3 ∷ 2 ∷ []) $
    suffices ! _ (ends_at 𝓛 f.ended stayed c y (slice_val at d.len) (record { ref_ptr = at; now = d.words }) (tt, tt) (tt, tt)) $ says ! refl $
    nothing ! $ move ! (1 ∷ 0 ∷ []) $ join ! $ frame ! $ feq_i ! (List Val) (vptr b o ∷ []) (vptr b o ∷ []) refl $ fjoin ! $ nothing ! $ move ! (1 ∷ 0 ∷ []) $ fjoin ! $ frame ! $
    flt_i ! (length d.words * 8) (2 ^ 63) (subst (λ (k : ℕ). k * 8 < 2 ^ 63) (sym lens) small) $ flt_i ! (length d.words) (2 ^ 64) (subst (λ (k : ℕ). k < 2 ^ 64) (sym lens) fn) $ fjoin ! $
    feq_i ! (List Val) (slice_val at d.len ∷ []) (slice_val at (length d.words) ∷ []) (subst (λ (k : ℕ). slice_val at d.len ∷ [] ≡ slice_val at k ∷ []) (sym lens) refl) $ fjoin ! $ fjoin ! $ done !)))))
