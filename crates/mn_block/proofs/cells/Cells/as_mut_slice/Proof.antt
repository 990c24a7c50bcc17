-- `as_mut_slice` lends the words, and the cells follow them. Assumes `Logic`.
use Rattle.std.proofs.Common.{◌≡◌, ℕ, ◌*◌, ◌^◌, ◌<◌, List, [], ◌∷◌, length, refl, sym, subst, ap, ◌∙◌}
use seplogic.Ra.Ura.{Ura}
use base.Fraction.{full_share}
use mir.Syntax.{named}
use mir.Val.{Val}
use base.Logic.{ent, sep, id⊢}
use base.Fml.{Lft, GName, Share, Fml, ftrue, feq, fsep, flft}
use prog.Wp.{Env}
use types.Logic.{Logic, sem}
use types.SemTy.{cells}
use contract.Running.{tables}
use types.Kit.{‵, raw, ◌⊛◌, some, later, at_ret, ◌$◌, ◌∵◌, !, qed, move, keep, use1, split, join, pick, await, rewrite, group, fsplit, fsplit3, fjoin, fpack, feq_i, feq_l, suffices, frame, done}
use types.Part.{whole, sub, look_in, agg}
use types.Run.{stop, fld, load, no_more, and_then, of_opd, first, blocks, exec, returns, enter}
use types.ByLocal.{alloc_all, pass_all, free_all, look_at, get, through, sets, sets_last, env}
use denote.Array.{Array}
use denote.ArrayMemory.{Array-apart, Array-whole}
use denote.Builtin.{u64}
use denote.Exit.{no}
use denote.Follow.{follows}
use denote.FollowSlice.{Elements, lends_Elements}
use denote.Index.{row, whole_in, whole_out}
use denote.Laws.{shows}
use denote.Memory.{cell_at, part_at, part_of, mem}
use denote.RawPtr.{Ptr, block_ptr, in_a_block, lies_at}
use denote.Ref.{MutBor, MutRef, mut_vals, mut_Tells}
use denote.Signature.{plain, mut_ref_to}
use denote.Slice.{MutSlice, slice_val}
use denote.Steps.{nothing, opens, peeks}
use denote.Triple.Walked.{Stays, says, stay_dropped, walk_of, ends_at, Goes-spent_ref}
use Rattle.core.proofs.alloc.Shapes.{after}
use Rattle.std.proofs.raw_atomic.Walks.{proved}
use Rattle.mn_block.proofs.Values.{row_val, row_own, row_told}
use Rattle.std.specs.List.{refill}
use Rattle.std.proofs.lemmas.List.{take_at}
use Rattle.std.proofs.Math.ListN.{drop as drop_l}
use Rattle.mn_block.specs.Cells.{with_words}
use Rattle.mn_block.specs.declared.cells.Cells.{Cells}
use Rattle.mn_block.specs.contracts.cells.Cells as C
use Rattle.mn_block.specs.contracts.cells.Cells.as_mut_slice as f
use Rattle.mn_block.proofs.cells.Cells.as_mut_slice.Statement.{statement}
use Rattle.mn_block.proofs.cells.Cells.as_mut_slice.Code as code

abbrev stayed : Stays f.ended.signature.params f.ended.kept
stayed = (stay_dropped (mut_ref_to (0 ∷ []) tt (plain (λ _. C.the_row))) no, tt)

module _ (h : Cells) (us : List Val) (rb ro : ℕ) where
  -- what the cells have beside their words
  abbrev Rest : Fml
  Rest = fsep (row_own h.ptr h.len us) (cell_at full_share (C.the_row).mir us rb ro)

  back : {M : Type 1} {𝓤 : Ura M} (𝓛 : Logic 𝓤) (b o : ℕ) → h.ptr ≡ block_ptr b o → (ws : List ℕ) → length ws ≡ length h.words
      → ent 𝓤 (sep 𝓤 (sem 𝓛 (cells (mem u64) ws b o)) (sem 𝓛 Rest)) (sem 𝓛 ((mem C.the_row).own_at (with_words h ws) rb ro))
  unfolding part_of
  back 𝓛 b o at ws e =
      let l : length ws ≡ h.len = e ∙ sym h.fits.0 in
      qed 𝓛 (‵ (cells (mem u64) ws b o) ∷ ‵ Rest ∷ []) ∵ use1 𝓛 (‵ (row u64 full_share ws b o)) (whole_out 𝓛 u64 ws b o) $ feq_i ! ℕ (length ws) h.len l $ fjoin ! $
      use1 𝓛 (‵ (part_at (Array u64 h.len) full_share ws b o)) (Array-whole 𝓛 u64 full_share h.len ws b o) $
      rewrite ! 0 (λ (xs : List ℕ). ‵ (part_at (Array u64 h.len) full_share xs b o)) (sym (take_at ws (drop_l (length ws) h.words) h.len l)) refl $
      rewrite ! 0 (λ (p : Ptr). ‵ (lies_at (Array u64 h.len) full_share p (refill h.len h.words ws))) (sym at) refl $
      move ! (1 ∷ []) $ fsplit ! $ move ! (0 ∷ 2 ∷ []) $ fjoin ! $ move ! (1 ∷ 0 ∷ []) $ fjoin ! $
      fpack ! (List Val) (λ vs. fsep (cell_at full_share (C.the_row).mir vs rb ro) ((C.the_row).own_val (with_words h ws) vs)) us $ done !

pub as_mut_slice_spec : {M : Type 1} → statement M
as_mut_slice_spec 𝓤 𝓛 𝓜 𝓡 wired =
    let c = f.clauses 𝓛 𝓜.mem 𝓡.returns in let W = walk_of 𝓛 f.ended stayed c in let 𝓣 = tables 𝓤 𝓛.H 𝓜 𝓡 𝓡.env in
    proved 𝓛 f.ended stayed c 𝓜 𝓡 (Goes-spent_ref 𝓛 1 (0 ∷ []) tt (plain (λ _. C.the_row)), tt)
    f.Key.name code.function (code.unfolded 𝓤 𝓛.H 𝓜 𝓡 wired)
    (λ κs. (mut_vals, tt)) (λ κs. (mut_Tells (named 0) κs.0 C.the_row, tt)) (λ κs qs bounds a _ are.
    let κ : Lft = κs.0 in let q : Share = qs.0 in let rb : ℕ = a.0.ref_ptr.0 in let ro : ℕ = a.0.ref_ptr.1 in let h : Cells = a.0.now in let γ : GName = a.0.ghost_name in
    let n : ℕ = h.len in let xs : List ℕ = h.words in
    let y : W.Ghost = ((κs, qs, bounds, a, (mut_vals a.0, tt)), tt) in
    let lens : length xs ≡ n = sym h.fits.0 in
    let small : n * 8 < 2 ^ 63 = h.fits.1 in
    let fitting : length xs * 8 < 2 ^ 63 = subst (λ (k : ℕ). k * 8 < 2 ^ 63) (sym lens) small in
    qed 𝓛 (((‵ (flft κ q) ⊛ ‵ ftrue) ⊛ ‵ ((MutRef (named 0) κ C.the_row).own_val a.0 (mut_vals a.0)) ⊛ ‵ ftrue) ∷ ‵ ftrue ∷ []) ∵
    split ! $ split ! $ move ! (2 ∷ []) $ split ! $ keep ! (0 ∷ 2 ∷ []) $
    enter ! _ _ _ _ _ $ alloc_all ! (λ l. pass_all ! refl ((tt, tt), tt) $ let En : Env 𝓤 𝓛.H = env (code.function).locals l in
    fsplit3 ! $ move ! (1 ∷ 2 ∷ 3 ∷ []) $ opens ! tt C.the_row rb ro (λ us.
    move ! (1 ∷ []) $ peeks ! C.the_row _ (shows 𝓛 C.the_row) h us (λ is. fsplit ! $ move ! (1 ∷ []) $
    in_a_block ! h.ptr (λ p. lies_at (Array u64 n) full_share p xs) (id⊢ 𝓤 _) (λ b o at.
    let told = row_told h.ptr n us is.0 in
    let fl : n < 2 ^ 64 = told.1 in
    let roomy : length xs < 2 ^ 64 = subst (λ (k : ℕ). k < 2 ^ 64) (sym lens) fl in
    let word = told.0 ∙ ap (λ (p : Ptr). row_val p n ∷ []) at in
    let Cell = λ (ws : List Val). ‵ (cell_at full_share (C.the_row).mir ws rb ro) in
    rewrite ! 2 Cell word refl $
    -- [the words; the fields; the struct's cell; the open borrow, in three entries]
    first ! $ blocks ! $
    sets ! (of_opd ! (load ! (through ! refl (fld ! refl (stop !))) (look_in ! 2 (sub ! 0 refl (whole !))))) refl (tt, tt) $
    sets ! (of_opd ! (load ! (through ! refl (fld ! refl (stop !))) (look_in ! 2 (sub ! 1 refl (whole !))))) refl (tt, record { fits = fl }) $
    sets_last ! (agg ! (and_then ! (get ! refl) (and_then ! (get ! refl) (no_more !)))) refl (tt, (tt, (record { fits = fl }, tt))) $
    exec ! 𝓣.C 𝓣.Λ En (after 1 (code.function).body) (at_ret En (W.post y)) $
    sets ! (of_opd ! (get ! refl)) refl (tt, (tt, (record { fits = fl }, tt))) $
    rewrite ! 2 Cell (sym word) refl $
    use1 𝓛 (‵ (fsep (feq ℕ (length xs) n) (row u64 full_share xs b o))) (Array-apart 𝓛 u64 full_share tt n xs b o) $ fsplit ! $ feq_l ! (λ _.
    use1 𝓛 (‵ (cells (mem u64) xs b o)) (whole_in 𝓛 u64 xs b o) $
    move ! (1 ∷ 2 ∷ []) $ fjoin ! $ move ! (2 ∷ 3 ∷ 4 ∷ 1 ∷ 0 ∷ []) $ group ! 5 $
    use1 𝓛 (later (some (λ (γ' : GName). raw (Elements 𝓛 C.the_row u64 (with_words h) (named 0) κ q rb ro b o γ xs (roomy, fitting) (sem 𝓛 (Rest h us rb ro)) (back h us rb ro 𝓛 b o at) γ'))))
    (lends_Elements 𝓛 C.the_row u64 (with_words h) (named 0) κ q rb ro b o γ xs (roomy, fitting) (sem 𝓛 (Rest h us rb ro)) (back h us rb ro 𝓛 b o at) ((C.the_row).coded.code h) ((C.the_row).coded.code h)) $ await ! tt $ pick ! (λ γ'.
    returns ! (look_at ! 0 refl) $ free_all ! refl $ keep ! (0 ∷ []) $
    let r : MutBor (List ℕ) = record { ref_ptr = (b, o); ghost_name = γ'; now = xs } in
    use1 𝓛 (‵ ((MutSlice (named 0) κ u64).own_val r (slice_val (b, o) (length xs) ∷ [])) ⊛ ‵ (flft κ q) ⊛ ‵ (follows C.the_row (Array u64 0) γ γ' (with_words h))) (id⊢ 𝓤 _) $ split ! $ move ! (1 ∷ []) $ split ! $ move ! (2 ∷ 0 ∷ 1 ∷ []) $
    rewrite ! 0 (λ (j : ℕ). ‵ ((MutSlice (named 0) κ u64).own_val r (slice_val (b, o) j ∷ []))) lens refl $
    suffices ! _ (ends_at 𝓛 f.ended stayed c y (slice_val (b, o) n) r (tt, tt) (tt, tt)) $
    nothing ! $ nothing ! $ fjoin ! $ join ! $ nothing ! $ move ! (2 ∷ 0 ∷ []) $ join ! $ join ! $ frame ! $ says ! refl $ done !)))))))
