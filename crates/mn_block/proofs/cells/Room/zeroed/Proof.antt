-- `zeroed` writes the words one by one, from the first on. Assumes `Logic`.
use Rattle.std.proofs.Common.{◌≡◌, ℕ, ◌+◌, ◌-◌, ◌*◌, ◌^◌, ◌≤◌, ◌<◌, List, [], ◌∷◌, ◌++◌, refl, sym, ap, ◌∙◌, arith, lit<}
use Rattle.std.proofs.Math.ListN.{replicate}
use Rattle.std.proofs.lemmas.List.{length-replicate, replicate_more}
use mathlib.Core.WellFounded.InvImage
use lib.Dec.{ltb→lt, nltb→le}
use lib.WfN.{lt-wf_rel}
use seplogic.Ra.Ura.{Ura}
use base.Fraction.{full_share}
use base.Logic.{SProp, ent, emp, never, id⊢}
use base.Fml.{Fml, ftrue, froom}
use mir.Syntax.{Fn, Body, w64, ty_int, ty_array}
use mir.Val.{Val, vint, vptr}
use prog.Wp.{Env, Out, Wp, WpFn, Tables, at_return, after_seq, after_block, after_turn}
use contract.Monad.{fact, fact_i}
use contract.Running.{tables, tables_of}
use types.Logic.{Logic, sem}
use types.Kit.{Item, Sq, any_q, runs, ‵, raw, ◌⊛◌, prop, at_ret, ◌$◌, ◌∵◌, !, qed, by, move, drop, use0, use1, use2, split, rewrite, regoal, fsplit, fjoin}
use types.Part.{whole, sub, agg}
use types.Run.{stop, fld, lit, bin, of_opd, no_more, and_then, init, assigns_last, first, blocks, skips, jumps, branches, exec, returns, enter, loops, again, Below}
use types.ByLocal.{alloc_all, pass_all, free_all, look_at, get, get_in, through, sets, sets_last, env, holding, forget_but}
use denote.RattleType.{owns}
use denote.Array.{Array}
use denote.Builtin.{u64}
use denote.Memory.{part_at}
use denote.Plain.{uint_in}
use denote.RawPtr.{Ptr, block_ptr, in_a_block, room_for}
use denote.Signature.{types_at}
use denote.Steps.{nothing}
use denote.Triple.Entry.{alive}
use denote.Triple.Walked.{Stays, stay_dropped, walk_of}
use Rattle.core.proofs.alloc.Calls.{Goes-blank}
use Rattle.core.proofs.alloc.Shapes.{after}
use Rattle.core.proofs.ptr.Rows.{empty, snoc, spare}
use Rattle.std.proofs.raw_atomic.Walks.{proved_at, leaves}
use Rattle.mn_block.proofs.Steps.{slot_at, Word}
use Rattle.mn_block.proofs.Values.{row_val, row_own, row_told, row_made}
use Rattle.mn_block.specs.Ownership.{FitsBlock, words_of}
use Rattle.mn_block.specs.contracts.cells.Cells as cells
use Rattle.mn_block.specs.contracts.cells.Room.zeroed.{ended, clauses}
use Rattle.mn_block.specs.contracts.cells.Room.zeroed.Key.{name as #self}
use Rattle.mn_block.proofs.cells.Room.zeroed.Statement.{statement}
use Rattle.mn_block.proofs.cells.Room.zeroed.Code as code

abbrev fn : Fn
fn = code.function

abbrev turn : Body
turn = code.Mir.turn-1

-- the first i words, which are 0
abbrev zeros : ℕ → ℕ → ℕ → Fml
zeros b o i = part_at (Array u64 i) full_share (replicate i 0) b o

-- room for the others
abbrev others : ℕ → ℕ → ℕ → ℕ → Fml
others b o n i = froom (ty_array (ty_int w64) (n - i)) b (o + i * 8)

module _ {M : Type 1} {𝓤 : Ura M} (𝓛 : Logic 𝓤) (𝓣 : Tables 𝓤 𝓛.H) (Post : Val → SProp 𝓤) (b o n : ℕ) (fl : n < 2 ^ 64) (small : FitsBlock n)
    (exits : ent 𝓤 (sem 𝓛 (zeros b o n)) (Post (row_val (block_ptr b o) n))) (l : ℕ → ℕ) where
  open 𝓛 use {H}

  abbrev En : Env 𝓤 H
  En = env fn.locals l

  -- how many are written
  abbrev Written : Type 0
  Written = (i : ℕ) × (i ≤ n)

  abbrev Nearer : Written → Written → Type 0
  Nearer t u = n - t.0 < n - u.0

  abbrev Now : Written → List (Item 𝓤)
  Now t = ‵ (zeros b o t.0) ∷ ‵ (others b o n t.0) ∷ holding 𝓛 En ((1, row_val (block_ptr b o) n) ∷ (2, vptr b o) ∷ (3, vint w64 n) ∷ (4, vint w64 t.0) ∷ [])

  abbrev Turned : Written → Out → SProp 𝓤
  Turned t = after_turn 𝓤 H (Below 𝓛 Nearer Now t) (after_block 𝓤 H (after_seq 𝓤 H (Wp 𝓤 H 𝓣.C 𝓣.Λ En (after 4 fn.body) (at_return 𝓤 H En Post)) (at_return 𝓤 H En Post)))

  turns : (t : Written) → Sq 𝓛 (Now t) (runs 𝓣.C 𝓣.Λ En turn (any_q (Turned t)))
  unfolding after_turn
  turns t =
      let i : ℕ = t.0 in let le = t.1 in
      sets ! (bin ! (get ! refl) (get ! refl) tt) refl (tt, tt) $ first ! $ branches ! (get ! refl)
      (λ less. let h : i < n = ltb→lt i n less in let at8 : i * 8 < 2 ^ 64 = omega arith in let next : i + 1 < 2 ^ 64 = omega arith in
      skips ! $ exec ! 𝓣.C 𝓣.Λ En (after 2 turn) (any_q (Turned t)) $ first ! $ blocks ! $
      sets ! (bin ! (get ! refl) (lit ! tt) (record { fits = at8 })) refl (tt, record { fits = at8 }) $
      sets ! (bin ! (get ! refl) (get ! refl) tt) refl (tt, tt) $
      move ! (1 ∷ []) $ use1 𝓛 (‵ (froom (ty_int w64) b (i * 8 + o)) ⊛ ‵ (others b o n (i + 1))) (spare Word 𝓛 b o i n h) $ split ! $
      assigns_last ! (of_opd ! (lit ! tt)) (through ! refl (stop !)) (init ! 0 refl (tt, record { fits = lit< tt })) $
      exec ! 𝓣.C 𝓣.Λ En (after 3 turn) (any_q (Turned t)) $
      sets_last ! (bin ! (get ! refl) (lit ! tt) (record { fits = next })) refl (tt, record { fits = next }) $
      use1 𝓛 (‵ (part_at u64 full_share 0 b (i * 8 + o))) (uint_in 𝓛 full_share w64 0 b (i * 8 + o)) $ move ! (2 ∷ 0 ∷ []) $
      use2 𝓛 (‵ (part_at (Array u64 (i + 1)) full_share (replicate i 0 ++ 0 ∷ []) b o)) (snoc Word 𝓛 b o i (replicate i 0) 0) $
      rewrite ! 0 (λ (xs : List ℕ). ‵ (part_at (Array u64 (i + 1)) full_share xs b o)) (replicate_more i 0) refl $
      forget_but ! En (1 ∷ 2 ∷ 3 ∷ 4 ∷ []) refl $ again ! Nearer Now t (i + 1, omega arith) (omega arith))
      (λ over. let ge = nltb→le i n over in let all : i ≡ n = omega arith in
      jumps ! $ exec ! 𝓣.C 𝓣.Λ En (after 4 fn.body) (at_ret En Post) $ rewrite ! 0 (λ (k : ℕ). ‵ (zeros b o k)) all refl $ move ! (1 ∷ []) $ drop ! $
      sets ! (agg ! (and_then ! (get ! refl) (and_then ! (get ! refl) (no_more !)))) refl (tt, (tt, (record { fits = fl }, tt))) $
      returns ! (look_at ! 0 refl) $ free_all ! refl $ by ! exits)

pub zeroed_spec : {M : Type 1} → statement M
unfolding tables_of
zeroed_spec 𝓤 𝓛 𝓜 𝓡 wired =
    let H = 𝓛.H in
    let c = clauses 𝓛 𝓜.mem 𝓡.returns in
    let stays : Stays ended.signature.params ended.kept = (stay_dropped (slot_at 0 ended.signature.params) ended.kept.0, tt) in
    let 𝓣 : Tables 𝓤 H = tables_of 𝓤 H 𝓜 (tables 𝓤 H 𝓜 𝓡 𝓡.env) in
    proved_at 𝓛 ended stays c 𝓜 𝓡 (Goes-blank 𝓛 0 (slot_at 0 ended.signature.params) ended.kept.0 (λ κs x f. tt), tt) #self fn (code.unfolded 𝓤 H 𝓜 𝓡 wired) (λ z are.
    let Post : Val → SProp 𝓤 = (walk_of 𝓛 ended stays c).post z in
    let a = z.0.3 in
    let vss = z.0.4 in
    let x = a.0 in
    let n : ℕ = x.len in
    let told = row_told x.ptr n vss.0 are.0.0 in
    qed 𝓛 ((raw (alive 𝓛 ended.signature z.0.0 z.0.1) ⊛ ‵ (owns (types_at ended.signature.params z.0.0) a vss)) ∷ ‵ ftrue ∷ []) ∵ move ! (1 ∷ []) $ drop ! $ split ! $ drop ! $
    fsplit ! $ fsplit ! $ drop ! $ move ! (1 ∷ []) $ drop ! $ in_a_block ! x.ptr (λ p. room_for (words_of n) p) (id⊢ 𝓤 (never 𝓤)) (λ b o at.
    let p : Ptr = block_ptr b o in
    let y : (cells.the_row).Denot = record { ptr = p; len = n; words = replicate n 0; fits = (sym (length-replicate n 0), x.fits) } in
    let exits : ent 𝓤 (sem 𝓛 (zeros b o n)) (Post (row_val p n)) =
    qed 𝓛 (‵ (zeros b o n) ∷ []) ∵ use0 𝓛 (‵ (row_own p n (row_val p n ∷ []))) (row_made 𝓛 p n told.1) $ fjoin ! $
    use0 𝓛 (raw (fact 𝓤 ((y.words ≡ replicate n 0) × (y.ptr ≡ x.ptr) × (y.len ≡ n)))) (fact_i 𝓤 ((y.words ≡ replicate n 0) × (y.ptr ≡ x.ptr) × (y.len ≡ n)) (emp 𝓤) (refl, sym at, refl)) $
    nothing ! $ nothing ! $ fjoin ! $ nothing ! $ move ! (0 ∷ 1 ∷ 3 ∷ 2 ∷ []) $ by ! (leaves 𝓛 ended stays c z (row_val p n) y (tt, tt) (tt, tt)) in
    regoal ! (λ (us : List Val). prop (WpFn 𝓤 H 𝓣.C 𝓣.Λ fn us Post)) (λ i. (told.0 ∙ ap (λ (r : Ptr). row_val r n ∷ []) at) i ++ []) refl $
    enter ! 𝓣.C 𝓣.Λ fn (row_val p n ∷ []) Post $
    alloc_all ! (λ l. pass_all ! refl ((tt, (tt, (record { fits = told.1 }, tt))), tt) $
    sets ! (of_opd ! (get_in ! (fld ! refl (stop !)) (sub ! 0 refl (whole !)))) refl (tt, tt) $
    sets ! (of_opd ! (get_in ! (fld ! refl (stop !)) (sub ! 1 refl (whole !)))) refl (tt, record { fits = told.1 }) $
    sets ! (of_opd ! (lit ! tt)) refl (tt, record { fits = lit< tt }) $
    let none : n ≡ n - 0 = omega arith in let start : o ≡ o + 0 * 8 = omega arith in
    rewrite ! 0 (λ (u : ℕ × ℕ). ‵ (froom (ty_array (ty_int w64) u.0) b u.1)) (λ i. (none i, start i)) refl $
    use0 𝓛 (‵ (zeros b o 0)) (empty Word 𝓛 [] b o refl) $
    first ! $ blocks ! $ loops ! 𝓣 (Nearer 𝓛 𝓣 Post b o n told.1 x.fits exits l) (InvImage.wf (λ (t : Written 𝓛 𝓣 Post b o n told.1 x.fits exits l). n - t.0) lt-wf_rel.wf) (Now 𝓛 𝓣 Post b o n told.1 x.fits exits l) (turns 𝓛 𝓣 Post b o n told.1 x.fits exits l) (0, omega arith))))
