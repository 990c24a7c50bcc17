-- Forms within forms, down to a depth.
use Rattle.std.proofs.Common.{◌≡◌, ℕ, zero, suc, ◌<◌, false, List, [], Option, Some, None, refl, subst, arith}
use Rattle.mn_lexer.specs.Terminals.{Terminal}
use Rattle.mn_grammar.specs.Reading.{Reader, Site, then_read, within, never}
use Rattle.mn_grammar.specs.Lawful.{Spec, Sound, Lawful}
use Rattle.mn_grammar.proofs.Joins.{joined, Join, Lawful-then}
use Rattle.mn_grammar.proofs.Views.{IsView, Lawful-view, Lawful-same}

-- Trees that are spelled and never read, since what stands before them breaks a condition.
abbrev pub unread : {X V : Type 0} → (X → List Terminal) → (X → V) → Site → X → Spec X V
unread spell value start some = record { spell = spell; breaks = λ x. []; value = value; blocks = λ x t. false; start = start; any = some }

pub Sound-unread : {X V : Type 0} (spell : X → List Terminal) (value : X → V) (start : Site) (some : X) → Sound (unread spell value start some)
Sound-unread spell value start some = record { kinds = λ x b e. cc; within = λ x b e. cc; extends = λ x t e. cc }

-- A form is a name A and what follows it: `after`, of the forms of the inner depth. At a depth that has none inside
-- it is `last`: there the name of each form that would hold others is to break a condition, and they are never read.
abbrev pub behind_name : {D S A W X : Type 0} {Y : A → Type 0} → (D → S → (S → Spec X W) → (a : A) → Spec (Y a) W) → (D → S → (a : A) → Spec (Y a) W) → (D → S → Spec X W) → D → S → Option D → (a : A) → Spec (Y a) W
behind_name after last spec d s None a = last d s a
behind_name after last spec d s (Some e) a = after d s (spec e) a

-- D are the depths: `inner` is the depth inside of one, where there is one. S is the state before a form.
module _ {D S A V W X : Type 0} {Y : A → Type 0} (inner : D → Option D) (size : D → ℕ) (name : D → S → Spec A V) (after : D → S → (S → Spec X W) → (a : A) → Spec (Y a) W) (last : D → S → (a : A) → Spec (Y a) W) (spec : D → S → Spec X W) where
  module _ (name_at : D → S → Reader V) (after_at : D → S → (S → Reader W) → V → Reader W) (read : D → S → Reader W) where
    -- What nested forms have to show: they are read as a name and what follows; each depth inside is smaller;
    -- what follows is lawful where the forms inside are, and at a depth with none inside where the name breaks nothing.
    pub record IsNested : Type 0 where
      pub turn : (d : D) (s : S) (ts : List Terminal) → then_read (name_at d s) (after_at d s (within read (inner d))) ts ≡ read d s ts
      pub smaller : (d e : D) → inner d ≡ Some e → size e < size d
      pub names : (d : D) (s : S) → Lawful (name d s) (name_at d s)
      pub joins : (d : D) (s : S) → Join (name d s) (behind_name after last spec d s (inner d))
      pub deeper : (d e : D) (s : S) → inner d ≡ Some e → ((z : S) → Lawful (spec e z) (read e z)) → (a : A) → Lawful (after d s (spec e) a) (after_at d s (read e) ((name d s).value a))
      pub deepest : (d : D) (s : S) → inner d ≡ None → (a : A) → Sound (last d s a)
      pub deepest_reads : (d : D) (s : S) → inner d ≡ None → (a : A) → (name d s).breaks a ≡ [] → Lawful (last d s a) (after_at d s (λ z. never) ((name d s).value a))
      pub view : (d : D) (s : S) → IsView (joined (name d s) (behind_name after last spec d s (inner d))) (spec d s)

    module _ (is : IsNested) where
      at_depth : (d : D) (s : S) (o : Option D) → inner d ≡ o → ((e : D) → o ≡ Some e → (z : S) → Lawful (spec e z) (read e z)) → Lawful (joined (name d s) (behind_name after last spec d s o)) (then_read (name_at d s) (after_at d s (within read o)))
      at_depth d s None e laws =
          Lawful-then (name d s) (last d s) (subst (λ o. Join (name d s) (behind_name after last spec d s o)) e (is.joins d s)) (name_at d s) (after_at d s (λ z. never)) (is.names d s)
          (is.deepest d s e)
          (is.deepest_reads d s e)
      at_depth d s (Some i) e laws =
          Lawful-then (name d s) (after d s (spec i)) (subst (λ o. Join (name d s) (behind_name after last spec d s o)) e (is.joins d s)) (name_at d s) (after_at d s (read i)) (is.names d s)
          (λ a. (is.deeper d i s e (laws i refl) a).sound)
          (λ a kept. is.deeper d i s e (laws i refl) a)

      up_to : (n : ℕ) (d : D) (s : S) → size d < n → Lawful (spec d s) (read d s)
      up_to zero d s small = absurd (omega arith)
      up_to (suc n) d s small =
          Lawful-same (spec d s) (then_read (name_at d s) (after_at d s (within read (inner d)))) (read d s) (is.turn d s)
          (Lawful-view (joined (name d s) (behind_name after last spec d s (inner d))) (spec d s) (is.view d s) (then_read (name_at d s) (after_at d s (within read (inner d))))
          (at_depth d s (inner d) refl (λ e f z. up_to n e z (let fewer = is.smaller d e f in omega arith))))

      -- so the forms of each depth are lawful
      pub nest_law : (d : D) (s : S) → Lawful (spec d s) (read d s)
      nest_law d s = up_to (suc (size d)) d s (omega arith)
