-- What a lawful reader's answer tells of all trees.
use Rattle.std.proofs.Common.{◌≡◌, ◌+◌, ◌-◌, Bool, true, false, List, [], ◌∷◌, ◌++◌, length, Option, Some, None, Ok, Err, refl, sym, ap, ◌∙◌, append-nil}
use Rattle.mn_lexer.specs.Terminals.{Terminal}
use Rattle.mn_grammar.specs.Kinds.{is_condition}
use Rattle.mn_grammar.specs.Places.{Break}
use Rattle.mn_grammar.specs.Reading.{Answer, Reader, refused}
use Rattle.mn_grammar.specs.Lawful.{Spec, Lacks, first, answered, answer_of, Sound, IsLeft, Complete}
use Rattle.mn_grammar.proofs.Sites.{kind_of_site}
use Rattle.mn_grammar.specs.declared.Fault.{Fault}

-- two answers that are one
pub same_fault : {V : Type 0} (e f : Fault) → ◌≡◌ {A = Answer V} (Err e) (Err f) → e ≡ f
same_fault e f same = cc

pub ok_no_fault : {V : Type 0} (r : V × List Terminal) (e : Fault) → ◌≡◌ {A = Answer V} (Ok r) (Err e) → ⊥
ok_no_fault r e same = cc

module _ {X V : Type 0} (s : Spec X V) where
  lacks_nothing : (f : Terminal → Bool) → Lacks f []
  lacks_nothing f = tt

  -- the answer at a tree isn't a refusal by the grammar
  pub no_refusal : Sound s → (x : X) (rest : List Terminal) (e : Fault) → is_condition e.kind ≡ false → answer_of s x rest ≡ Err e → ⊥
  no_refusal sound x rest e grammar same = by_first (first (s.breaks x)) refl
    where
      by_first : (o : Option Break) → first (s.breaks x) ≡ o → ⊥
      by_first None f = ok_no_fault (s.value x, rest) e (ap (λ o. answered o (length (s.spell x)) (s.value x) rest) (sym f) ∙ same)
      by_first (Some k) f =
          let condition : is_condition k.1 ≡ true = sound.kinds x k f in
          let kinds : k.1 ≡ e.kind = ap (λ (e : Fault). e.kind) (same_fault {V = V} (record { left = length (s.spell x) - k.0 + length rest; kind = k.1 }) e (ap (λ o. answered o (length (s.spell x)) (s.value x) rest) (sym f) ∙ same)) in
          let clash : true ≡ false = sym condition ∙ ap is_condition kinds ∙ grammar in
          absurd cc

  -- a tree is read whole
  pub read_alone : (read : Reader V) → Complete s read → (x : X) → read (s.spell x) ≡ answer_of s x []
  read_alone read complete x = ap read (sym (append-nil (s.spell x))) ∙ complete x [] tt

  -- no tree goes on with a token that isn't wanted
  pub none_begins : (read : Reader V) → Sound s → Complete s read → (ts : List Terminal) (e : Fault) (left : IsLeft s read ts e) (t : Terminal) → left.wanted t ≡ false → (x : X) (q : List Terminal) → s.spell x ≡ left.passed ++ t ∷ q → ⊥
  none_begins read sound complete ts e left t lacks x q spelled =
      no_refusal sound x [] (refused left.site (t ∷ q)) (kind_of_site left.site (t ∷ q))
      (sym (read_alone read complete x) ∙ ap read spelled ∙ left.refuses (t ∷ q) lacks)

  -- nor is a tree at its end there
  pub none_ends : (read : Reader V) → Sound s → Complete s read → (ts : List Terminal) (e : Fault) (left : IsLeft s read ts e) (x : X) → s.spell x ≡ left.passed → ⊥
  none_ends read sound complete ts e left x spelled =
      no_refusal sound x [] (refused left.site []) (kind_of_site left.site [])
      (sym (read_alone read complete x) ∙ ap read (spelled ∙ sym (append-nil left.passed)) ∙ left.refuses [] tt)
