-- The section of constraints is read lawfully.
use Rattle.std.proofs.Common.{◌≡◌, ◌⊎◌, ℕ, false, List, [], ◌∷◌, length, ◌++◌, true, codes, Some, None, refl, sym, ap, ◌∙◌, inl, inr}
use Rattle.mn_lexer.specs.Terminals.{Terminal, word}
use Rattle.mn_model.specs.Problem.{Problem}
use Rattle.mn_model.specs.declared.limits.TheConstants.{NESTING}
use Rattle.mn_grammar.specs.Kinds.{is_condition}
use Rattle.mn_grammar.specs.Places.{Break, on, behind}
use Rattle.mn_grammar.specs.Reading.{within}
use Rattle.mn_grammar.specs.Lawful.{Spec, first, Lawful}
use Rattle.mn_grammar.proofs.Breaks.{alike_append, alike_behind}
use Rattle.mn_grammar.proofs.Leaves.{Lawful-one}
use Rattle.mn_grammar.proofs.Sites.{Fits-marks}
use Rattle.mn_grammar.proofs.Classes.{set_class, either_token, either_value, either_class}
use Rattle.mn_grammar.proofs.Steps.{valued, Lawful-valued}
use Rattle.mn_grammar.proofs.Loops.{Turns, last, more}
use Rattle.mn_grammar.proofs.Views.{Lawful-view}
use Rattle.mn_grammar.proofs.Sections.{firsts, body_spec, body_blocks, Lawful-body}
use Rattle.mn_grammar.specs.declared.site.Site.TheVariants.{Fixed}
use Rattle.mn_grammar.specs.declared.Kind.{Kind}
use Rattle.mn_cursor.specs.Heads.{head_token, head_of, all_heads}
use Rattle.mn_cursor.specs.declared.heads.Head.{Head}
use Rattle.mn_cursor.specs.declared.heads.Head.TheVariants.{Variables, TupleList, Search, Constraints, End}
use Rattle.mn_cursor.proofs.HeadTokens.{head_known}
use Rattle.mn_language.specs.Constraints.{Constraint, spell_constraint, breaks_constraint, before_all, with_constraint, after_constraint, spell_section, breaks_section, value_section, constraints_spec}
use Rattle.mn_language.specs.Constructing.{behind_form, depth_inside, constraint_at, which_first, at_first, first_at, rest_at, ended, constraints_at}
use Rattle.mn_language.specs.Forms.{form_token, all_forms, form_of}
use Rattle.mn_language.specs.declared.forms.Form.{Form}
use Rattle.mn_language.proofs.ConstraintLaws.{Behind, following, constraint_law, behind_law, form_kinds, known, onto, back, again, view_spell, view_breaks, view_value, view_blocks}

-- 1. The first token of a constraint, or a head
abbrev first_token : Form ⊎ Head → Terminal
first_token = either_token form_token head_token

head_no_form : (h : Head) → form_of (head_token h) ≡ None
head_no_form Variables = refl
head_no_form TupleList = refl
head_no_form Search = refl
head_no_form Constraints = refl
head_no_form End = refl

first_kinds : (p : Problem) (x : Form ⊎ Head) (kind : Kind) → at_first p x ≡ Some kind → is_condition kind ≡ true
first_kinds p (inl f) kind e = form_kinds NESTING (before_all p) f kind e
first_kinds p (inr h) kind e = cc

-- 2. What follows a form's name, and the problem with the constraint
abbrev rest_spec : (p : Problem) → (f : Form) → Spec (Behind f) Problem
rest_spec p f = valued (with_constraint p) (following p NESTING (before_all p) f)

rest_law : (p : Problem) (f : Form) → Lawful (rest_spec p f) (rest_at p f)
unfolding rest_at
rest_law p f =
    Lawful-valued (with_constraint p) (following p NESTING (before_all p) f) (behind_form p (before_all p) (within (constraint_at p) (depth_inside NESTING)) f)
    (behind_law p NESTING 15 (before_all p) (constraint_law p 15) f)

firsts_law : (p : Problem) → Lawful (firsts Fixed first_token (λ f. f) at_first End rest_spec ended p) (first_at p)
unfolding first_at
firsts_law p = Lawful-one Fixed first_token (either_value (λ f. f) (λ h. h)) which_first (at_first p) (inr End) (record {
  class = either_class form_token (λ f. f) form_of head_token (λ h. h) head_of
      (set_class form_token all_forms known) (set_class head_token all_heads head_known) head_no_form;
  is_site = ((refl, refl), (word (codes "eq"), refl, refl));
  kinds = first_kinds p;
})

-- 3. The section
abbrev Body : Problem → Type 0
Body p = Turns (λ z. (f : Form) × Behind f) (λ z. Head) (λ z y. (rest_spec z y.0).value y.1) p

abbrev section_spec : (p : Problem) → Spec (Body p) (Problem × Head)
section_spec p = body_spec Fixed first_token (λ f. f) at_first End rest_spec ended p

goes_on_with : (p : Problem) (f : Form) (y : Behind f) (t : Terminal) → (rest_spec p f).blocks y t ≡ false
goes_on_with p f y t = sym (view_blocks p NESTING (before_all p) f y t)

section_law : (p : Problem) → Lawful (section_spec p) (constraints_at p)
unfolding constraints_at
section_law p =
    Lawful-body Fixed first_token (λ f. f) at_first End rest_spec ended
    (record { apart = λ z f y x. goes_on_with z f y (first_token x); fits = λ z f y. Fits-marks Fixed ((rest_spec z f).blocks y) (λ t e. goes_on_with z f y t) })
    first_at rest_at firsts_law rest_law p

-- 4. The same trees as they are published
abbrev after_rest : (p : Problem) → (y : (f : Form) × Behind f) → Problem
after_rest p y = (rest_spec p y.0).value y.1

abbrev all_onto : (p : Problem) → Body p → List Constraint
all_onto p (last h) = []
all_onto p (more y gs) = onto y.0 y.1 ∷ all_onto (after_rest p y) gs

abbrev next_onto : (p : Problem) → Body p → Head
next_onto p (last h) = h
next_onto p (more y gs) = next_onto (after_rest p y) gs

abbrev body_back : List Constraint → Head → (p : Problem) → Body p
body_back [] h p = last h
body_back (c ∷ cs) h p = more (back c) (body_back cs h (after_rest p (back c)))

all_again : (cs : List Constraint) (h : Head) (p : Problem) → all_onto p (body_back cs h p) ≡ cs
all_again [] h p = refl
all_again (c ∷ cs) h p =
    ap (λ d. d ∷ all_onto (after_rest p (back c)) (body_back cs h (after_rest p (back c)))) (again c)
    ∙ ap (λ l. c ∷ l) (all_again cs h (after_rest p (back c)))

next_again : (cs : List Constraint) (h : Head) (p : Problem) → next_onto p (body_back cs h p) ≡ h
next_again [] h p = refl
next_again (c ∷ cs) h p = next_again cs h (after_rest p (back c))

constraint_spells : (p : Problem) (f : Form) (y : Behind f) → spell_constraint (onto f y) ≡ form_token f ∷ (rest_spec p f).spell y
constraint_spells p f y = view_spell p NESTING (before_all p) f y

constraint_means : (p : Problem) (f : Form) (y : Behind f) → after_constraint p (onto f y) ≡ (rest_spec p f).value y
constraint_means p f y = ap (with_constraint p) (view_value p NESTING (before_all p) f y)

section_spells : (p : Problem) (gs : Body p) → spell_section (all_onto p gs) (next_onto p gs) ≡ (section_spec p).spell gs
section_spells p (last h) = refl
section_spells p (more y gs) =
    ap (λ l. l ++ spell_section (all_onto (after_rest p y) gs) (next_onto (after_rest p y) gs)) (constraint_spells p y.0 y.1)
    ∙ ap (λ l. (form_token y.0 ∷ (rest_spec p y.0).spell y.1) ++ l) (section_spells (after_rest p y) gs)

section_breaks : (p : Problem) (gs : Body p) → first (breaks_section p (all_onto p gs)) ≡ first ((section_spec p).breaks gs)
section_breaks p (last h) = refl
section_breaks p (more y gs) =
    ap (λ l. first (breaks_constraint p (onto y.0 y.1) NESTING (before_all p) ++ behind (length l) (breaks_section (after_constraint p (onto y.0 y.1)) others))) (constraint_spells p y.0 y.1)
    ∙ ap (λ z. first (breaks_constraint p (onto y.0 y.1) NESTING (before_all p) ++ behind size (breaks_section z others))) (constraint_means p y.0 y.1)
    ∙ alike_append (breaks_constraint p (onto y.0 y.1) NESTING (before_all p)) broken _ _ (view_breaks p NESTING (before_all p) y.0 y.1)
    (alike_behind size (breaks_section (after_rest p y) others) ((section_spec (after_rest p y)).breaks gs) (section_breaks (after_rest p y) gs))
  where
    others : List Constraint
    others = all_onto (after_rest p y) gs

    size : ℕ
    size = length (form_token y.0 ∷ (rest_spec p y.0).spell y.1)

    broken : List Break
    broken = on (at_first p (inl y.0)) ++ behind 1 ((rest_spec p y.0).breaks y.1)

section_means : (p : Problem) (gs : Body p) → (value_section p (all_onto p gs), next_onto p gs) ≡ (section_spec p).value gs
section_means p (last h) = refl
section_means p (more y gs) =
    ap (λ z. (value_section z (all_onto (after_rest p y) gs), next_onto (after_rest p y) gs)) (constraint_means p y.0 y.1)
    ∙ section_means (after_rest p y) gs

-- so constraints up to a head are read as they are published
pub constraints_law : (p : Problem) → Lawful (constraints_spec p) (constraints_at p)
constraints_law p =
    Lawful-view (section_spec p) (constraints_spec p)
    (record {
      onto = λ gs. (all_onto p gs, next_onto p gs);
      back = λ x. body_back x.0 x.1 p;
      again = λ x. λ i. (all_again x.0 x.1 p i, next_again x.0 x.1 p i);
      spell = section_spells p;
      breaks = section_breaks p;
      value = section_means p;
      blocks = λ gs t. sym (body_blocks Fixed first_token (λ f. f) at_first End rest_spec ended p gs t);
      start = refl;
    })
    (constraints_at p) (section_law p)
