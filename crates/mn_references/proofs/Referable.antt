-- References are read lawfully.
use Rattle.std.proofs.Common.{◌≡◌, ℕ, pos, Bool, true, false, cond, ltb, List, ◌∷◌, codes, Option, Some, None, is_some, refl, sym, ap, inr, bytes_eq}
use Rattle.std.proofs.lemmas.Slice.Eq.{bytes_eq-Decides}
use Rattle.mn_lexer.specs.Terminals.{Terminal, word, number, head, mark}
use Rattle.mn_lexer.specs.declared.marks.Mark.TheVariants.{OpenSquare, CloseSquare}
use Rattle.mn_model.specs.Problem.{Problem}
use Rattle.mn_grammar.specs.Tokens.{Name, is_head, is_number, is_the_mark}
use Rattle.mn_grammar.specs.Kinds.{rank, is_condition}
use Rattle.mn_grammar.specs.Reading.{ret, then_read, or_else, mark_at, name_at}
use Rattle.mn_grammar.specs.Lawful.{Spec, Lawful}
use Rattle.mn_grammar.specs.Lists.{Items}
use Rattle.mn_grammar.proofs.Breaks.{kind_when}
use Rattle.mn_grammar.proofs.Leaves.{leaf, IsClass, Lawful-one}
use Rattle.mn_grammar.proofs.Marks.{the_mark, is_no_other}
use Rattle.mn_grammar.proofs.Words.{name_token, a_name_leaf, Lawful-name}
use Rattle.mn_grammar.proofs.Joins.{joined}
use Rattle.mn_grammar.proofs.Steps.{mark_then, Lawful-mark_then, Lawful-leaf_then, optional, Lawful-optional}
use Rattle.mn_grammar.proofs.Views.{Lawful-view}
use Rattle.mn_grammar.proofs.Items.{items_spec, Lawful-items}
use Rattle.mn_grammar.specs.declared.site.Site.TheVariants.{Free, MarksOnly}
use Rattle.mn_grammar.specs.declared.Kind.{Kind}
use Rattle.mn_grammar.specs.declared.Kind.TheVariants.{Limit, Shape}
use Rattle.mn_grammar.specs.declared.Limit.TheVariants.{Vector}
use Rattle.mn_references.specs.Conditions.{lesser, as_kind}
use Rattle.mn_references.specs.References.{Sub, only, each, sub_token, Within, at_start, is_outside, is_last, is_single, Aim, Lead, Found, at_name, at_open, index_kind, at_index, sub_judge, found_at, found_bare, Ref, spell_subs, breaks_subs, value_subs, spell_ref, breaks_ref, value_ref, lead_of, lead}
use Rattle.mn_references.specs.Referring.{which_sub, sub_at, subs_at, behind_name, ref_at}
use Rattle.mn_references.specs.declared.want.Unfit.{Unfit}
use Rattle.mn_references.specs.declared.want.Unfit.TheVariants.{Form, Length}

-- 1. The kinds of conditions
pub as_kind_kinds : (o : Option Unfit) (kind : Kind) → as_kind o ≡ Some kind → is_condition kind ≡ true
as_kind_kinds None kind e = cc
as_kind_kinds (Some Form) kind e = kind_when true Shape refl kind e
as_kind_kinds (Some Length) kind e = kind_when true (Limit Vector) refl kind e

lesser_at : (b : Bool) (j k kind : Kind) → is_condition j ≡ true → is_condition k ≡ true → cond b (Some k) (Some j) ≡ Some kind → is_condition kind ≡ true
lesser_at true j k kind f g e = kind_when true k g kind e
lesser_at false j k kind f g e = kind_when true j f kind e

pub lesser_kinds : (c d : Option Kind) → ((kind : Kind) → c ≡ Some kind → is_condition kind ≡ true) → ((kind : Kind) → d ≡ Some kind → is_condition kind ≡ true) → (kind : Kind) → lesser c d ≡ Some kind → is_condition kind ≡ true
lesser_kinds None d f g kind e = g kind e
lesser_kinds (Some j) None f g kind e = f kind e
lesser_kinds (Some j) (Some k) f g kind e = lesser_at (ltb (rank k) (rank j)) j k kind (f j refl) (g k refl) e

at_lead_kinds : (b : Bool) (o : Option Unfit) (kind : Kind) → cond b (as_kind o) None ≡ Some kind → is_condition kind ≡ true
at_lead_kinds true o kind e = as_kind_kinds o kind e
at_lead_kinds false o kind e = cc

pub at_name_kinds : (aim : Aim) (o : Option Lead) (kind : Kind) → at_name aim o ≡ Some kind → is_condition kind ≡ true
at_name_kinds aim None kind e = kind_when true _ refl kind e
at_name_kinds aim (Some l) kind e = at_lead_kinds (is_single l.dims) _ kind e

-- 2. Indices
sub_back : (bs : List ℕ) (w : Sub) (b : Bool) → bytes_eq bs (codes "_") ≡ b → cond b (Some each) None ≡ Some w → (a : Sub) × (word bs ≡ sub_token a) × (a ≡ w)
sub_back bs w true same e = (each, ap (λ x. word x) ((bytes_eq-Decides bs (codes "_")).0 same), cc)
sub_back bs w false same e = cc

sub_of : (t : Terminal) (w : Sub) → which_sub t ≡ Some w → (a : Sub) × (t ≡ sub_token a) × (a ≡ w)
sub_of (number z) w e = (only z, refl, cc)
sub_of (word bs) w e = sub_back bs w (bytes_eq bs (codes "_")) refl e
sub_of (head bs) w e = cc
sub_of (mark m) w e = cc

sub_class : IsClass sub_token (λ sub. sub) which_sub
sub_class = record { forth = elim [ only z ↦ refl | each ↦ refl ]; back = sub_of }

no_head : (t : Terminal) → is_head t ≡ true → is_some (which_sub t) ≡ false
no_head (head bs) e = refl
no_head (word bs) e = cc
no_head (number z) e = cc
no_head (mark m) e = cc

all_numbers : (t : Terminal) → is_number t ≡ true → is_some (which_sub t) ≡ true
all_numbers (number z) e = refl
all_numbers (word bs) e = cc
all_numbers (head bs) e = cc
all_numbers (mark m) e = cc

index_kinds : (aim : Aim) (w : Within) (sub : Sub) (kind : Kind) → index_kind aim.slices w.dims sub ≡ Some kind → is_condition kind ≡ true
index_kinds aim w (only z) kind e = kind_when (is_outside w.dims z) Shape refl kind e
index_kinds aim w each kind e = kind_when _ Shape refl kind e

close_at : (b : Bool) (o : Option Unfit) (kind : Kind) → cond b (as_kind o) (Some Shape) ≡ Some kind → is_condition kind ≡ true
close_at true o kind e = as_kind_kinds o kind e
close_at false o kind e = kind_when true Shape refl kind e

module _ (aim : Aim) where
  sub_law : (w : Within) → Lawful (leaf Free sub_token (λ sub. sub) (at_index aim w) (only (pos 0))) (sub_at aim w)
  unfolding sub_at
  sub_law w = Lawful-one Free sub_token (λ sub. sub) which_sub (at_index aim w) (only (pos 0)) (record {
    class = sub_class;
    is_site = (no_head, inr all_numbers);
    kinds = index_kinds aim w;
  })

  abbrev indices : Lead → Spec (Items Sub) Found
  indices l = items_spec CloseSquare (sub_judge aim l) (λ sub t. false) Free (only (pos 0)) (found_at l) (at_start l.dims)

  indices_law : (l : Lead) → Lawful (indices l) (subs_at aim l)
  unfolding subs_at
  indices_law l = Lawful-items CloseSquare (sub_judge aim l) (λ sub t. false) Free (only (pos 0)) (found_at l)
      (record {
        other = refl;
        solid = λ sub e. cc;
        marks = λ sub t e. refl;
        no_comma = λ sub. refl;
        no_shut = λ sub. refl;
        comma_kinds = λ w sub kind e. kind_when (is_last w.dims) Shape refl kind e;
        close_kinds = λ w sub kind e. close_at (is_last w.dims) _ kind e;
      })
      (sub_at aim) sub_law (at_start l.dims)

-- 3. What stands behind a name
abbrev pub blocks_subs : Option (Items Sub) → Terminal → Bool
blocks_subs None t = is_the_mark OpenSquare t
blocks_subs (Some subs) t = false

abbrev pub subs_spec : Aim → Lead → Spec (Option (Items Sub)) Found
subs_spec aim l = record { spell = spell_subs; breaks = breaks_subs aim l; value = value_subs aim l; blocks = blocks_subs; start = MarksOnly; any = None }

pub subs_law : (aim : Aim) (l : Lead) → Lawful (subs_spec aim l) (behind_name aim l)
unfolding behind_name
subs_law aim l =
    let law = indices_law aim l in
    let with_open = Lawful-mark_then OpenSquare (at_open l) (λ kind e. kind_when (is_single l.dims) Shape refl kind e) (indices aim l) (subs_at aim l) law.sound (λ kept. law) in
    Lawful-view (optional (is_the_mark OpenSquare) (mark_then OpenSquare (at_open l) (indices aim l)) MarksOnly (found_bare aim l)) (subs_spec aim l)
    (record {
      onto = λ o. o;
      back = λ o. o;
      again = λ o. refl;
      spell = elim [ None ↦ refl | Some subs ↦ refl ];
      breaks = elim [ None ↦ refl | Some subs ↦ refl ];
      value = elim [ None ↦ refl | Some subs ↦ refl ];
      blocks = elim [ None ↦ λ t. refl | Some subs ↦ λ t. refl ];
      start = refl;
    })
    (or_else (is_the_mark OpenSquare) (then_read (mark_at MarksOnly OpenSquare (at_open l)) (λ u. subs_at aim l)) (ret (found_bare aim l)))
    (Lawful-optional (is_the_mark OpenSquare) (mark_then OpenSquare (at_open l) (indices aim l)) MarksOnly (found_bare aim l)
    (λ subs. (mark OpenSquare, _, refl, refl))
    (λ t e. ((indices aim l).any, _, ap (λ u. u ∷ (indices aim l).spell (indices aim l).any) (sym (the_mark OpenSquare t e))))
    (is_no_other OpenSquare)
    (then_read (mark_at MarksOnly OpenSquare (at_open l)) (λ u. subs_at aim l)) with_open)

-- 4. References
abbrev pub some_name : Name
some_name = record { bytes = codes "a"; lawful = refl }

abbrev pub ref_spec : Problem → Aim → Spec Ref Found
ref_spec p aim = record {
  spell = spell_ref;
  breaks = breaks_ref p aim;
  value = value_ref p aim;
  blocks = λ r t. blocks_subs r.subs t;
  start = Free;
  any = record { name = some_name; subs = None };
}

pub ref_law : (p : Problem) (aim : Aim) → Lawful (ref_spec p aim) (ref_at p aim)
unfolding ref_at
ref_law p aim =
    let judge = λ (w : List ℕ). at_name aim (lead_of p w) in
    let following = λ (n : Name). subs_spec aim (lead p n.bytes) in
    Lawful-view (joined (a_name_leaf judge) following) (ref_spec p aim)
    (record {
      onto = λ y. record { name = y.0; subs = y.1 };
      back = λ r. (r.name, r.subs);
      again = λ r. refl;
      spell = λ y. refl;
      breaks = λ y. refl;
      value = λ y. refl;
      blocks = λ y t. refl;
      start = refl;
    })
    (then_read (name_at judge) (λ w. behind_name aim (lead p w)))
    (Lawful-leaf_then Free name_token (λ n. n.bytes) judge some_name (name_at judge) following (λ w. behind_name aim (lead p w))
    (Lawful-name judge (λ w kind e. at_name_kinds aim (lead_of p w) kind e)) (λ n. subs_law aim (lead p n.bytes)))
