-- Steps that most rules are made of: a token and what follows it, a mark and what follows it, another value.
use Rattle.std.proofs.Common.{◌≡◌, ℕ, Bool, true, false, ◌||◌, ◌&&◌, List, [], ◌∷◌, ◌++◌, length, Option, Some, None, Ok, Err, refl, sym, ap, ◌∙◌, subst, inl, inr}
use Rattle.mn_lexer.specs.Terminals.{Terminal, mark}
use Rattle.mn_lexer.specs.declared.marks.Mark.{Mark}
use Rattle.mn_grammar.specs.Kinds.{is_condition}
use Rattle.mn_grammar.specs.Places.{Break, on, behind}
use Rattle.mn_grammar.specs.Reading.{Answer, Reader, Site, MarksOnly, go_on, then_read, ret, or_else, mark_at}
use Rattle.mn_grammar.specs.Lawful.{Spec, OnlyMarks, Fits, first, answered, Sound, Said, Lawful}
use Rattle.mn_grammar.proofs.Sites.{Fits-nothing}
use Rattle.mn_grammar.proofs.Leaves.{leaf, nothing, Lawful-ret}
use Rattle.mn_grammar.proofs.Marks.{a_mark, Lawful-mark}
use Rattle.mn_grammar.proofs.Joins.{joined, Join, Lawful-then}
use Rattle.mn_grammar.proofs.Choices.{either, Lawful-or}
use Rattle.mn_grammar.proofs.Views.{Lawful-view}
use Rattle.mn_grammar.specs.declared.Kind.{Kind}

-- behind a leaf anything may stand
pub join_leaf :
    {A V W : Type 0} {Y : A → Type 0} (site : Site) (token : A → Terminal) (value : A → V) (judge : V → Option Kind) (some : A) (b : (a : A) → Spec (Y a) W)
    → Join (leaf site token value judge some) b
join_leaf site token value judge some b = record {
  apart = λ a y t q e. refl;
  fits = λ a. Fits-nothing (b a).start;
  starts = λ a e. absurd cc;
}

-- Behind what has tokens, and with which only marks go on, may stand what begins with another mark.
pub join_mark :
    {X V W : Type 0} {Y : X → Type 0} (a : Spec X V) (b : (x : X) → Spec (Y x) W)
    → ((x : X) → a.spell x ≡ [] → ⊥) → ((x : X) → OnlyMarks (a.blocks x)) → ((x : X) → (b x).start ≡ MarksOnly)
    → ((x : X) (y : Y x) (t : Terminal) (q : List Terminal) → (b x).spell y ≡ t ∷ q → a.blocks x t ≡ false)
    → Join a b
join_mark a b solid marks starts apart = record {
  apart = apart;
  fits = λ x. subst (λ s. Fits s (a.blocks x)) (sym (starts x)) (marks x);
  starts = λ x none. absurd (solid x none);
}

-- the same trees, which stand for another value
abbrev pub valued : {X V W : Type 0} → (V → W) → Spec X V → Spec X W
valued f s = record { spell = s.spell; breaks = s.breaks; value = λ x. f (s.value x); blocks = s.blocks; start = s.start; any = s.any }

module _ {X V W : Type 0} (f : V → W) (s : Spec X V) (read : Reader V) where
  abbrev given : Answer V → Answer W
  given r = go_on r (λ v. ret (f v))

  said_valued : (ts : List Terminal) (r : Answer V) → Said s read ts r → Said (valued f s) (then_read read (λ v. ret (f v))) ts (given r)
  said_valued ts (Ok r) is = record { tree = is.tree; parts = is.parts; kept = is.kept; means = ap f is.means; ends = is.ends }
  said_valued ts (Err e) (inl left) = inl (record {
    passed = left.passed;
    others = left.others;
    site = left.site;
    wanted = left.wanted;
    parts = left.parts;
    place = left.place;
    lacks = left.lacks;
    is_site = left.is_site;
    wants = left.wants;
    refuses = λ us lacks. ap given (left.refuses us lacks);
    fine = left.fine;
    starts = left.starts;
  })
  said_valued ts (Err e) (inr is) = inr (record {
    passed = is.passed;
    token = is.token;
    others = is.others;
    kind = is.kind;
    parts = is.parts;
    place = is.place;
    refuses = λ q. ap given (is.refuses q);
    broken = is.broken;
  })

  answered_valued : (o : Option Break) (n : ℕ) (v : V) (rest : List Terminal) → given (answered o n v rest) ≡ answered o n (f v) rest
  answered_valued None n v rest = refl
  answered_valued (Some k) n v rest = refl

  pub Lawful-valued : Lawful s read → Lawful (valued f s) (then_read read (λ v. ret (f v)))
  Lawful-valued law = record {
    sound = record { kinds = law.sound.kinds; within = law.sound.within; extends = law.sound.extends };
    complete = λ x rest lacks. ap given (law.complete x rest lacks) ∙ answered_valued (first (s.breaks x)) (length (s.spell x)) (s.value x) rest;
    said = λ ts. said_valued ts (read ts) (law.said ts);
  }

-- a leaf, and what follows it by its tokens; where that is lawful whatever stands there
pub Lawful-leaf_then :
    {A V W : Type 0} {Y : A → Type 0} (site : Site) (token : A → Terminal) (value : A → V) (judge : V → Option Kind) (some : A) (read : Reader V) (b : (a : A) → Spec (Y a) W) (rb : V → Reader W)
    → Lawful (leaf site token value judge some) read → ((a : A) → Lawful (b a) (rb (value a)))
    → Lawful (joined (leaf site token value judge some) b) (then_read read rb)
Lawful-leaf_then site token value judge some read b rb law laws =
    Lawful-then (leaf site token value judge some) b (join_leaf site token value judge some b) read rb law (λ a. (laws a).sound) (λ a kept. laws a)

-- one certain token with a condition on it, and what follows
abbrev pub token_then : {Y W : Type 0} → Site → Terminal → Option Kind → Spec Y W → Spec Y W
token_then site t c b = record {
  spell = λ y. t ∷ b.spell y;
  breaks = λ y. on c ++ behind 1 (b.breaks y);
  value = b.value;
  blocks = b.blocks;
  start = site;
  any = b.any;
}

pub on_kept : (c : Option Kind) → on c ≡ [] → c ≡ None
on_kept None e = refl
on_kept (Some kind) e = cc

-- what follows is lawful at least where the condition is kept
pub Lawful-token_then :
    {Y W : Type 0} (site : Site) (t : Terminal) (c : Option Kind) (read : Reader (Unit {0})) (b : Spec Y W) (rb : Reader W)
    → Lawful (leaf site (λ u. t) (λ u. u) (λ u. c) tt) read → Sound b → (c ≡ None → Lawful b rb)
    → Lawful (token_then site t c b) (then_read read (λ u. rb))
Lawful-token_then site t c read b rb token sound law =
    let one : Spec (Unit {0}) (Unit {0}) = leaf site (λ u. t) (λ u. u) (λ u. c) tt in
    Lawful-view (joined one (λ u. b)) (token_then site t c b)
    (record {
      onto = λ p. p.1;
      back = λ y. (tt, y);
      again = λ y. refl;
      spell = λ p. refl;
      breaks = λ p. refl;
      value = λ p. refl;
      blocks = λ p t. refl;
      start = refl;
    })
    (then_read read (λ u. rb))
    (Lawful-then one (λ u. b) (join_leaf site (λ u. t) (λ u. u) (λ u. c) tt (λ u. b)) read (λ u. rb) token (λ u. sound) (λ u kept. law (on_kept c kept)))

-- a mark with a condition on it, and what follows
abbrev pub mark_then : {Y W : Type 0} → Mark → Option Kind → Spec Y W → Spec Y W
mark_then m c b = token_then MarksOnly (mark m) c b

pub Lawful-mark_then : {Y W : Type 0} (m : Mark) (c : Option Kind) → ((kind : Kind) → c ≡ Some kind → is_condition kind ≡ true) → (b : Spec Y W) (rb : Reader W) → Sound b → (c ≡ None → Lawful b rb) → Lawful (mark_then m c b) (then_read (mark_at MarksOnly m c) (λ u. rb))
Lawful-mark_then m c kinds b rb sound law = Lawful-token_then MarksOnly (mark m) c (mark_at MarksOnly m c) b rb (Lawful-mark m c kinds) sound law

-- a mark with a condition on it, which is the last
abbrev pub mark_last : {W : Type 0} → Mark → Option Kind → W → Spec (Unit {0}) W
mark_last m c w = valued (λ u. w) (a_mark MarksOnly m c)

pub Lawful-mark_last : {W : Type 0} (m : Mark) (c : Option Kind) (w : W) → ((kind : Kind) → c ≡ Some kind → is_condition kind ≡ true) → Lawful (mark_last m c w) (then_read (mark_at MarksOnly m c) (λ u. ret w))
Lawful-mark_last m c w kinds = Lawful-valued (λ u. w) (a_mark MarksOnly m c) (mark_at MarksOnly m c) (Lawful-mark m c kinds)

-- a part that may be left out; what it begins with is told by its first token
module _ {X V : Type 0} (test : Terminal → Bool) (s : Spec X V) (site : Site) (none : V) where
  abbrev pub spell_option : Option X → List Terminal
  spell_option None = []
  spell_option (Some x) = s.spell x

  abbrev pub breaks_option : Option X → List Break
  breaks_option None = []
  breaks_option (Some x) = s.breaks x

  abbrev pub value_option : Option X → V
  value_option None = none
  value_option (Some x) = s.value x

  abbrev pub blocks_option : Option X → Terminal → Bool
  blocks_option None t = test t
  blocks_option (Some x) t = s.blocks x t

  abbrev pub optional : Spec (Option X) V
  optional = record { spell = spell_option; breaks = breaks_option; value = value_option; blocks = blocks_option; start = site; any = None }

  left_out : (b : Bool) → b ≡ ((b && true) || false)
  left_out true = refl
  left_out false = refl

  -- it begins with the tokens that the test tells, with all of them, and they fit the site behind it
  pub Lawful-optional :
      ((x : X) → (t : Terminal) × (q : List Terminal) × (s.spell x ≡ t ∷ q) × (test t ≡ true))
      → ((t : Terminal) → test t ≡ true → (x : X) × (q : List Terminal) × (s.spell x ≡ t ∷ q))
      → Fits site test → (read : Reader V) → Lawful s read → Lawful optional (or_else test read (ret none))
  Lawful-optional begins starts fits read law =
      Lawful-view (either test s (nothing site none)) optional
      (record {
        onto = elim [ inl x ↦ Some x | inr u ↦ None ];
        back = elim [ None ↦ inr tt | Some x ↦ inl x ];
        again = elim [ None ↦ refl | Some x ↦ refl ];
        spell = elim [ inl x ↦ refl | inr u ↦ refl ];
        breaks = elim [ inl x ↦ refl | inr u ↦ refl ];
        value = elim [ inl x ↦ refl | inr u ↦ refl ];
        blocks = elim [ inl x ↦ λ t. refl | inr u ↦ λ t. left_out (test t) ];
        start = refl;
      })
      (or_else test read (ret none))
      (Lawful-or test s (nothing site none) (record { begins = begins; starts = starts; apart = λ u t q e. cc; fits = fits }) read (ret none) law (Lawful-ret site none))
