-- Marks as tokens, and their readers.
use Rattle.std.proofs.Common.{◌≡◌, Bool, true, false, cond, get_or, Option, Some, None, is_some, refl, sym, ap, ◌∙◌, eq-eqb}
use Rattle.std.proofs.lemmas.Bool.{eqb-true}
use Rattle.mn_lexer.specs.Terminals.{Terminal, word, number, head, mark}
use Rattle.mn_lexer.specs.declared.marks.Mark.{Mark}
use Rattle.mn_lexer.specs.declared.marks.Mark.TheVariants.{OpenSquare, CloseSquare, OpenCurly, CloseCurly, OpenRound, CloseRound, Less, Greater, Comma, Equals, Bang, Dots}
use Rattle.mn_lexer.specs.Marks.{all_marks}
use Rattle.mn_grammar.specs.Tokens.{is_mark, mark_number, is_the_mark}
use Rattle.mn_grammar.specs.Kinds.{is_condition}
use Rattle.mn_grammar.specs.Reading.{Site, MarksOnly, Turn, goes_on, is_done, which_mark, mark_at, which_end, judge_end, end_at}
use Rattle.mn_grammar.specs.Lawful.{Spec, OnlyMarks, Lawful}
use Rattle.mn_grammar.proofs.Leaves.{leaf, IsClass, Lawful-one}
use Rattle.mn_grammar.specs.declared.Kind.{Kind}

of_number : (m : Mark) → get_or all_marks (mark_number m) Bang ≡ m
of_number OpenSquare = refl
of_number CloseSquare = refl
of_number OpenCurly = refl
of_number CloseCurly = refl
of_number OpenRound = refl
of_number CloseRound = refl
of_number Less = refl
of_number Greater = refl
of_number Comma = refl
of_number Equals = refl
of_number Bang = refl
of_number Dots = refl

-- a token is a mark exactly where the test says so
pub the_mark : (m : Mark) (t : Terminal) → is_the_mark m t ≡ true → t ≡ mark m
the_mark m (mark n) e =
    let same : n ≡ m = sym (of_number n) ∙ ap (λ i. get_or all_marks i Bang) (eqb-true (mark_number n) (mark_number m) e) ∙ of_number m in
    ap (λ x. mark x) same
the_mark m (word bs) e = cc
the_mark m (number n) e = cc
the_mark m (head bs) e = cc

pub is_itself : (m : Mark) → is_the_mark m (mark m) ≡ true
is_itself m = eq-eqb (mark_number m) (mark_number m) refl

pub no_other : (m : Mark) (t : Terminal) → is_mark t ≡ false → is_the_mark m t ≡ false
no_other m (mark n) e = cc
no_other m (word bs) e = refl
no_other m (number n) e = refl
no_other m (head bs) e = refl

pub is_no_other : (m : Mark) → OnlyMarks (is_the_mark m)
is_no_other m = no_other m

-- the tree of a mark
abbrev pub a_mark : Site → Mark → Option Kind → Spec (Unit {0}) (Unit {0})
a_mark site m c = leaf site (λ u. mark m) (λ u. u) (λ u. c) tt

some_mark : {W : Type 0} (w : W) (b : Bool) → is_some (cond b (Some w) None) ≡ b
some_mark w true = refl
some_mark w false = refl

cond_some : {W : Type 0} (w v : W) (b : Bool) → cond b (Some w) None ≡ Some v → (b ≡ true) × (w ≡ v)
cond_some w v true e = (refl, cc)
cond_some w v false e = cc

pub mark_class : (m : Mark) → IsClass (λ u. mark m) (λ u. u) (which_mark m)
mark_class m = record {
  forth = λ u. ap (λ b. cond b (Some tt) None) (is_itself m);
  back = λ t w e. (tt, the_mark m t (cond_some tt w (is_the_mark m t) e).0, (cond_some tt w (is_the_mark m t) e).1);
}

-- A mark alone is a leaf. Where more than marks is wanted at its place, its site is that of the choice it stands in.
pub Lawful-mark : (m : Mark) (c : Option Kind) → ((kind : Kind) → c ≡ Some kind → is_condition kind ≡ true) → Lawful (a_mark MarksOnly m c) (mark_at MarksOnly m c)
unfolding mark_at
Lawful-mark m c kinds = Lawful-one MarksOnly (λ u. mark m) (λ u. u) (which_mark m) (λ u. c) tt (record {
  class = mark_class m;
  is_site = λ t e. some_mark tt (is_the_mark m t) ∙ no_other m t e;
  kinds = λ w kind e. kinds kind e;
})

-- the end of an entry: true is the `,`, false the closing mark
abbrev pub end_token : Mark → Bool → Terminal
end_token shut true = mark Comma
end_token shut false = mark shut

abbrev pub end_value : {S R : Type 0} → S → R → Bool → Turn S R
end_value s r true = goes_on s
end_value s r false = is_done r

abbrev pub an_end : {S R : Type 0} → Mark → Option Kind → Option Kind → S → R → Spec Bool (Turn S R)
an_end shut comma close s r = leaf MarksOnly (end_token shut) (end_value s r) (judge_end comma close) false

end_forth : {S R : Type 0} (shut : Mark) (s : S) (r : R) → is_the_mark Comma (mark shut) ≡ false → (b : Bool) → which_end shut s r (end_token shut b) ≡ Some (end_value s r b)
end_forth shut s r other true = refl
end_forth shut s r other false =
    ap (λ b. cond b (Some (goes_on s)) (cond (is_the_mark shut (mark shut)) (Some (is_done r)) None)) other
    ∙ ap (λ b. cond b (Some (is_done r)) None) (is_itself shut)

end_back : {S R : Type 0} (shut : Mark) (s : S) (r : R) (t : Terminal) (w : Turn S R) (b c : Bool) → is_the_mark Comma t ≡ b → is_the_mark shut t ≡ c → cond b (Some (goes_on s)) (cond c (Some (is_done r)) None) ≡ Some w → (x : Bool) × (t ≡ end_token shut x) × (end_value s r x ≡ w)
end_back shut s r t w true c f g e = (true, the_mark Comma t f, cc)
end_back shut s r t w false true f g e = (false, the_mark shut t g, cc)
end_back shut s r t w false false f g e = cc

end_kinds : {S R : Type 0} (comma close : Option Kind) → ((kind : Kind) → comma ≡ Some kind → is_condition kind ≡ true) → ((kind : Kind) → close ≡ Some kind → is_condition kind ≡ true) → (w : Turn S R) (kind : Kind) → judge_end comma close w ≡ Some kind → is_condition kind ≡ true
end_kinds comma close a b (goes_on s) kind e = a kind e
end_kinds comma close a b (is_done r) kind e = b kind e

no_end : {S R : Type 0} (s : S) (r : R) (b c : Bool) → b ≡ false → c ≡ false → is_some {T = Turn S R} (cond b (Some (goes_on s)) (cond c (Some (is_done r)) None)) ≡ false
no_end s r true c e f = cc
no_end s r false true e f = cc
no_end s r false false e f = refl

end_site : {S R : Type 0} (shut : Mark) (s : S) (r : R) (t : Terminal) → is_mark t ≡ false → is_some (which_end shut s r t) ≡ false
end_site shut s r t e = no_end s r (is_the_mark Comma t) (is_the_mark shut t) (no_other Comma t e) (no_other shut t e)

pub Lawful-end : {S R : Type 0} (shut : Mark) (comma close : Option Kind) (s : S) (r : R) → is_the_mark Comma (mark shut) ≡ false → ((kind : Kind) → comma ≡ Some kind → is_condition kind ≡ true) → ((kind : Kind) → close ≡ Some kind → is_condition kind ≡ true) → Lawful (an_end shut comma close s r) (end_at shut comma close s r)
unfolding end_at
Lawful-end shut comma close s r other a b = Lawful-one MarksOnly (end_token shut) (end_value s r) (which_end shut s r) (judge_end comma close) false (record {
  class = record {
    forth = end_forth shut s r other;
    back = λ t w e. end_back shut s r t w (is_the_mark Comma t) (is_the_mark shut t) refl refl e;
  };
  is_site = end_site shut s r;
  kinds = end_kinds comma close a b;
})
