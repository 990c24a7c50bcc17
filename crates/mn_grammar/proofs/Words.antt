-- Names, numbers, words and heads as tokens, and their readers.
use Rattle.std.proofs.Common.{◌≡◌, ℕ, ℤ, Bool, true, false, cond, List, codes, pos, Option, Some, None, is_some, refl, ap, ◌∙◌, inl, inr, bytes_eq}
use Rattle.std.proofs.lemmas.Slice.Eq.{bytes_eq-Decides}
use Rattle.mn_lexer.specs.Terminals.{Terminal, word, number, head, mark}
use Rattle.mn_grammar.specs.Tokens.{Name, is_name, name_of, number_of, is_number, is_head, is_the_word, is_the_head}
use Rattle.mn_grammar.specs.Kinds.{is_condition}
use Rattle.mn_grammar.specs.Reading.{Free, Fixed, which_word, which_head, name_at, number_at, word_at, head_at}
use Rattle.mn_grammar.specs.Lawful.{Spec, Lawful, a_name}
use Rattle.mn_grammar.proofs.Leaves.{leaf, IsClass, Lawful-one}
use Rattle.mn_grammar.specs.declared.Kind.{Kind}

-- names
abbrev pub name_token : Name → Terminal
name_token n = word n.bytes

name_some : (bs w : List ℕ) (b : Bool) → is_name bs ≡ b → cond b (Some bs) None ≡ Some w → (n : Name) × (word bs ≡ name_token n) × (n.bytes ≡ w)
name_some bs w true lawful e = (record { bytes = bs; lawful = lawful }, refl, cc)
name_some bs w false lawful e = cc

pub of_name : (t : Terminal) (w : List ℕ) → name_of t ≡ Some w → (n : Name) × (t ≡ name_token n) × (n.bytes ≡ w)
of_name (word bs) w e = name_some bs w (is_name bs) refl e
of_name (number n) w e = cc
of_name (head bs) w e = cc
of_name (mark m) w e = cc

pub name_of_name : (n : Name) → name_of (name_token n) ≡ Some n.bytes
name_of_name n = ap (λ b. cond b (Some n.bytes) None) n.lawful

head_no_name : (t : Terminal) → is_head t ≡ true → is_some (name_of t) ≡ false
head_no_name (head bs) e = refl
head_no_name (word bs) e = cc
head_no_name (number n) e = cc
head_no_name (mark m) e = cc

abbrev pub a_name_leaf : (List ℕ → Option Kind) → Spec Name (List ℕ)
a_name_leaf judge = leaf Free name_token (λ n. n.bytes) judge (record { bytes = codes "a"; lawful = refl })

pub name_class : IsClass name_token (λ n. n.bytes) name_of
name_class = record { forth = name_of_name; back = of_name }

pub Lawful-name : (judge : List ℕ → Option Kind) → ((w : List ℕ) (kind : Kind) → judge w ≡ Some kind → is_condition kind ≡ true) → Lawful (a_name_leaf judge) (name_at judge)
unfolding name_at
Lawful-name judge kinds = Lawful-one Free name_token (λ n. n.bytes) name_of judge (record { bytes = codes "a"; lawful = refl }) (record {
  class = name_class;
  is_site = (head_no_name, inl (λ t w e. ap (λ o. is_some o) e));
  kinds = kinds;
})

-- numbers
of_number : (t : Terminal) (z : ℤ) → number_of t ≡ Some z → (n : ℤ) × (t ≡ number n) × (n ≡ z)
of_number (number n) z e = (n, refl, cc)
of_number (word bs) z e = cc
of_number (head bs) z e = cc
of_number (mark m) z e = cc

head_no_number : (t : Terminal) → is_head t ≡ true → is_some (number_of t) ≡ false
head_no_number (head bs) e = refl
head_no_number (word bs) e = cc
head_no_number (number n) e = cc
head_no_number (mark m) e = cc

all_numbers : (t : Terminal) → is_number t ≡ true → is_some (number_of t) ≡ true
all_numbers (number n) e = refl
all_numbers (word bs) e = cc
all_numbers (head bs) e = cc
all_numbers (mark m) e = cc

abbrev pub a_number_leaf : (ℤ → Option Kind) → Spec ℤ ℤ
a_number_leaf judge = leaf Free (λ n. number n) (λ n. n) judge (pos 0)

pub number_class : IsClass (λ n. number n) (λ n. n) number_of
number_class = record { forth = λ n. refl; back = of_number }

pub Lawful-number : (judge : ℤ → Option Kind) → ((z : ℤ) (kind : Kind) → judge z ≡ Some kind → is_condition kind ≡ true) → Lawful (a_number_leaf judge) (number_at judge)
unfolding number_at
Lawful-number judge kinds = Lawful-one Free (λ n. number n) (λ n. n) number_of judge (pos 0) (record {
  class = number_class;
  is_site = (head_no_number, inr all_numbers);
  kinds = kinds;
})

-- a certain word
some_where : {W : Type 0} (w : W) (b : Bool) → is_some (cond b (Some w) None) ≡ b
some_where w true = refl
some_where w false = refl

same_where : {W : Type 0} (w v : W) (b : Bool) → cond b (Some w) None ≡ Some v → (b ≡ true) × (w ≡ v)
same_where w v true e = (refl, cc)
same_where w v false e = cc

pub the_word : (bs : List ℕ) (t : Terminal) → is_the_word bs t ≡ true → t ≡ word bs
the_word bs (word w) e = ap (λ x. word x) ((bytes_eq-Decides w bs).0 e)
the_word bs (number n) e = cc
the_word bs (head h) e = cc
the_word bs (mark m) e = cc

pub the_head : (bs : List ℕ) (t : Terminal) → is_the_head bs t ≡ true → t ≡ head bs
the_head bs (head h) e = ap (λ x. head x) ((bytes_eq-Decides h bs).0 e)
the_head bs (number n) e = cc
the_head bs (word w) e = cc
the_head bs (mark m) e = cc

abbrev pub a_word_leaf : List ℕ → Option Kind → Spec (Unit {0}) (Unit {0})
a_word_leaf bs c = leaf Fixed (λ u. word bs) (λ u. u) (λ u. c) tt

pub word_class : (bs : List ℕ) → IsClass (λ u. word bs) (λ u. u) (which_word bs)
word_class bs = record {
  forth = λ u. ap (λ b. cond b (Some tt) None) ((bytes_eq-Decides bs bs).1 refl);
  back = λ t w e. (tt, the_word bs t (same_where tt w (is_the_word bs t) e).0, (same_where tt w (is_the_word bs t) e).1);
}

pub Lawful-word : (bs : List ℕ) (c : Option Kind) → is_the_word bs a_name ≡ false → ((kind : Kind) → c ≡ Some kind → is_condition kind ≡ true) → Lawful (a_word_leaf bs c) (word_at bs c)
unfolding word_at
Lawful-word bs c other kinds = Lawful-one Fixed (λ u. word bs) (λ u. u) (which_word bs) (λ u. c) tt (record {
  class = word_class bs;
  is_site = ((some_where tt (is_the_word bs a_name) ∙ other, refl), (word bs, refl, some_where tt (bytes_eq bs bs) ∙ (bytes_eq-Decides bs bs).1 refl));
  kinds = λ u kind e. kinds kind e;
})

-- a certain head
abbrev pub a_head_leaf : List ℕ → Option Kind → Spec (Unit {0}) (Unit {0})
a_head_leaf bs c = leaf Fixed (λ u. head bs) (λ u. u) (λ u. c) tt

pub head_class : (bs : List ℕ) → IsClass (λ u. head bs) (λ u. u) (which_head bs)
head_class bs = record {
  forth = λ u. ap (λ b. cond b (Some tt) None) ((bytes_eq-Decides bs bs).1 refl);
  back = λ t w e. (tt, the_head bs t (same_where tt w (is_the_head bs t) e).0, (same_where tt w (is_the_head bs t) e).1);
}

pub Lawful-head : (bs : List ℕ) (c : Option Kind) → ((kind : Kind) → c ≡ Some kind → is_condition kind ≡ true) → Lawful (a_head_leaf bs c) (head_at bs c)
unfolding head_at
Lawful-head bs c kinds = Lawful-one Fixed (λ u. head bs) (λ u. u) (which_head bs) (λ u. c) tt (record {
  class = head_class bs;
  is_site = ((refl, refl), (head bs, refl, some_where tt (bytes_eq bs bs) ∙ (bytes_eq-Decides bs bs).1 refl));
  kinds = λ u kind e. kinds kind e;
})
