-- A token's first byte tells its kind.
use Rattle.std.proofs.Common.{◌≡◌, ℕ, suc, zero, ◌≤◌, true, List, [], ◌∷◌, Option, Some, None, is_none, eqb, length, take, get_or, refl, sym, subst, ⊎_elim, arith}
use Rattle.std.specs.Char.{is_ascii_digit}
use Rattle.std.proofs.lemmas.Bool.{cases_Bool, and_parts, eqb-true}
use Rattle.std.proofs.lemmas.Bool.Decides.{nat_tests}
use Rattle.mn_lexer.specs.FirstBytes.{kind_of_first, is_of_class}
use Rattle.mn_lexer.specs.declared.classes.Class.TheVariants as class
use Rattle.mn_lexer.specs.Bytes.{is_blank, begins_comment}
use Rattle.mn_lexer.specs.Gaps.{gap}
use Rattle.mn_lexer.specs.Forms.{HasForm, IsLongest, BeginsNoToken}
use Rattle.mn_lexer.specs.Marks.{mark_text}
use Rattle.mn_lexer.specs.declared.marks.Mark.{Mark}
use Rattle.mn_lexer.specs.declared.marks.Mark.TheVariants as marks
use Rattle.mn_lexer.specs.declared.TokenKind.{TokenKind}
use Rattle.mn_lexer.specs.declared.TokenKind.TheVariants as kind

-- a digit begins a number
pub digit_first : (b : ℕ) → is_ascii_digit b ≡ true → kind_of_first b ≡ Some kind.Number
digit_first b digit = grind (arith, nat_tests)

number_first : (b : ℕ) (bs : List ℕ) → HasForm kind.Number (b ∷ bs) → kind_of_first b ≡ Some kind.Number
number_first b bs form = ⊎_elim
    (λ minus. subst (λ x. kind_of_first x ≡ Some kind.Number) (sym (eqb-true b 45 minus)) refl)
    (λ plain. digit_first b (and_parts (is_ascii_digit b) _ (rw plain at form.1)).0)
    (cases_Bool (eqb b 45))

mark_first : (m : Mark) (b : ℕ) (bs : List ℕ) → b ∷ bs ≡ mark_text m → kind_of_first b ≡ Some kind.Mark
mark_first marks.OpenSquare b bs e = let first : b ≡ 91 = cc in rw first refl
mark_first marks.CloseSquare b bs e = let first : b ≡ 93 = cc in rw first refl
mark_first marks.OpenCurly b bs e = let first : b ≡ 123 = cc in rw first refl
mark_first marks.CloseCurly b bs e = let first : b ≡ 125 = cc in rw first refl
mark_first marks.OpenRound b bs e = let first : b ≡ 40 = cc in rw first refl
mark_first marks.CloseRound b bs e = let first : b ≡ 41 = cc in rw first refl
mark_first marks.Less b bs e = let first : b ≡ 60 = cc in rw first refl
mark_first marks.Greater b bs e = let first : b ≡ 62 = cc in rw first refl
mark_first marks.Comma b bs e = let first : b ≡ 44 = cc in rw first refl
mark_first marks.Equals b bs e = let first : b ≡ 61 = cc in rw first refl
mark_first marks.Bang b bs e = let first : b ≡ 33 = cc in rw first refl
mark_first marks.Dots b bs e = let first : b ≡ 46 = cc in rw first refl

-- bytes that have the form of a kind begin with a byte of that kind
pub kind_of_first-form : (k : TokenKind) (b : ℕ) (bs : List ℕ) → HasForm k (b ∷ bs) → kind_of_first b ≡ Some k
kind_of_first-form kind.Word b bs form = rw form.0 refl
kind_of_first-form kind.Number b bs form = number_first b bs form
kind_of_first-form kind.Head b bs (name, some, e) = let first : b ≡ 42 = cc in rw first refl
kind_of_first-form kind.Mark b bs (m, e) = mark_first m b bs e

mark_nonempty : (m : Mark) → [] ≡ mark_text m → ⊥
mark_nonempty marks.OpenSquare e = cc
mark_nonempty _ e = cc

-- no token is empty
pub nonempty : (k : TokenKind) → HasForm k [] → ⊥
nonempty kind.Word form = form
nonempty kind.Number form = omega (arith, form.0)
nonempty kind.Head (name, some, e) = cc
nonempty kind.Mark (m, e) = mark_nonempty m e

-- the kind of a token at the front of bs is that of the first byte
pub kind_of_front : (k : TokenKind) (bs : List ℕ) (n : ℕ) → HasForm k (take n bs) → kind_of_first (get_or bs 0 0) ≡ Some k
kind_of_front k bs zero form = absurd (nonempty k form)
kind_of_front k [] (suc n) form = absurd (nonempty k form)
kind_of_front k (b ∷ bs) (suc n) form = kind_of_first-form k b (take n bs) form

-- the longest token of its kind is the longest token
pub longest_of_kind : (bs : List ℕ) (k : TokenKind) (n : ℕ) → n ≤ length bs → HasForm k (take n bs) → ((m : ℕ) → m ≤ length bs → HasForm k (take m bs) → m ≤ n) → IsLongest bs k n
longest_of_kind bs k n fits form most = record {
  in_range = fits;
  form = form;
  longest = λ m other longer within longer_form.
      let same : k ≡ other = let first = kind_of_front k bs n form in let again = kind_of_front other bs m longer_form in cc in
      let bound = most m within (subst (λ o. HasForm o (take m bs)) (sym same) longer_form) in omega arith;
}

-- where no token of the first byte's kind stands, no token does
pub begins_no_token : (bs : List ℕ) (k : TokenKind) → kind_of_first (get_or bs 0 0) ≡ Some k → ((n : ℕ) → HasForm k (take n bs) → ⊥) → BeginsNoToken bs
begins_no_token bs k first none n other form =
    let same : other ≡ k = let again = kind_of_front other bs n form in cc in
    none n (subst (λ o. HasForm o (take n bs)) same form)

pub begins_nothing : (bs : List ℕ) → kind_of_first (get_or bs 0 0) ≡ None → BeginsNoToken bs
begins_nothing bs first n k form = let again = kind_of_front k bs n form in cc

none_from : (o : Option TokenKind) → is_none o ≡ true → o ≡ None
none_from None e = refl
none_from (Some k) e = cc

-- bytes of no other class begin no token
pub other_first : (b : ℕ) → is_of_class class.Other b ≡ true → kind_of_first b ≡ None
other_first b of = none_from (kind_of_first b) (and_parts _ _ of).0

-- a gap's bytes begin no token
pub blank_first : (b : ℕ) → is_blank b ≡ true → kind_of_first b ≡ None
blank_first b blank = grind (arith, nat_tests)

pub comment_first : (b : ℕ) → begins_comment b ≡ true → kind_of_first b ≡ None
comment_first b hash = rw (eqb-true b 35 hash) refl

-- where a token begins, no gap does
pub first_gap : (bs : List ℕ) (k : TokenKind) → kind_of_first (get_or bs 0 0) ≡ Some k → gap bs ≡ 0
first_gap [] k first = refl
first_gap (b ∷ bs) k first =
    ⊎_elim
    (λ blank. let none = blank_first b blank in absurd cc)
    (λ filled.
    rw filled
    (⊎_elim
    (λ hash. let none = comment_first b hash in absurd cc)
    (λ plain. rw plain refl)
    (cases_Bool (begins_comment b))))
    (cases_Bool (is_blank b))
