-- The longest mark at the front.
use Rattle.std.proofs.Common.{◌≡◌, ℕ, suc, zero, ◌<◌, true, false, List, [], ◌∷◌, eqb, length, take, get_or, refl, sym, ap, ◌∙◌, ⊎_elim, ◌⊎◌, inl, inr, arith}
use Rattle.std.proofs.lemmas.Bool.{eqb-true, or_cases}
use Rattle.std.proofs.lemmas.List.{length-take-le}
use Rattle.mn_lexer.specs.FirstBytes.{is_single_mark}
use Rattle.mn_lexer.specs.Forms.{IsMark, IsLongest, BeginsNoToken}
use Rattle.mn_lexer.specs.Marks.{mark_text}
use Rattle.mn_lexer.proofs.Firsts.{longest_of_kind, begins_no_token, nonempty}
use Rattle.mn_lexer.specs.declared.marks.Mark.{Mark}
use Rattle.mn_lexer.specs.declared.marks.Mark.TheVariants as marks
use Rattle.mn_lexer.specs.declared.TokenKind.TheVariants as kind

written : (m : Mark) (b n : ℕ) → mark_text m ≡ n ∷ [] → eqb b n ≡ true → IsMark (b ∷ [])
written m b n e same = (m, ap (λ x. x ∷ []) (eqb-true b n same) ∙ sym e)

-- each single mark writes a mark
single_is_mark : (b : ℕ) → is_single_mark b ≡ true → IsMark (b ∷ [])
single_is_mark b single =
    ⊎_elim (λ t. ⊎_elim (λ t. ⊎_elim (λ t. ⊎_elim (λ t. ⊎_elim (λ t. ⊎_elim (λ t. ⊎_elim (λ t. ⊎_elim (λ t. ⊎_elim (λ t. ⊎_elim
    (written marks.OpenSquare b 91 refl)
    (written marks.CloseSquare b 93 refl) (or_cases _ _ t))
    (written marks.OpenCurly b 123 refl) (or_cases _ _ t))
    (written marks.CloseCurly b 125 refl) (or_cases _ _ t))
    (written marks.OpenRound b 40 refl) (or_cases _ _ t))
    (written marks.CloseRound b 41 refl) (or_cases _ _ t))
    (written marks.Less b 60 refl) (or_cases _ _ t))
    (written marks.Greater b 62 refl) (or_cases _ _ t))
    (written marks.Comma b 44 refl) (or_cases _ _ t))
    (written marks.Equals b 61 refl) (or_cases _ _ t))
    (written marks.Bang b 33 refl) (or_cases _ _ single)

-- bytes that write a mark are one byte other than `.`, or two dots
mark_shape : (m : Mark) → ((b : ℕ) × (mark_text m ≡ b ∷ []) × (b ≡ 46 → ⊥)) ⊎ (mark_text m ≡ 46 ∷ 46 ∷ [])
mark_shape marks.Dots = inr refl
mark_shape marks.OpenSquare = inl (91, refl, λ e. omega arith)
mark_shape marks.CloseSquare = inl (93, refl, λ e. omega arith)
mark_shape marks.OpenCurly = inl (123, refl, λ e. omega arith)
mark_shape marks.CloseCurly = inl (125, refl, λ e. omega arith)
mark_shape marks.OpenRound = inl (40, refl, λ e. omega arith)
mark_shape marks.CloseRound = inl (41, refl, λ e. omega arith)
mark_shape marks.Less = inl (60, refl, λ e. omega arith)
mark_shape marks.Greater = inl (62, refl, λ e. omega arith)
mark_shape marks.Comma = inl (44, refl, λ e. omega arith)
mark_shape marks.Equals = inl (61, refl, λ e. omega arith)
mark_shape marks.Bang = inl (33, refl, λ e. omega arith)

-- a front that is a mark, behind its first byte
front_is_mark : (b : ℕ) (bs : List ℕ) → IsMark (b ∷ bs) → ((bs ≡ []) × (b ≡ 46 → ⊥)) ⊎ ((b ≡ 46) × (bs ≡ 46 ∷ []))
front_is_mark b bs (m, e) =
    ⊎_elim
    (λ (c, text, other). inl (cc, λ dot. other cc))
    (λ dots. inr (cc, cc))
    (mark_shape m)

second_of : (n : ℕ) (bs : List ℕ) → take n bs ≡ 46 ∷ [] → get_or bs 0 0 ≡ 46
second_of zero bs rest = cc
second_of (suc n) [] rest = cc
second_of (suc n) (b ∷ bs) rest = cc

pub longest_single : (bs : List ℕ) → is_single_mark (get_or bs 0 0) ≡ true → IsLongest bs kind.Mark 1
longest_single [] single = cc
longest_single (b ∷ bs) single =
    longest_of_kind (b ∷ bs) kind.Mark 1 (omega arith) (single_is_mark b single)
    (elim [
      | zero ↦ λ within form. omega arith
      | suc m ↦ λ within form. ⊎_elim
          (λ (none, other). let short = ap length none in let whole = length-take-le m bs (omega arith) in omega arith)
          (λ (dot, rest). absurd (let off : is_single_mark b ≡ false = rw dot refl in cc))
          (front_is_mark b (take m bs) form)
    ])

pub longest_dots : (bs : List ℕ) → get_or bs 0 0 ≡ 46 → 1 < length bs → get_or bs 1 0 ≡ 46 → IsLongest bs kind.Mark 2
longest_dots [] dot long second = cc
longest_dots (b ∷ []) dot long second = absurd (omega arith)
longest_dots (b ∷ c ∷ bs) dot long second =
    longest_of_kind (b ∷ c ∷ bs) kind.Mark 2 (omega arith) (marks.Dots, cc)
    (elim [
      | zero ↦ λ within form. omega arith
      | suc m ↦ λ within form. ⊎_elim
          (λ (none, other). absurd (other dot))
          (λ (dot, rest). let short = ap length rest in let whole = length-take-le m (c ∷ bs) (omega arith) in omega arith)
          (front_is_mark b (take m (c ∷ bs)) form)
    ])

-- a dot that no other follows
pub lone_dot : (bs : List ℕ) → get_or bs 0 0 ≡ 46 → (get_or bs 1 0 ≡ 46 → ⊥) → BeginsNoToken bs
lone_dot [] dot alone = cc
lone_dot (b ∷ bs) dot alone =
    begins_no_token (b ∷ bs) kind.Mark (rw dot refl) (elim [
      | zero ↦ λ form. nonempty kind.Mark form
      | suc n ↦ λ form. ⊎_elim
          (λ (none, other). other dot)
          (λ (dot, rest). alone (second_of n bs rest))
          (front_is_mark b (take n bs) form)
    ])
