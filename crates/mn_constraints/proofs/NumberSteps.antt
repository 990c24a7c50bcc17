-- What lists of numbers answer, number by number.
use Rattle.std.proofs.Common.{◌≡◌, ◌≤◌, ℕ, ℤ, List, [], length, drop, take, Ok, ap, ◌∙◌, arith}
use Rattle.std.proofs.Math.Seq.{drop-length, take-length}
use Rattle.mn_lexer.specs.Terminals.{Terminal}
use Rattle.mn_lexer.specs.declared.marks.Mark.{Mark}
use Rattle.mn_grammar.specs.Lists.{items_at}
use Rattle.mn_grammar.specs.Reading.{number_at}
use Rattle.mn_grammar.specs.Tokens.{number_of}
use Rattle.mn_grammar.specs.declared.site.Site.TheVariants.{Free}
use Rattle.mn_cursor.proofs.Turning.{one_leaves}
use Rattle.mn_language.specs.Arguments.{Wanted, at_one, number_ends, with_number}
use Rattle.mn_constraints.specs.Numbering.{numbers_from}

-- a number leaves no more than there was
pub number_leaves : (w : Wanted) (before : List ℤ) (ts : List Terminal) (z : ℤ) (us : List Terminal) → number_at (at_one w before) ts ≡ Ok (z, us) → length us ≤ length ts
unfolding number_at
number_leaves w before ts z us is = let less = one_leaves Free number_of (at_one w before) ts z us is in omega arith

-- behind no numbers the list begins
pub numbers_start : (shut : Mark) (w : Wanted) (before : List ℤ) (ts : List Terminal) → before ≡ [] → items_at shut (number_ends w) with_number (λ b. number_at (at_one w b)) before ts ≡ numbers_from shut w [] ts
unfolding numbers_from
numbers_start shut w before ts none = ap (λ l. items_at shut (number_ends w) with_number (λ b. number_at (at_one w b)) l ts) none

-- behind all there is nothing, and all are those before it
pub all_dropped : (l : List ℤ) (n : ℕ) → n ≡ length l → drop n l ≡ []
all_dropped l n is = ap (λ k. drop k l) is ∙ drop-length l

pub all_taken : (l : List ℤ) (n : ℕ) → n ≡ length l → take n l ≡ l
all_taken l n is = ap (λ k. take k l) is ∙ take-length l
