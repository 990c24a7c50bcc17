-- Children of a nested form, made of a list and taken apart.
use Rattle.std.proofs.Common.{◌≡◌, pos, ◌+◌, ◌<◌, ◌≤◌, List, [], ◌∷◌, ◌++◌, refl, ap, subst, ◌∙◌, arith}
use Rattle.mn_model.specs.Lawful.{HasNearConstants, HaveNearConstants, IsNear, IsNearTerm}
use Rattle.mn_model.specs.Parts.{places, places_of, constants, constants_of, cell_count, cell_count_of}
use Rattle.mn_model.specs.Negation.{more, reified, negated, other, followed_by, negation, negations}
use Rattle.mn_model.specs.declared.constraint.Con.{Con, size-Con}
use Rattle.mn_model.specs.declared.constraint.Cons.{Cons, size-Cons}
use Rattle.mn_model.specs.declared.constraint.Con.TheViews.{sized-More, sized-Reify, sized-Reifyimply, sized-Negated}
use Rattle.mn_model.specs.declared.constraint.Con.TheVariants.{End}
use Rattle.mn_model.specs.declared.constraint.Con.TheVariants as made
use Rattle.mn_model.specs.declared.constraint.Con.TheBlock.{more_of-Con, end_of-Con}
use Rattle.mn_model.specs.declared.constraint.Term.{Term}
use Rattle.mn_model.proofs.Lists.{all_back, all_front}

-- a constraint that a 0/1 term implies
abbrev pub implied : Con → Term → Con
implied c r = made.Reifyimply' tt (more_of-Con c end_of-Con) r

-- one more at the end
pub followed_by-push : (cs : List Con) (c : Con) (others : Cons) → followed_by (cs ++ c ∷ []) others ≡ followed_by cs (more c others)
followed_by-push [] c others = refl
followed_by-push (d ∷ cs) c others = ap (more d) (followed_by-push cs c others)

-- what code makes of a child and others is the child in front of them, and so with one constraint
pub made_more : (c : Con) (others : Cons) → made.More c others ≡ more c others
unfolding Rattle.mn_model.specs.declared.constraint.Con.TheBlock.shape-the_row-Con-0 Rattle.mn_model.specs.declared.constraint.Con.TheBlock.hidden-the_row-Con-0 Rattle.mn_model.specs.declared.constraint.Con.TheBlock.shape-the_row-Cons-1 Rattle.mn_model.specs.declared.constraint.Con.TheBlock.hidden-the_row-Cons-1 denote.Hole.Carrier.hidden
made_more c others = refl

pub made_reified : (c : Con) (r : Term) → made.Reify c r ≡ reified c r
unfolding Rattle.mn_model.specs.declared.constraint.Con.TheBlock.shape-the_row-Con-0 Rattle.mn_model.specs.declared.constraint.Con.TheBlock.hidden-the_row-Con-0 denote.Hole.Carrier.hidden
made_reified c r = refl

pub made_negated : (c : Con) → made.Negated c ≡ negated c
unfolding Rattle.mn_model.specs.declared.constraint.Con.TheBlock.shape-the_row-Con-0 Rattle.mn_model.specs.declared.constraint.Con.TheBlock.hidden-the_row-Con-0 denote.Hole.Carrier.hidden
made_negated c = refl

pub made_implied : (c : Con) (r : Term) → made.Reifyimply c r ≡ implied c r
unfolding Rattle.mn_model.specs.declared.constraint.Con.TheBlock.shape-the_row-Con-0 Rattle.mn_model.specs.declared.constraint.Con.TheBlock.hidden-the_row-Con-0 denote.Hole.Carrier.hidden
made_implied c r = refl

-- what is behind a child is less deep
pub others_below : (c : Con) (others : Cons) → size-Cons others ≤ size-Cons (made.More c others)
others_below c others = omega (arith, sized-More c others)

-- so is a child, and so is the constraint that a form stands around
pub first_below : (all : Cons) (c : Con) (others : Cons) → all ≡ made.More c others → size-Con c < size-Cons all
first_below all c others is = omega (arith, sized-More c others, ap size-Cons is)

pub reified_below : (all c : Con) (r : Term) → all ≡ made.Reify c r → size-Con c < size-Con all
reified_below all c r is = omega (arith, sized-Reify c r, ap size-Con is)

pub implied_below : (all c : Con) (r : Term) → all ≡ made.Reifyimply c r → size-Con c < size-Con all
implied_below all c r is = omega (arith, sized-Reifyimply c r, ap size-Con is)

pub negated_below : (all c : Con) → all ≡ made.Negated c → size-Con c < size-Con all
negated_below all c is = omega (arith, sized-Negated c, ap size-Con is)

-- the cells of a form around another are those of the other
pub cells_reified : (all c : Con) (r : Term) → all ≡ made.Reify c r → cell_count all ≡ cell_count c
cells_reified all c r is = ap cell_count (is ∙ made_reified c r)

pub cells_implied : (all c : Con) (r : Term) → all ≡ made.Reifyimply c r → cell_count all ≡ cell_count c
cells_implied all c r is = ap cell_count (is ∙ made_implied c r)

pub cells_negated : (all c : Con) → all ≡ made.Negated c → cell_count all ≡ cell_count c
cells_negated all c is = ap cell_count (is ∙ made_negated c)

-- those of several are those of the first and of the others
pub cells_more : (all : Cons) (c : Con) (others : Cons) → all ≡ made.More c others → cell_count_of all ≡ cell_count c + cell_count_of others
cells_more all c others is = ap cell_count_of (is ∙ made_more c others)

-- where the constants of a form are near the limits, so are those of its parts
pub near_reified : (all c : Con) (r : Term) → all ≡ made.Reify c r → HasNearConstants all → IsNearTerm r
near_reified all c r is near = (all_back IsNearTerm (places c) (r ∷ []) (subst HasNearConstants (is ∙ made_reified c r) near).places).0

pub near_implied : (all c : Con) (r : Term) → all ≡ made.Reifyimply c r → HasNearConstants all → HasNearConstants c
near_implied all c r is near =
    let whole = subst HasNearConstants (is ∙ made_implied c r) near in
    record { places = all_front IsNearTerm (places c) (r ∷ []) whole.places; constants = whole.constants }

pub near_first : (all : Cons) (c : Con) (others : Cons) → all ≡ made.More c others → HaveNearConstants all → HasNearConstants c
near_first all c others is near =
    let whole = subst HaveNearConstants (is ∙ made_more c others) near in
    record { places = all_front IsNearTerm (places c) (places_of others) whole.places; constants = all_front IsNear (constants c) (constants_of others) whole.constants }

pub near_others : (all : Cons) (c : Con) (others : Cons) → all ≡ made.More c others → HaveNearConstants all → HaveNearConstants others
near_others all c others is near =
    let whole = subst HaveNearConstants (is ∙ made_more c others) near in
    record { places = all_back IsNearTerm (places c) (places_of others) whole.places; constants = all_back IsNear (constants c) (constants_of others) whole.constants }

-- the negation of a form around another
pub negation_reified : (all c : Con) (r : Term) → all ≡ made.Reify c r → negation all ≡ reified c (other r)
negation_reified all c r is = ap negation (is ∙ made_reified c r)

pub negation_implied : (all c : Con) (r : Term) → all ≡ made.Reifyimply c r → negation all ≡ made.WatchedAnd (more (made.WLiteral r (pos 1)) (more (negation c) End))
negation_implied all c r is = ap negation (is ∙ made_implied c r)

pub negation_negated : (all c : Con) → all ≡ made.Negated c → negation all ≡ c
negation_negated all c is = ap negation (is ∙ made_negated c)

pub negations_more : (all : Cons) (c : Con) (others : Cons) → all ≡ made.More c others → negations all ≡ more (negation c) (negations others)
negations_more all c others is = ap negations (is ∙ made_more c others)
