-- Forms around other constraints as code makes them, and how they are written.
use Rattle.std.proofs.Common.{◌≡◌, ℕ, List, [], ◌∷◌, ◌++◌, codes, ap, sym, ◌∙◌, arith}
use Rattle.std.proofs.lemmas.Grind.{common_steps}
use Rattle.std.specs.List.{flat_map}
use Rattle.mn_model.specs.Problem.{Problem}
use Rattle.mn_model.specs.declared.constraint.Con.{Con}
use Rattle.mn_model.specs.declared.constraint.Cons.{Cons}
use Rattle.mn_model.specs.declared.constraint.Con.TheVariants as made
use Rattle.mn_model.specs.declared.constraint.Term.{Term}
use Rattle.mn_model.proofs.Children.{made_implied, made_more, made_negated, made_reified}
use Rattle.mn_canonical.specs.Constraints.{constraint_text, children_texts, form_text, gathered_text}
use Rattle.mn_canonical.specs.Lists.{with_commas, braced}
use Rattle.mn_canonical.specs.Names.{term_text}
use Rattle.mn_printer.specs.Pages.{Written, onto}
use Rattle.mn_printer.proofs.Joining.{onto_joined}

-- the texts
pub text_reified : (p : Problem) (all c d : Con) (r : Term) → all ≡ made.Reify c r → d ≡ c → form_text (codes "reify") (constraint_text p d ∷ term_text p r ∷ []) ≡ constraint_text p all
text_reified p all c d r is same = ap (λ (e : Con). form_text (codes "reify") (constraint_text p e ∷ term_text p r ∷ [])) same ∙ sym (ap (constraint_text p) (is ∙ made_reified c r))

pub text_implied : (p : Problem) (all c d : Con) (r : Term) → all ≡ made.Reifyimply c r → d ≡ c → form_text (codes "reifyimply") (constraint_text p d ∷ term_text p r ∷ []) ≡ constraint_text p all
text_implied p all c d r is same = ap (λ (e : Con). form_text (codes "reifyimply") (constraint_text p e ∷ term_text p r ∷ [])) same ∙ sym (ap (constraint_text p) (is ∙ made_implied c r))

pub text_negated : (p : Problem) (all c d : Con) → all ≡ made.Negated c → d ≡ c → constraint_text p d ≡ constraint_text p all
text_negated p all c d is same = ap (constraint_text p) same ∙ sym (ap (constraint_text p) (is ∙ made_negated c))

pub texts_more : (p : Problem) (all : Cons) (c : Con) (others : Cons) → all ≡ made.More c others → children_texts p all ≡ constraint_text p c ∷ children_texts p others
texts_more p all c others is = ap (children_texts p) (is ∙ made_more c others)

-- children with a comma before each
abbrev pub further_texts : Problem → Cons → List ℕ
further_texts p cs = flat_map (λ y. codes "," ++ y) (children_texts p cs)

pub one_child_more : (w v u : Written) (p : Problem) (all : Cons) (c d : Con) (others rest : Cons) → all ≡ made.More c others → d ≡ c → rest ≡ others → v ≡ onto w (codes ",") → u ≡ onto v (constraint_text p d)
    → onto u (further_texts p rest) ≡ onto w (further_texts p all)
one_child_more w v u p all c d others rest is same behind first second =
    ap (λ t. onto t (further_texts p rest)) (second ∙ ap (λ t. onto t (constraint_text p d)) first ∙ onto_joined w (codes ",") (constraint_text p d))
    ∙ onto_joined w (codes "," ++ constraint_text p d) (further_texts p rest)
    ∙ ap (onto w) (ap (λ (e : Con). (codes "," ++ constraint_text p e) ++ further_texts p rest) same ∙ ap (λ (e : Cons). (codes "," ++ constraint_text p c) ++ further_texts p e) behind ∙ sym (ap (flat_map (λ y. codes "," ++ y)) (texts_more p all c others is)))

pub children_with_commas : (p : Problem) (all : Cons) (c d : Con) (others rest : Cons) → all ≡ made.More c others → d ≡ c → rest ≡ others
    → with_commas (children_texts p all) ≡ constraint_text p d ++ further_texts p rest
children_with_commas p all c d others rest is same behind =
    ap with_commas (texts_more p all c others is) ∙ ap (λ (e : Con). constraint_text p e ++ further_texts p others) (sym same) ∙ ap (λ (e : Cons). constraint_text p d ++ further_texts p e) (sym behind)

-- the pieces of a form with others inside
pub gathered_is : (word : List ℕ) (children : List (List ℕ)) → gathered_text word children ≡ ((word ++ codes "({") ++ with_commas children) ++ codes "})"
unfolding form_text braced
gathered_is word children = regrouped word (with_commas children)
  where
    regrouped : (xs ys : List ℕ) → ((xs ++ codes "(") ++ (((codes "{" ++ ys) ++ codes "}") ++ [])) ++ codes ")" ≡ ((xs ++ codes "({") ++ ys) ++ codes "})"
    regrouped xs ys = grind (arith, common_steps)

pub tied_is : (word c r : List ℕ) → form_text word (c ∷ r ∷ []) ≡ ((((word ++ codes "(") ++ c) ++ codes ",") ++ r) ++ codes ")"
unfolding form_text
tied_is word c r = grind (arith, common_steps)
