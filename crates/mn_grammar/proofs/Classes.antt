-- Classes of tokens by a list of them, and of two classes together.
use Rattle.std.proofs.Common.{◌≡◌, ◌⊎◌, Bool, true, false, cond, ◌||◌, List, [], ◌∷◌, find, Option, Some, None, is_some, refl, sym, ap, ◌∙◌, subst, inl, inr}
use Rattle.std.specs.List.{list_all}
use Rattle.std.proofs.lemmas.Bool.{and_parts}
use Rattle.std.proofs.lemmas.Bool.Decides.{Decides-int_eq}
use Rattle.std.proofs.lemmas.Slice.Eq.{bytes_eq-Decides}
use Rattle.mn_lexer.specs.Terminals.{Terminal, word, number, head, mark}
use Rattle.mn_grammar.specs.Tokens.{same_token}
use Rattle.mn_grammar.specs.Kinds.{is_condition}
use Rattle.mn_grammar.specs.Reading.{Site, which_of, one_of, either_of, which_either}
use Rattle.mn_grammar.specs.Lawful.{IsSite, Fits, Lawful}
use Rattle.mn_grammar.proofs.Sites.{IsSite-wider, IsSite-wider_back}
use Rattle.mn_grammar.proofs.Marks.{the_mark}
use Rattle.mn_grammar.proofs.Leaves.{leaf, of_class, IsClass, Lawful-one}
use Rattle.mn_grammar.specs.declared.Kind.{Kind}

-- tokens that the test calls one are one
pub same_is : (t u : Terminal) → same_token t u ≡ true → t ≡ u
same_is (word a) (word b) e = ap (λ x. word x) ((bytes_eq-Decides a b).0 e)
same_is (number a) (number b) e = ap (λ x. number x) ((Decides-int_eq a b).0 e)
same_is (head a) (head b) e = ap (λ x. head x) ((bytes_eq-Decides a b).0 e)
same_is (mark a) (mark b) e = the_mark b (mark a) e
same_is (word a) (number b) e = cc
same_is (word a) (head b) e = cc
same_is (word a) (mark b) e = cc
same_is (number a) (word b) e = cc
same_is (number a) (head b) e = cc
same_is (number a) (mark b) e = cc
same_is (head a) (word b) e = cc
same_is (head a) (number b) e = cc
same_is (head a) (mark b) e = cc
same_is (mark a) (word b) e = cc
same_is (mark a) (number b) e = cc
same_is (mark a) (head b) e = cc

passes_at : {W : Type 0} (p : W → Bool) (all : List W) (v w : W) (b : Bool) → p v ≡ b → (find p all ≡ Some w → p w ≡ true) → cond b (Some v) (find p all) ≡ Some w → p w ≡ true
passes_at p all v w true f later e = let same : v ≡ w = cc in subst (λ x. p x ≡ true) same f
passes_at p all v w false f later e = later e

find_passes : {W : Type 0} (p : W → Bool) (all : List W) (w : W) → find p all ≡ Some w → p w ≡ true
find_passes p [] w e = cc
find_passes p (v ∷ all) w e = passes_at p all v w (p v) refl (λ f. find_passes p all w f) e

-- a class by a list: each token of it is found
pub set_class : {W : Type 0} (token : W → Terminal) (all : List W) → ((w : W) → which_of token all (token w) ≡ Some w) → IsClass token (λ w. w) (which_of token all)
set_class token all known = record {
  forth = known;
  back = λ t w e. (w, same_is t (token w) (find_passes (λ w. same_token t (token w)) all w e), refl);
}

lacks_at : {W : Type 0} (test : Terminal → Bool) (token : W → Terminal) (all : List W) (v : W) (t : Terminal) → test (token v) ≡ true → test t ≡ false → of_class (which_of token all) t ≡ false → (b : Bool) → same_token t (token v) ≡ b → is_some (cond b (Some v) (which_of token all t)) ≡ false
lacks_at test token all v t passed fails later true e = let same : test t ≡ test (token v) = ap test (same_is t (token v) e) in absurd cc
lacks_at test token all v t passed fails later false e = later

-- where all of the list pass a test, what doesn't pass it isn't wanted
pub set_lacks : {W : Type 0} (test : Terminal → Bool) (token : W → Terminal) (all : List W) → list_all (λ w. test (token w)) all ≡ true → (t : Terminal) → test t ≡ false → of_class (which_of token all) t ≡ false
set_lacks test token [] passes t fails = refl
set_lacks test token (v ∷ all) passes t fails =
    lacks_at test token all v t (and_parts (test (token v)) _ passes).0 fails (set_lacks test token all (and_parts (test (token v)) _ passes).1 t fails) (same_token t (token v)) refl

pub Lawful-one_of :
    {W : Type 0} (site : Site) (token : W → Terminal) (all : List W) (judge : W → Option Kind) (some : W)
    → ((w : W) → which_of token all (token w) ≡ Some w) → IsSite site (of_class (which_of token all))
    → ((w : W) (kind : Kind) → judge w ≡ Some kind → is_condition kind ≡ true)
    → Lawful (leaf site token (λ w. w) judge some) (one_of site token all judge)
unfolding one_of
Lawful-one_of site token all judge some known is_site kinds =
    Lawful-one site token (λ w. w) (which_of token all) judge some (record { class = set_class token all known; is_site = is_site; kinds = kinds })

-- two classes
abbrev pub either_token : {A B : Type 0} → (A → Terminal) → (B → Terminal) → A ⊎ B → Terminal
either_token first other (inl a) = first a
either_token first other (inr b) = other b

abbrev pub either_value : {A B V W : Type 0} → (A → V) → (B → W) → A ⊎ B → V ⊎ W
either_value first other (inl a) = inl (first a)
either_value first other (inr b) = inr (other b)

wanted_either : {V W : Type 0} (o : Option V) (p : Option W) → is_some (either_of o p) ≡ (is_some o || is_some p)
wanted_either (Some v) p = refl
wanted_either None (Some w) = refl
wanted_either None None = refl

module _ {A B V W : Type 0} (token : A → Terminal) (value : A → V) (classify : Terminal → Option V) (token' : B → Terminal) (value' : B → W) (classify' : Terminal → Option W) where
  either_back : (t : Terminal) (x : V ⊎ W) → IsClass token value classify → IsClass token' value' classify' → (o : Option V) (p : Option W) → classify t ≡ o → classify' t ≡ p → either_of o p ≡ Some x → (y : A ⊎ B) × (t ≡ either_token token token' y) × (either_value value value' y ≡ x)
  either_back t x a b (Some v) p e f same = let r = a.back t v e in (inl r.0, r.1, ap (λ w. inl w) r.2 ∙ inside)
    where
      inside : inl v ≡ x
      inside = cc
  either_back t x a b None (Some w) e f same = let r = b.back t w f in (inr r.0, r.1, ap (λ w. inr w) r.2 ∙ inside)
    where
      inside : inr w ≡ x
      inside = cc
  either_back t x a b None None e f same = cc

  -- one class or another, of which the second has no token of the first
  pub either_class : IsClass token value classify → IsClass token' value' classify' → ((b : B) → classify (token' b) ≡ None) → IsClass (either_token token token') (either_value value value') (which_either classify classify')
  either_class a b apart = record {
    forth = elim [
      | inl x ↦ ap (λ o. either_of o (classify' (token x))) (a.forth x)
      | inr y ↦ ap (λ o. either_of o (classify' (token' y))) (apart y) ∙ ap (λ o. either_of None o) (b.forth y)
    ];
    back = λ t x e. either_back t x a b (classify t) (classify' t) refl refl e;
  }

  -- it has the site of the one, where the other fits it
  pub site_of_first : (s : Site) → IsSite s (of_class classify) → Fits s (of_class classify') → IsSite s (of_class (which_either classify classify'))
  site_of_first s is fits = subst (IsSite s) (λ i t. sym (wanted_either (classify t) (classify' t)) i) (IsSite-wider_back s (of_class classify) (of_class classify') is fits)

  pub site_of_other : (s : Site) → Fits s (of_class classify) → IsSite s (of_class classify') → IsSite s (of_class (which_either classify classify'))
  site_of_other s fits is = subst (IsSite s) (λ i t. sym (wanted_either (classify t) (classify' t)) i) (IsSite-wider s (of_class classify) (of_class classify') fits is)
