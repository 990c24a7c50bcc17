-- The variables of an alias, as they are read.
use Rattle.std.proofs.Common.{◌≡◌, ℕ, zero, suc, ◌-◌, ◌*◌, ◌<◌, ◌≤◌, leb, false, List, [], ◌∷◌, ◌++◌, length, map, take, drop, None, refl, sym, ap, ◌∙◌, subst, arith, append_assoc, length-drop}
use Rattle.std.specs.List.{AllByRecursion}
use Rattle.std.proofs.lemmas.List.{length-take-le, take_all, take-append-drop}
use Rattle.mn_model.specs.Lawful.{IsKnown}
use Rattle.mn_model.specs.Problem.{Problem, size_of_dims, domains_of}
use Rattle.mn_model.specs.declared.variable.VarId.{VarId}
use Rattle.mn_model.proofs.Lists.{all_back, all_front}
use Rattle.mn_grammar.specs.Places.{on, behind}
use Rattle.mn_grammar.specs.declared.Kind.TheVariants as kinds
use Rattle.mn_references.specs.References.{Found, breaks_ref, value_ref, one_place}
use Rattle.mn_decls.specs.Aliases.{Nest, Nests, one_var, last_nest, nest_and, spell_nest, at_next, at_last, behind_nest, breaks_nest, breaks_nests, with_nest, with_nests}
use Rattle.mn_sections.specs.Matrices.{rows_of}
use Rattle.mn_sections.specs.Trees.{one_of, nests_from, nest_from}
use Rattle.mn_sections.proofs.References.{HasVariables, ref_breaks, ref_value}
use Rattle.mn_sections.proofs.Kept.{on_none, behind_nothing, part_nothing, token_nothing, when_not, leb_not}

module _ (p q : Problem) (has : HasVariables p q) where
  abbrev AreKnown : List VarId → Type 0
  AreKnown vars = AllByRecursion (IsKnown (domains_of p.decls)) vars

  -- 1. One variable
  pub one_breaks : (vars : List VarId) → length vars ≡ 1 → AreKnown vars → breaks_ref q (one_place q false) (one_of p vars) ≡ []
  one_breaks [] one known = absurd (omega (arith, one))
  one_breaks (v ∷ []) one known = ref_breaks p q has v known.0 (one_place q false) refl
  one_breaks (v ∷ w ∷ vars) one known = absurd (omega (arith, one))

  pub one_means : (vars : List VarId) → length vars ≡ 1 → AreKnown vars → value_ref q (one_place q false) (one_of p vars) ≡ record { vars = vars; dims = []; behind = None }
  one_means [] one known = absurd (omega (arith, one))
  one_means (v ∷ []) one known = ref_value p q has v known.0 (one_place q false)
  one_means (v ∷ w ∷ vars) one known = absurd (omega (arith, one))

  -- 2. A nest breaks nothing by its dimensions, and leads to these variables
  pub record IsNested (dims : List ℕ) (vars : List VarId) (n : Nest) : Type 0 where
    pub kept : breaks_nest q n dims ≡ []
    pub ends : behind_nest q n ≡ None
    pub means : (before : List VarId) → with_nest q n before ≡ before ++ vars

  -- so do several
  record AreNested (wanted : ℕ) (dims : List ℕ) (vars : List VarId) (ns : Nests) : Type 0 where
    kept : breaks_nests q ns wanted dims ≡ []
    means : (before : List VarId) → with_nests q ns before ≡ before ++ vars

  one_nested : (vars : List VarId) → length vars ≡ 1 → AreKnown vars → IsNested [] vars (one_var (one_of p vars))
  one_nested vars one known =
      let value = one_means vars one known in
      record {
        kept = one_breaks vars one known;
        ends = ap (λ (f : Found). f.behind) value;
        means = λ before. ap (λ (f : Found). before ++ f.vars) value;
      }

  -- the last of them, and one before others
  last_nested : (dims : List ℕ) (vars : List VarId) (n : Nest) → IsNested dims vars n → AreNested 1 dims vars (last_nest n)
  last_nested dims vars n is = record {
    kept = part_nothing (length (spell_nest n)) (breaks_nest q n dims) (on (at_last 1 (behind_nest q n))) is.kept (on_none (at_last 1 (behind_nest q n)) (ap (at_last 1) is.ends));
    means = is.means;
  }

  also_nested : (wanted less : ℕ) (dims : List ℕ) (vars others : List VarId) (n : Nest) (ns : Nests) → 1 < wanted → wanted - 1 ≡ less → IsNested dims vars n → AreNested less dims others ns → AreNested wanted dims (vars ++ others) (nest_and n ns)
  also_nested wanted less dims vars others n ns more one is are = record {
    kept = part_nothing (length (spell_nest n)) (breaks_nest q n dims) (on (at_next wanted (behind_nest q n)) ++ behind 1 (breaks_nests q ns (wanted - 1) dims)) is.kept
        (token_nothing (at_next wanted (behind_nest q n)) 1 (breaks_nests q ns (wanted - 1) dims)
        (ap (at_next wanted) is.ends ∙ when_not (leb wanted 1) kinds.Shape (leb_not wanted 1 more))
        (ap (λ k. breaks_nests q ns k dims) one ∙ are.kept));
    means = λ before. ap (with_nests q ns) (is.means before) ∙ are.means (before ++ vars) ∙ append_assoc before vars others;
  }

  -- 3. Rows of a matrix, where each by itself is so
  module _ (dims : List ℕ) (each : (vars : List VarId) → length vars ≡ size_of_dims dims → AreKnown vars → IsNested dims vars (nest_from p dims vars)) where
    front_known : (n : ℕ) (vars : List VarId) → AreKnown vars → AreKnown (take n vars) × AreKnown (drop n vars)
    front_known n vars known =
        let all = subst AreKnown (sym (take-append-drop n vars)) known in
        (all_front (IsKnown (domains_of p.decls)) (take n vars) (drop n vars) all, all_back (IsKnown (domains_of p.decls)) (take n vars) (drop n vars) all)

    rows_nested : (count : ℕ) (vars : List VarId) → 1 ≤ count → length vars ≡ count * size_of_dims dims → AreKnown vars → AreNested count dims vars (nests_from (map (nest_from p dims) (rows_of (size_of_dims dims) count vars)))
    rows_nested zero vars some size known = absurd (omega (arith, some))
    rows_nested (suc zero) vars some size known =
        let same = take_all (size_of_dims dims) vars (omega (arith, size)) in
        subst (λ row. AreNested 1 dims vars (last_nest (nest_from p dims row))) (sym same)
        (last_nested dims vars (nest_from p dims vars) (each vars (omega (arith, size)) known))
    rows_nested (suc (suc n)) vars some size known =
        let row = size_of_dims dims in
        let both = front_known row vars known in
        let front = length-take-le row vars (omega (arith, size)) in
        let back = length-drop row vars in
        let here = each (take row vars) front both.0 in
        let others = rows_nested (suc n) (drop row vars) (omega arith) (omega (arith, back, size)) both.1 in
        subst (λ vs. AreNested (suc (suc n)) dims vs (nests_from (map (nest_from p dims) (rows_of row (suc (suc n)) vars)))) (take-append-drop row vars)
        (also_nested (suc (suc n)) (suc n) dims (take row vars) (drop row vars) (nest_from p dims (take row vars)) (nests_from (map (nest_from p dims) (rows_of row (suc n) (drop row vars)))) (omega arith) (omega arith) here others)

  -- 4. A nest by its dimensions
  pub nested : (dims : List ℕ) (vars : List VarId) → AllByRecursion (λ dim. 1 ≤ dim) dims → length vars ≡ size_of_dims dims → AreKnown vars → IsNested dims vars (nest_from p dims vars)
  nested [] vars some size known = one_nested vars size known
  nested (dim ∷ dims) vars some size known =
      let rows = rows_nested dims (λ row. nested dims row some.1) dim vars some.0 size known in
      record { kept = behind_nothing 1 _ rows.kept; ends = refl; means = rows.means }
