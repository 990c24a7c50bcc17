-- An alias that breaks nothing leads to as many variables as its dimensions say, all of them declared.
use Rattle.std.proofs.Common.{◌≡◌, ℕ, zero, suc, ◌+◌, ◌*◌, ◌-◌, ◌<◌, ◌≤◌, leb, ltb, false, not, ◌||◌, List, [], ◌∷◌, ◌++◌, length, Option, Some, None, Ok, refl, sym, ap, ◌∙◌, subst, arith, length-append}
use Rattle.std.specs.List.{AllByRecursion}
use Rattle.std.proofs.lemmas.Bool.{or_parts, not-false}
use Rattle.mn_lexer.specs.Terminals.{Terminal}
use Rattle.mn_model.specs.Lawful.{IsLawful, IsKnown, IsLawfulAlias}
use Rattle.mn_model.specs.Name.{IsName}
use Rattle.mn_model.specs.Problem.{Problem, domains_of, size_of_dims, variable_count}
use Rattle.mn_model.specs.Variable.{number_of}
use Rattle.mn_model.specs.declared.variable.VarId.{VarId}
use Rattle.mn_model.proofs.Variables.{length-domains_of}
use Rattle.mn_model.proofs.Lists.{all_append, all_so}
use Rattle.mn_grammar.specs.Lawful.{IsRead, Said}
use Rattle.mn_grammar.specs.Places.{when, on, behind}
use Rattle.mn_grammar.specs.declared.Kind.{Kind}
use Rattle.mn_grammar.specs.declared.Kind.TheVariants as kinds
use Rattle.mn_grammar.proofs.Steps.{on_kept}
use Rattle.mn_references.specs.Conditions.{as_kind}
use Rattle.mn_references.specs.References.{Ref, Found, value_ref, at_name, lead_of, breaks_ref, one_place}
use Rattle.mn_references.specs.Referring.{ref_at}
use Rattle.mn_references.specs.declared.want.Unfit.TheVariants.{Form}
use Rattle.mn_references.proofs.LawfulReferences.{IsGood, ref_good}
use Rattle.mn_references.proofs.Referable.{ref_spec, ref_law}
use Rattle.mn_references.proofs.Unbroken.{behind_kept, token_kept, part_kept, when_kept, as_kind_kept, unfit_kept, lesser_kept, not_less, not_at_most}
use Rattle.mn_decls.specs.Aliases.{Nest, one_var, nest_of, Nests, last_nest, nest_and, spell_nest, at_next, at_last, behind_nest, breaks_nest, breaks_nests, with_nest, with_nests, Led, nest_at}
use Rattle.mn_decls.proofs.AliasLaw.{nest_spec, nest_law}

one_more : (have each wanted some all : ℕ) → 1 ≤ wanted → some ≡ have + each → all ≡ some + (wanted - 1) * each → all ≡ have + wanted * each
one_more have each zero some all least e f = absurd (omega arith)
one_more have each (suc w) some all least e f =
    let fewer : suc w - 1 ≡ w = omega arith in
    let g : all ≡ some + w * each = f ∙ ap (λ k. some + k * each) fewer in
    omega arith

module _ (p : Problem) where
  abbrev IsDeclared : VarId → Type 0
  IsDeclared v = number_of v < variable_count p.decls

  -- one variable
  good_one : (f : Found) → IsGood p (one_place p false) f → f.behind ≡ None → length f.vars ≡ 1
  good_one f good ends =
      let kept = or_parts (not good.full) false (unfit_kept (not good.full || false) Form (good.ends ∙ ends)) in
      good.one (not-false good.full kept.0)

  -- variables with so many more behind them, all of them declared
  record Fills (vars : List VarId) (more : ℕ) (all : List VarId) : Type 0 where
    size : length all ≡ length vars + more
    known : AllByRecursion IsDeclared vars → AllByRecursion IsDeclared all

  never_shape : ◌≡◌ {A = Option Kind} (Some kinds.Shape) None → ⊥
  never_shape e = cc

  module _ (lawful : IsLawful p) where
    ref_fills : (r : Ref) (vars : List VarId) → breaks_ref p (one_place p false) r ≡ [] → (value_ref p (one_place p false) r).behind ≡ None → Fills vars 1 (vars ++ (value_ref p (one_place p false) r).vars)
    ref_fills r vars kept ends =
        let f = value_ref p (one_place p false) r in
        let good = ref_good p lawful (one_place p false) r kept in
        record {
          size = length-append vars f.vars ∙ ap (λ n. length vars + n) (good_one f good ends);
          known = λ all. all_append IsDeclared vars f.vars all good.known;
        }

    fills_same : (vars all : List VarId) (m n : ℕ) → m ≡ n → Fills vars m all → Fills vars n all
    fills_same vars all m n same fills = subst (λ k. Fills vars k all) same fills

    mutual
      nest_fills : (n : Nest) (dims : List ℕ) (vars : List VarId) → AllByRecursion (λ dim. 1 ≤ dim) dims → breaks_nest p n dims ≡ [] → behind_nest p n ≡ None → Fills vars (size_of_dims dims) (with_nest p n vars)
      nest_fills (one_var r) [] vars shaped kept ends = ref_fills r vars kept ends
      nest_fills (one_var r) (dim ∷ dims) vars shaped kept ends =
          absurd (never_shape (lesser_kept (at_name (one_place p false) (lead_of p r.name.bytes)) (Some kinds.Shape) (on_kept _ kept)).1)
      nest_fills (nest_of ns) [] vars shaped kept ends = absurd cc
      nest_fills (nest_of ns) (dim ∷ dims) vars shaped kept ends = nests_fill ns dim dims vars shaped.0 shaped.1 (behind_kept 1 (breaks_nests p ns dim dims) kept)

      nests_fill : (ns : Nests) (wanted : ℕ) (dims : List ℕ) (vars : List VarId) → 1 ≤ wanted → AllByRecursion (λ dim. 1 ≤ dim) dims → breaks_nests p ns wanted dims ≡ [] → Fills vars (wanted * size_of_dims dims) (with_nests p ns vars)
      nests_fill (last_nest n) wanted dims vars some shaped kept =
          let parts = part_kept (length (spell_nest n)) (breaks_nest p n dims) (on (at_last wanted (behind_nest p n))) kept in
          let ends = lesser_kept (as_kind (behind_nest p n)) (when (ltb 1 wanted) kinds.Shape) (on_kept _ parts.1) in
          let most = not_less 1 wanted (when_kept (ltb 1 wanted) kinds.Shape ends.1) in
          let one : wanted ≡ 1 = omega arith in
          let size : size_of_dims dims ≡ wanted * size_of_dims dims = sym (ap (λ w. w * size_of_dims dims) one ∙ omega arith) in
          fills_same vars (with_nest p n vars) _ _ size (nest_fills n dims vars shaped parts.0 (as_kind_kept (behind_nest p n) ends.0))
      nests_fill (nest_and n ns) wanted dims vars some shaped kept =
          let parts = part_kept (length (spell_nest n)) (breaks_nest p n dims) (on (at_next wanted (behind_nest p n)) ++ behind 1 (breaks_nests p ns (wanted - 1) dims)) kept in
          let later = token_kept (at_next wanted (behind_nest p n)) 1 (breaks_nests p ns (wanted - 1) dims) parts.1 in
          let ends = lesser_kept (as_kind (behind_nest p n)) (when (leb wanted 1) kinds.Shape) later.0 in
          let more = not_at_most wanted 1 (when_kept (leb wanted 1) kinds.Shape ends.1) in
          let first = nest_fills n dims vars shaped parts.0 (as_kind_kept (behind_nest p n) ends.0) in
          let others = nests_fill ns (wanted - 1) dims (with_nest p n vars) (omega arith) shaped later.1 in
          record {
            size = one_more (length vars) (size_of_dims dims) wanted (length (with_nest p n vars)) (length (with_nests p ns (with_nest p n vars))) some first.size others.size;
            known = λ all. others.known (first.known all);
          }

    nest_closed : (n : Nest) (dims : List ℕ) → 1 ≤ length dims → breaks_nest p n dims ≡ [] → behind_nest p n ≡ None
    nest_closed (nest_of ns) dims some kept = refl
    nest_closed (one_var r) [] some kept = absurd (omega arith)
    nest_closed (one_var r) (dim ∷ dims) some kept =
        absurd (never_shape (lesser_kept (at_name (one_place p false) (lead_of p r.name.bytes)) (Some kinds.Shape) (on_kept _ kept)).1)

    known_in : (v : VarId) → IsDeclared v → IsKnown (domains_of p.decls) v
    known_in v less = let same = length-domains_of p.decls in omega (arith, less, same)

    alias_from : (name dims : List ℕ) (all : List VarId) → IsName name → AllByRecursion (λ dim. 1 ≤ dim) dims → Fills [] (size_of_dims dims) all → IsLawfulAlias (domains_of p.decls) (record { name = name; dims = dims; vars = all })
    alias_from name dims all named shaped fills =
        record { named = named; shaped = shaped; filled = let size = fills.size in omega arith; known = all_so _ _ known_in all (fills.known tt) }

    -- so the alias of a tree is lawful, and that which is read
    pub matrix_kept : (name dims : List ℕ) (n : Nest) → IsName name → AllByRecursion (λ dim. 1 ≤ dim) dims → 1 ≤ length dims → breaks_nest p n dims ≡ [] → IsLawfulAlias (domains_of p.decls) (record { name = name; dims = dims; vars = with_nest p n [] })
    matrix_kept name dims n named shaped some kept = alias_from name dims (with_nest p n []) named shaped (nest_fills n dims [] shaped kept (nest_closed n dims some kept))

    pub one_kept : (name : List ℕ) (r : Ref) → IsName name → breaks_ref p (one_place p false) r ≡ [] → (value_ref p (one_place p false) r).behind ≡ None → IsLawfulAlias (domains_of p.decls) (record { name = name; dims = []; vars = (value_ref p (one_place p false) r).vars })
    one_kept name r named kept ends = alias_from name [] (value_ref p (one_place p false) r).vars named tt (ref_fills r [] kept ends)

    pub matrix_lawful : (name dims : List ℕ) (ts us : List Terminal) (v : Led) → IsName name → AllByRecursion (λ dim. 1 ≤ dim) dims → 1 ≤ length dims → nest_at p dims [] ts ≡ Ok (v, us) → IsLawfulAlias (domains_of p.decls) (record { name = name; dims = dims; vars = v.vars })
    matrix_lawful name dims ts us v named shaped some reads =
        let is : IsRead (nest_spec p dims []) ts v us = subst (λ r. Said (nest_spec p dims []) (nest_at p dims []) ts r) reads ((nest_law p dims []).said ts) in
        subst (λ (l : Led). IsLawfulAlias (domains_of p.decls) (record { name = name; dims = dims; vars = l.vars })) is.means (matrix_kept name dims is.tree named shaped some is.kept)

    pub one_lawful : (name : List ℕ) (ts us : List Terminal) (f : Found) → IsName name → f.behind ≡ None → ref_at p (one_place p false) ts ≡ Ok (f, us) → IsLawfulAlias (domains_of p.decls) (record { name = name; dims = []; vars = f.vars })
    one_lawful name ts us f named ends reads =
        let is : IsRead (ref_spec p (one_place p false)) ts f us = subst (λ r. Said (ref_spec p (one_place p false)) (ref_at p (one_place p false)) ts r) reads ((ref_law p (one_place p false)).said ts) in
        subst (λ (g : Found). IsLawfulAlias (domains_of p.decls) (record { name = name; dims = []; vars = g.vars })) is.means
        (one_kept name is.tree named is.kept (ap (λ (g : Found). g.behind) is.means ∙ ends))
