-- Any row of lawful sorts of argument is read lawfully.
use Rattle.std.proofs.Common.{◌≡◌, Bool, true, false, List, [], ◌∷◌, ◌++◌, Option, Some, None, refl, sym, subst}
use Rattle.mn_lexer.specs.Terminals.{Terminal, mark}
use Rattle.mn_lexer.specs.declared.marks.Mark.TheVariants.{Comma, CloseRound}
use Rattle.mn_grammar.specs.Kinds.{is_condition}
use Rattle.mn_grammar.specs.Reading.{Reader, Site, MarksOnly, then_read, ret, mark_at}
use Rattle.mn_grammar.specs.Lawful.{Spec, OnlyMarks, Lawful}
use Rattle.mn_grammar.specs.Rows.{Sorts, Arguments, with_value, spell_more, breaks_more, values_more, spell_row, breaks_row, values_row, more_at, row_at}
use Rattle.mn_grammar.proofs.Joins.{joined, Join, Lawful-then}
use Rattle.mn_grammar.proofs.Items.{nothing_on}
use Rattle.mn_grammar.proofs.Steps.{join_mark, mark_then, Lawful-mark_then, mark_last, Lawful-mark_last}
use Rattle.mn_grammar.proofs.Views.{Lawful-view}
use Rattle.mn_grammar.specs.declared.Kind.{Kind}

-- `blocks`, `start` and `some` complete the trees of each sort.
module _ {K Val : Type 0} {Tree : K → Type 0} (sorts : Sorts K Val Tree) (blocks : (k : K) → Tree k → Terminal → Bool) (start : K → Site) (some : (k : K) → Tree k) where
  abbrev pub sort_spec : (k : K) → List Val → Spec (Tree k) Val
  sort_spec k vs = record {
    spell = sorts.spell k;
    breaks = sorts.breaks k vs;
    value = sorts.value k vs;
    blocks = blocks k;
    start = start k;
    any = some k;
  }

  -- What each sort has to show: it has tokens; only marks go on with it, and neither `,` nor `)`; and the condition
  -- on the mark behind it has a condition's kind.
  pub record AreSorts : Type 0 where
    pub solid : (k : K) (a : Tree k) → sorts.spell k a ≡ [] → ⊥
    pub marks : (k : K) (a : Tree k) → OnlyMarks (blocks k a)
    pub no_comma : (k : K) (a : Tree k) → blocks k a (mark Comma) ≡ false
    pub no_shut : (k : K) (a : Tree k) → blocks k a (mark CloseRound) ≡ false
    pub mark_kinds : (k : K) (vs : List Val) (kind : Kind) → sorts.on_mark k vs ≡ Some kind → is_condition kind ≡ true

  abbrev pub some_more : (ks : List K) → Arguments Tree ks
  some_more [] = tt
  some_more (k ∷ ks) = (some k, some_more ks)

  -- the trees of the sort k and of the others, behind the values so far
  abbrev pub more_spec : (k : K) (others : List K) → List Val → Spec (Arguments Tree (k ∷ others)) (List Val)
  more_spec k others vs = record {
    spell = spell_more sorts k others;
    breaks = breaks_more sorts k others vs;
    value = values_more sorts k others vs;
    blocks = λ p t. false;
    start = start k;
    any = (some k, some_more others);
  }

  abbrev pub start_of : List K → Site
  start_of [] = MarksOnly
  start_of (k ∷ ks) = start k

  -- the trees of a row
  abbrev pub row_spec : (row : List K) → Spec (Arguments Tree row) (List Val)
  row_spec row = record {
    spell = spell_row sorts row;
    breaks = breaks_row sorts row;
    value = values_row sorts row;
    blocks = λ p t. false;
    start = start_of row;
    any = some_more row;
  }

  module _ (are : AreSorts) (read : K → List Val → Reader Val) (law : (k : K) (vs : List Val) → Lawful (sort_spec k vs) (read k vs)) where
    abbrev c : (k : K) → List Val → Tree k → Option Kind
    c k vs a = sorts.on_mark k (with_value sorts k vs a)

    abbrev after_last : (k : K) (vs : List Val) → Tree k → Spec (Unit {0}) (List Val)
    after_last k vs a = mark_last CloseRound (c k vs a) (with_value sorts k vs a)

    abbrev after_more : (k l : K) (others : List K) (vs : List Val) → Tree k → Spec (Arguments Tree (l ∷ others)) (List Val)
    after_more k l others vs a = mark_then Comma (c k vs a) (more_spec l others (with_value sorts k vs a))

    join_last : (k : K) (vs : List Val) → Join (sort_spec k vs) (after_last k vs)
    join_last k vs = join_mark (sort_spec k vs) (after_last k vs) (are.solid k) (are.marks k) (λ a. refl)
        (λ a u t q e. let same : mark CloseRound ≡ t = cc in subst (λ x. blocks k a x ≡ false) same (are.no_shut k a))

    join_more : (k l : K) (others : List K) (vs : List Val) → Join (sort_spec k vs) (after_more k l others vs)
    join_more k l others vs = join_mark (sort_spec k vs) (after_more k l others vs) (are.solid k) (are.marks k) (λ a. refl)
        (λ a p t q e. let same : mark Comma ≡ t = cc in subst (λ x. blocks k a x ≡ false) same (are.no_comma k a))

    more_step : (k l : K) (others : List K) (vs : List Val) → ((ws : List Val) → Lawful (more_spec l others ws) (more_at sorts.on_mark read l others ws)) → Lawful (more_spec k (l ∷ others) vs) (more_at sorts.on_mark read k (l ∷ others) vs)
    more_step k l others vs more =
        Lawful-view (joined (sort_spec k vs) (after_more k l others vs)) (more_spec k (l ∷ others) vs)
        (record {
          onto = λ p. p;
          back = λ p. p;
          again = λ p. refl;
          spell = λ p. refl;
          breaks = λ p. refl;
          value = λ p. refl;
          blocks = λ p t. sym (nothing_on (blocks k p.0 t));
          start = refl;
        })
        (more_at sorts.on_mark read k (l ∷ others) vs)
        (Lawful-then (sort_spec k vs) (after_more k l others vs) (join_more k l others vs) (read k vs)
        (λ v. then_read (mark_at MarksOnly Comma (sorts.on_mark k (vs ++ v ∷ []))) (λ u. more_at sorts.on_mark read l others (vs ++ v ∷ [])))
        (law k vs)
        (λ a. (after_law a).sound)
        (λ a kept. after_law a))
      where
        after_law : (a : Tree k) → Lawful (after_more k l others vs a) (then_read (mark_at MarksOnly Comma (c k vs a)) (λ u. more_at sorts.on_mark read l others (with_value sorts k vs a)))
        after_law a =
            let ws = with_value sorts k vs a in
            Lawful-mark_then Comma (c k vs a) (are.mark_kinds k ws) (more_spec l others ws) (more_at sorts.on_mark read l others ws) (more ws).sound (λ kept. more ws)

    last_step : (k : K) (vs : List Val) → Lawful (more_spec k [] vs) (more_at sorts.on_mark read k [] vs)
    last_step k vs =
        Lawful-view (joined (sort_spec k vs) (after_last k vs)) (more_spec k [] vs)
        (record {
          onto = λ p. p;
          back = λ p. p;
          again = λ p. refl;
          spell = λ p. refl;
          breaks = λ p. refl;
          value = λ p. refl;
          blocks = λ p t. sym (nothing_on (blocks k p.0 t));
          start = refl;
        })
        (more_at sorts.on_mark read k [] vs)
        (Lawful-then (sort_spec k vs) (after_last k vs) (join_last k vs) (read k vs)
        (λ v. then_read (mark_at MarksOnly CloseRound (sorts.on_mark k (vs ++ v ∷ []))) (λ u. ret (vs ++ v ∷ [])))
        (law k vs)
        (λ a. (last_law a).sound)
        (λ a kept. last_law a))
      where
        last_law : (a : Tree k) → Lawful (after_last k vs a) (then_read (mark_at MarksOnly CloseRound (c k vs a)) (λ u. ret (with_value sorts k vs a)))
        last_law a = Lawful-mark_last CloseRound (c k vs a) (with_value sorts k vs a) (are.mark_kinds k (with_value sorts k vs a))

    -- the law of the sort k and the others
    pub more_law : (others : List K) (k : K) (vs : List Val) → Lawful (more_spec k others vs) (more_at sorts.on_mark read k others vs)
    more_law [] k vs = last_step k vs
    more_law (l ∷ others) k vs = more_step k l others vs (λ ws. more_law others l ws)

    -- the law of a row
    pub row_law : (row : List K) → Lawful (row_spec row) (row_at sorts.on_mark read row)
    row_law [] =
        Lawful-view (mark_last CloseRound None []) (row_spec [])
        (record {
          onto = λ u. u;
          back = λ u. u;
          again = λ u. refl;
          spell = λ u. refl;
          breaks = λ u. refl;
          value = λ u. refl;
          blocks = λ u t. refl;
          start = refl;
        })
        (row_at sorts.on_mark read [])
        (Lawful-mark_last CloseRound None [] (λ kind e. cc))
    row_law (k ∷ ks) = more_law ks k []
