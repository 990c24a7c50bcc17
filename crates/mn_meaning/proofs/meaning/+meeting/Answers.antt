use Rattle.std.proofs.Common.{◌≡◌, ◌≢◌, ◌↔◌, pos, ◌-ℤ◌, ◌*ℤ◌, ◌≤ℤ◌, to_z, of_z, not, IsTrue, refl, sym, subst, true≢false, ◌∙◌, arith, rules, tests}
use Rattle.std.proofs.lemmas.Grind.{common_steps}
use Rattle.mn_model.specs.declared.constraint.Con.TheFolds.{the_lemmas}
use Rattle.std.proofs.lemmas.Bool.Decides.{Decides-eqb}
use Rattle.std.proofs.lemmas.Int.{ints}
use Rattle.std.proofs.lemmas.Bool.{false_from_ne_true}
use Rattle.mn_model.specs.declared.constraint.Con.{Con}
use Rattle.mn_model.specs.declared.constraint.Term.TheVariants.{Const}
use Rattle.mn_meaning.specs.Families.{IsEntry, IsGreatest, IsLeast, distinct_count, quotient, sum_of, weighted_sum}
use Rattle.mn_meaning.specs.Meaning.{HoldsOver, values_at, value_of}
use Rattle.mn_model.proofs.Children.{made_implied, made_negated, made_reified}
use Rattle.mn_meaning.proofs.Fronts.{with_behind, with_two_behind}
use Rattle.mn_meaning.proofs.Made.{each_holds, none_holds, each_on, first_fails, first_holds, implied_over, near_first, near_implied, near_negated, near_others, near_reified, reified_over, short_first, short_implied, short_negated, short_others, short_reified, some_on}
use Rattle.mn_meaning.proofs.Told.{at_most_told, at_three, at_two, at_value, exactly_told, follows_told, found_to_be, none_follows, not_told, one_told, passed}
use Rattle.mn_meaning.proofs.meaning.+meeting.Goals as goal
use mir.Syntax.{w128}

pub meets-returns-in-Modulo : goal.meets-returns-in-Modulo
meets-returns-in-Modulo g t c =
    found_to_be c.args.lists.now (g.V.Values.values c.args.s.now) c.args.con.now _ c.in-Modulo.is (at_three (λ a b q. (b ≢ pos 0) × (q ≡ a -ℤ b *ℤ quotient a b)) _ _ _ _ _ _ (passed c.value_at-in-Modulo.result (value_of (g.V.Values.values c.args.s.now) c.in-Modulo.x) (record { sfits = c.value_at-in-Modulo.type_inv }) c.value_at-in-Modulo.ensures) (passed c.value_at-in-Modulo-2.result (value_of (g.V.Values.values c.args.s.now) c.in-Modulo.y) (record { sfits = c.value_at-in-Modulo-2.type_inv }) c.value_at-in-Modulo-2.ensures) (passed c.value_at-in-Modulo-3.result (value_of (g.V.Values.values c.args.s.now) c.in-Modulo.z) (record { sfits = c.value_at-in-Modulo-3.type_inv }) c.value_at-in-Modulo-3.ensures) c.is_remainder.ensures)

pub meets-returns-in-Max : goal.meets-returns-in-Max
meets-returns-in-Max g t c =
    found_to_be c.args.lists.now (g.V.Values.values c.args.s.now) c.args.con.now _ c.in-Max.is (with_behind IsGreatest (g.V.Values.values c.args.s.now) c.in-Max.v c.in-Max.x (at_value (IsGreatest (values_at (g.V.Values.values c.args.s.now) c.in-Max.v)) _ _ (passed c.value_at-in-Max.result (value_of (g.V.Values.values c.args.s.now) c.in-Max.x) (record { sfits = c.value_at-in-Max.type_inv }) c.value_at-in-Max.ensures) c.is_greatest.ensures))

pub meets-returns-in-Min : goal.meets-returns-in-Min
meets-returns-in-Min g t c =
    found_to_be c.args.lists.now (g.V.Values.values c.args.s.now) c.args.con.now _ c.in-Min.is (with_behind IsLeast (g.V.Values.values c.args.s.now) c.in-Min.v c.in-Min.x (at_value (IsLeast (values_at (g.V.Values.values c.args.s.now) c.in-Min.v)) _ _ (passed c.value_at-in-Min.result (value_of (g.V.Values.values c.args.s.now) c.in-Min.x) (record { sfits = c.value_at-in-Min.type_inv }) c.value_at-in-Min.ensures) c.is_least.ensures))

pub meets-returns-in-Sumleq : goal.meets-returns-in-Sumleq
meets-returns-in-Sumleq g t c =
    found_to_be c.args.lists.now (g.V.Values.values c.args.s.now) c.args.con.now _ c.in-Sumleq.is (with_behind (λ values b. sum_of values ≤ℤ b) (g.V.Values.values c.args.s.now) c.in-Sumleq.v c.in-Sumleq.x (at_most_told c.sum.result c.from.result _ _ (record { sfits = c.sum.type_inv }) (record { sfits = c.from.type_inv }) c.sum.ensures (c.from.ensures ∙ (passed c.value_at-in-Sumleq.result (value_of (g.V.Values.values c.args.s.now) c.in-Sumleq.x) (record { sfits = c.value_at-in-Sumleq.type_inv }) c.value_at-in-Sumleq.ensures))))

pub meets-returns-in-Sumgeq : goal.meets-returns-in-Sumgeq
meets-returns-in-Sumgeq g t c =
    found_to_be c.args.lists.now (g.V.Values.values c.args.s.now) c.args.con.now _ c.in-Sumgeq.is (with_behind (λ values b. b ≤ℤ sum_of values) (g.V.Values.values c.args.s.now) c.in-Sumgeq.v c.in-Sumgeq.x (at_most_told c.from-in-Sumgeq.result c.sum-in-Sumgeq.result _ _ (record { sfits = c.from-in-Sumgeq.type_inv }) (record { sfits = c.sum-in-Sumgeq.type_inv }) (c.from-in-Sumgeq.ensures ∙ (passed c.value_at-in-Sumgeq.result (value_of (g.V.Values.values c.args.s.now) c.in-Sumgeq.x) (record { sfits = c.value_at-in-Sumgeq.type_inv }) c.value_at-in-Sumgeq.ensures)) c.sum-in-Sumgeq.ensures))

pub meets-returns-in-Weightedsumleq : goal.meets-returns-in-Weightedsumleq
meets-returns-in-Weightedsumleq g t c =
    found_to_be c.args.lists.now (g.V.Values.values c.args.s.now) c.args.con.now _ c.in-Weightedsumleq.is (with_behind (λ values b. weighted_sum c.in-Weightedsumleq.ks values ≤ℤ b) (g.V.Values.values c.args.s.now) c.in-Weightedsumleq.v c.in-Weightedsumleq.x (at_most_told c.weighted_sum.result c.from-in-Weightedsumleq.result _ _ (record { sfits = c.weighted_sum.type_inv }) (record { sfits = c.from-in-Weightedsumleq.type_inv }) c.weighted_sum.ensures (c.from-in-Weightedsumleq.ensures ∙ (passed c.value_at-in-Weightedsumleq.result (value_of (g.V.Values.values c.args.s.now) c.in-Weightedsumleq.x) (record { sfits = c.value_at-in-Weightedsumleq.type_inv }) c.value_at-in-Weightedsumleq.ensures))))

pub meets-returns-in-Weightedsumgeq : goal.meets-returns-in-Weightedsumgeq
meets-returns-in-Weightedsumgeq g t c =
    found_to_be c.args.lists.now (g.V.Values.values c.args.s.now) c.args.con.now _ c.in-Weightedsumgeq.is (with_behind (λ values b. b ≤ℤ weighted_sum c.in-Weightedsumgeq.ks values) (g.V.Values.values c.args.s.now) c.in-Weightedsumgeq.v c.in-Weightedsumgeq.x (at_most_told c.from-in-Weightedsumgeq.result c.weighted_sum-in-Weightedsumgeq.result _ _ (record { sfits = c.from-in-Weightedsumgeq.type_inv }) (record { sfits = c.weighted_sum-in-Weightedsumgeq.type_inv }) (c.from-in-Weightedsumgeq.ensures ∙ (passed c.value_at-in-Weightedsumgeq.result (value_of (g.V.Values.values c.args.s.now) c.in-Weightedsumgeq.x) (record { sfits = c.value_at-in-Weightedsumgeq.type_inv }) c.value_at-in-Weightedsumgeq.ensures)) c.weighted_sum-in-Weightedsumgeq.ensures))

pub meets-returns-in-Nvalueleq : goal.meets-returns-in-Nvalueleq
meets-returns-in-Nvalueleq g t c =
    found_to_be c.args.lists.now (g.V.Values.values c.args.s.now) c.args.con.now _ c.in-Nvalueleq.is (with_behind (λ values b. pos (distinct_count values) ≤ℤ b) (g.V.Values.values c.args.s.now) c.in-Nvalueleq.v c.in-Nvalueleq.x (at_most_told c.distinct_count.result c.from-in-Nvalueleq.result _ _ (record { sfits = c.distinct_count.type_inv }) (record { sfits = c.from-in-Nvalueleq.type_inv }) c.distinct_count.ensures (c.from-in-Nvalueleq.ensures ∙ (passed c.value_at-in-Nvalueleq.result (value_of (g.V.Values.values c.args.s.now) c.in-Nvalueleq.x) (record { sfits = c.value_at-in-Nvalueleq.type_inv }) c.value_at-in-Nvalueleq.ensures))))

pub meets-returns-in-Element : goal.meets-returns-in-Element
meets-returns-in-Element g t c =
    let value = (c.from-in-Element.ensures ∙ (passed c.value_at-in-Element.result (value_of (g.V.Values.values c.args.s.now) c.in-Element.x) (record { sfits = c.value_at-in-Element.type_inv }) c.value_at-in-Element.ensures)) in
    let index : to_z w128 (of_z w128 c.from-in-Element.result) ≡ value_of (g.V.Values.values c.args.s.now) c.in-Element.x = omega (arith, ints) in
    found_to_be c.args.lists.now (g.V.Values.values c.args.s.now) c.args.con.now _ c.in-Element.is (with_two_behind (IsEntry) (g.V.Values.values c.args.s.now) c.in-Element.v c.in-Element.x c.in-Element.y (at_two (IsEntry (values_at (g.V.Values.values c.args.s.now) c.in-Element.v)) _ _ _ _ index (passed c.value_at-in-Element-2.result (value_of (g.V.Values.values c.args.s.now) c.in-Element.y) (record { sfits = c.value_at-in-Element-2.type_inv }) c.value_at-in-Element-2.ensures) c.is_entry.ensures))

pub meets-returns-in-Watchelement : goal.meets-returns-in-Watchelement
meets-returns-in-Watchelement g t c =
    let value = (c.from-in-Watchelement.ensures ∙ (passed c.value_at-in-Watchelement.result (value_of (g.V.Values.values c.args.s.now) c.in-Watchelement.x) (record { sfits = c.value_at-in-Watchelement.type_inv }) c.value_at-in-Watchelement.ensures)) in
    let index : to_z w128 (of_z w128 c.from-in-Watchelement.result) ≡ value_of (g.V.Values.values c.args.s.now) c.in-Watchelement.x = omega (arith, ints) in
    found_to_be c.args.lists.now (g.V.Values.values c.args.s.now) c.args.con.now _ c.in-Watchelement.is (with_two_behind (IsEntry) (g.V.Values.values c.args.s.now) c.in-Watchelement.v c.in-Watchelement.x c.in-Watchelement.y (at_two (IsEntry (values_at (g.V.Values.values c.args.s.now) c.in-Watchelement.v)) _ _ _ _ index (passed c.value_at-in-Watchelement-2.result (value_of (g.V.Values.values c.args.s.now) c.in-Watchelement.y) (record { sfits = c.value_at-in-Watchelement-2.type_inv }) c.value_at-in-Watchelement-2.ensures) c.is_entry-in-Watchelement.ensures))

pub meets-returns-in-ElementOne : goal.meets-returns-in-ElementOne
meets-returns-in-ElementOne g t c =
    let value = (c.from-in-ElementOne.ensures ∙ (passed c.value_at-in-ElementOne.result (value_of (g.V.Values.values c.args.s.now) c.in-ElementOne.x) (record { sfits = c.value_at-in-ElementOne.type_inv }) c.value_at-in-ElementOne.ensures)) in
    let index : to_z w128 (of_z w128 (to_z w128 (of_z w128 c.from-in-ElementOne.result) -ℤ pos 1)) ≡ value_of (g.V.Values.values c.args.s.now) c.in-ElementOne.x -ℤ pos 1 = omega (arith, ints) in
    found_to_be c.args.lists.now (g.V.Values.values c.args.s.now) c.args.con.now _ c.in-ElementOne.is (with_two_behind (λ values i a. IsEntry values (i -ℤ pos 1) a) (g.V.Values.values c.args.s.now) c.in-ElementOne.v c.in-ElementOne.x c.in-ElementOne.y (at_two (IsEntry (values_at (g.V.Values.values c.args.s.now) c.in-ElementOne.v)) _ _ _ _ index (passed c.value_at-in-ElementOne-2.result (value_of (g.V.Values.values c.args.s.now) c.in-ElementOne.y) (record { sfits = c.value_at-in-ElementOne-2.type_inv }) c.value_at-in-ElementOne-2.ensures) c.is_entry-in-ElementOne.ensures))

pub meets-returns-in-WatchelementOne : goal.meets-returns-in-WatchelementOne
meets-returns-in-WatchelementOne g t c =
    let value = (c.from-in-WatchelementOne.ensures ∙ (passed c.value_at-in-WatchelementOne.result (value_of (g.V.Values.values c.args.s.now) c.in-WatchelementOne.x) (record { sfits = c.value_at-in-WatchelementOne.type_inv }) c.value_at-in-WatchelementOne.ensures)) in
    let index : to_z w128 (of_z w128 (to_z w128 (of_z w128 c.from-in-WatchelementOne.result) -ℤ pos 1)) ≡ value_of (g.V.Values.values c.args.s.now) c.in-WatchelementOne.x -ℤ pos 1 = omega (arith, ints) in
    found_to_be c.args.lists.now (g.V.Values.values c.args.s.now) c.args.con.now _ c.in-WatchelementOne.is (with_two_behind (λ values i a. IsEntry values (i -ℤ pos 1) a) (g.V.Values.values c.args.s.now) c.in-WatchelementOne.v c.in-WatchelementOne.x c.in-WatchelementOne.y (at_two (IsEntry (values_at (g.V.Values.values c.args.s.now) c.in-WatchelementOne.v)) _ _ _ _ index (passed c.value_at-in-WatchelementOne-2.result (value_of (g.V.Values.values c.args.s.now) c.in-WatchelementOne.y) (record { sfits = c.value_at-in-WatchelementOne-2.type_inv }) c.value_at-in-WatchelementOne-2.ensures) c.is_entry-in-WatchelementOne.ensures))

pub meets-returns-in-Reify : goal.meets-returns-in-Reify
meets-returns-in-Reify g t c =
    found_to_be c.args.lists.now (g.V.Values.values c.args.s.now) c.args.con.now _ (c.in-Reify.is ∙ made_reified c.in-Reify.part c.in-Reify.r) (reified_over c.args.lists.now (g.V.Values.values c.args.s.now) c.in-Reify.part c.get.result.now c.in-Reify.r c.get.ensures (exactly_told _ c.meets.result (one_told c.value_at-in-Reify.result (value_of (g.V.Values.values c.args.s.now) c.in-Reify.r) (record { sfits = c.value_at-in-Reify.type_inv }) c.value_at-in-Reify.ensures) c.meets.ensures))

pub meets-returns-then-value_at-ne1 : goal.meets-returns-then-value_at-ne1
meets-returns-then-value_at-ne1 g t c =
    let tells = (one_told c.value_at-in-Reifyimply.result (value_of (g.V.Values.values c.args.s.now) c.in-Reifyimply.r) (record { sfits = c.value_at-in-Reifyimply.type_inv }) c.value_at-in-Reifyimply.ensures) in
    found_to_be c.args.lists.now (g.V.Values.values c.args.s.now) c.args.con.now _ (c.in-Reifyimply.is ∙ made_implied c.in-Reifyimply.part c.in-Reifyimply.r) (implied_over c.args.lists.now (g.V.Values.values c.args.s.now) c.in-Reifyimply.part c.in-Reifyimply.r (none_follows _ tells (false_from_ne_true _ (λ e. c.if-value_at-ne1.true ((Decides-eqb _ _).0 e)))))

pub meets-returns-else-value_at-ne1 : goal.meets-returns-else-value_at-ne1
meets-returns-else-value_at-ne1 g t c =
    let same : value_of (g.V.Values.values c.args.s.now) c.in-Reifyimply.r ≡ pos 1 = (one_told c.value_at-in-Reifyimply.result (value_of (g.V.Values.values c.args.s.now) c.in-Reifyimply.r) (record { sfits = c.value_at-in-Reifyimply.type_inv }) c.value_at-in-Reifyimply.ensures).0 ((Decides-eqb _ _).1 c.if-value_at-ne1.false) in
    found_to_be c.args.lists.now (g.V.Values.values c.args.s.now) c.args.con.now _ (c.in-Reifyimply.is ∙ made_implied c.in-Reifyimply.part c.in-Reifyimply.r) (implied_over c.args.lists.now (g.V.Values.values c.args.s.now) c.in-Reifyimply.part c.in-Reifyimply.r (follows_told c.meets-else-value_at-ne1.result same (subst (λ (d : Con). IsTrue c.meets-else-value_at-ne1.result ↔ HoldsOver c.args.lists.now (g.V.Values.values c.args.s.now) d) c.get-else-value_at-ne1.ensures c.meets-else-value_at-ne1.ensures)))

pub meets-returns-in-Negated : goal.meets-returns-in-Negated
meets-returns-in-Negated g t c =
    found_to_be c.args.lists.now (g.V.Values.values c.args.s.now) c.args.con.now _ (c.in-Negated.is ∙ made_negated c.in-Negated.part) (subst (λ (d : Con). IsTrue (not c.meets-in-Negated.result) ↔ (HoldsOver c.args.lists.now (g.V.Values.values c.args.s.now) d → ⊥)) c.get-in-Negated.ensures (not_told c.meets-in-Negated.result c.meets-in-Negated.ensures))

pub meets-meets-requires : goal.meets-meets-requires
meets-meets-requires g t c =
    let near = near_reified c.args.con.now c.get.result.now c.in-Reify.part c.in-Reify.r c.get.ensures c.in-Reify.is c.requires.near in
    let short = short_reified c.args.con.now c.get.result.now c.in-Reify.part c.in-Reify.r c.get.ensures c.in-Reify.is c.requires.short in
    λ κs within. (first_of (search (rules, the_lemmas), search (tests, rules, the_lemmas, common_steps), grind (arith, common_steps, the_lemmas)), (search rules, (near, (short, c.requires.valued))))

pub meets-meets-requires-else-value_at-ne1 : goal.meets-meets-requires-else-value_at-ne1
meets-meets-requires-else-value_at-ne1 g t c =
    let near = near_implied c.args.con.now c.get-else-value_at-ne1.result.now c.in-Reifyimply.part c.in-Reifyimply.r c.get-else-value_at-ne1.ensures c.in-Reifyimply.is c.requires.near in
    let short = short_implied c.args.con.now c.get-else-value_at-ne1.result.now c.in-Reifyimply.part c.in-Reifyimply.r c.get-else-value_at-ne1.ensures c.in-Reifyimply.is c.requires.short in
    λ κs within. (first_of (search (rules, the_lemmas), search (tests, rules, the_lemmas, common_steps), grind (arith, common_steps, the_lemmas)), (search rules, (near, (short, c.requires.valued))))

pub meets-meets-requires-in-Negated : goal.meets-meets-requires-in-Negated
meets-meets-requires-in-Negated g t c =
    let near = near_negated c.args.con.now c.get-in-Negated.result.now c.in-Negated.part (Const (pos 0)) c.get-in-Negated.ensures c.in-Negated.is c.requires.near in
    let short = short_negated c.args.con.now c.get-in-Negated.result.now c.in-Negated.part (Const (pos 0)) c.get-in-Negated.ensures c.in-Negated.is c.requires.short in
    λ κs within. (first_of (search (rules, the_lemmas), search (tests, rules, the_lemmas, common_steps), grind (arith, common_steps, the_lemmas)), (search rules, (near, (short, c.requires.valued))))

pub some_meets-meets-requires : goal.some_meets-meets-requires
some_meets-meets-requires g t c =
    let near = near_first c.loop-rest.rest.now c.in-More.first c.in-More.others c.in-More.is c.loop-rest.invariant.near c.get.result.now c.get.ensures in
    let short = short_first c.loop-rest.rest.now c.in-More.first c.in-More.others c.in-More.is c.loop-rest.invariant.short c.get.result.now c.get.ensures in
    λ κs within. (first_of (search (rules, the_lemmas), search (tests, rules, the_lemmas, common_steps), grind (arith, common_steps, the_lemmas)), (search rules, (near, (short, c.requires.valued))))

pub some_meets-loop-rest-preserved : goal.some_meets-loop-rest-preserved
some_meets-loop-rest-preserved g t c =
    record {
      near = near_others c.loop-rest.rest.now c.in-More.first c.in-More.others c.in-More.is c.loop-rest.invariant.near c.get-rest.result.now c.get-rest.ensures;
      short = short_others c.loop-rest.rest.now c.in-More.first c.in-More.others c.in-More.is c.loop-rest.invariant.short c.get-rest.result.now c.get-rest.ensures;
      decide = some_on c.args.lists.now (g.V.Values.values c.args.s.now) c.loop-rest.rest.now c.in-More.first c.in-More.others c.in-More.is c.get.result.now c.get.ensures c.get-rest.result.now c.get-rest.ensures (λ holds. true≢false (sym (c.meets.ensures.1 holds) ∙ c.if-meets.false)) c.loop-rest.invariant.decide;
      depth = first_of (search (rules, the_lemmas), search (tests, rules, the_lemmas, common_steps), grind (arith, common_steps, the_lemmas));
    }

pub each_meets-meets-requires : goal.each_meets-meets-requires
each_meets-meets-requires g t c =
    let near = near_first c.loop-rest.rest.now c.in-More.first c.in-More.others c.in-More.is c.loop-rest.invariant.near c.get.result.now c.get.ensures in
    let short = short_first c.loop-rest.rest.now c.in-More.first c.in-More.others c.in-More.is c.loop-rest.invariant.short c.get.result.now c.get.ensures in
    λ κs within. (first_of (search (rules, the_lemmas), search (tests, rules, the_lemmas, common_steps), grind (arith, common_steps, the_lemmas)), (search rules, (near, (short, c.requires.valued))))

pub each_meets-loop-rest-preserved : goal.each_meets-loop-rest-preserved
each_meets-loop-rest-preserved g t c =
    record {
      near = near_others c.loop-rest.rest.now c.in-More.first c.in-More.others c.in-More.is c.loop-rest.invariant.near c.get-rest.result.now c.get-rest.ensures;
      short = short_others c.loop-rest.rest.now c.in-More.first c.in-More.others c.in-More.is c.loop-rest.invariant.short c.get-rest.result.now c.get-rest.ensures;
      decide = each_on c.args.lists.now (g.V.Values.values c.args.s.now) c.loop-rest.rest.now c.in-More.first c.in-More.others c.in-More.is c.get.result.now c.get.ensures c.get-rest.result.now c.get-rest.ensures (c.meets.ensures.0 c.if-not-meets.false) c.loop-rest.invariant.decide;
      depth = first_of (search (rules, the_lemmas), search (tests, rules, the_lemmas, common_steps), grind (arith, common_steps, the_lemmas));
    }

pub some_meets-returns : goal.some_meets-returns
some_meets-returns g t c =
    (λ never. absurd (true≢false (sym never)), λ some. absurd (none_holds c.args.lists.now (g.V.Values.values c.args.s.now) c.loop-rest.rest.now c.in_default.not-More (c.loop-rest.invariant.decide.1 some)))

pub each_meets-returns : goal.each_meets-returns
each_meets-returns g t c =
    (λ _. c.loop-rest.invariant.decide.0 (each_holds c.args.lists.now (g.V.Values.values c.args.s.now) c.loop-rest.rest.now c.in_default.not-More), λ _. refl)

pub some_meets-returns-then-meets : goal.some_meets-returns-then-meets
some_meets-returns-then-meets g t c =
    (λ _. first_holds c.args.lists.now (g.V.Values.values c.args.s.now) c.loop-rest.rest.now c.in-More.first c.in-More.others c.in-More.is c.get.result.now c.get.ensures c.in-More.others refl (c.meets.ensures.0 c.if-meets.true) c.loop-rest.invariant.decide, λ _. refl)

pub each_meets-returns-then-not-meets : goal.each_meets-returns-then-not-meets
each_meets-returns-then-not-meets g t c =
    (λ never. absurd (true≢false (sym never)), λ every. absurd (first_fails c.args.lists.now (g.V.Values.values c.args.s.now) c.loop-rest.rest.now c.in-More.first c.in-More.others c.in-More.is c.get.result.now c.get.ensures c.in-More.others refl (λ holds. true≢false (sym (c.meets.ensures.1 holds) ∙ c.if-not-meets.true)) c.loop-rest.invariant.decide every))
