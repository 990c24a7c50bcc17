-- What the ends of the places tell of their extreme, and what its ends tell of them.
use Rattle.std.proofs.Common.{◌≡◌, ℕ, zero, suc, ◌+◌, ◌<◌, ◌≤◌, ℤ, ◌⊎◌, inl, inr, Bool, true, false, not, List, [], length, slice_get, Some, None, Result, Ok, Err, IsErr, refl, sym, subst, ap, ◌∙◌, arith, true≢false}
use Rattle.std.proofs.lemmas.Int.{ints}
use Rattle.std.proofs.lemmas.Option.{slice_get_within}
use Rattle.mn_model.specs.Decided.{Decided, decide_nat}
use Rattle.mn_model.specs.Parts.{places}
use Rattle.mn_model.specs.declared.constraint.Con.{Con}
use Rattle.mn_model.specs.declared.constraint.Term.{Term}
use Rattle.mn_model.specs.declared.declaration.Tuples.{Tuples}
use Rattle.mn_model.proofs.Lists.{some_there}
use Rattle.mn_model.proofs.Ordered.{le_so, le_true}
use Rattle.mn_boxes.specs.Boxes.{Inside, IsBox}
use Rattle.mn_boxes.specs.Places.{PlaceHas}
use Rattle.mn_boxes.specs.Sets.{Variable}
use Rattle.mn_meaning.specs.Families.{IsWithin}
use Rattle.mn_closure.specs.Closed.{Asked}
use Rattle.mn_closure.specs.Levels.{level}
use Rattle.mn_closure.specs.Supports.{StandsAt, Supported}
use Rattle.mn_closure.proofs.Wider.{wider_place}
use Rattle.mn_prop.specs.Contexts.{ChangedAt, Context, IsNamed, box_of, vars_of}
use Rattle.mn_prop.specs.Losses.{Unsupported, nothing_goes}
use Rattle.mn_prop.specs.Passes.{AllPass, IsStep}
use Rattle.mn_prop.specs.Posts.{ClosedUnderLeaf, IsReady, beside}
use Rattle.mn_prop.specs.Revising.{PlaceClosed}
use Rattle.mn_prop.proofs.Ended.{greatest_of, least_of}
use Rattle.mn_prop.specs.declared.context.Fail.{Fail}
use Rattle.mn_prop.proofs.Boxing.{inside_itself, inside_through}
use Rattle.mn_prop.proofs.Ready.{ready_named}
use Rattle.mn_prop.proofs.Stepping.{failing, goes_inside, same_vars}
use Rattle.mn_arith.specs.Extremes.{AllCovered, AllReach, IsEndOf, IsHolder, IsSpread, OnceReached, OnlyLeft, OtherHas, Reaches, SomeExtreme, extreme_con, within}
use Rattle.mn_arith.specs.Pruning.{IsPart}
use Rattle.mn_arith.proofs.Pruned.{no_part, part_as, part_of_change, part_of_step, part_stops, part_then, pass_of}
use Rattle.mn_arith.proofs.Choosing.{behind_is, behind_long, behind_stands, front_stands, stands_front}
use Rattle.mn_arith.proofs.Told.{Beside, beside_it, front_told, its_places, stands_at}

-- ---- numbers within others

pub through : (g : Bool) (a b c : ℤ) → IsWithin g a b → IsWithin g b c → IsWithin g a c
through true a b c one two = omega (arith, ints, one, two)
through false a b c one two = omega (arith, ints, one, two)

pub turn : (g : Bool) (a b : ℤ) → IsWithin (not g) a b → IsWithin g b a
turn true a b is = is
turn false a b is = is

pub turn_back : (g : Bool) (a b : ℤ) → IsWithin g b a → IsWithin (not g) a b
turn_back true a b is = is
turn_back false a b is = is

pub same_within : (g : Bool) (a b c : ℤ) → a ≡ b → IsWithin g b c → IsWithin g a c
same_within g a b c same is = subst (λ d. IsWithin g d c) (sym same) is

pub within_so : (g : Bool) (m a : ℤ) → within g m a ≡ true → IsWithin g m a
within_so true m a e = le_so a m e
within_so false m a e = le_so m a e

pub within_true : (g : Bool) (m a : ℤ) → IsWithin g m a → within g m a ≡ true
within_true true m a is = le_true a m is
within_true false m a is = le_true m a is

pub within_out : (g : Bool) (m a : ℤ) → within g m a ≡ false → IsWithin g m a → ⊥
within_out g m a e is = true≢false (sym (within_true g m a is) ∙ e)

pub one_end : (g : Bool) (a b : ℤ) → IsWithin g b a → IsWithin g a b → a ≡ b
one_end true a b one two = omega (arith, ints, one, two)
one_end false a b one two = omega (arith, ints, one, two)

decide_lt : (k n : ℕ) → Decided (k < n)
decide_lt zero zero = inr (λ less. omega (arith, less))
decide_lt zero (suc n) = inl (omega arith)
decide_lt (suc k) zero = inr (λ less. omega (arith, less))
decide_lt (suc k) (suc n) = by (decide_lt k n)
  where
    by : Decided (k < n) → Decided (suc k < suc n)
    by (inl less) = inl (omega (arith, less))
    by (inr not) = inr (λ less. not (omega (arith, less)))

module _ (g : Bool) (v : List Term) (x : Term) (lists : List Tuples) where
  abbrev con : Con
  con = extreme_con g v x

  pub x_stands : StandsAt con (length v) x
  x_stands = stands_at g v x lists [] (length v) x (behind_stands v x)

  pub place_stands : (j : ℕ) (t : Term) → slice_get v j ≡ Some t → StandsAt con j t
  place_stands j t stands = stands_at g v x lists [] j t (front_stands v x j t stands)

  -- ---- ends of closed boxes

  pub record Ended (far : Bool) (box : List (List ℤ)) (i : ℕ) (t : Term) : Type 0 where
    pub value : ℤ
    pub is : IsEndOf far box t value
    pub supports : Supported lists con i value box
    pub beside : Beside g v x lists box i value

  module _ (vars : List Variable) (ready : IsReady vars lists con) where
    pub ended_at : (far : Bool) (box : List (List ℤ)) (i : ℕ) (t : Term) → IsBox vars box → StandsAt con i t → PlaceClosed vars (beside lists con) i box → Ended far box i t
    ended_at true box i t lawful stands closed =
        let end = greatest_of (level con) vars box t lawful (ready_named (beside lists con) i ready stands) in
        record { value = end.value; is = record { there = end.greatest.there; each = λ a has. end.greatest.greatest a has }; supports = closed t end.value stands end.asked; beside = beside_it g v x lists box i end.value (closed t end.value stands end.asked) }
    ended_at false box i t lawful stands closed =
        let end = least_of (level con) vars box t lawful (ready_named (beside lists con) i ready stands) in
        record { value = end.value; is = record { there = end.least.there; each = λ a has. end.least.least a has }; supports = closed t end.value stands end.asked; beside = beside_it g v x lists box i end.value (closed t end.value stands end.asked) }

    pub closed_at : (box : List (List ℤ)) (i : ℕ) → ClosedUnderLeaf vars (beside lists con) box → PlaceClosed vars (beside lists con) i box
    closed_at box i closed = λ t a stands asked. closed.supported i t a stands asked

    -- where there are no places no box is closed
    pub none_bare : (box : List (List ℤ)) → length v ≡ 0 → IsBox vars box → ClosedUnderLeaf vars (beside lists con) box → ⊥
    none_bare box none lawful closed =
        let end = ended_at true box (length v) x lawful x_stands (closed_at box (length v) closed) in
        let below = slice_get_within v end.beside.place end.beside.term end.beside.stands in
        omega (arith, none, below)

    module _ (old : List (List ℤ)) where
      -- ---- x by the spread of the places

      module _ (near far : ℤ) (spread : IsSpread g v old near far) where
        pub near_kept : (box : List (List ℤ)) → IsBox vars box → Inside box old → ClosedUnderLeaf vars (beside lists con) box → AllPass (within (not g) near) x box
        near_kept box lawful inside closed a has =
            let end = ended_at (not g) box (length v) x lawful x_stands (closed_at box (length v) closed) in
            let reached = end.beside.each spread.place spread.term spread.stands in
            let is = end.beside.is_last refl in
            let to_end : IsWithin g end.value reached.value = same_within g end.value end.beside.last reached.value (sym is) reached.within in
            let from = spread.from reached.value (wider_place box old inside spread.term reached.value reached.there) in
            within_true (not g) near a (turn_back g near a (through g a end.value near (turn g end.value a (end.is.each a has)) (through g end.value reached.value near to_end from)))

        pub far_kept : (box : List (List ℤ)) → IsBox vars box → Inside box old → ClosedUnderLeaf vars (beside lists con) box → AllPass (within g far) x box
        far_kept box lawful inside closed a has =
            let end = ended_at g box (length v) x lawful x_stands (closed_at box (length v) closed) in
            let is = end.beside.is_last refl in
            let from = spread.all end.beside.place end.beside.term end.beside.last end.beside.stands (wider_place box old inside end.beside.term end.beside.last end.beside.found) in
            within_true g far a (through g far end.value a (subst (IsWithin g far) is from) (end.is.each a has))

        module _ (box : List (List ℤ)) (inside : Inside box old) where
          pub near_goes : (a : ℤ) → within (not g) near a ≡ false → Unsupported (beside lists con) box x a
          near_goes a out = (
            length v,
            x_stands,
            λ supported. (
                let b = beside_it g v x lists box (length v) a supported in
                let reached = b.each spread.place spread.term spread.stands in
                let from = spread.from reached.value (wider_place box old inside spread.term reached.value reached.there) in
                within_out (not g) near a out (turn_back g near a (through g a reached.value near (same_within g a b.last reached.value (sym (b.is_last refl)) reached.within) from))),
          )

          pub far_goes : (a : ℤ) → within g far a ≡ false → Unsupported (beside lists con) box x a
          far_goes a out = (
            length v,
            x_stands,
            λ supported. (
                let b = beside_it g v x lists box (length v) a supported in
                let from = spread.all b.place b.term b.last b.stands (wider_place box old inside b.term b.last b.found) in
                within_out g far a out (subst (IsWithin g far) (b.is_last refl) from)),
          )

        pub near_reached : AllPass (within (not g) near) x old → AllReach g v x old
        near_reached all m j t has stands =
            let reached = spread.reach j t stands in
            record { value = reached.value; there = reached.there; within = through g m near reached.value (turn g near m (within_so (not g) near m (all m has))) reached.within }

      -- ---- the places by the far end of x

      module _ (far : ℤ) (is_far : IsEndOf g old x far) (j : ℕ) (t : Term) (stands : slice_get v j ≡ Some t) where
        below : j < length v
        below = slice_get_within v j t stands

        pub place_kept : (box : List (List ℤ)) → IsBox vars box → Inside box old → ClosedUnderLeaf vars (beside lists con) box → AllPass (within g far) t box
        place_kept box lawful inside closed a has =
            let end = ended_at g box j t lawful (place_stands j t stands) (closed_at box j closed) in
            let from = is_far.each end.beside.last (wider_place box old inside x end.beside.last end.beside.there) in
            within_true g far a (through g far end.beside.last a from (through g end.beside.last end.value a (end.beside.within below) (end.is.each a has)))

        pub place_goes : (box : List (List ℤ)) → Inside box old → (a : ℤ) → within g far a ≡ false → Unsupported (beside lists con) box t a
        place_goes box inside a out = (
          j,
          place_stands j t stands,
          λ supported. (
              let b = beside_it g v x lists box j a supported in
              let from = is_far.each b.last (wider_place box old inside x b.last b.there) in
              within_out g far a out (through g far b.last a from (b.within below))),
        )

      -- ---- the place that alone has the far end

      module _ (i : ℕ) (t : Term) (stands : slice_get v i ≡ Some t) (near least : ℤ) (is_near : IsEndOf (not g) old t near) (is_least : IsEndOf (not g) old x least) (never : SomeExtreme v x i near g old → ⊥) where
        past_least : (box : List (List ℤ)) → Inside box old → (a : ℤ) → PlaceHas box t a → Supported lists con i a box → IsWithin (not g) least a
        past_least box inside a has supported = by (decide_nat b.place i)
          where
            b : Beside g v x lists box i a
            b = beside_it g v x lists box i a supported

            there : PlaceHas old x b.last
            there = wider_place box old inside x b.last b.there

            by : Decided (b.place ≡ i) → IsWithin (not g) least a
            by (inl same) = subst (IsWithin (not g) least) (b.own same) (is_least.each b.last there)
            by (inr other) = absurd (never (record {
              value = b.last;
              there = there;
              can = record {
                given = through g b.last a near (b.within (slice_get_within v i t stands)) (turn g near a (is_near.each a (wider_place box old inside t a has)));
                others = λ k u at_k differs. (let reached = b.each k u at_k in record { value = reached.value; there = wider_place box old inside u reached.value reached.there; within = reached.within });
                some = inr (record { place = b.place; term = b.term; stands = b.stands; other = other; there = wider_place box old inside b.term b.last b.found });
              };
            }))

        pub only_kept : (box : List (List ℤ)) → IsBox vars box → Inside box old → ClosedUnderLeaf vars (beside lists con) box → AllPass (within (not g) least) t box
        only_kept box lawful inside closed a has =
            let end = ended_at (not g) box i t lawful (place_stands i t stands) (closed_at box i closed) in
            let supported = end.supports in
            within_true (not g) least a (through (not g) least end.value a (past_least box inside end.value end.is.there supported) (end.is.each a has))

        pub only_goes : (a : ℤ) → PlaceHas old t a → within (not g) least a ≡ false → Unsupported (beside lists con) old t a
        only_goes a has out = (i, place_stands i t stands, λ supported. within_out (not g) least a out (past_least old (record { within = λ w b h. h }) a has supported))

    -- ---- where nothing is left

    module _ (box : List (List ℤ)) (lawful : IsBox vars box) (far : ℤ) (is_far : IsEndOf g box x far) where
      by_far : AllReach g v x box → AllCovered g v x box → (k : ℕ) (t : Term) (a : ℤ) → slice_get v k ≡ Some t → PlaceHas box t a → OtherHas v k far box → Supported lists con k a box
      by_far reach covered k t a stands has other =
          let cover = covered k t a stands has in
          (front_told g v x lists box k a true (slice_get_within v k t stands) (λ u at_u. subst (λ w. PlaceHas box w a) (same_term k t u stands at_u) has) (
            λ e. record {
              value = far;
              there = is_far.there;
              can = record { given = through g far cover.value a (is_far.each cover.value cover.there) cover.within; others = λ j u at_j differs. reach far j u is_far.there at_j; some = inr other };
            },
            λ some. refl,
          )).0 refl
        where
          same_term : (k : ℕ) (t u : Term) → slice_get v k ≡ Some t → StandsAt con k u → t ≡ u
          same_term k t u stands at_u = let in_front = stands_front v x k u (slice_get_within v k t stands) (subst (λ ts. slice_get ts k ≡ Some u) (its_places g v x) at_u) in cc (stands, in_front)

      -- what is asked of each place is supported, by one that has the far end of x
      closes : PlaceClosed vars (beside lists con) (length v) box → ((k : ℕ) (t : Term) (a : ℤ) → slice_get v k ≡ Some t → Asked (level con) vars box t a → Supported lists con k a box) → ClosedUnderLeaf vars (beside lists con) box
      closes last front = record { bare = λ none. absurd (filled none); supported = λ k t a at_k asked. by k t a at_k asked (decide_below k) }
        where
          filled : places con ≡ [] → ⊥
          filled none = let long = ap length none in let is = ap length (its_places g v x) in let longer = behind_long v x in omega (arith, long, is, longer)

          decide_below : (k : ℕ) → Decided (k < length v)
          decide_below k = decide_lt k (length v)

          by : (k : ℕ) (t : Term) (a : ℤ) → StandsAt con k t → Asked (level con) vars box t a → Decided (k < length v) → Supported lists con k a box
          by k t a at_k asked (inl below) = front k t a (stands_front v x k t below (subst (λ ts. slice_get ts k ≡ Some t) (its_places g v x) at_k)) asked
          by k t a at_k asked (inr past) =
              let is = behind_is v x k t (subst (λ ts. slice_get ts k ≡ Some t) (its_places g v x) at_k) past in
              subst (λ n. Supported lists con n a box) (sym is.0) (last t a (subst (λ n. StandsAt con n t) is.0 at_k) asked)

      pub left_shared : (i : ℕ) → IsHolder v far box (Some i) → OtherHas v i far box → OnlyLeft vars (beside lists con) g v x box
      left_shared i holds other last reach covered = closes last (λ k t a stands asked. by_far reach covered k t a stands asked.there (of_other k (decide_nat k i)))
        where
          here : (t : Term) × (slice_get v i ≡ Some t)
          here = some_there v i holds.0

          of_other : (k : ℕ) → Decided (k ≡ i) → OtherHas v k far box
          of_other k (inl same) = subst (λ n. OtherHas v n far box) (sym same) other
          of_other k (inr differs) = record { place = i; term = here.0; stands = here.1; other = λ e. differs (sym e); there = holds.1 here.0 here.1 }

      pub left_alone : (i : ℕ) → IsHolder v far box (Some i) → PlaceClosed vars (beside lists con) i box → OnlyLeft vars (beside lists con) g v x box
      left_alone i holds own last reach covered = closes last (λ k t a stands asked. by k t a stands asked (decide_nat k i))
        where
          here : (t : Term) × (slice_get v i ≡ Some t)
          here = some_there v i holds.0

          by : (k : ℕ) (t : Term) (a : ℤ) → slice_get v k ≡ Some t → Asked (level con) vars box t a → Decided (k ≡ i) → Supported lists con k a box
          by k t a stands asked (inl same) = subst (λ n. Supported lists con n a box) (sym same) (own t a (place_stands i t (subst (λ n. slice_get v n ≡ Some t) same stands)) asked)
          by k t a stands asked (inr differs) = by_far reach covered k t a stands asked.there (record { place = i; term = here.0; stands = here.1; other = λ e. differs (sym e); there = holds.1 here.0 here.1 })

      pub left_none : IsHolder v far box None → OnlyLeft vars (beside lists con) g v x box
      left_none none last reach covered =
          let end = ended_at g box (length v) x lawful x_stands last in
          let b = end.beside in
          let same : end.value ≡ far = one_end g end.value far (is_far.each end.value end.is.there) (end.is.each far is_far.there) in
          absurd (none b.place b.term b.stands (subst (PlaceHas box b.term) (b.is_last refl ∙ same) b.found))

-- ---- the places in order

-- the first places are between two numbers
pub record SpreadTo (g : Bool) (v : List Term) (box : List (List ℤ)) (k : ℕ) (near far : ℤ) : Type 0 where
  pub all : (j : ℕ) (t : Term) (a : ℤ) → j < k → slice_get v j ≡ Some t → PlaceHas box t a → IsWithin g far a
  pub reach : (j : ℕ) (t : Term) → j < k → slice_get v j ≡ Some t → Reaches g near box t
  pub place : ℕ
  pub term : Term
  pub stands : slice_get v place ≡ Some term
  pub from : (a : ℤ) → PlaceHas box term a → IsWithin g a near

pub spread_first : (g : Bool) (v : List Term) (box : List (List ℤ)) (near far : ℤ) (i : ℕ) (t : Term) → slice_get v i ≡ Some t → IsEndOf (not g) box t near → SpreadTo g v box 0 near far
spread_first g v box near far i t stands is = record {
  all = λ j u a below at_j has. absurd (omega (arith, below));
  reach = λ j u below at_j. absurd (omega (arith, below));
  place = i;
  term = t;
  stands = stands;
  from = λ a has. turn g near a (is.each a has);
}

pub spread_next : (g : Bool) (v : List Term) (box : List (List ℤ)) (k : ℕ) (t : Term) (near far low high nearer farther : ℤ) → slice_get v k ≡ Some t → SpreadTo g v box k near far → IsEndOf (not g) box t low → IsEndOf g box t high
    → IsWithin g nearer near → IsWithin g nearer low → (nearer ≡ near) ⊎ (nearer ≡ low) → IsWithin g farther far → IsWithin g farther high → SpreadTo g v box (k + 1) nearer farther
spread_next g v box k t near far low high nearer farther stands so_far is_low is_high past_near past_low one past_far past_high = by one
  where
    all : (j : ℕ) (u : Term) (a : ℤ) → j < k + 1 → slice_get v j ≡ Some u → PlaceHas box u a → IsWithin g farther a
    all j u a below at_j has = each (decide_nat j k)
      where
        each : Decided (j ≡ k) → IsWithin g farther a
        each (inl same) = let is : t ≡ u = cc (same, stands, at_j) in through g farther high a past_high (is_high.each a (subst (λ w. PlaceHas box w a) (sym is) has))
        each (inr other) = through g farther far a past_far (so_far.all j u a (omega (arith, below, other)) at_j has)

    reach : (j : ℕ) (u : Term) → j < k + 1 → slice_get v j ≡ Some u → Reaches g nearer box u
    reach j u below at_j = each (decide_nat j k)
      where
        each : Decided (j ≡ k) → Reaches g nearer box u
        each (inl same) = let is : t ≡ u = cc (same, stands, at_j) in record { value = low; there = subst (λ w. PlaceHas box w low) is is_low.there; within = past_low }
        each (inr other) = let r = so_far.reach j u (omega (arith, below, other)) at_j in record { value = r.value; there = r.there; within = through g nearer near r.value past_near r.within }

    by : (nearer ≡ near) ⊎ (nearer ≡ low) → SpreadTo g v box (k + 1) nearer farther
    by (inl same) = record { all = all; reach = reach; place = so_far.place; term = so_far.term; stands = so_far.stands; from = λ a has. subst (IsWithin g a) (sym same) (so_far.from a has) }
    by (inr same) = record { all = all; reach = reach; place = k; term = t; stands = stands; from = λ a has. subst (IsWithin g a) (sym same) (turn g low a (is_low.each a has)) }

pub spread_all : (g : Bool) (v us : List Term) (box : List (List ℤ)) (k : ℕ) (near far : ℤ) → us ≡ v → length us ≤ k → SpreadTo g v box k near far → IsSpread g v box near far
spread_all g v us box k near far same past so_far = record {
  all = λ j t a stands has. so_far.all j t a (below j t stands) stands has;
  reach = λ j t stands. so_far.reach j t (below j t stands) stands;
  place = so_far.place;
  term = so_far.term;
  stands = so_far.stands;
  from = so_far.from;
}
  where
    below : (j : ℕ) (t : Term) → slice_get v j ≡ Some t → j < k
    below j t stands = let within_v = slice_get_within v j t stands in let long = ap length same in omega (arith, within_v, long, past)

-- the places so far were cut at the far end of x
abbrev pub CutTo : Bool → List Term → Term → List Tuples → ℤ → ℕ → Context → Context → Type 0
CutTo g v x lists far k old now = IsPart (beside lists (extreme_con g v x)) (λ box. (j : ℕ) (t : Term) → j < k → slice_get v j ≡ Some t → AllPass (within g far) t box) old now (Ok tt)

pub none_cut : (g : Bool) (v : List Term) (x : Term) (lists : List Tuples) (far : ℤ) (c : Context) → CutTo g v x lists far 0 c c
none_cut g v x lists far c = no_part c (λ j t below stands. absurd (omega (arith, below)))

module _ (g : Bool) (v : List Term) (x : Term) (lists : List Tuples) (far : ℤ) (k : ℕ) (old now : Context) (ready : IsReady (vars_of old) lists (extreme_con g v x)) (so_far : CutTo g v x lists far k old now) (is_far : IsEndOf g (box_of old) x far)
    (t : Term) (stands : slice_get v k ≡ Some t) (new : Context) (result : Result (Unit {0}) Fail) (changed : ChangedAt (within g far) t now new result) where
  later_ready : IsReady (vars_of now) lists (extreme_con g v x)
  later_ready = subst (λ vars. IsReady vars lists (extreme_con g v x)) (sym (same_vars so_far.narrows.loses)) ready

  inner : (box : List (List ℤ)) → Inside box (box_of now) → Inside box (box_of old)
  inner box inside = inside_through inside (goes_inside so_far.narrows.loses)

  one_cut : IsPart (beside lists (extreme_con g v x)) (AllPass (within g far) t) now new result
  one_cut = part_of_change t (ready_named (beside lists (extreme_con g v x)) k later_ready (place_stands g v x lists k t stands))
      (λ a has out. place_goes g v x lists (vars_of now) later_ready (box_of old) far is_far k t stands (box_of now) (goes_inside so_far.narrows.loses) a out)
      (λ box lawful inside closed. place_kept g v x lists (vars_of now) later_ready (box_of old) far is_far k t stands box lawful (inner box inside) closed) changed

  pub next_cut : result ≡ Ok tt → CutTo g v x lists far (k + 1) old new
  next_cut ok = part_as both (part_then so_far (subst (IsPart (beside lists (extreme_con g v x)) (AllPass (within g far) t) now new) ok one_cut))
    where
      both : ((j : ℕ) (u : Term) → j < k → slice_get v j ≡ Some u → AllPass (within g far) u (box_of old)) × AllPass (within g far) t (box_of old) → (j : ℕ) (u : Term) → j < k + 1 → slice_get v j ≡ Some u → AllPass (within g far) u (box_of old)
      both passes j u below at_j = each (decide_nat j k)
        where
          each : Decided (j ≡ k) → AllPass (within g far) u (box_of old)
          each (inl same) = let is : t ≡ u = cc (same, stands, at_j) in subst (λ w. AllPass (within g far) w (box_of old)) is passes.1
          each (inr other) = passes.0 j u (omega (arith, below, other)) at_j

  pub wrong_cut : {P : List (List ℤ) → Type 0} {end : Result (Unit {0}) Fail} (fail : Fail) → result ≡ Err fail → IsErr end → IsPart (beside lists (extreme_con g v x)) P old new end
  wrong_cut fail failed err = part_stops fail failed err (part_then so_far one_cut)

pub all_cut : (g : Bool) (v us : List Term) (x : Term) (lists : List Tuples) (far : ℤ) (k : ℕ) (old now : Context) → us ≡ v → length us ≤ k → IsEndOf g (box_of old) x far → CutTo g v x lists far k old now → IsPart (beside lists (extreme_con g v x)) (AllCovered g v x) old now (Ok tt)
all_cut g v us x lists far k old now same past is_far so_far = part_as covers so_far
  where
    covers : ((j : ℕ) (t : Term) → j < k → slice_get v j ≡ Some t → AllPass (within g far) t (box_of old)) → AllCovered g v x (box_of old)
    covers passes j t a stands has =
        let within_v = slice_get_within v j t stands in
        let long = ap length same in
        record { value = far; there = is_far.there; within = within_so g far a (passes j t (omega (arith, within_v, long, past)) stands a has) }

-- ---- parts of a pass

module _ (g : Bool) (v : List Term) (x : Term) (lists : List Tuples) where
  -- what is before the spread goes from x, and then what is past it
  module _ (old mid : Context) (result : Result (Unit {0}) Fail) (ready : IsReady (vars_of old) lists (extreme_con g v x)) (near far : ℤ) (spread : IsSpread g v (box_of old) near far) (changed : ChangedAt (within (not g) near) x old mid result) where
    pub near_part : IsPart (beside lists (extreme_con g v x)) (AllPass (within (not g) near) x) old mid result
    near_part = part_of_change x (ready_named (beside lists (extreme_con g v x)) (length v) ready (x_stands g v x lists))
        (λ a has out. near_goes g v x lists (vars_of old) ready (box_of old) near far spread (box_of old) (inside_itself (box_of old)) a out)
        (λ box lawful inside closed. near_kept g v x lists (vars_of old) ready (box_of old) near far spread box lawful inside closed) changed

    mid_ready : IsReady (vars_of mid) lists (extreme_con g v x)
    mid_ready = subst (λ vars. IsReady vars lists (extreme_con g v x)) (sym (same_vars near_part.narrows.loses)) ready

    pub far_named : IsNamed (vars_of mid) x
    far_named = ready_named (beside lists (extreme_con g v x)) (length v) mid_ready (x_stands g v x lists)

    far_part : (new : Context) (end : Result (Unit {0}) Fail) → ChangedAt (within g far) x mid new end → IsPart (beside lists (extreme_con g v x)) (AllPass (within g far) x) mid new end
    far_part new end again = part_of_change x far_named
        (λ a has out. far_goes g v x lists (vars_of mid) mid_ready (box_of old) near far spread (box_of mid) (goes_inside near_part.narrows.loses) a out)
        (λ box lawful inside closed. far_kept g v x lists (vars_of mid) mid_ready (box_of old) near far spread box lawful (inside_through inside (goes_inside near_part.narrows.loses)) closed) again

  pub both_cut : (old mid new : Context) (done : Unit {0}) (result : Result (Unit {0}) Fail) (ready : IsReady (vars_of old) lists (extreme_con g v x)) (near far : ℤ) (spread : IsSpread g v (box_of old) near far) → ChangedAt (within (not g) near) x old mid (Ok done) → ChangedAt (within g far) x mid new result
      → IsPart (beside lists (extreme_con g v x)) (AllReach g v x) old new result
  both_cut old mid new done result ready near far spread one two =
      part_as (λ both. near_reached g v x lists (vars_of old) ready (box_of old) near far spread both.0) (part_then (near_part old mid (Ok done) ready near far spread one) (far_part old mid (Ok done) ready near far spread one new result two))

  -- what is before x goes from a place whose nearest value isn't supported
  pub only_part : (old new : Context) (result : Result (Unit {0}) Fail) (ready : IsReady (vars_of old) lists (extreme_con g v x)) (i : ℕ) (t : Term) → slice_get v i ≡ Some t → (near least : ℤ) → IsEndOf (not g) (box_of old) t near → IsEndOf (not g) (box_of old) x least
      → (SomeExtreme v x i near g (box_of old) → ⊥) → ChangedAt (within (not g) least) t old new result → IsPart (beside lists (extreme_con g v x)) (λ box. Unit {0}) old new result
  only_part old new result ready i t stands near least is_near is_least never changed =
      part_as (λ all. tt) (part_of_change t (ready_named (beside lists (extreme_con g v x)) i ready (place_stands g v x lists i t stands))
      (λ a has out. only_goes g v x lists (vars_of old) ready (box_of old) i t stands near least is_near is_least never a has out)
      (λ box lawful inside closed. only_kept g v x lists (vars_of old) ready (box_of old) i t stands near least is_near is_least never box lawful inside closed) changed)

  -- what has to be supported of a place is
  pub place_part : {old new : Context} {result : Result (Unit {0}) Fail} (i : ℕ) → IsStep (Unsupported (beside lists (extreme_con g v x))) (PlaceClosed (vars_of old) (beside lists (extreme_con g v x)) i) old new result
      → IsPart (beside lists (extreme_con g v x)) (PlaceClosed (vars_of old) (beside lists (extreme_con g v x)) i) old new result
  place_part i step = part_of_step (λ box lawful inside closed. λ t a stands asked. closed.supported i t a stands asked) step

  pub place_then : {P : List (List ℤ) → Type 0} {old mid new : Context} {done : Unit {0}} {result : Result (Unit {0}) Fail} (i : ℕ) → IsPart (beside lists (extreme_con g v x)) P old mid (Ok done)
      → IsStep (Unsupported (beside lists (extreme_con g v x))) (PlaceClosed (vars_of mid) (beside lists (extreme_con g v x)) i) mid new result
      → IsPart (beside lists (extreme_con g v x)) (PlaceClosed (vars_of old) (beside lists (extreme_con g v x)) i) old new result
  place_then {mid = mid} {new = new} {result = result} i one two =
      part_as (λ both. both.1) (part_then one (subst (λ vars. IsPart (beside lists (extreme_con g v x)) (PlaceClosed vars (beside lists (extreme_con g v x)) i) mid new result) (same_vars one.narrows.loses) (place_part i two)))

  -- where there are no places, and the whole pass
  pub bare_fails : (c : Context) → IsReady (vars_of c) lists (extreme_con g v x) → length v ≡ 0 → {end : Result (Unit {0}) Fail} → IsErr end → IsStep (Unsupported (beside lists (extreme_con g v x))) (ClosedUnderLeaf (vars_of c) (beside lists (extreme_con g v x))) c c end
  bare_fails c ready none {end = Ok done} err = cc
  bare_fails c ready none {end = Err fail} err = failing fail (nothing_goes c) (λ box lawful inside closed. none_bare g v x lists (vars_of c) ready box none lawful closed)

  pub revised_part : {n : ℕ} {old new : Context} {result : Result (Unit {0}) Fail} → n ≡ length v → IsStep (Unsupported (beside lists (extreme_con g v x))) (PlaceClosed (vars_of old) (beside lists (extreme_con g v x)) n) old new result
      → IsPart (beside lists (extreme_con g v x)) (OnceReached (vars_of old) (beside lists (extreme_con g v x)) g v x) old new result
  revised_part {n = n} {old = old} {new = new} {result = result} is step =
      part_as (λ closed reach. closed) (subst (λ k. IsPart (beside lists (extreme_con g v x)) (PlaceClosed (vars_of old) (beside lists (extreme_con g v x)) k) old new result) is (place_part n step))

  pub pass_by_parts : {old reached found covered new : Context} {d e f : Unit {0}} {result : Result (Unit {0}) Fail}
      → IsPart (beside lists (extreme_con g v x)) (AllReach g v x) old reached (Ok d)
      → IsPart (beside lists (extreme_con g v x)) (OnceReached (vars_of reached) (beside lists (extreme_con g v x)) g v x) reached found (Ok e)
      → IsPart (beside lists (extreme_con g v x)) (AllCovered g v x) found covered (Ok f)
      → IsPart (beside lists (extreme_con g v x)) (OnlyLeft (vars_of covered) (beside lists (extreme_con g v x)) g v x) covered new result
      → IsStep (Unsupported (beside lists (extreme_con g v x))) (ClosedUnderLeaf (vars_of old) (beside lists (extreme_con g v x))) old new result
  pass_by_parts {old = old} {reached = reached} {found = found} {covered = covered} {new = new} {e = e} {result = result} one two three four =
      let posted = beside lists (extreme_con g v x) in
      let same_reached = same_vars one.narrows.loses in
      let same_found = same_vars two.narrows.loses ∙ same_reached in
      let same_covered = same_vars three.narrows.loses ∙ same_found in
      let second = subst (λ vars. IsPart posted (OnceReached vars posted g v x) reached found (Ok e)) same_reached two in
      let fourth = subst (λ vars. IsPart posted (OnlyLeft vars posted g v x) covered new result) same_covered four in
      pass_of (λ all. all.1 (all.0.0.1 all.0.0.0) all.0.0.0 all.0.1) (part_then (part_then (part_then one second) three) fourth)
