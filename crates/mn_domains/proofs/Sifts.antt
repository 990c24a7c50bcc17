-- A variable's set after those values were taken out that fail a test.
use Rattle.std.proofs.Common.{◌≡◌, ℕ, ◌-◌, ◌<◌, ℤ, pos, ◌≤ℤ◌, ◌⊎◌, inl, inr, int_le, IsTrue, Bool, true, false, true≢false, not, cond, ◌&&◌, List, [], ◌∷◌, length, filter, get_or, slice_set, Option, is_some, Some, None, Ok, refl, sym, subst, ap, ◌∙◌, arith}
use Rattle.std.proofs.lemmas.Int.{ints}
use Rattle.std.proofs.lemmas.List.{set-get_or}
use Rattle.std.proofs.lemmas.Option.{slice_get-get_or}
use Rattle.mn_model.specs.Domain.{Has, IsFirst, IsLast}
use Rattle.mn_model.proofs.Filtered.{filter_ascends, has_filter}
use Rattle.mn_model.proofs.Stretches.{plus-int_gap}
use Rattle.mn_boxes.specs.Bits.{bit_of}
use Rattle.mn_boxes.specs.Boxes.{set_of, variable_at}
use Rattle.mn_boxes.specs.Sets.{Variable, greatest, least}
use Rattle.mn_boxes.specs.Values.{Values, members}
use Rattle.mn_boxes.specs.declared.change.Moved.{Moved}
use Rattle.mn_boxes.proofs.Members.{stands_first, stands_last}
use Rattle.mn_domains.specs.Changes.{Changed}
use Rattle.mn_domains.specs.Held.{IsHeld, IsKept, IsShape, TellsMoved, is_bounded_shape, marked, values_held, variable_held}
use Rattle.mn_domains.specs.Rows.{AreMarksOf, is_hit, passes}
use Rattle.mn_domains.specs.Sets.{Sets}
use Rattle.mn_domains.specs.Sifting.{stays}
use Rattle.mn_domains.specs.States.{Sieves, sieved_ends}
use Rattle.mn_domains.specs.declared.rows.Row.{Row}
use Rattle.mn_domains.specs.declared.shape.Ends.{Ends}
use Rattle.mn_domains.specs.declared.shape.Shape.{Shape}
use Rattle.mn_domains.specs.declared.shape.Shape.TheVariants.{Stretch, Listed, Bits}
use Rattle.mn_domains.specs.declared.state.State.{State}
use Rattle.mn_domains.proofs.Filtered.{filter_alike}
use Rattle.mn_domains.proofs.Firsts.{no_least}
use Rattle.mn_domains.proofs.Marks.{is_marked}
use Rattle.mn_domains.proofs.Put.{changed_put}
use Rattle.mn_domains.proofs.RowChange.{NewRow, RowChanged, row_changed}
use Rattle.mn_domains.proofs.ShapeLemmas.{Ascends-held, row_held}
use Rattle.mn_domains.proofs.Sieve.{hit_before, hit_behind}
use Rattle.mn_domains.proofs.Sifted.{from_least, sieved_row, stays_all, stays_ends, stays_none, stays_plain}
use Rattle.mn_domains.proofs.Standing.{known, seen}
use Rattle.mn_domains.proofs.Unmarking.{bounded_held}

-- what isn't lost passes
other_passes : (s : Values) (wanted : Bool) (a : ℤ) → passes s (not wanted) a ≡ false → passes s wanted a ≡ true
other_passes s true a none = by (members s a) none
  where
    by : (t : Bool) → not t ≡ false → t ≡ true
    by true h = refl
    by false h = absurd (true≢false h)
other_passes s false a none = ap not none

no_greatest : (xs : List ℤ) → greatest xs ≡ None → xs ≡ []
no_greatest [] none = refl
no_greatest (x ∷ xs) none = let some = slice_get-get_or (x ∷ xs) (length (x ∷ xs) - 1) (pos 0) (omega arith) in cc

empty_none : (p : ℤ → Bool) (xs : List ℤ) → filter p xs ≡ [] → (a : ℤ) → Has xs a → p a ≡ false
empty_none p [] none a has = absurd has
empty_none p (x ∷ xs) none a has = by (λ rest later. empty_none p xs rest a later) (p x) refl none has
  where
    by : (filter p xs ≡ [] → Has xs a → p a ≡ false) → (t : Bool) → p x ≡ t → cond t (x ∷ filter p xs) (filter p xs) ≡ [] → Has (x ∷ xs) a → p a ≡ false
    by among true e h there = cc
    by among false e h (inl is) = ap p (sym is) ∙ e
    by among false e h (inr later) = among h later

-- where nothing is lost, what stays is the whole set
pub rest_values : (listed : List ℤ) (bits : List ℕ) (room : ℕ) (shape : Shape) (e : Ends) (set : Values) (wanted : Bool) (var : Variable) (zs : List ℤ) → IsShape listed room shape → IsHeld listed bits shape e → zs ≡ values_held listed bits shape e
    → least (filter (λ x. int_le e.lo x && passes set (not wanted) x) (values_held listed bits shape e)) ≡ None → values_held listed bits shape e ≡ filter (stays var (passes set wanted) zs) (values_held listed bits shape e)
rest_values listed bits room shape e set wanted var zs is held same none =
    let xs = values_held listed bits shape e in
    let up = Ascends-held listed bits room shape e is held.within in
    let lost : filter (passes set (not wanted)) xs ≡ [] = sym (from_least xs e e.lo (passes set (not wanted)) up held.ends (omega (arith, ints))) ∙ no_least (filter (λ x. int_le e.lo x && passes set (not wanted) x) xs) none in
    sym (ap (λ ys. filter (stays var (passes set wanted) ys) xs) same ∙ stays_all var (passes set wanted) xs (λ a has. other_passes set wanted a (empty_none (passes set (not wanted)) xs lost a has)))

pub rest_changed : (listed : List ℤ) (shapes : List Shape) (old : State) (saved : List State) (s : Sets) (v : ℕ) (shape : Shape) (e : Ends) (p : ℤ → Bool) (moved : Moved) → seen listed shapes old saved ≡ s → IsKept listed shapes old saved → v < length s.vars
    → shape ≡ get_or shapes v shape → e ≡ get_or old.ends.items v e → values_held listed old.bits.items shape e ≡ filter p (values_held listed old.bits.items shape e) → TellsMoved e e moved → Changed p v s s (Ok moved)
rest_changed listed shapes old saved s v shape e p moved view kept within at_shape at_ends values tells =
    let k = known listed shapes old saved s v shape e view kept within at_shape at_ends in
    let same : slice_set old.ends.items v e ≡ old.ends.items = ap (slice_set old.ends.items v) at_ends ∙ set-get_or old.ends.items v e in
    subst (λ (t : Sets). Changed p v s t (Ok moved)) view (changed_put listed shapes old old saved s v shape e e p moved view kept within at_shape at_ends k.held values (record { ends = sym same; bits = refl; left = refl }) tells)

pub none_so : (o : Option ℤ) (b : Bool) → is_some o ≡ not b → b ≡ true → o ≡ None
none_so None b is t = refl
none_so (Some a) b is t = absurd (true≢false (is ∙ ap not t))

-- where none passes, nothing stays
pub emptied_least : (listed : List ℤ) (bits : List ℕ) (room : ℕ) (shape : Shape) (e : Ends) (p : ℤ → Bool) (var : Variable) (zs : List ℤ) → IsShape listed room shape → IsHeld listed bits shape e → zs ≡ values_held listed bits shape e
    → least (filter (λ x. int_le e.lo x && p x) (values_held listed bits shape e)) ≡ None → filter (stays var p zs) zs ≡ []
emptied_least listed bits room shape e p var zs is held same none =
    let xs = values_held listed bits shape e in
    let up = Ascends-held listed bits room shape e is held.within in
    stays_none var p zs (ap (filter p) same ∙ (sym (from_least xs e e.lo p up held.ends (omega (arith, ints))) ∙ no_least (filter (λ x. int_le e.lo x && p x) xs) none))

pub emptied_greatest : (listed : List ℤ) (bits : List ℕ) (room : ℕ) (shape : Shape) (e : Ends) (p : ℤ → Bool) (var : Variable) (zs : List ℤ) → IsShape listed room shape → IsHeld listed bits shape e → zs ≡ values_held listed bits shape e
    → greatest (filter (λ x. int_le e.lo x && p x) (values_held listed bits shape e)) ≡ None → filter (stays var p zs) zs ≡ []
emptied_greatest listed bits room shape e p var zs is held same none =
    let xs = values_held listed bits shape e in
    let up = Ascends-held listed bits room shape e is held.within in
    stays_none var p zs (ap (filter p) same ∙ (sym (from_least xs e e.lo p up held.ends (omega (arith, ints))) ∙ no_greatest (filter (λ x. int_le e.lo x && p x) xs) none))

-- the first and the last that pass
pub record Passing (xs : List ℤ) (p : ℤ → Bool) (lo hi : ℤ) : Type 0 where
  pub first : IsFirst lo (filter p xs)
  pub last : IsLast hi (filter p xs)
  pub low : Has xs lo
  pub high : Has xs hi
  pub order : lo ≤ℤ hi

pub passing : (listed : List ℤ) (bits : List ℕ) (room : ℕ) (shape : Shape) (e : Ends) (p : ℤ → Bool) (lo hi : ℤ) → IsShape listed room shape → IsHeld listed bits shape e
    → Some lo ≡ least (filter (λ x. int_le e.lo x && p x) (values_held listed bits shape e)) → Some hi ≡ greatest (filter (λ x. int_le e.lo x && p x) (values_held listed bits shape e)) → Passing (values_held listed bits shape e) p lo hi
passing listed bits room shape e p lo hi is held first last =
    let xs = values_held listed bits shape e in
    let up = Ascends-held listed bits room shape e is held.within in
    let all = from_least xs e e.lo p up held.ends (omega (arith, ints)) in
    let f : IsFirst lo (filter p xs) = sym (first ∙ ap least all) in
    let l : IsLast hi (filter p xs) = sym (last ∙ ap greatest all) in
    let sf = stands_first (filter p xs) lo (filter_ascends p xs up) f in
    let sl = stands_last (filter p xs) hi (filter_ascends p xs up) l in
    record { first = f; last = l; low = (has_filter p xs lo sf.has).has; high = (has_filter p xs hi sl.has).has; order = sf.others hi sl.has }

-- of a set that loses values at its ends alone what is between these two stays
pub cut_values : (listed : List ℤ) (bits : List ℕ) (room : ℕ) (shape : Shape) (e after : Ends) (p : ℤ → Bool) (lo hi : ℤ) (var : Variable) (zs : List ℤ) → IsShape listed room shape → IsHeld listed bits shape e → zs ≡ values_held listed bits shape e → var ≡ variable_held listed shape → IsTrue (is_bounded_shape shape)
    → Passing (values_held listed bits shape e) p lo hi → values_held listed bits shape after ≡ filter (λ x. int_le x hi) (filter (λ x. int_le lo x) (values_held listed bits shape e)) → values_held listed bits shape after ≡ filter (stays var p zs) (values_held listed bits shape e)
cut_values listed bits room shape e after p lo hi var zs is held same is_var bounded ps values =
    let xs = values_held listed bits shape e in
    let up = Ascends-held listed bits room shape e is held.within in
    values ∙ (stays_ends var p xs lo hi (ap (λ (w : Variable). w.bounded) is_var ∙ bounded_held listed shape bounded) up ps.first ps.last ∙ ap (λ ys. filter (stays var p ys) xs) (sym same))

and_true : (b : Bool) → (b && true) ≡ b
and_true true = refl
and_true false = refl

-- a row that is sieved
pub sifted : (listed : List ℤ) (shapes : List Shape) (old new : State) (saved : List State) (s : Sets) (v : ℕ) (shape : Shape) (e : Ends) (row : Row) (set : Values) (wanted : Bool) (lo hi : ℤ) (moved : Moved) → seen listed shapes old saved ≡ s → IsKept listed shapes old saved → v < length s.vars
    → shape ≡ get_or shapes v shape → e ≡ get_or old.ends.items v e → AreMarksOf old.bits.items shape e row → Passing (values_held listed old.bits.items shape e) (passes set wanted) lo hi
    → ((k : ℕ) → bit_of new.bits.items k ≡ (bit_of old.bits.items k && not (is_hit old.bits.items row set (not wanted) k))) → length new.bits.items ≡ length old.bits.items → Sieves old new v e row lo hi moved
    → RowChanged listed shapes new saved s v (stays (variable_at s.vars v) (passes set wanted) (set_of s.now.sets v)) moved
sifted listed shapes old new saved s v (Stretch a b) e row set wanted lo hi moved view kept within at_shape at_ends m ps tells words put = absurd m
sifted listed shapes old new saved s v (Listed a b) e row set wanted lo hi moved view kept within at_shape at_ends m ps tells words put = absurd m
sifted listed shapes old new saved s v (Bits base top at) e row set wanted lo hi moved view kept within at_shape at_ends m ps tells words put =
    let k = known listed shapes old saved s v (Bits base top at) e view kept within at_shape at_ends in
    let bits = old.bits.items in
    let p = passes set wanted in
    let var = variable_at s.vars v in
    let zs = set_of s.now.sets v in
    let held = row_held bits base top at e k.shaped.0 k.shaped.1 k.held.within.0 k.held.ends.ordered k.held.within.1 in
    let sr = sieved_row bits new.bits.items base at e row set wanted lo hi held k.shaped.0.low k.held.ends m ps.first ps.last tells in
    let n = is_marked bits base at e lo k.held.ends.ordered ps.low in
    let t = is_marked bits base at e hi k.held.ends.ordered ps.high in
    let plain : var.bounded ≡ false = ap (λ (w : Variable). w.bounded) k.var in
    let after = sieved_ends new.bits.items e row lo hi in
    let from_is = m.from in
    let to_is = m.to in
    let low = k.held.within.0 in
    let high = k.held.within.1 in
    let nl = n.low in
    let th = t.high in
    let g = plus-int_gap base e.hi (omega (arith, ints, low, nl, th, ps.order)) in
    let h = plus-int_gap base top k.shaped.0.ordered in
    let new_row : NewRow bits new.bits.items base top at row.from row.to e after (stays var p zs) = record {
      differ = λ i side. tells i ∙ (ap (λ b. bit_of bits i && not b) (outside i side) ∙ and_true (bit_of bits i));
      first = omega (arith, from_is);
      last = omega (arith, ints, to_is, g, h, high);
      words = words;
      ends = sr.ends;
      low = omega (arith, ints, low, nl);
      high = omega (arith, ints, high, th);
      values = sr.values ∙ filter_alike p (stays var p zs) (marked bits base at e) (λ a has. sym (stays_plain var p zs a plain));
    } in
    row_changed listed shapes old new saved s v base top at row.from row.to e after new.bits.items (stays var p zs) moved view kept within at_shape at_ends new_row (record { bits = refl; ends = put.ends; left = put.left; tells = put.tells })
  where
    outside : (i : ℕ) → (i < row.from) ⊎ (row.to < i) → is_hit old.bits.items row set (not wanted) i ≡ false
    outside i (inl less) = hit_before old.bits.items row set (not wanted) i less
    outside i (inr more) = hit_behind old.bits.items row set (not wanted) i more
