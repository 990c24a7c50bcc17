-- Each kind says that what its places add together is at most its bound.
use Rattle.std.proofs.Common.{◌≡◌, ◌≤◌, ◌+◌, ◌⊎◌, ⊎_elim, ℕ, zero, suc, ℤ, pos, negsuc, neg_ℤ, ◌+ℤ◌, ◌*ℤ◌, if◌then◌else◌, Bool, true, false, List, [], ◌∷◌, ◌++◌, length, map, take, refl, sym, subst, ap, ◌∙◌, arith}
use Rattle.std.proofs.lemmas.Int.{ints}
use Rattle.std.proofs.lemmas.List.{append_assoc, length-map, map-append}
use Rattle.std.specs.List.{AllByRecursion}
use Rattle.std.specs.Ordering.{int_eq}
use Rattle.mn_model.specs.Lawful.{IsNear}
use Rattle.mn_model.specs.Parts.{places}
use Rattle.mn_model.specs.declared.constraint.Con.{Con}
use Rattle.mn_model.specs.declared.constraint.Con.TheVariants as con
use Rattle.mn_model.specs.declared.constraint.Term.{Term}
use Rattle.mn_model.specs.declared.declaration.Tuples.{Tuples}
use Rattle.mn_model.proofs.Lists.{all_front, all_push}
use Rattle.mn_boxes.specs.Sets.{Variable}
use Rattle.mn_meaning.specs.Families.{agreeing, sum_of, weighted_sum}
use Rattle.mn_meaning.specs.Meaning.{at, behind, front}
use Rattle.mn_prop.specs.Posts.{IsReady}
use Rattle.mn_sums.specs.Parts.{cost, made_of, number_in, part_of, term_of, total}
use Rattle.mn_sums.specs.Sums.{IsAtMost, bound_of, is_sum, parts_of}
use Rattle.mn_sums.specs.declared.build.Making.{Making}
use Rattle.mn_sums.specs.declared.build.Making.TheVariants.{Weight, Opposite, Number}
use Rattle.mn_sums.specs.declared.part.Part.{Part}
use Rattle.mn_sums.specs.declared.part.Part.TheVariants.{Times, Is}
use Rattle.mn_sums.proofs.Numbers.{once, once_less, turned_weight}

-- the parts of a vector add f of its values
record Adds (v : List Term) (ps : List Part) (f : List ℤ → ℤ) : Type 0 where
  placed : map term_of ps ≡ v
  sum : (a : List ℤ) → length a ≡ length v → total ps a ≡ f a
  near : AllByRecursion (λ p. IsNear (number_in p)) ps

none_more : (n : ℕ) → suc n ≡ 0 → ⊥
none_more n e = cc

-- ---- a vector

alike_up : (v : List Term) → Adds v (map (λ t. Times (pos 1) t) v) sum_of
alike_up [] = record { placed = refl; sum = none; near = tt }
  where
    none : (a : List ℤ) → length a ≡ 0 → total [] a ≡ sum_of a
    none [] e = refl
    none (x ∷ a) e = absurd (none_more (length a) e)
alike_up (t ∷ v) =
    let rest = alike_up v in
    record { placed = ap (λ ts. t ∷ ts) rest.placed; sum = some rest; near = ((omega (arith, ints), omega (arith, ints)), rest.near) }
  where
    some : Adds v (map (λ t. Times (pos 1) t) v) sum_of → (a : List ℤ) → length a ≡ suc (length v) → total (Times (pos 1) t ∷ map (λ t. Times (pos 1) t) v) a ≡ sum_of a
    some rest [] e = absurd (none_more (length v) (sym e))
    some rest (x ∷ a) e = let behind = rest.sum a (omega (arith, e)) in omega (arith, ints, behind, once x)

alike_down : (v : List Term) → Adds v (map (λ t. Times (negsuc 0) t) v) (λ a. neg_ℤ (sum_of a))
alike_down [] = record { placed = refl; sum = none; near = tt }
  where
    none : (a : List ℤ) → length a ≡ 0 → total [] a ≡ neg_ℤ (sum_of a)
    none [] e = refl
    none (x ∷ a) e = absurd (none_more (length a) e)
alike_down (t ∷ v) =
    let rest = alike_down v in
    record { placed = ap (λ ts. t ∷ ts) rest.placed; sum = some rest; near = ((omega (arith, ints), omega (arith, ints)), rest.near) }
  where
    some : Adds v (map (λ t. Times (negsuc 0) t) v) (λ a. neg_ℤ (sum_of a)) → (a : List ℤ) → length a ≡ suc (length v) → total (Times (negsuc 0) t ∷ map (λ t. Times (negsuc 0) t) v) a ≡ neg_ℤ (sum_of a)
    some rest [] e = absurd (none_more (length v) (sym e))
    some rest (x ∷ a) e = let behind = rest.sum a (omega (arith, e)) in omega (arith, ints, behind, once_less x)

made_weight : (ks : List ℤ) (v : List Term) → length ks ≡ length v → AllByRecursion IsNear ks → Adds v (made_of Weight ks v) (weighted_sum ks)
made_weight [] [] same near = record { placed = refl; sum = λ a e. refl; near = tt }
made_weight [] (t ∷ v) same near = absurd (none_more (length v) (sym same))
made_weight (k ∷ ks) [] same near = absurd (none_more (length ks) same)
made_weight (k ∷ ks) (t ∷ v) same near =
    let rest = made_weight ks v (omega (arith, same)) near.1 in
    record { placed = ap (λ ts. t ∷ ts) rest.placed; sum = some rest; near = (near.0, rest.near) }
  where
    some : Adds v (made_of Weight ks v) (weighted_sum ks) → (a : List ℤ) → length a ≡ suc (length v) → total (Times k t ∷ made_of Weight ks v) a ≡ weighted_sum (k ∷ ks) a
    some rest [] e = absurd (none_more (length v) (sym e))
    some rest (x ∷ a) e = let behind = rest.sum a (omega (arith, e)) in omega (arith, ints, behind)

near_turned : (k : ℤ) → IsNear k → IsNear (neg_ℤ k)
near_turned k near = let low = near.0 in let high = near.1 in (omega (arith, ints, high), omega (arith, ints, low))

made_opposite : (ks : List ℤ) (v : List Term) → length ks ≡ length v → AllByRecursion IsNear ks → Adds v (made_of Opposite ks v) (λ a. neg_ℤ (weighted_sum ks a))
made_opposite [] [] same near = record { placed = refl; sum = λ a e. refl; near = tt }
made_opposite [] (t ∷ v) same near = absurd (none_more (length v) (sym same))
made_opposite (k ∷ ks) [] same near = absurd (none_more (length ks) same)
made_opposite (k ∷ ks) (t ∷ v) same near =
    let rest = made_opposite ks v (omega (arith, same)) near.1 in
    record { placed = ap (λ ts. t ∷ ts) rest.placed; sum = some rest; near = (near_turned k near.0, rest.near) }
  where
    some : Adds v (made_of Opposite ks v) (λ a. neg_ℤ (weighted_sum ks a)) → (a : List ℤ) → length a ≡ suc (length v) → total (Times (neg_ℤ k) t ∷ made_of Opposite ks v) a ≡ neg_ℤ (weighted_sum (k ∷ ks) a)
    some rest [] e = absurd (none_more (length v) (sym e))
    some rest (x ∷ a) e = let behind = rest.sum a (omega (arith, e)) in omega (arith, ints, behind, turned_weight k x)

made_number : (ks : List ℤ) (v : List Term) → length ks ≡ length v → AllByRecursion IsNear ks → Adds v (made_of Number ks v) (λ a. neg_ℤ (pos (agreeing a ks)))
made_number [] [] same near = record { placed = refl; sum = none; near = tt }
  where
    none : (a : List ℤ) → length a ≡ 0 → total [] a ≡ neg_ℤ (pos (agreeing a []))
    none [] e = refl
    none (x ∷ a) e = absurd (none_more (length a) e)
made_number [] (t ∷ v) same near = absurd (none_more (length v) (sym same))
made_number (k ∷ ks) [] same near = absurd (none_more (length ks) same)
made_number (k ∷ ks) (t ∷ v) same near =
    let rest = made_number ks v (omega (arith, same)) near.1 in
    record { placed = ap (λ ts. t ∷ ts) rest.placed; sum = some rest; near = (near.0, rest.near) }
  where
    by : (b : Bool) (x : ℤ) (a : List ℤ) → total (made_of Number ks v) a ≡ neg_ℤ (pos (agreeing a ks)) → ((if b then negsuc 0 else pos 0) +ℤ total (made_of Number ks v) a) ≡ neg_ℤ (pos ((if b then 1 else 0) + agreeing a ks))
    by true x a behind = omega (arith, ints, behind)
    by false x a behind = omega (arith, ints, behind)

    some : Adds v (made_of Number ks v) (λ a. neg_ℤ (pos (agreeing a ks))) → (a : List ℤ) → length a ≡ suc (length v) → total (Is k t ∷ made_of Number ks v) a ≡ neg_ℤ (pos (agreeing a (k ∷ ks)))
    some rest [] e = absurd (none_more (length v) (sym e))
    some rest (x ∷ a) e = by (int_eq x k) x a (rest.sum a (omega (arith, e)))

-- ---- a place behind it

total_followed : (ps : List Part) (q : Part) (a : List ℤ) → length a ≡ suc (length ps) → total (ps ++ q ∷ []) a ≡ total ps (take (length ps) a) +ℤ cost q (at a (length ps))
total_followed [] q [] e = absurd (none_more 0 (sym e))
total_followed [] q (x ∷ a) e = omega (arith, ints)
total_followed (p ∷ ps) q [] e = absurd (none_more (suc (length ps)) (sym e))
total_followed (p ∷ ps) q (x ∷ a) e = let behind = total_followed ps q a (omega (arith, e)) in omega (arith, ints, behind)

long_followed : (ps : List Part) (q : Part) → length (ps ++ q ∷ []) ≡ suc (length ps)
long_followed [] q = refl
long_followed (p ∷ ps) q = ap suc (long_followed ps q)

long_taken : (n : ℕ) (a : List ℤ) → length a ≡ suc n → length (take n a) ≡ n
long_taken zero a e = refl
long_taken (suc n) [] e = absurd (none_more (suc n) (sym e))
long_taken (suc n) (x ∷ a) e = ap suc (long_taken n a (omega (arith, e)))

as_many : (v : List Term) (ps : List Part) → map term_of ps ≡ v → length ps ≡ length v
as_many v ps placed = sym (length-map ps term_of) ∙ ap length placed

module _ (v : List Term) (x : Term) (ps : List Part) (f : List ℤ → ℤ) (w : ℤ) (adds : Adds v ps f) where
  placed_followed : map term_of (ps ++ Times w x ∷ []) ≡ v ++ x ∷ []
  placed_followed = map-append term_of ps (Times w x ∷ []) ∙ ap (λ ts. ts ++ x ∷ []) adds.placed

  sum_followed : (a : List ℤ) → length a ≡ length (ps ++ Times w x ∷ []) → total (ps ++ Times w x ∷ []) a ≡ f (front v a) +ℤ (w *ℤ behind v a)
  sum_followed a long =
      let many = as_many v ps adds.placed in
      let e : length a ≡ suc (length ps) = long ∙ long_followed ps (Times w x) in
      let both = total_followed ps (Times w x) a e in
      let first : total ps (take (length ps) a) ≡ f (take (length v) a) = ap (λ n. total ps (take n a)) many ∙ adds.sum (take (length v) a) (long_taken (length v) a (omega (arith, e, many))) in
      let last : w *ℤ at a (length ps) ≡ w *ℤ at a (length v) = ap (λ n. w *ℤ at a n) many in
      omega (arith, ints, both, first, last)

  few_followed : length v ≤ 65537 → length (ps ++ Times w x ∷ []) ≤ 65538
  few_followed short = let many = as_many v ps adds.placed in let more = long_followed ps (Times w x) in omega (arith, short, many, more)

few_alone : (v : List Term) (ps : List Part) → map term_of ps ≡ v → length v ≤ 65537 → length ps ≤ 65538
few_alone v ps placed short = let many = as_many v ps placed in omega (arith, short, many)

-- ---- the kinds

near_once : IsNear (pos 1)
near_once = (omega (arith, ints), omega (arith, ints))

near_less : IsNear (negsuc 0)
near_less = (omega (arith, ints), omega (arith, ints))

pub at_most : (vars : List Variable) (lists : List Tuples) (c : Con) → is_sum c ≡ true → IsReady vars lists c → IsAtMost lists c (parts_of c) (bound_of c)
at_most vars lists (con.Sumleq v x) form ready =
    let adds = alike_up v in
    record {
      arc = refl;
      placed = placed_followed v x _ sum_of (negsuc 0) adds;
      meets = λ a long m. (let s = sum_followed v x _ sum_of (negsuc 0) adds a long in omega (arith, ints, s, m, once_less (behind v a)));
      met = λ a long m. (let s = sum_followed v x _ sum_of (negsuc 0) adds a long in omega (arith, ints, s, m, once_less (behind v a)));
      near = all_push (λ p. IsNear (number_in p)) _ (Times (negsuc 0) x) adds.near near_less;
      few = few_followed v x _ sum_of (negsuc 0) adds ready.meant.short.0;
    }
at_most vars lists (con.Sumgeq v x) form ready =
    let adds = alike_down v in
    record {
      arc = refl;
      placed = placed_followed v x _ (λ a. neg_ℤ (sum_of a)) (pos 1) adds;
      meets = λ a long m. (let s = sum_followed v x _ (λ a. neg_ℤ (sum_of a)) (pos 1) adds a long in omega (arith, ints, s, m, once (behind v a)));
      met = λ a long m. (let s = sum_followed v x _ (λ a. neg_ℤ (sum_of a)) (pos 1) adds a long in omega (arith, ints, s, m, once (behind v a)));
      near = all_push (λ p. IsNear (number_in p)) _ (Times (pos 1) x) adds.near near_once;
      few = few_followed v x _ (λ a. neg_ℤ (sum_of a)) (pos 1) adds ready.meant.short.0;
    }
at_most vars lists (con.Weightedsumleq ks v x) form ready =
    let adds = made_weight ks v ready.suits.shaped ready.meant.near.constants in
    record {
      arc = refl;
      placed = placed_followed v x _ (weighted_sum ks) (negsuc 0) adds;
      meets = λ a long m. (let s = sum_followed v x _ (weighted_sum ks) (negsuc 0) adds a long in omega (arith, ints, s, m, once_less (behind v a)));
      met = λ a long m. (let s = sum_followed v x _ (weighted_sum ks) (negsuc 0) adds a long in omega (arith, ints, s, m, once_less (behind v a)));
      near = all_push (λ p. IsNear (number_in p)) _ (Times (negsuc 0) x) adds.near near_less;
      few = few_followed v x _ (weighted_sum ks) (negsuc 0) adds ready.meant.short.0;
    }
at_most vars lists (con.Weightedsumgeq ks v x) form ready =
    let adds = made_opposite ks v ready.suits.shaped ready.meant.near.constants in
    record {
      arc = refl;
      placed = placed_followed v x _ (λ a. neg_ℤ (weighted_sum ks a)) (pos 1) adds;
      meets = λ a long m. (let s = sum_followed v x _ (λ a. neg_ℤ (weighted_sum ks a)) (pos 1) adds a long in omega (arith, ints, s, m, once (behind v a)));
      met = λ a long m. (let s = sum_followed v x _ (λ a. neg_ℤ (weighted_sum ks a)) (pos 1) adds a long in omega (arith, ints, s, m, once (behind v a)));
      near = all_push (λ p. IsNear (number_in p)) _ (Times (pos 1) x) adds.near near_once;
      few = few_followed v x _ (λ a. neg_ℤ (weighted_sum ks a)) (pos 1) adds ready.meant.short.0;
    }
at_most vars lists (con.Watchsumleq v k) form ready =
    let adds = alike_up v in
    let many = as_many v _ adds.placed in
    record {
      arc = refl;
      placed = adds.placed;
      meets = λ a long m. (let s = adds.sum a (long ∙ many) in omega (arith, ints, s, m));
      met = λ a long m. (let s = adds.sum a (long ∙ many) in omega (arith, ints, s, m));
      near = adds.near;
      few = few_alone v _ adds.placed ready.meant.short.0;
    }
at_most vars lists (con.Watchsumgeq v k) form ready =
    let adds = alike_down v in
    let many = as_many v _ adds.placed in
    record {
      arc = refl;
      placed = adds.placed;
      meets = λ a long m. (let s = adds.sum a (long ∙ many) in omega (arith, ints, s, m));
      met = λ a long m. (let s = adds.sum a (long ∙ many) in omega (arith, ints, s, m));
      near = adds.near;
      few = few_alone v _ adds.placed ready.meant.short.0;
    }
at_most vars lists (con.Litsumgeq v ks k) form ready =
    let adds = made_number ks v ready.suits.shaped (all_front IsNear ks (k ∷ []) ready.meant.near.constants) in
    let many = as_many v _ adds.placed in
    record {
      arc = refl;
      placed = adds.placed;
      meets = λ a long m. (let s = adds.sum a (long ∙ many) in omega (arith, ints, s, m));
      met = λ a long m. (let s = adds.sum a (long ∙ many) in omega (arith, ints, s, m));
      near = adds.near;
      few = few_alone v _ adds.placed ready.meant.short.0;
    }
at_most vars lists c form ready = cc

-- so it is with what a sum keeps of its constraint
pub kept_at_most : (vars : List Variable) (lists : List Tuples) (c : Con) (ps : List Part) (bound : ℤ) → is_sum c ≡ true → ps ≡ parts_of c → bound ≡ bound_of c → IsReady vars lists c → IsAtMost lists c ps bound
kept_at_most vars lists c ps bound form made bounded ready = subst (λ qs. IsAtMost lists c qs bound) (sym made) (subst (IsAtMost lists c (parts_of c)) (sym bounded) (at_most vars lists c form ready))

-- ---- building

pub made_next : (m : Making) (k : ℤ) (t : Term) (ks others : List ℤ) (v more : List Term) (p : Part) (items pushed whole : List Part) → ks ≡ k ∷ others → v ≡ t ∷ more → p ≡ part_of m k t → pushed ≡ items ++ p ∷ [] → items ++ made_of m ks v ≡ whole → pushed ++ made_of m others more ≡ whole
made_next m k t ks others v more p items pushed whole first second is push done =
    ap (λ ps. ps ++ made_of m others more) push ∙ (append_assoc items (p ∷ []) (made_of m others more) ∙ (ap (λ q. items ++ q ∷ made_of m others more) is ∙ (sym (λ i. items ++ made_of m (first i) (second i)) ∙ done)))

nil_cons : {X : Type 0} {x : X} {xs : List X} → x ∷ xs ≡ [] → ⊥
nil_cons e = cc

pub made_end : (m : Making) (ks : List ℤ) (v : List Term) → (ks ≡ []) ⊎ (v ≡ []) → made_of m ks v ≡ []
made_end m [] v either = refl
made_end m (k ∷ ks) [] either = refl
made_end m (k ∷ ks) (t ∷ v) either = absurd (⊎_elim nil_cons nil_cons either)

pub made_placed : (vars : List Variable) (lists : List Tuples) (c : Con) (ps : List Part) → is_sum c ≡ true → ps ≡ parts_of c → IsReady vars lists c → map term_of ps ≡ places c
made_placed vars lists c ps form made ready = ap (map term_of) made ∙ (at_most vars lists c form ready).placed
