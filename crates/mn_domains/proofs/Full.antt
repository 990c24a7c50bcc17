-- Sets of all that is declared.
use Rattle.std.proofs.Common.{◌≡◌, ℕ, zero, suc, ◌+◌, ◌-◌, ◌*◌, ◌/◌, ◌%◌, ◌<◌, ◌≤◌, ◌==◌, ℤ, pos, true, List, [], ◌∷◌, ◌++◌, length, map, filter, take, drop, replicate, slice_range, get_or, Some, refl, sym, subst, ap, ◌∙◌, arith}
use Rattle.std.proofs.lemmas.Int.{ints}
use Rattle.std.proofs.lemmas.List.{get_or-drop, get_or-replicate, get_or-take, length-drop, length-replicate, length-take-le}
use Rattle.std.proofs.lemmas.Nat.Bits.{bit_at_ones}
use Rattle.std.specs.Int.{bit_at, int_gap}
use Rattle.std.specs.List.{AllByRecursion, AllZip}
use Rattle.std.proofs.lemmas.Option.{slice_get-get_or}
use Rattle.mn_model.specs.Domain.{IsFirst, IsLast, stretch}
use Rattle.mn_model.proofs.Stretches.{Has-stretch, plus-int_gap}
use Rattle.mn_boxes.specs.Boxes.{count_of}
use Rattle.mn_model.specs.declared.declaration.Decl.{Decl}
use Rattle.mn_boxes.specs.Sets.{variable_of}
use Rattle.mn_domains.specs.Held.{AreEndsOf, IsFull, IsHeld, IsListing, IsShape, IsWithin, bit_of, has_bit, sets_held, sizes, values_held, variable_held}
use Rattle.mn_domains.specs.States.{IsFullState}
use Rattle.mn_domains.specs.declared.state.State.{State}
use Rattle.mn_domains.specs.declared.shape.Ends.{Ends}
use Rattle.mn_domains.specs.declared.shape.Shape.{Shape}
use Rattle.mn_domains.specs.declared.shape.Shape.TheVariants.{Stretch, Listed, Bits}
use Rattle.mn_domains.proofs.EndLemmas.{ends_of}
use Rattle.mn_domains.proofs.Filtered.{filter_whole}

pub listing_full : (listed : List ℤ) (from to : ℕ) → IsListing listed from to → IsFull listed (Listed from to) (record { lo = get_or listed from (pos 0); hi = get_or listed (to - 1) (pos 0); size = to - from; place = from })
listing_full listed from to is =
    let xs = slice_range listed from to in
    let filled = is.filled in
    let within = is.within in
    let long : length xs ≡ to - from = length-take-le (to - from) (drop from listed) (omega (arith, length-drop from listed)) in
    let first : IsFirst (get_or listed from (pos 0)) xs =
    slice_get-get_or xs 0 (pos 0) (omega arith) ∙ ap Some (get_or-take (to - from) (drop from listed) 0 (pos 0) (omega arith) ∙ (get_or-drop from listed 0 (pos 0) ∙ ap (λ n. get_or listed n (pos 0)) (omega arith))) in
    let last : IsLast (get_or listed (to - 1) (pos 0)) xs =
    slice_get-get_or xs (length xs - 1) (pos 0) (omega arith) ∙ ap Some (ap (λ n. get_or xs (n - 1) (pos 0)) long ∙ (get_or-take (to - from) (drop from listed) (to - from - 1) (pos 0) (omega arith) ∙ (get_or-drop from listed (to - from - 1) (pos 0) ∙ ap (λ n. get_or listed n (pos 0)) (omega arith)))) in
    record { ends = ends_of xs (record { lo = get_or listed from (pos 0); hi = get_or listed (to - 1) (pos 0); size = to - from; place = from }) is.ascends first last (sym long); full = (refl, omega arith) }

-- all bits are set
pub bit_of-ones : (words i : ℕ) → i < 64 * words → bit_of (replicate words 18446744073709551615) i ≡ true
bit_of-ones words i below =
    let place : i / 64 < words = omega (arith, below) in
    let small : i % 64 < 64 = omega (arith, below) in
    let word : get_or (replicate words 18446744073709551615) (i / 64) 0 ≡ 18446744073709551615 = get_or-replicate words (i / 64) 18446744073709551615 0 place in
    let one : bit_at 18446744073709551615 (i % 64) ≡ 1 = bit_at_ones 64 (i % 64) small in
    ap (λ n. bit_at n (i % 64) == 1) word ∙ ap (λ b. b == 1) one

-- so all declared values are there
pub values_full : (listed : List ℤ) (words : List ℕ) (shape : Shape) (e : Ends) → ((i : ℕ) → i < 64 * length words → bit_of words i ≡ true) → IsShape listed (64 * length words) shape → IsFull listed shape e → values_held listed words shape e ≡ (variable_held listed shape).declared
values_full listed words (Stretch lo hi) e ones is full = ap (λ l. stretch l e.hi) full.full.0 ∙ ap (stretch lo) full.full.1
values_full listed words (Listed from to) e ones is full =
    let place = full.full.0 in
    let size : e.size ≡ to - from = let f = is.filled in let all = full.full.1 in omega arith in
    ap (λ n. take n (drop e.place listed)) size ∙ ap (λ n. take (to - from) (drop n listed)) place
values_full listed words (Bits lo hi at) e ones is full =
    ap (λ l. filter (has_bit words lo at) (stretch l e.hi)) full.full.0 ∙ (ap (λ h. filter (has_bit words lo at) (stretch lo h)) full.full.1
    ∙ filter_whole (has_bit words lo at) (stretch lo hi) (λ a has. ones (at + int_gap lo a) (let b = (Has-stretch lo hi a is.0.ordered).0 has in let s = plus-int_gap lo a b.0 in let t = plus-int_gap lo hi is.0.ordered in let w = is.1.within in omega (arith, ints, s, t, b.1, w))))

within_full : (listed : List ℤ) (room : ℕ) (shape : Shape) (e : Ends) → IsShape listed room shape → IsFull listed shape e → IsWithin shape e
within_full listed room (Stretch lo hi) e is full = (omega (arith, ints, full.full.0), omega (arith, ints, full.full.1))
within_full listed room (Listed from to) e is full = (let place = full.full.0 in omega arith, let all = full.full.1 in omega arith)
within_full listed room (Bits lo hi at) e is full = (omega (arith, ints, full.full.0), omega (arith, ints, full.full.1))

pub record FullState (listed : List ℤ) (words : List ℕ) (shapes : List Shape) (ends : List Ends) : Type 0 where
  pub held : AllZip (IsHeld listed words) shapes ends
  pub sets : sets_held listed words shapes ends ≡ map (λ v. v.declared) (map (variable_held listed) shapes)
  pub count : count_of (sets_held listed words shapes ends) ≡ sizes ends

pub full_state : (listed : List ℤ) (words : List ℕ) (shapes : List Shape) (ends : List Ends) → ((i : ℕ) → i < 64 * length words → bit_of words i ≡ true) → AllByRecursion (IsShape listed (64 * length words)) shapes → AllZip (IsFull listed) shapes ends → FullState listed words shapes ends
full_state listed words [] [] ones is full = record { held = tt; sets = refl; count = refl }
full_state listed words [] (e ∷ ends) ones is full = absurd full
full_state listed words (s ∷ shapes) [] ones is full = absurd full
full_state listed words (s ∷ shapes) (e ∷ ends) ones is full =
    let rest = full_state listed words shapes ends ones is.1 full.1 in
    let here : values_held listed words s e ≡ (variable_held listed s).declared = values_full listed words s e ones is.0 full.0 in
    let there = rest.sets in
    let ends_here : AreEndsOf (values_held listed words s e) e = subst (λ xs. AreEndsOf xs e) (sym here) full.0.ends in
    let size = ends_here.size in
    let count = rest.count in
    record {
      held = (record { ends = ends_here; within = within_full listed (64 * length words) s e is.0 full.0 }, rest.held);
      sets = cc;
      count = omega arith;
    }

-- a shape fits where there is more room
pub more_room : (listed : List ℤ) (room more : ℕ) (shape : Shape) → room ≤ more → IsShape listed room shape → IsShape listed more shape
more_room listed room more (Stretch lo hi) le is = is
more_room listed room more (Listed from to) le is = is
more_room listed room more (Bits lo hi at) le is = let w = is.1.within in (is.0, record { within = omega arith; small = is.1.small })

pub all_more_room : (listed : List ℤ) (room more : ℕ) (shapes : List Shape) → room ≤ more → AllByRecursion (IsShape listed room) shapes → AllByRecursion (IsShape listed more) shapes
all_more_room listed room more [] le is = tt
all_more_room listed room more (s ∷ shapes) le is = (more_room listed room more s le is.0, all_more_room listed room more shapes le is.1)

-- the sizes with one more
pub sizes-push : (ends : List Ends) (e : Ends) → sizes (ends ++ e ∷ []) ≡ sizes ends + e.size
sizes-push [] e = omega arith
sizes-push (f ∷ ends) e = let rest = sizes-push ends e in omega arith

-- the state that is made of full ends and set bits
pub made : (listed : List ℤ) (shapes : List Shape) (room words : ℕ) (s : State) → s.bits.items ≡ replicate words 18446744073709551615 → words ≡ room / 64 + 1 → AllByRecursion (IsShape listed room) shapes → AllZip (IsFull listed) shapes s.ends.items → s.left ≡ sizes s.ends.items
    → IsFullState listed shapes s
made listed shapes room words s set enough is full left =
    let long : length s.bits.items ≡ words = ap length set ∙ length-replicate words 18446744073709551615 in
    let shaped = all_more_room listed room (64 * length s.bits.items) shapes (omega arith) is in
    let f = full_state listed s.bits.items shapes s.ends.items (λ i below. subst (λ (w : List ℕ). bit_of w i ≡ true) (sym set) (bit_of-ones words i (omega arith))) shaped full in
    record { state = record { held = f.held; counted = left ∙ sym f.count }; shaped = shaped; sets = f.sets }

pub declared_domains : (ds : List Decl) → map (λ v. v.declared) (map variable_of ds) ≡ map (λ d. d.domain) ds
declared_domains [] = refl
declared_domains (d ∷ ds) = ap (λ box. d.domain ∷ box) (declared_domains ds)

-- one variable more has its full ends
pub full_more : (listed : List ℤ) (shapes : List Shape) (ends : List Ends) (i : ℕ) (shape : Shape) (e : Ends) → i < length shapes → shape ≡ get_or shapes i shape → AllZip (IsFull listed) (take i shapes) ends → IsFull listed shape e → AllZip (IsFull listed) (take (i + 1) shapes) (ends ++ e ∷ [])
full_more listed [] ends i shape e within at full here = absurd (omega arith)
full_more listed (s ∷ shapes) [] zero shape e within at full here = (subst (λ (t : Shape). IsFull listed t e) at here, tt)
full_more listed (s ∷ shapes) (f ∷ ends) zero shape e within at full here = absurd full
full_more listed (s ∷ shapes) [] (suc i) shape e within at full here = absurd full
full_more listed (s ∷ shapes) (f ∷ ends) (suc i) shape e within at full here =
    let n : suc i + 1 ≡ suc (i + 1) = omega arith in
    rw n (full.0, full_more listed shapes ends i shape e (omega arith) at full.1 here)

pub length-full : (listed : List ℤ) (shapes : List Shape) (ends : List Ends) → AllZip (IsFull listed) shapes ends → length ends ≡ length shapes
length-full listed [] [] full = refl
length-full listed [] (e ∷ ends) full = absurd full
length-full listed (s ∷ shapes) [] full = absurd full
length-full listed (s ∷ shapes) (e ∷ ends) full = ap suc (length-full listed shapes ends full.1)
