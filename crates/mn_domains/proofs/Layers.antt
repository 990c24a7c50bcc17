-- The layout of more and more variables.
use Rattle.std.proofs.Common.{◌≡◌, ℕ, zero, suc, ◌+◌, ◌-◌, ◌<◌, ◌≤◌, ℤ, IsTrue, true, List, [], ◌∷◌, ◌++◌, length, map, replicate, take, drop, get_or, slice_get, slice_range, Some, refl, sym, subst, ap, ◌∙◌, arith}
use Rattle.std.proofs.lemmas.List.{append-nil, append_assoc, length-append, length-map, length-take, drop-take, take-take, take_all, map-append, replicate_more}
use Rattle.std.proofs.lemmas.Option.{slice_get_read}
use Rattle.std.specs.Int.{int_gap}
use Rattle.std.specs.List.{AllByRecursion}
use Rattle.mn_model.specs.Domain.{Ascends, IsValue}
use Rattle.mn_model.specs.Lawful.{AreNumberedFrom}
use Rattle.mn_model.specs.Problem.{size_of_dims, variable_count, variables_of}
use Rattle.mn_model.specs.Variable.{number_of}
use Rattle.mn_model.specs.declared.declaration.Decl.{Decl}
use Rattle.mn_model.proofs.Kept.{numbered_within, variable_count-push, variables_of-push}
use Rattle.mn_model.proofs.Lists.{all_push}
use Rattle.mn_model.proofs.Variables.{variable_count-cons}
use Rattle.mn_boxes.specs.Boxes.{declared_variables}
use Rattle.mn_boxes.specs.Sets.{Variable, variable_of}
use Rattle.mn_domains.specs.Held.{AreApartFrom, IsShape, is_bounded_shape, variable_held}
use Rattle.mn_domains.specs.Laid.{IsLaid, laid}
use Rattle.mn_domains.specs.Layouts.{AddsShape, AreShapesOf, BeginsAt, Grew, bits_behind, last_behind}
use Rattle.mn_domains.specs.declared.layout.Layout.{Layout}
use Rattle.mn_domains.specs.declared.shape.Shape.{Shape}
use Rattle.mn_domains.specs.declared.shape.Shape.TheVariants.{Stretch, Listed, Bits}
use Rattle.mn_domains.proofs.Laying.{take_slice_get}

-- ---- what is listed grows

long_enough : (listed more : List ℤ) → Grew listed more → length listed ≤ length more
long_enough listed more grew = omega (arith, ap length grew, length-take (length listed) more)

-- a listing stays
pub listing_stays : (listed more : List ℤ) (from to : ℕ) → Grew listed more → from ≤ to → to ≤ length listed → slice_range more from to ≡ slice_range listed from to
listing_stays listed more from to grew order within =
    let n = length listed in
    let whole : n ≡ from + (n - from) = omega arith in
    let inner : drop from (take n more) ≡ take (n - from) (drop from more) = ap (λ k. drop from (take k more)) whole ∙ drop-take from (n - from) more in
    sym (ap (λ xs. take (to - from) (drop from xs)) (sym grew) ∙ (ap (take (to - from)) inner ∙ take-take (to - from) (n - from) (drop from more) (omega arith)))

pub record Grown (listed more : List ℤ) (behind : ℕ) (shape : Shape) : Type 0 where
  pub shaped : IsShape more behind shape
  pub holds : variable_held more shape ≡ variable_held listed shape

pub grown : (listed more : List ℤ) (bits behind : ℕ) (shape : Shape) → Grew listed more → bits ≤ behind → IsShape listed bits shape → Grown listed more behind shape
grown listed more bits behind (Stretch lo hi) grew le is = record { shaped = is; holds = refl }
grown listed more bits behind (Listed from to) grew le is =
    let f = is.filled in
    let w = is.within in
    let stays = listing_stays listed more from to grew (omega arith) w in
    record {
      shaped = record { filled = is.filled; within = omega (arith, long_enough listed more grew); ascends = subst Ascends (sym stays) is.ascends; valued = subst (AllByRecursion IsValue) (sym stays) is.valued; few = is.few };
      holds = ap (λ xs. record { declared = xs; bounded = true }) stays;
    }
grown listed more bits behind (Bits lo hi at) grew le is = let r = is.1.within in record { shaped = (is.0, record { within = omega arith; small = is.1.small }); holds = refl }

pub record AllGrown (listed more : List ℤ) (behind : ℕ) (shapes : List Shape) : Type 0 where
  pub shaped : AllByRecursion (IsShape more behind) shapes
  pub holds : map (variable_held more) shapes ≡ map (variable_held listed) shapes

pub all_grown : (listed more : List ℤ) (bits behind : ℕ) (shapes : List Shape) → Grew listed more → bits ≤ behind → AllByRecursion (IsShape listed bits) shapes → AllGrown listed more behind shapes
all_grown listed more bits behind [] grew le is = record { shaped = tt; holds = refl }
all_grown listed more bits behind (s ∷ shapes) grew le is =
    let here = grown listed more bits behind s grew le is.0 in
    let rest = all_grown listed more bits behind shapes grew le is.1 in
    record { shaped = (here.shaped, rest.shaped); holds = ap (λ (w : Variable). w ∷ map (variable_held more) shapes) here.holds ∙ ap (λ ws. variable_held listed s ∷ ws) rest.holds }

-- ---- bits apart

apart_push : (n b : ℕ) (shapes : List Shape) (shape : Shape) → AreApartFrom n shapes → last_behind n shapes ≤ b → BeginsAt b shape → AreApartFrom n (shapes ++ shape ∷ [])
apart_push n b [] (Stretch lo hi) apart le begins = tt
apart_push n b [] (Listed from to) apart le begins = tt
apart_push n b [] (Bits lo hi at) apart le begins = (omega arith, tt)
apart_push n b (Stretch lo hi ∷ shapes) shape apart le begins = apart_push n b shapes shape apart le begins
apart_push n b (Listed from to ∷ shapes) shape apart le begins = apart_push n b shapes shape apart le begins
apart_push n b (Bits lo hi at ∷ shapes) shape apart le begins = (apart.0, apart_push (at + int_gap lo hi + 1) b shapes shape apart.1 le begins)

last_behind-push : (n : ℕ) (shapes : List Shape) (shape : Shape) → last_behind n (shapes ++ shape ∷ []) ≡ bits_behind (last_behind n shapes) shape
last_behind-push n [] shape = refl
last_behind-push n (s ∷ shapes) shape = last_behind-push (bits_behind n s) shapes shape

behind_more : (b n : ℕ) (shape : Shape) → n ≤ b → bits_behind n shape ≤ bits_behind b shape
behind_more b n (Stretch lo hi) le = le
behind_more b n (Listed from to) le = le
behind_more b n (Bits lo hi at) le = omega arith

bits_grow : (b : ℕ) (shape : Shape) → BeginsAt b shape → b ≤ bits_behind b shape
bits_grow b (Stretch lo hi) begins = omega arith
bits_grow b (Listed from to) begins = omega arith
bits_grow b (Bits lo hi at) begins = omega arith

pub shapes_push : (listed more : List ℤ) (shapes : List Shape) (shape : Shape) (bits behind : ℕ) (vars : List Variable) (var : Variable) → AreShapesOf listed shapes bits vars → AddsShape listed more bits behind var shape
    → AreShapesOf more (shapes ++ shape ∷ []) behind (vars ++ var ∷ [])
shapes_push listed more shapes shape bits behind vars var are adds =
    let ends = adds.ends in
    let le : bits ≤ behind = omega (arith, bits_grow bits shape adds.begins) in
    let all = all_grown listed more bits behind shapes adds.grew le are.shaped in
    let last = behind_more bits (last_behind 0 shapes) shape are.behind in
    let few = are.few in
    let more_few = adds.few in
    let len = length-append shapes (shape ∷ []) in
    record {
      holds = map-append (variable_held more) shapes (shape ∷ []) ∙ (ap (λ ws. ws ++ variable_held more shape ∷ []) (all.holds ∙ are.holds) ∙ ap (λ (w : Variable). vars ++ w ∷ []) adds.holds);
      shaped = all_push (IsShape more behind) shapes shape all.shaped adds.shaped;
      apart = apart_push 0 bits shapes shape are.apart are.behind adds.begins;
      behind = omega (arith, last_behind-push 0 shapes shape);
      few = omega arith;
    }

-- ---- the variables of one declaration

append_next : {X : Type 0} (xs : List X) (n : ℕ) (x : X) → (xs ++ replicate n x) ++ x ∷ [] ≡ xs ++ replicate (n + 1) x
append_next xs n x = append_assoc xs (replicate n x) (x ∷ []) ∙ ap (λ ys. xs ++ ys) (replicate_more n x)

pub length-laid : (listed : List ℤ) (shapes : List Shape) (bits : ℕ) (vars : List Variable) → AreShapesOf listed shapes bits vars → length shapes ≡ length vars
length-laid listed shapes bits vars are = sym (length-map shapes (variable_held listed)) ∙ ap length are.holds

-- a layout is one of the variables that it has
pub by_itself : (listed : List ℤ) (shapes : List Shape) (bits : ℕ) (vars : List Variable) → AreShapesOf listed shapes bits vars → AreShapesOf listed shapes bits (map (variable_held listed) shapes)
by_itself listed shapes bits vars are = subst (AreShapesOf listed shapes bits) (sym are.holds) are

-- one more variable of a declaration
pub shapes_next : (listed more : List ℤ) (shapes : List Shape) (shape : Shape) (bits behind : ℕ) (vars : List Variable) (n : ℕ) (var : Variable) → AreShapesOf listed shapes bits (vars ++ replicate n var) → AddsShape listed more bits behind var shape
    → AreShapesOf more (shapes ++ shape ∷ []) behind (vars ++ replicate (n + 1) var)
shapes_next listed more shapes shape bits behind vars n var are adds =
    subst (AreShapesOf more (shapes ++ shape ∷ []) behind) (append_next vars n var) (shapes_push listed more shapes shape bits behind (vars ++ replicate n var) var are adds)

adds_plain : (listed : List ℤ) (bits : ℕ) (shape : Shape) → IsShape listed bits shape → IsTrue (is_bounded_shape shape) → AddsShape listed listed bits bits (variable_held listed shape) shape
adds_plain listed bits (Stretch lo hi) is plain = record { grew = take_all (length listed) listed (omega arith); shaped = is; holds = refl; begins = tt; ends = refl; few = omega arith }
adds_plain listed bits (Listed from to) is plain = record { grew = take_all (length listed) listed (omega arith); shaped = is; holds = refl; begins = tt; ends = refl; few = omega arith }
adds_plain listed bits (Bits lo hi at) is plain = cc

-- variables that have no bits, all of one shape
pub shapes_alike : (listed : List ℤ) (shapes : List Shape) (shape : Shape) (bits : ℕ) (vars : List Variable) (n : ℕ) → AreShapesOf listed shapes bits vars → IsShape listed bits shape → IsTrue (is_bounded_shape shape)
    → AreShapesOf listed (shapes ++ replicate n shape) bits (vars ++ replicate n (variable_held listed shape))
shapes_alike listed shapes shape bits vars zero are is plain = rw (append-nil shapes, append-nil vars) are
shapes_alike listed shapes shape bits vars (suc n) are is plain =
    let var = variable_held listed shape in
    let before = shapes_alike listed shapes shape bits vars n are is plain in
    let next = shapes_next listed listed (shapes ++ replicate n shape) shape bits bits vars n var before (adds_plain listed bits shape is plain) in
    let long : n + 1 ≡ suc n = omega arith in
    subst (λ k. AreShapesOf listed (shapes ++ replicate k shape) bits (vars ++ replicate k var)) long (subst (λ ss. AreShapesOf listed ss bits (vars ++ replicate (n + 1) var)) (append_next shapes n shape) next)

-- a listing for the variables that follow
pub record IsListed (old new : Layout) : Type 0 where
  pub same : laid new ≡ laid old
  pub before : IsLaid new (laid new)

no_bits : (n : ℕ) (shape : Shape) → IsTrue (is_bounded_shape shape) → bits_behind n shape ≡ n
no_bits n (Stretch lo hi) plain = refl
no_bits n (Listed from to) plain = refl
no_bits n (Bits lo hi at) plain = cc

pub is_listed : (old new : Layout) (var : Variable) (shape : Shape) → IsLaid old (laid old) → AddsShape old.listed.items new.listed.items old.bits new.bits var shape → IsTrue (is_bounded_shape shape) → new.shapes.items ≡ old.shapes.items → IsListed old new
is_listed old new var shape are adds plain shapes =
    let all = all_grown old.listed.items new.listed.items old.bits old.bits old.shapes.items adds.grew (omega arith) are.shaped in
    let bits : old.bits ≡ new.bits = sym (adds.ends ∙ no_bits old.bits shape plain) in
    let same : laid new ≡ laid old = ap (map (variable_held new.listed.items)) shapes ∙ all.holds in
    let stays : AreShapesOf new.listed.items old.shapes.items old.bits (laid old) = record { holds = all.holds; shaped = all.shaped; apart = are.apart; behind = are.behind; few = are.few } in
    record {
      same = same;
      before = subst (IsLaid new) (sym same) (subst (λ ss. AreShapesOf new.listed.items ss new.bits (laid old)) (sym shapes) (subst (λ n. AreShapesOf new.listed.items old.shapes.items n (laid old)) bits stays));
    }

-- ---- the declarations so far

-- a declaration begins behind the variables of those before it
pub begins_at : (n : ℕ) (decls : List Decl) (k : ℕ) (d : Decl) → AreNumberedFrom n decls → slice_get decls k ≡ Some d → number_of d.first ≡ n + variable_count (take k decls)
begins_at n [] k d numbered is = cc
begins_at n (x ∷ decls) zero d numbered is =
    let same : x ≡ d = cc in
    ap (λ y. number_of y.first) (sym same) ∙ (numbered.0 ∙ omega arith)
begins_at n (x ∷ decls) (suc k) d numbered is = omega (arith, begins_at (n + size_of_dims x.dims) decls k d numbered.1 is, variable_count-cons x (take k decls))

map-replicate : {X Y : Type 0} (f : X → Y) (n : ℕ) (x : X) → map f (replicate n x) ≡ replicate n (f x)
map-replicate f zero x = refl
map-replicate f (suc n) x = ap (λ ys. f x ∷ ys) (map-replicate f n x)

-- the next declaration, as the code reads it: its first variable, and how many variables there are up to its last one
pub record IsNext (decls : List Decl) (k : ℕ) (d : Decl) (first behind : ℕ) : Type 0 where
  pub order : first ≤ behind
  pub room : variable_count (take k decls) + (behind - first) ≤ variable_count decls
  pub vars : declared_variables (take (k + 1) decls) ≡ declared_variables (take k decls) ++ replicate (behind - first) (variable_of d)

pub is_next : (found decls : List Decl) (k : ℕ) (d : Decl) (first behind : ℕ) → found ≡ decls → AreNumberedFrom 0 decls → k < length found → d ≡ get_or found k d → first ≡ number_of d.first → behind ≡ variable_count (take (k + 1) decls)
    → IsNext decls k d first behind
is_next found decls k d first behind same numbered within read begins ends =
    let is : slice_get decls k ≡ Some d = ap (λ ds. slice_get ds k) (sym same) ∙ slice_get_read found (length found) k d refl within read in
    let n = size_of_dims d.dims in
    let front = take k decls in
    let one : take (k + 1) decls ≡ front ++ d ∷ [] = take_slice_get decls k d is in
    let at : first ≡ 0 + variable_count front = begins ∙ begins_at 0 decls k d numbered is in
    let more : behind ≡ variable_count front + n = ends ∙ (ap variable_count one ∙ variable_count-push front d) in
    let size : n ≡ behind - first = omega (arith, at, more) in
    let vars : declared_variables (front ++ d ∷ []) ≡ declared_variables front ++ replicate n (variable_of d) = ap (map variable_of) (variables_of-push front d) ∙ (map-append variable_of (variables_of front) (replicate n d) ∙ ap (λ vs. declared_variables front ++ vs) (map-replicate variable_of n d)) in
    record {
      order = omega (arith, at, more);
      room = omega (arith, at, size, begins, numbered_within 0 decls k d numbered is);
      vars = ap declared_variables one ∙ (vars ∙ ap (λ j. declared_variables front ++ replicate j (variable_of d)) size);
    }
