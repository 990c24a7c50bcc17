-- What the code of tuple lists does, step by step, is what the reader answers.
use Rattle.std.proofs.Common.{◌≡◌, ◌⊎◌, ℕ, ◌+◌, ◌*◌, ◌<◌, ◌≤◌, ℤ, pos, negsuc, ◌*ℤ◌, ◌≤ℤ◌, Bool, true, false, not, ◌||◌, List, [], ◌∷◌, ◌++◌, length, drop, Option, Some, None, is_some, Ok, Err, if◌then◌else◌, refl, sym, ap, ◌∙◌, subst, inl, inr, int_lt, nat_abs, arith, length-append, bytes_eq}
use Rattle.std.specs.List.{AllByRecursion}
use Rattle.std.proofs.lemmas.Int.{ints}
use Rattle.mn_references.proofs.Unbroken.{when_kept}
use Rattle.mn_lexer.specs.Terminals.{Terminal}
use Rattle.mn_grammar.specs.Tokens.{name_of, number_of}
use Rattle.mn_grammar.specs.Places.{when}
use Rattle.mn_grammar.specs.Reading.{go_on, then_read, ret, refused, fault_at, judged, which_either, either_of, number_at}
use Rattle.mn_grammar.specs.Gives.{Stops}
use Rattle.mn_grammar.specs.declared.site.Site.TheVariants.{Mixed}
use Rattle.mn_grammar.specs.declared.Kind.{Kind}
use Rattle.mn_grammar.specs.declared.Kind.TheVariants as kinds
use Rattle.mn_grammar.specs.declared.Limit.TheVariants as limits
use Rattle.mn_grammar.specs.declared.Stop.{Stop}
use Rattle.mn_grammar.specs.declared.Stop.TheVariants.{Refused, NoMemory}
use Rattle.mn_model.specs.Domain.{IsValue}
use Rattle.mn_model.specs.Lawful.{IsLawfulTuples}
use Rattle.mn_model.specs.Name.{IsName}
use Rattle.mn_model.specs.Problem.{Problem, called, listed_as, cells_of}
use Rattle.mn_model.specs.declared.limits.TheConstants.{CELLS}
use Rattle.mn_cursor.specs.Added.{with_tuples}
use Rattle.mn_cursor.specs.Heads.{head_of}
use Rattle.mn_cursor.specs.Looks.{first_as, first_value}
use Rattle.mn_cursor.specs.declared.looks.First.{First}
use Rattle.mn_cursor.specs.declared.heads.Head.{Head}
use Rattle.mn_decls.specs.TupleLists.{Listing, whole, listed, new_list, judge_first, is_past_cells, fair_count, fair_size, fair_number, numbers_at, list_at, first_at, listed_before, lists_at, tuplelist_at}
use Rattle.mn_cursor.proofs.Looking.{unseen_stops, seen_stops, seen_reads, one_seen}
use Rattle.mn_cursor.proofs.Turning.{stops_first, stops_second, one_leaves, read_leaves, first_stops, item_stops, item_goes_on, body_ends}
use Rattle.mn_decls.proofs.TupleListLaw.{numbers_go_on, numbers_surplus, list_item, list_law}

-- 1. Numbers
kept : (c : Option Kind) (ts us vs : List Terminal) → judged c (tt {0}) ts us ≡ Ok (tt {0}, vs) → (c ≡ None) × (us ≡ vs)
kept None ts us vs e = (refl, let same : ◌≡◌ {A = Unit {0} × List Terminal} (tt, us) (tt, vs) = cc in ap (λ (r : Unit {0} × List Terminal). r.1) same)
kept (Some k) ts us vs e = cc

pub below_wanted : (b : Bool) → when (not b) kinds.Shape ≡ None → b ≡ true
below_wanted true e = refl
below_wanted false e = cc

pub one_more : (before : List ℤ) (wanted z : ℤ) → int_lt (pos (length before)) wanted ≡ true → pos (length (before ++ z ∷ [])) ≤ℤ wanted
one_more before wanted z less = let size : length (before ++ z ∷ []) ≡ length before + 1 = length-append before (z ∷ []) in omega (arith, ints)

module _ (wanted : ℤ) (before : List ℤ) (ts : List Terminal) (z : ℤ) (is : first_as number_of ts ≡ Some z) where
  pub number_kept : (us : List Terminal) → judged (fair_number wanted before z) (tt {0}) ts (drop 1 ts) ≡ Ok (tt {0}, us) → (numbers_at wanted (before ++ z ∷ []) us ≡ numbers_at wanted before ts) × (pos (length (before ++ z ∷ [])) ≤ℤ wanted)
  number_kept us e =
      let k = kept (fair_number wanted before z) ts (drop 1 ts) us e in (
        sym (numbers_go_on wanted before ts z is k.0 ∙ ap (numbers_at wanted (before ++ z ∷ [])) k.1),
        one_more before wanted z (below_wanted (int_lt (pos (length before)) wanted) k.0),
      )

  surplus_at : (b : Bool) (e : Stop) → int_lt (pos (length before)) wanted ≡ b → Stops e (judged (when (not b) kinds.Shape) (tt {0}) ts (drop 1 ts)) → Stops e (numbers_at wanted before ts)
  surplus_at true (Refused f) less stops = cc
  surplus_at false (Refused f) less stops =
      let same : fault_at ts kinds.Shape ≡ f = cc in
      numbers_surplus wanted before ts z is (ap (λ b. when (not b) kinds.Shape) less) ∙ ap (λ f. Err f) same
  surplus_at b NoMemory less stops = tt

  pub number_stops : (e : Stop) → Stops e (judged (fair_number wanted before z) (tt {0}) ts (drop 1 ts)) → Stops e (numbers_at wanted before ts)
  number_stops e stops = surplus_at (int_lt (pos (length before)) wanted) e refl stops

-- 2. The first token of a list, or the head behind the lists
first_leaves : (s : Listing) (ts : List Terminal) (w : List ℕ ⊎ Head) (us : List Terminal) → first_at s ts ≡ Ok (w, us) → length us < length ts
unfolding first_at
first_leaves s ts w us e = one_leaves Mixed (which_either name_of head_of) (judge_first s) ts w us e

list_leaves : (s : Listing) (w : List ℕ) (ts : List Terminal) (z : Listing) (us : List Terminal) → list_at s w ts ≡ Ok (z, us) → length us ≤ length ts
list_leaves s w ts z us e = read_leaves (list_item s w) (list_at s w) (list_law s w) ts z us e

lists_first_stops : (s : Listing) (ts : List Terminal) (e : Stop) → Stops e (first_at s ts) → Stops e (lists_at s ts)
unfolding lists_at
lists_first_stops s ts e stops = first_stops first_at list_at listed_before first_leaves list_leaves s ts e stops

-- 3. A list behind its name
module _ (p : Problem) (w : List ℕ) (ts : List Terminal) where
  pub count_stops : (e : Stop) → Stops e (number_at (fair_count p) ts) → Stops e (go_on (list_at (whole p) w ts) lists_at)
  unfolding list_at
  count_stops e stops = stops_first e _ lists_at (stops_first e _ _ stops)

  module _ (count : ℤ) (us : List Terminal) (counted : number_at (fair_count p) ts ≡ Ok (count, us)) where
    pub size_stops : (e : Stop) → Stops e (number_at (fair_size p count) us) → Stops e (go_on (list_at (whole p) w ts) lists_at)
    unfolding list_at
    size_stops e stops = stops_first e _ lists_at (stops_second e _ _ count us counted (stops_first e _ _ stops))

    module _ (size : ℤ) (vs : List Terminal) (sized : number_at (fair_size p count) us ≡ Ok (size, vs)) where
      pub numbers_stop : (e : Stop) → Stops e (numbers_at (count *ℤ size) [] vs) → Stops e (go_on (list_at (whole p) w ts) lists_at)
      unfolding list_at
      numbers_stop e stops =
          stops_first e _ lists_at (stops_second e _ _ count us counted (stops_second e _ _ size vs sized (stops_first e _ _ stops)))

      module _ (numbers : List ℤ) (xs : List Terminal) (read : numbers_at (count *ℤ size) [] vs ≡ Ok (numbers, xs)) where
        list_read : list_at (whole p) w ts ≡ Ok (listed p w count size numbers, xs)
        unfolding list_at
        list_read =
            ap (λ r. go_on r (λ n. then_read (number_at (fair_size p n)) (λ m. then_read (numbers_at (n *ℤ m) []) (λ l. ret (listed p w n m l))))) counted
            ∙ ap (λ r. go_on r (λ m. then_read (numbers_at (count *ℤ m) []) (λ l. ret (listed p w count m l)))) sized
            ∙ ap (λ r. go_on r (λ l. ret (listed p w count size l))) read

        -- where numbers are lacking, what stands there stops the reading
        pub lacking_stops : (e : Stop) → int_lt (pos (length numbers)) (count *ℤ size) ≡ true → Stops e (first_at (record { problem = with_tuples p w (nat_abs size) numbers; lacks = true }) xs) → Stops e (go_on (list_at (whole p) w ts) lists_at)
        lacking_stops e lacks stops =
            stops_second e _ lists_at (listed p w count size numbers) xs list_read
            (subst (λ b. Stops e (lists_at (record { problem = with_tuples p w (nat_abs size) numbers; lacks = b }) xs)) (sym lacks)
            (lists_first_stops (record { problem = with_tuples p w (nat_abs size) numbers; lacks = true }) xs e stops))

        pub whole_read : int_lt (pos (length numbers)) (count *ℤ size) ≡ false → list_at (whole p) w ts ≡ Ok (whole (with_tuples p w (nat_abs size) numbers), xs)
        whole_read lacks = list_read ∙ ap (λ b. Ok (record { problem = with_tuples p w (nat_abs size) numbers; lacks = b }, xs)) lacks

-- 4. The section, by its first token
module _ (p : Problem) (ts : List Terminal) where
  pub unseen_list : (e : Stop) → (first_as (which_either name_of head_of) ts ≡ None) × (e ≡ Refused (refused Mixed ts)) → Stops e (tuplelist_at p ts)
  unfolding first_at
  unseen_list e is = lists_first_stops (whole p) ts e (unseen_stops Mixed (which_either name_of head_of) (judge_first (whole p)) ts e is)

  pub name_stops : (w : List ℕ) (e : Stop) → first_as (which_either name_of head_of) ts ≡ Some (inl w) → Stops e (judged (new_list (whole p) w) (tt {0}) ts (drop 1 ts)) → Stops e (tuplelist_at p ts)
  unfolding first_at
  name_stops w e is stops = lists_first_stops (whole p) ts e (seen_stops Mixed (which_either name_of head_of) (judge_first (whole p)) (inl w) ts e is stops)

  name_read : (w : List ℕ) (us : List Terminal) → first_as (which_either name_of head_of) ts ≡ Some (inl w) → judged (new_list (whole p) w) (tt {0}) ts (drop 1 ts) ≡ Ok (tt {0}, us) → first_at (whole p) ts ≡ Ok (inl w, us)
  unfolding first_at
  name_read w us is reads = seen_reads Mixed (which_either name_of head_of) (judge_first (whole p)) (inl w) ts us is reads

  pub list_stops : (w : List ℕ) (us : List Terminal) (e : Stop) → first_as (which_either name_of head_of) ts ≡ Some (inl w) → judged (new_list (whole p) w) (tt {0}) ts (drop 1 ts) ≡ Ok (tt {0}, us) → Stops e (go_on (list_at (whole p) w us) lists_at) → Stops e (tuplelist_at p ts)
  unfolding lists_at
  list_stops w us e is reads stops = item_stops first_at list_at listed_before first_leaves list_leaves (whole p) ts w us e (name_read w us is reads) stops

  pub list_goes_on : (w : List ℕ) (us : List Terminal) (q : Problem) (vs : List Terminal) → first_as (which_either name_of head_of) ts ≡ Some (inl w) → judged (new_list (whole p) w) (tt {0}) ts (drop 1 ts) ≡ Ok (tt {0}, us) → list_at (whole p) w us ≡ Ok (whole q, vs) → (tuplelist_at q vs ≡ tuplelist_at p ts) × (length vs < length ts)
  unfolding lists_at
  list_goes_on w us q vs is reads goes = (
    sym (item_goes_on first_at list_at listed_before first_leaves list_leaves (whole p) ts w us (whole q) vs (name_read w us is reads) goes),
    let one = first_leaves (whole p) ts (inl w) us (name_read w us is reads) in
        let two = list_leaves (whole p) w us (whole q) vs goes in
        omega arith,
  )

  head_seen : (h : Head) → first_as (which_either name_of head_of) ts ≡ Some (inr h) → first_as head_of ts ≡ Some h
  head_seen h is = at ts is
    where
      by : (o : Option (List ℕ)) (r : Option Head) → either_of o r ≡ Some (inr h) → r ≡ Some h
      by (Some w) r e = absurd (let same : inl w ≡ inr h = cc in absurd cc)
      by None (Some g) e = let same : ◌≡◌ {A = List ℕ ⊎ Head} (inr g) (inr h) = cc in cc
      by None None e = cc

      at : (us : List Terminal) → first_as (which_either name_of head_of) us ≡ Some (inr h) → first_as head_of us ≡ Some h
      at [] e = cc
      at (t ∷ us) e = by (name_of t) (head_of t) e

  pub lists_end : (h : Head) → first_as (which_either name_of head_of) ts ≡ Some (inr h) → (h' : Head) × (first_as head_of ts ≡ Some h') × (tuplelist_at p ts ≡ Ok ((p, h'), drop 1 ts))
  unfolding lists_at first_at
  lists_end h is = (
    h,
    head_seen h is,
    body_ends first_at list_at listed_before first_leaves list_leaves (whole p) ts h (drop 1 ts) (seen_reads Mixed (which_either name_of head_of) (judge_first (whole p)) (inr h) ts (drop 1 ts) is refl),
  )

-- 5. What may be added is lawful
pub if_none : (b : Bool) (j : Kind) (c : Option Kind) → (if b then Some j else c) ≡ None → (b ≡ false) × (c ≡ None)
if_none true j c e = cc
if_none false j c e = (refl, e)

module _ (p : Problem) (count size : ℤ) where
  pub count_least : fair_count p count ≡ None → int_lt count (pos 0) ≡ false
  count_least fair = (if_none (int_lt count (pos 0)) kinds.Shape _ fair).0

  pub size_least : fair_size p count size ≡ None → int_lt size (pos 1) ≡ false
  size_least fair = (if_none (int_lt size (pos 1)) kinds.Shape _ fair).0

  pub room_for : fair_size p count size ≡ None → (numbers : List ℤ) → pos (length numbers) ≤ℤ (count *ℤ size) → cells_of p + length numbers ≤ CELLS
  room_for fair numbers few =
      let within : is_past_cells p (count *ℤ size) ≡ false = when_kept _ (kinds.Limit limits.Cells) (if_none (int_lt size (pos 1)) kinds.Shape _ fair).1 in
      at (count *ℤ size) few within
    where
      at : (all : ℤ) → pos (length numbers) ≤ℤ all → is_past_cells p all ≡ false → cells_of p + length numbers ≤ CELLS
      at all few within = omega (arith, ints)

pub at_least : (z : ℤ) → int_lt z (pos 1) ≡ false → (n : ℕ) × (z ≡ pos n) × (nat_abs z ≡ n) × (1 ≤ n)
at_least (pos n) e = (n, refl, refl, omega (arith, ints))
at_least (negsuc n) e = absurd (omega (arith, ints))

pub no_less : (z : ℤ) → int_lt z (pos 0) ≡ false → (n : ℕ) × (z ≡ pos n)
no_less (pos n) e = (n, refl)
no_less (negsuc n) e = absurd (omega (arith, ints))

exactly : (numbers : List ℤ) (all : ℤ) (n : ℕ) → all ≡ pos n → int_lt (pos (length numbers)) all ≡ false → pos (length numbers) ≤ℤ all → length numbers ≡ n
exactly numbers all n same enough few =
    let less : int_lt (pos (length numbers)) (pos n) ≡ false = ap (int_lt (pos (length numbers))) (sym same) ∙ enough in
    let more : pos (length numbers) ≤ℤ pos n = subst (λ z. pos (length numbers) ≤ℤ z) same few in
    omega (arith, ints)

pub is_lawful : (p : Problem) (name : List ℕ) (count size : ℤ) (numbers : List ℤ) → IsName name → IsValue size → fair_count p count ≡ None → fair_size p count size ≡ None → int_lt (pos (length numbers)) (count *ℤ size) ≡ false → pos (length numbers) ≤ℤ (count *ℤ size) → AllByRecursion IsValue numbers → IsLawfulTuples (record { name = name; arity = nat_abs size; cells = numbers })
is_lawful p name count size numbers named value counted sized enough few values =
    let c = no_less count (count_least p count size counted) in
    let s = at_least size (size_least p count size sized) in
    let all : count *ℤ size ≡ pos (c.0 * s.0) = ap (λ z. z *ℤ size) c.1 ∙ ap (λ z. pos c.0 *ℤ z) s.1 in
    record {
      named = named;
      least = subst (λ n. 1 ≤ n) (sym s.2) s.3;
      most = subst (λ z. z ≤ℤ pos 1000000000) (s.1 ∙ ap pos (sym s.2)) value.1;
      whole = (c.0, exactly numbers (count *ℤ size) (c.0 * s.0) all enough few ∙ ap (λ n. c.0 * n) (sym s.2));
      valued = values;
    }

pub size_fits : (p : Problem) (count size : ℤ) → fair_size p count size ≡ None → int_lt size (pos 1) ≡ false
size_fits p count size fair = size_least p count size fair

-- 6. A name that stands where a number is lacking
again : {X : Type 0} (name_of : X → List ℕ) (xs : List X) (x : X) (w : List ℕ) → is_some (called name_of (xs ++ x ∷ []) w) ≡ (is_some (called name_of xs w) || bytes_eq w (name_of x))
again name_of [] x w = by (bytes_eq w (name_of x))
  where
    by : (b : Bool) → is_some (if b then Some x else None) ≡ b
    by true = refl
    by false = refl
again name_of (y ∷ xs) x w = by (bytes_eq w (name_of y)) (again name_of xs x w)
  where
    by : (b : Bool) → is_some (called name_of (xs ++ x ∷ []) w) ≡ (is_some (called name_of xs w) || bytes_eq w (name_of x)) → is_some (if b then Some y else called name_of (xs ++ x ∷ []) w) ≡ (is_some (if b then Some y else called name_of xs w) || bytes_eq w (name_of x))
    by true later = refl
    by false later = later

pub lacking_name : (p : Problem) (name : List ℕ) (arity : ℕ) (cells : List ℤ) (f : First) (w : List ℕ) (b : Bool) → first_value f ≡ inl w → (is_some (listed_as p.tuples w) || bytes_eq w name) ≡ b → judge_first (record { problem = with_tuples p name arity cells; lacks = true }) (first_value f) ≡ (if b then Some kinds.Name else Some kinds.Shape)
lacking_name p name arity cells f w b is known =
    ap (judge_first (record { problem = with_tuples p name arity cells; lacks = true })) is
    ∙ ap (λ d. if d then Some kinds.Name else Some kinds.Shape) (again (λ t. t.name) p.tuples (record { name = name; arity = arity; cells = cells }) w ∙ known)

pub lacking_at : (s : Listing) (ts : List Terminal) (w : List ℕ ⊎ Head) (kind : Kind) (e : Stop) → first_as (which_either name_of head_of) ts ≡ Some w → judge_first s w ≡ Some kind → e ≡ Refused (fault_at ts kind) → Stops e (first_at s ts)
unfolding first_at
lacking_at s ts w kind e is judged_so stop =
    subst (λ x. Stops x (first_at s ts)) (sym stop)
    (one_seen Mixed (which_either name_of head_of) (judge_first s) w ts is ∙ ap (λ c. judged c w ts (drop 1 ts)) judged_so)

pub lacking_unseen : (s : Listing) (ts : List Terminal) (e : Stop) → (first_as (which_either name_of head_of) ts ≡ None) × (e ≡ Refused (refused Mixed ts)) → Stops e (first_at s ts)
unfolding first_at
lacking_unseen s ts e is = unseen_stops Mixed (which_either name_of head_of) (judge_first s) ts e is

-- 7. A turn of the loop over numbers
all_more : (P : ℤ → Type 0) (l : List ℤ) (z : ℤ) → AllByRecursion P l → P z → AllByRecursion P (l ++ z ∷ [])
all_more P [] z all here = (here, tt)
all_more P (x ∷ l) z all here = (all.0, all_more P l z all.1 here)

pub number_turned :
    (wanted : ℕ) (before after : List ℤ) (ts us : List Terminal) (z : ℤ) → first_as number_of ts ≡ Some z → judged (fair_number (pos wanted) before z) (tt {0}) ts (drop 1 ts) ≡ Ok (tt {0}, us)
    → after ≡ before ++ z ∷ [] → AllByRecursion IsValue before → IsValue z
    → (numbers_at (pos wanted) after us ≡ numbers_at (pos wanted) before ts) × AllByRecursion IsValue after × (length after ≤ wanted)
number_turned wanted before after ts us z is reads made values value =
    let step = number_kept (pos wanted) before ts z is us reads in
    let size : pos (length after) ≤ℤ pos wanted = subst (λ l. pos (length l) ≤ℤ pos wanted) (sym made) step.1 in (
      ap (λ l. numbers_at (pos wanted) l us) made ∙ step.0,
      subst (AllByRecursion IsValue) (sym made) (all_more IsValue before z values value),
      omega (arith, ints),
    )

-- 8. Tests of numbers
pub test_true : (m n : ℕ) → m < n → int_lt (pos m) (pos n) ≡ true
test_true m n less = grind (arith, ints)

pub test_false : (m n : ℕ) → n ≤ m → int_lt (pos m) (pos n) ≡ false
test_false m n more = grind (arith, ints)
