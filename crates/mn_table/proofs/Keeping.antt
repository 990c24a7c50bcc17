-- What the parts of a pass by marks are towards, and that together they close the box.
use Rattle.std.proofs.Common.{◌≡◌, ◌↔◌, ℕ, zero, suc, ◌+◌, ◌<◌, ◌≤◌, ℤ, ◌⊎◌, inl, inr, true, IsTrue, List, [], ◌∷◌, length, slice_get, Some, Result, Ok, Err, IsErr, sym, subst, ap, ◌∙◌, arith, true≢false}
use Rattle.std.proofs.lemmas.Option.{slice_get_within}
use Rattle.mn_model.specs.Members.{HasMember}
use Rattle.mn_model.specs.declared.constraint.Con.TheVariants as con
use Rattle.mn_model.specs.declared.constraint.Tab.{Tab}
use Rattle.mn_model.specs.declared.constraint.Term.{Term}
use Rattle.mn_model.specs.declared.declaration.Tuples.{Tuples}
use Rattle.mn_boxes.specs.Boxes.{Inside}
use Rattle.mn_boxes.specs.Sets.{Variable}
use Rattle.mn_boxes.specs.Values.{Values, members}
use Rattle.mn_meaning.specs.Meaning.{tuples_of}
use Rattle.mn_closure.specs.Closed.{Asked, LeafClosed}
use Rattle.mn_closure.specs.Levels.{Arc}
use Rattle.mn_closure.specs.Supports.{Supported}
use Rattle.mn_closure.proofs.Wider.{wider_supported}
use Rattle.mn_prop.specs.Contexts.{Context, IsNamed, box_of, vars_of}
use Rattle.mn_prop.specs.Losses.{Unsupported}
use Rattle.mn_prop.specs.Passes.{IsStep}
use Rattle.mn_prop.specs.Posts.{ClosedUnderLeaf, IsReady, Posted, beside}
use Rattle.mn_prop.specs.Revising.{PlaceClosed}
use Rattle.mn_prop.specs.Sifting.{IsSifted}
use Rattle.mn_prop.specs.declared.context.Fail.{Fail}
use Rattle.mn_prop.proofs.Boxing.{inside_through}
use Rattle.mn_prop.proofs.Going.{Going, arrives, begins, goes_on, goes_wrong, same_before}
use Rattle.mn_prop.proofs.Ready.{ready_named}
use Rattle.mn_prop.proofs.Stepping.{goes_inside, same_vars}
use Rattle.mn_table.specs.Marks.{AreAlive, FoundWith}
use Rattle.mn_table.proofs.Sifting.{AskedPass, sift_asked}
use Rattle.mn_table.proofs.Supporting.{row_supports, supporting_row}

-- the first n places are kept
pub record KeptTo (posted : Posted) (old now : Context) (n : ℕ) : Type 0 where
  pub going : Going (Unsupported posted) (ClosedUnderLeaf (vars_of old) posted) old now
  pub before : box_of now ≡ box_of old → (j : ℕ) → j < n → PlaceClosed (vars_of old) posted j (box_of old)

pub none_kept : (posted : Posted) (c : Context) → KeptTo posted c c 0
none_kept posted c = record { going = begins c; before = λ same j less. absurd (omega (arith, less)) }

-- a member of a list has a number
number_of_member : (rows : List (List ℤ)) (row : List ℤ) → HasMember rows row → (r : ℕ) × (slice_get rows r ≡ Some row)
number_of_member [] row has = absurd has
number_of_member (x ∷ rows) row (inl same) = (0, ap Some same)
number_of_member (x ∷ rows) row (inr has) = let r = number_of_member rows row has in (suc r.0, r.1)

member_of_number : (rows : List (List ℤ)) (row : List ℤ) (r : ℕ) → slice_get rows r ≡ Some row → HasMember rows row
member_of_number [] row r e = cc
member_of_number (x ∷ rows) row zero e = inl (same x row e)
  where
    same : (x row : List ℤ) → Some x ≡ Some row → x ≡ row
    same x row e = cc
member_of_number (x ∷ rows) row (suc r) e = inr (member_of_number rows row r e)

module _ (lists : List Tuples) (v : List Term) (tab : Tab) (rows : List (List ℤ)) (is : tuples_of lists tab ≡ rows) where
  abbrev Posting : Posted
  Posting = beside lists (con.Table v tab)

  abbrev Gone : List (List ℤ) → Term → ℤ → Type 0
  Gone = Unsupported Posting

  module _ (old : Context) (ready : IsReady (vars_of old) lists (con.Table v tab)) (alive : Values) (are : AreAlive (box_of old) v rows alive) (found : Values) (i : ℕ) (t : Term) (stands : slice_get v i ≡ Some t)
      (told : (a : ℤ) → IsTrue (members found a) ↔ FoundWith alive i a rows) where
    -- what was found is what is supported
    supported_found : (a : ℤ) → Supported lists (con.Table v tab) i a (box_of old) → members found a ≡ true
    supported_found a supported =
        let r = supporting_row lists v tab rows (box_of old) i a is supported in
        let n = number_of_member rows r.row r.stands in
        (told a).1 (record { number = n.0; row = r.row; stands = n.1; is_alive = (are n.0 r.row n.1).1 r.chosen; given = r.given })

    found_supported : (a : ℤ) → members found a ≡ true → Supported lists (con.Table v tab) i a (box_of old)
    found_supported a e =
        let f = (told a).0 e in
        row_supports lists v tab rows (box_of old) i a is (record { row = f.row; stands = member_of_number rows f.row f.number f.stands; chosen = (are f.number f.row f.stands).0 f.is_alive; given = f.given })

    module _ (now new : Context) (so_far : KeptTo Posting old now i) where
      inside_old : (box : List (List ℤ)) → Inside box (box_of now) → Inside box (box_of old)
      inside_old box inside = inside_through inside (goes_inside so_far.going.loses)

      named_now : IsNamed (vars_of now) t
      named_now = subst (λ (vars : List Variable). IsNamed vars t) (sym (same_vars so_far.going.loses)) (ready_named Posting i ready stands)

      kept_step : (result : Result (Unit {0}) Fail) → IsSifted (members found) t now new result → IsStep Gone (AskedPass (vars_of now) (members found) t) now new result
      kept_step result sifted = sift_asked t named_now (λ a has out. (
        i,
        stands,
        λ supported.
            true≢false (sym (supported_found a (wider_supported Arc lists (con.Table v tab) i a (box_of now) (box_of old) (goes_inside so_far.going.loses) supported)) ∙ out),
      )) sifted

      closed_asked : (box : List (List ℤ)) → Inside box (box_of now) → LeafClosed (vars_of old) lists (con.Table v tab) box → AskedPass (vars_of now) (members found) t box
      closed_asked box inside closed a asked =
          supported_found a (wider_supported Arc lists (con.Table v tab) i a box (box_of old) (inside_old box inside) (closed.supported i t a stands (subst (λ (vars : List Variable). Asked Arc vars box t a) (same_vars so_far.going.loses) asked)))

      pub one_more_kept : (done : Unit {0}) → IsSifted (members found) t now new (Ok done) → KeptTo Posting old new (i + 1)
      one_more_kept done sifted =
          let step = kept_step (Ok done) sifted in
          record {
            going = goes_on so_far.going (λ box is_box inside closed. closed_asked box inside closed) step;
            before = λ same j less. by (same_before so_far.going step.loses same) step.still same j (less_or_same j i less);
          }
        where
          less_or_same : (j i : ℕ) → j < i + 1 → (j < i) ⊎ (j ≡ i)
          less_or_same j i less = grind arith

          same_term : (u : Term) → slice_get v i ≡ Some u → u ≡ t
          same_term u at_i = some_so u (sym at_i ∙ stands)
            where
              some_so : (u : Term) → Some u ≡ Some t → u ≡ t
              some_so u e = cc

          here : box_of now ≡ box_of old → (box_of new ≡ box_of now → AskedPass (vars_of now) (members found) t (box_of now)) → box_of new ≡ box_of old → PlaceClosed (vars_of old) Posting i (box_of old)
          here unchanged still same u a at_i asked =
              let pass = subst (λ (box : List (List ℤ)). AskedPass (vars_of now) (members found) t box) unchanged (still (same ∙ sym unchanged)) in
              found_supported a (pass a (subst (λ (vars : List Variable). Asked Arc vars (box_of old) t a) (sym (same_vars so_far.going.loses)) (subst (λ (x : Term). Asked Arc (vars_of old) (box_of old) x a) (same_term u at_i) asked)))

          by : box_of now ≡ box_of old → (box_of new ≡ box_of now → AskedPass (vars_of now) (members found) t (box_of now)) → box_of new ≡ box_of old → (j : ℕ) → (j < i) ⊎ (j ≡ i) → PlaceClosed (vars_of old) Posting j (box_of old)
          by unchanged still same j (inl less) = so_far.before unchanged j less
          by unchanged still same j (inr at_i) = subst (λ (k : ℕ). PlaceClosed (vars_of old) Posting k (box_of old)) (sym at_i) (here unchanged still same)

      pub keep_fails : (result end : Result (Unit {0}) Fail) (fail : Fail) → IsSifted (members found) t now new (Err fail) → IsErr end → IsStep Gone (LeafClosed (vars_of old) lists (con.Table v tab)) old new end
      keep_fails result end fail sifted err = goes_wrong so_far.going (λ box is_box inside closed. closed_asked box inside closed) (kept_step (Err fail) sifted) err

  pub all_kept : (old now : Context) (n : ℕ) → 1 ≤ length v → length v ≤ n → KeptTo Posting old now n → IsStep Gone (LeafClosed (vars_of old) lists (con.Table v tab)) old now (Ok tt)
  all_kept old now n some whole so_far = arrives so_far.going (λ same. record {
    bare = λ none. absurd (filled v some none);
    supported = λ i t a stands asked. so_far.before same i (let within = slice_get_within v i t stands in omega (arith, within, whole)) t a stands asked;
  })
    where
      filled : (v : List Term) → 1 ≤ length v → v ≡ [] → ⊥
      filled [] some e = omega (arith, some)
      filled (t ∷ v) some e = cc
