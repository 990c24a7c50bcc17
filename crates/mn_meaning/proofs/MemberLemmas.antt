-- The members of lists that are joined, kept, picked and turned round, and how they stand to one another.
use Rattle.std.proofs.Common.{◌≡◌, ◌⊎◌, Bool, true, false, cond, List, [], ◌∷◌, ◌++◌, map, filter, reverse, refl, ap, sym, subst, ◌∙◌, inl, inr}
use Rattle.std.proofs.lemmas.Grind.{reverse_onto}
use Rattle.std.specs.List.{AllByRecursion, flat_map}
use Rattle.mn_model.specs.Decided.{Decided, keep_if, kept}
use Rattle.mn_model.specs.Members.{HasMember, HoldsInOrder}
use Rattle.mn_model.proofs.Lists.{all_append, all_filter, all_map, all_so, member_back, member_front, member_of_either}

pub HoldsInOrder-append : {X : Type 0} (R : X → X → Type 0) (xs ys : List X) → HoldsInOrder R xs → HoldsInOrder R ys → AllByRecursion (λ x. AllByRecursion (R x) ys) xs → HoldsInOrder R (xs ++ ys)
HoldsInOrder-append R [] ys front back across = back
HoldsInOrder-append R (x ∷ xs) ys front back across = (all_append (R x) xs ys front.0 across.0, HoldsInOrder-append R xs ys front.1 back across.1)

pub HoldsInOrder-weakened : {X : Type 0} (R S : X → X → Type 0) → ((x y : X) → R x y → S x y) → (xs : List X) → HoldsInOrder R xs → HoldsInOrder S xs
HoldsInOrder-weakened R S weaker [] ordered = tt
HoldsInOrder-weakened R S weaker (x ∷ xs) ordered = (all_so (R x) (S x) (weaker x) xs ordered.0, HoldsInOrder-weakened R S weaker xs ordered.1)

-- what is kept is a member of which P holds
kept_first : {X : Type 0} (P : X → Type 0) (y : X) (d : Decided (P y)) (others : List X) (x : X) → HasMember (keep_if d y others) x → ((y ≡ x) × P x) ⊎ HasMember others x
kept_first P y (inl holds) others x (inl same) = inl (same, subst P same holds)
kept_first P y (inl holds) others x (inr later) = inr later
kept_first P y (inr not) others x later = inr later

pub member_kept : {X : Type 0} (P : X → Type 0) (decide : (x : X) → Decided (P x)) (xs : List X) (x : X) → HasMember (kept decide xs) x → HasMember xs x × P x
member_kept P decide [] x member = absurd member
member_kept P decide (y ∷ xs) x member =
    elim (kept_first P y (decide y) (kept decide xs) x member) [
      | inl here ↦ (inl here.0, here.1)
      | inr later ↦ (let l = member_kept P decide xs x later in (inr l.0, l.1))
    ]

-- and each such member is kept
first_kept : {X : Type 0} (P : X → Type 0) (y : X) (d : Decided (P y)) (others : List X) (x : X) → y ≡ x → P x → HasMember (keep_if d y others) x
first_kept P y (inl holds) others x same p = inl same
first_kept P y (inr not) others x same p = absurd (not (subst P (sym same) p))

later_kept : {X : Type 0} (P : X → Type 0) (y : X) (d : Decided (P y)) (others : List X) (x : X) → HasMember others x → HasMember (keep_if d y others) x
later_kept P y (inl holds) others x later = inr later
later_kept P y (inr not) others x later = later

pub kept_member : {X : Type 0} (P : X → Type 0) (decide : (x : X) → Decided (P x)) (xs : List X) (x : X) → HasMember xs x → P x → HasMember (kept decide xs) x
kept_member P decide [] x member p = absurd member
kept_member P decide (y ∷ xs) x (inl same) p = first_kept P y (decide y) (kept decide xs) x same p
kept_member P decide (y ∷ xs) x (inr later) p = later_kept P y (decide y) (kept decide xs) x (kept_member P decide xs x later p)

-- what is kept stands as it stood
AllByRecursion-keep_if : {X : Type 0} (P Q : X → Type 0) (y : X) (d : Decided (P y)) (others : List X) → Q y → AllByRecursion Q others → AllByRecursion Q (keep_if d y others)
AllByRecursion-keep_if P Q y (inl holds) others here all = (here, all)
AllByRecursion-keep_if P Q y (inr not) others here all = all

AllByRecursion-kept : {X : Type 0} (P Q : X → Type 0) (decide : (x : X) → Decided (P x)) (xs : List X) → AllByRecursion Q xs → AllByRecursion Q (kept decide xs)
AllByRecursion-kept P Q decide [] all = tt
AllByRecursion-kept P Q decide (y ∷ xs) all = AllByRecursion-keep_if P Q y (decide y) (kept decide xs) all.0 (AllByRecursion-kept P Q decide xs all.1)

HoldsInOrder-keep_if : {X : Type 0} (P : X → Type 0) (R : X → X → Type 0) (y : X) (d : Decided (P y)) (others : List X) → AllByRecursion (R y) others → HoldsInOrder R others → HoldsInOrder R (keep_if d y others)
HoldsInOrder-keep_if P R y (inl holds) others first ordered = (first, ordered)
HoldsInOrder-keep_if P R y (inr not) others first ordered = ordered

pub HoldsInOrder-kept : {X : Type 0} (P : X → Type 0) (R : X → X → Type 0) (decide : (x : X) → Decided (P x)) (xs : List X) → HoldsInOrder R xs → HoldsInOrder R (kept decide xs)
HoldsInOrder-kept P R decide [] ordered = tt
HoldsInOrder-kept P R decide (y ∷ xs) ordered = HoldsInOrder-keep_if P R y (decide y) (kept decide xs) (AllByRecursion-kept P (R y) decide xs ordered.0) (HoldsInOrder-kept P R decide xs ordered.1)

-- what holds of all holds of each member, and the other way round
pub of_member : {X : Type 0} (P : X → Type 0) (xs : List X) (x : X) → AllByRecursion P xs → HasMember xs x → P x
of_member P [] x all member = absurd member
of_member P (y ∷ xs) x all (inl same) = subst P same all.0
of_member P (y ∷ xs) x all (inr later) = of_member P xs x all.1 later

pub of_members : {X : Type 0} (P : X → Type 0) (xs : List X) → ((x : X) → HasMember xs x → P x) → AllByRecursion P xs
of_members P [] each = tt
of_members P (y ∷ xs) each = (each y (inl refl), of_members P xs (λ x later. each x (inr later)))

-- the same of order, where what follows speaks of members
pub HoldsInOrder-of_members : {X : Type 0} (R S : X → X → Type 0) (xs : List X) → ((x y : X) → HasMember xs x → HasMember xs y → R x y → S x y) → HoldsInOrder R xs → HoldsInOrder S xs
HoldsInOrder-of_members R S [] weaker ordered = tt
HoldsInOrder-of_members R S (z ∷ xs) weaker ordered = (
  of_members (S z) xs (λ x member. weaker z x (inl refl) (inr member) (of_member (R z) xs x ordered.0 member)),
  HoldsInOrder-of_members R S xs (λ x y here there. weaker x y (inr here) (inr there)) ordered.1,
)

-- what a member of a flat_map comes from
pub record IsFrom {X Y : Type 0} (f : X → List Y) (xs : List X) (y : Y) : Type 0 where
  pub source : X
  pub has : HasMember xs source
  pub left : HasMember (f source) y

pub member_flat_map : {X Y : Type 0} (f : X → List Y) (xs : List X) (y : Y) → HasMember (flat_map f xs) y → IsFrom f xs y
member_flat_map f [] y member = absurd member
member_flat_map f (x ∷ xs) y member =
    elim (member_of_either (f x) (flat_map f xs) y member) [
      | inl here ↦ record { source = x; has = inl refl; left = here }
      | inr there ↦ (let r = member_flat_map f xs y there in record { source = r.source; has = inr r.has; left = r.left })
    ]

pub flat_map_member : {X Y : Type 0} (f : X → List Y) (xs : List X) (x : X) (y : Y) → HasMember xs x → HasMember (f x) y → HasMember (flat_map f xs) y
flat_map_member f [] x y has member = absurd has
flat_map_member f (z ∷ xs) x y (inl same) member = member_front (f z) (flat_map f xs) y (subst (λ w. HasMember (f w) y) (sym same) member)
flat_map_member f (z ∷ xs) x y (inr later) member = member_back (f z) (flat_map f xs) y (flat_map_member f xs x y later member)

-- a flat_map is in order where each part is and the parts are
pub HoldsInOrder-flat_map : {X Y : Type 0} (R : Y → Y → Type 0) (f : X → List Y) (xs : List X) → ((x : X) → HasMember xs x → HoldsInOrder R (f x))
    → HoldsInOrder (λ x y. AllByRecursion (λ s. AllByRecursion (R s) (f y)) (f x)) xs → HoldsInOrder R (flat_map f xs)
HoldsInOrder-flat_map {X} {Y} R f [] each across = tt
HoldsInOrder-flat_map {X} {Y} R f (x ∷ xs) each across =
    HoldsInOrder-append R (f x) (flat_map f xs) (each x (inl refl)) (HoldsInOrder-flat_map R f xs (λ y later. each y (inr later)) across.1)
    (of_members (λ s. AllByRecursion (R s) (flat_map f xs)) (f x) (λ s here. of_members (R s) (flat_map f xs) (λ t there. precedes s t here (member_flat_map f xs t there))))
  where
    precedes : (s t : Y) → HasMember (f x) s → IsFrom f xs t → R s t
    precedes s t here there = of_member (R s) (f there.source) t (of_member (λ u. AllByRecursion (R u) (f there.source)) (f x) s (of_member (λ y. AllByRecursion (λ u. AllByRecursion (R u) (f y)) (f x)) xs there.source across.0 there.has) here) there.left

-- turned round, the members are the same and stand in the other order
pub AllByRecursion-reverse : {X : Type 0} (P : X → Type 0) (xs : List X) → AllByRecursion P xs → AllByRecursion P (reverse xs)
AllByRecursion-reverse P [] all = tt
AllByRecursion-reverse P (x ∷ xs) all = rw (reverse_onto xs x []) (all_append P (reverse xs) (x ∷ []) (AllByRecursion-reverse P xs all.1) (all.0, tt))

pub HoldsInOrder-reverse : {X : Type 0} (R : X → X → Type 0) (xs : List X) → HoldsInOrder R xs → HoldsInOrder (λ x y. R y x) (reverse xs)
HoldsInOrder-reverse R [] ordered = tt
HoldsInOrder-reverse R (x ∷ xs) ordered =
    rw (reverse_onto xs x [])
    (HoldsInOrder-append (λ y z. R z y) (reverse xs) (x ∷ []) (HoldsInOrder-reverse R xs ordered.1) (tt, tt)
    (all_so (R x) (λ y. AllByRecursion (λ z. R z y) (x ∷ [])) (λ y before. (before, tt)) (reverse xs) (AllByRecursion-reverse (R x) xs ordered.0)))

pub member_reverse : {X : Type 0} (xs : List X) (x : X) → HasMember xs x → HasMember (reverse xs) x
member_reverse [] x member = absurd member
member_reverse (y ∷ xs) x (inl same) = rw (reverse_onto xs y []) (member_back (reverse xs) (y ∷ []) x (inl same))
member_reverse (y ∷ xs) x (inr later) = rw (reverse_onto xs y []) (member_front (reverse xs) (y ∷ []) x (member_reverse xs x later))

pub HoldsInOrder-filter : {X : Type 0} (R : X → X → Type 0) (test : X → Bool) (xs : List X) → HoldsInOrder R xs → HoldsInOrder R (filter test xs)
HoldsInOrder-filter {X} R test [] ordered = tt
HoldsInOrder-filter {X} R test (x ∷ xs) ordered = by (test x) (filter test xs) (all_filter (R x) test xs ordered.0) (HoldsInOrder-filter R test xs ordered.1)
  where
    by : (b : Bool) (others : List X) → AllByRecursion (R x) others → HoldsInOrder R others → HoldsInOrder R (cond b (x ∷ others) others)
    by true others first later = (first, later)
    by false others first later = later

-- what is picked is a member, and a member that passes is picked
pub member_filter : {X : Type 0} (test : X → Bool) (xs : List X) (x : X) → HasMember xs x → test x ≡ true → HasMember (filter test xs) x
member_filter {X} test [] x member passes = absurd member
member_filter {X} test (y ∷ xs) x (inl same) passes = by (test y) (ap test same ∙ passes)
  where
    by : (b : Bool) → b ≡ true → HasMember (cond b (y ∷ filter test xs) (filter test xs)) x
    by true e = inl same
    by false e = cc
member_filter {X} test (y ∷ xs) x (inr later) passes = by (test y) (filter test xs) (member_filter test xs x later passes)
  where
    by : (b : Bool) (others : List X) → HasMember others x → HasMember (cond b (y ∷ others) others) x
    by true others there = inr there
    by false others there = there

pub HoldsInOrder-map : {X Y : Type 0} (R : Y → Y → Type 0) (f : X → Y) (xs : List X) → HoldsInOrder (λ x y. R (f x) (f y)) xs → HoldsInOrder R (map f xs)
HoldsInOrder-map R f [] ordered = tt
HoldsInOrder-map R f (x ∷ xs) ordered = (all_map (R (f x)) f xs ordered.0, HoldsInOrder-map R f xs ordered.1)

pub map_member : {X Y : Type 0} (f : X → Y) (xs : List X) (x : X) → HasMember xs x → HasMember (map f xs) (f x)
map_member f [] x member = absurd member
map_member f (y ∷ xs) x (inl same) = inl (ap f same)
map_member f (y ∷ xs) x (inr later) = inr (map_member f xs x later)
