-- What is so of a constraint's terms is so of those of its negation.
use Rattle.std.proofs.Common.{◌≡◌, ℤ, pos, negsuc, ◌-ℤ◌, ◌↔◌, inl, inr, Bool, true, false, List, [], ◌∷◌, ◌++◌, sym, subst, arith}
use Rattle.std.proofs.lemmas.Int.{ints}
use Rattle.std.specs.List.{AllByRecursion}
use Rattle.mn_model.specs.Domain.{Has}
use Rattle.mn_model.specs.Lawful.{IsBit, IsLawfulTerm}
use Rattle.mn_model.specs.Negation.{negation, negations, other}
use Rattle.mn_model.specs.Parts.{places, places_of, bits, bits_of}
use Rattle.mn_model.specs.Variable.{number_of}
use Rattle.mn_model.specs.declared.constraint.Con.{Con}
use Rattle.mn_model.specs.declared.constraint.Cons.{Cons}
use Rattle.mn_model.specs.declared.constraint.Con.TheVariants as con
use Rattle.mn_model.specs.declared.constraint.Con.TheBlock.{more_of-Con, more_of-Cons}
use Rattle.mn_model.specs.declared.constraint.Term.{Term}
use Rattle.mn_model.specs.declared.constraint.Term.TheVariants.{Var, Const, Not}
use Rattle.mn_model.proofs.Lists.{all_append, all_back, all_front}
use Rattle.mn_boxes.specs.Boxes.{set_of}
use Rattle.mn_boxes.specs.Places.{PlaceHas}
use Rattle.mn_closure.specs.Closed.{signed}

-- P is so of the constants that a negation brings, and of the other of a 0/1 term (of which B is so) with P
pub record Turns (P B : Term → Type 0) : Type 0 where
  pub one : P (Const (pos 1))
  pub less : P (Const (negsuc 0))
  pub turned : (r : Term) → B r → P r → P (other r)

swapped : (P : Term → Type 0) (v w : List Term) → AllByRecursion P (v ++ w) → AllByRecursion P (w ++ v)
swapped P v w all = all_append P w v (all_back P v w all) (all_front P v w all)

longer : (P : Term → Type 0) (v : List Term) (t : Term) → P t → AllByRecursion P v → AllByRecursion P (v ++ t ∷ [])
longer P v t here all = all_append P v (t ∷ []) all (here, tt)

mutual
  pub all_negation : (P B : Term → Type 0) → Turns P B → (c : Con) → AllByRecursion B (bits c) → AllByRecursion P (places c) → AllByRecursion P (places (negation c))
  all_negation P B turns (con.Ineq x y k) zeros all = (all.1.0, (all.0, tt))
  all_negation P B turns (con.Watchless x y) zeros all = (all.1.0, (all.0, tt))
  all_negation P B turns (con.Sumleq v x) zeros all = longer P (v ++ x ∷ []) (Const (pos 1)) turns.one all
  all_negation P B turns (con.Sumgeq v x) zeros all = longer P (v ++ x ∷ []) (Const (negsuc 0)) turns.less all
  all_negation P B turns (con.Weightedsumleq ks v x) zeros all = longer P (v ++ x ∷ []) (Const (pos 1)) turns.one all
  all_negation P B turns (con.Weightedsumgeq ks v x) zeros all = longer P (v ++ x ∷ []) (Const (negsuc 0)) turns.less all
  all_negation P B turns (con.Lexleq v w) zeros all = swapped P v w all
  all_negation P B turns (con.Lexless v w) zeros all = swapped P v w all
  all_negation P B turns (con.WatchedOr cs) zeros all = all_negations P B turns cs zeros all
  all_negation P B turns (con.WatchedAnd cs) zeros all = all_negations P B turns cs zeros all
  all_negation P B turns (con.Reify' p (more_of-Con c none) r) zeros all =
      all_append P (places c) (other r ∷ []) (all_front P (places c) (r ∷ []) all) (turns.turned r (all_back B (bits c) (r ∷ []) zeros).0 (all_back P (places c) (r ∷ []) all).0, tt)
  all_negation P B turns (con.Reifyimply' p (more_of-Con c none) r) zeros all =
      ((all_back P (places c) (r ∷ []) all).0, all_append P (places (negation c)) [] (all_negation P B turns c (all_front B (bits c) (r ∷ []) zeros) (all_front P (places c) (r ∷ []) all)) tt)
  all_negation P B turns (con.Negated' p (more_of-Con c none)) zeros all = all
  all_negation P B turns c zeros all = all

  all_negations : (P B : Term → Type 0) → Turns P B → (cs : Cons) → AllByRecursion B (bits_of cs) → AllByRecursion P (places_of cs) → AllByRecursion P (places_of (negations cs))
  all_negations P B turns con.End zeros all = tt
  all_negations P B turns (con.More' p (more_of-Con c none) q (more_of-Cons cs nothing)) zeros all =
      all_append P (places (negation c)) (places_of (negations cs)) (all_negation P B turns c (all_front B (bits c) (bits_of cs) zeros) (all_front P (places c) (places_of cs) all))
      (all_negations P B turns cs (all_back B (bits c) (bits_of cs) zeros) (all_back P (places c) (places_of cs) all))

-- and so it is of the places where a 0/1 term is wanted
mutual
  pub all_bits_negation : (B : Term → Type 0) → ((r : Term) → B r → B (other r)) → (c : Con) → AllByRecursion B (bits c) → AllByRecursion B (bits (negation c))
  all_bits_negation B turned (con.WatchedOr cs) zeros = all_bits_negations B turned cs zeros
  all_bits_negation B turned (con.WatchedAnd cs) zeros = all_bits_negations B turned cs zeros
  all_bits_negation B turned (con.Reify' p (more_of-Con c none) r) zeros = all_append B (bits c) (other r ∷ []) (all_front B (bits c) (r ∷ []) zeros) (turned r (all_back B (bits c) (r ∷ []) zeros).0, tt)
  all_bits_negation B turned (con.Reifyimply' p (more_of-Con c none) r) zeros = all_append B (bits (negation c)) [] (all_bits_negation B turned c (all_front B (bits c) (r ∷ []) zeros)) tt
  all_bits_negation B turned (con.Negated' p (more_of-Con c none)) zeros = zeros
  all_bits_negation B turned c zeros = zeros

  all_bits_negations : (B : Term → Type 0) → ((r : Term) → B r → B (other r)) → (cs : Cons) → AllByRecursion B (bits_of cs) → AllByRecursion B (bits_of (negations cs))
  all_bits_negations B turned con.End zeros = tt
  all_bits_negations B turned (con.More' p (more_of-Con c none) q (more_of-Cons cs nothing)) zeros =
      all_append B (bits (negation c)) (bits_of (negations cs)) (all_bits_negation B turned c (all_front B (bits c) (bits_of cs) zeros)) (all_bits_negations B turned cs (all_back B (bits c) (bits_of cs) zeros))

-- nothing is asked of the 0/1 places
pub nothing_asked : (ts : List Term) → AllByRecursion (λ t. Unit {0}) ts
nothing_asked [] = tt
nothing_asked (t ∷ ts) = (tt, nothing_asked ts)

-- what is so of all terms of a constraint is so of those of it or its negation, as the sign says
pub all_signed : (P : Term → Type 0) → Turns P (λ t. Unit {0}) → (says : Bool) (c : Con) → AllByRecursion P (places c) → AllByRecursion P (places (signed says c))
all_signed P turns true c all = all
all_signed P turns false c all = all_negation P (λ t. Unit {0}) turns c (nothing_asked (bits c)) all

-- 0/1 terms and lawful ones are such
pub turned_bit : (domains : List (List ℤ)) (r : Term) → IsBit domains r → IsBit domains (other r)
turned_bit domains (Var v) bit = bit
turned_bit domains (Const k) (inl none) = inr (omega (arith, ints, none))
turned_bit domains (Const k) (inr one) = inl (omega (arith, ints, one))
turned_bit domains (Not v) bit = bit

turned_lawful : (domains : List (List ℤ)) (r : Term) → IsBit domains r → IsLawfulTerm domains r → IsLawfulTerm domains (other r)
turned_lawful domains (Var v) bit lawful = (lawful, bit)
turned_lawful domains (Const k) (inl none) lawful = (omega (arith, ints, none), omega (arith, ints, none))
turned_lawful domains (Const k) (inr one) lawful = (omega (arith, ints, one), omega (arith, ints, one))
turned_lawful domains (Not v) bit lawful = lawful.0

pub lawful_turns : (domains : List (List ℤ)) → Turns (IsLawfulTerm domains) (IsBit domains)
lawful_turns domains = record { one = (omega (arith, ints), omega (arith, ints)); less = (omega (arith, ints), omega (arith, ints)); turned = turned_lawful domains }

-- ---- the other of a 0/1 term in a box

pub other_has : (box : List (List ℤ)) (r : Term) (a : ℤ) → PlaceHas box (other r) a ↔ PlaceHas box r (pos 1 -ℤ a)
other_has box (Var v) a = (λ has. has, λ has. has)
other_has box (Const k) a = (λ e. omega (arith, ints, e), λ e. omega (arith, ints, e))
other_has box (Not v) a = let twice : pos 1 -ℤ (pos 1 -ℤ a) ≡ a = omega (arith, ints) in
    (subst (Has (set_of box (number_of v))) (sym twice), subst (Has (set_of box (number_of v))) twice)
