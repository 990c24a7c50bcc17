-- How candidates stand to one another.
use Rattle.std.proofs.Common.{◌≡◌, ℕ, ◌*◌, ◌<◌, ◌≤◌, true, false, refl, arith, ap, ◌∙◌, sym}
use Rattle.std.proofs.lemmas.Bool.{ltb-true, lt-ltb, ltb-false, le-ltb}
use Rattle.std.proofs.Math.Nat.{lt_of_mul-lt-mul_right, mul-lt-mul_of_pos_right, mul-le-mul_right, mul_comm, mul_assoc}
use Rattle.mn_order.specs.Choose.{beats}
use Rattle.mn_order.specs.declared.choice.Choice.{Choice}
use Rattle.mn_order.specs.declared.choice.Choice.TheVariants.{Fixed, Smallest, Largest, Ratio}
use Rattle.mn_order.specs.declared.scan.Candidate.{Candidate}

pub none_beats_itself : (choice : Choice) (p : Candidate) → beats choice p p ≡ false
none_beats_itself Fixed p = refl
none_beats_itself Smallest p = le-ltb _ _ (omega arith)
none_beats_itself Largest p = le-ltb _ _ (omega arith)
none_beats_itself Ratio p = le-ltb _ _ (omega arith)

-- less is not more
never_both : (a b : ℕ) → a < b → a ≤ b
never_both a b less = omega arith

pub beaten_beats_not : (choice : Choice) (p q : Candidate) → beats choice p q ≡ true → beats choice q p ≡ false
beaten_beats_not Fixed p q e = refl
beaten_beats_not Smallest p q e = le-ltb _ _ (never_both _ _ (ltb-true _ _ e))
beaten_beats_not Largest p q e = le-ltb _ _ (never_both _ _ (ltb-true _ _ e))
beaten_beats_not Ratio p q e = le-ltb _ _ (never_both _ _ (ltb-true _ _ e))

below_less : (a b c : ℕ) → a < b → b ≤ c → a < c
below_less a b c less least = omega arith

less_below : (a b c : ℕ) → a ≤ b → b < c → a < c
less_below a b c least less = omega arith

-- the last two of three factors change places
turned : (a b c : ℕ) → a * b * c ≡ a * c * b
turned a b c = mul_assoc a b c ∙ (ap (λ (x : ℕ). a * x) (mul_comm b c) ∙ sym (mul_assoc a c b))

-- a part of one whole is less than a part of another that isn't more than a third
pub ratio_beats : (p pw b bw q qw : ℕ) → 1 ≤ qw → p * bw < b * pw → b * qw ≤ q * bw → p * qw < q * pw
ratio_beats p pw b bw q qw some less least =
    let first : p * bw * qw < b * pw * qw = mul-lt-mul_of_pos_right less (omega arith) in
    let second : b * qw * pw ≤ q * bw * pw = mul-le-mul_right pw least in
    lt_of_mul-lt-mul_right bw (rw (turned p qw bw, turned q pw bw) (below_less _ _ _ first (rw (turned b pw qw) second)))

-- what beats an unbeaten one beats all that don't beat that
pub beats_more : (choice : Choice) (p b q : Candidate) → 1 ≤ q.whole → beats choice p b ≡ true → beats choice q b ≡ false → beats choice p q ≡ true
beats_more Fixed p b q some e f = cc
beats_more Smallest p b q some e f = lt-ltb _ _ (below_less _ _ _ (ltb-true _ _ e) (ltb-false _ _ f))
beats_more Largest p b q some e f = lt-ltb _ _ (less_below _ _ _ (ltb-false _ _ f) (ltb-true _ _ e))
beats_more Ratio p b q some e f = lt-ltb _ _ (ratio_beats p.size p.whole b.size b.whole q.size q.whole some (ltb-true _ _ e) (ltb-false _ _ f))
