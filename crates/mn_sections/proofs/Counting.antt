-- Numbers, as they are tested.
use Rattle.std.proofs.Common.{◌≡◌, ℕ, ◌+◌, ◌*◌, ◌/◌, ◌≤◌, ap, ◌∙◌, arith}
use Rattle.std.proofs.lemmas.Nat.{div-mul-add}

-- so many whole tuples of a length make that many cells
pub whole_count : (count arity cells : ℕ) → 1 ≤ arity → cells ≡ count * arity → cells / arity ≡ count
whole_count count arity cells some e =
    let sum : cells ≡ count * arity + 0 = omega (arith, e) in
    ap (λ n. n / arity) sum ∙ div-mul-add count arity 0 (omega (arith, some))

pub no_more : (count arity : ℕ) → 1 ≤ arity → count ≤ count * arity
no_more count arity some = grind arith
