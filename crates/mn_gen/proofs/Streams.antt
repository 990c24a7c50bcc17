-- Draws after draws.
use Rattle.std.proofs.Common.{◌≡◌, ℤ, pos, ℕ, zero, suc, ◌+◌, ◌*◌, ◌%◌, List, [], ◌∷◌, ◌++◌, ◌<◌, ◌≤◌, length, map, get_or, refl, sym, ap, ◌∙◌, arith}
use Rattle.std.specs.List.{range_with_len}
use Rattle.std.proofs.lemmas.List.{append_assoc}
use Rattle.std.proofs.lemmas.List.FromFn.{map-range_with_len_more, get_or-map-range_with_len, length-map-range_with_len}
use Rattle.mn_gen.specs.Generated.{cells_of_list, next_state, state_after, drawn, draw, three_from}
use Rattle.mn_gen.specs.Rings.{cells_after, state_before}

-- no draw leaves the state
pub state_at_once : (seed : ℕ) → seed ≡ state_after seed 0
unfolding state_after
state_at_once seed = refl

-- one draw more
pub state_after_one_more : (seed k : ℕ) → next_state (state_after seed k) ≡ state_after seed (k + 1)
unfolding state_after
state_after_one_more seed k = let one : suc k ≡ k + 1 = omega arith in ap (state_after seed) one

-- what the next draw gives
pub draw_of_state : (seed k s : ℕ) → s ≡ next_state (state_after seed k) → drawn s ≡ draw seed k
unfolding state_after draw
draw_of_state seed k s e = ap drawn e

-- the state after a draws, and then after k more
pub state_on : (seed a k : ℕ) → state_after (state_after seed a) k ≡ state_after seed (a + k)
unfolding state_after
state_on seed a zero = let same : a ≡ a + zero = omega arith in ap (state_after seed) same
state_on seed a (suc k) = let same : suc (a + k) ≡ a + suc k = omega arith in ap next_state (state_on seed a k) ∙ ap (state_after seed) same

pub draw_on : (seed a b : ℕ) → draw (state_after seed a) b ≡ draw seed (a + b)
draw_on seed a b = sym (draw_of_state (state_after seed a) b (next_state (state_after (state_after seed a) b)) refl) ∙ draw_of_state seed (a + b) (next_state (state_after (state_after seed a) b)) (ap next_state (state_on seed a b))

-- what is drawn after a draws is what is drawn by the seed from there on
pub draws_on : (seed a b n : ℕ) → map (draw (state_after seed a)) (range_with_len b n) ≡ map (draw seed) (range_with_len (a + b) n)
draws_on seed a b zero = refl
draws_on seed a b (suc n) =
    let here : draw (state_after seed a) b ≡ draw seed (a + b) = draw_on seed a b in
    let later : map (draw (state_after seed a)) (range_with_len (b + 1) n) ≡ map (draw seed) (range_with_len (a + b + 1) n) = draws_on seed a (b + 1) n ∙ ap (λ from. map (draw seed) (range_with_len from n)) (omega arith) in
    λ i. here i ∷ later i

-- one number more, after what was drawn
pub one_more_drawn : (seed k : ℕ) (before cells : List ℤ) (next : ℤ) → cells ≡ before ++ map (draw seed) (range_with_len 0 k) → next ≡ draw seed k → cells ++ next ∷ [] ≡ before ++ map (draw seed) (range_with_len 0 (k + 1))
one_more_drawn seed k before cells next is same =
    (λ i. is i ++ same i ∷ [])
    ∙ append_assoc before (map (draw seed) (range_with_len 0 k)) (draw seed k ∷ [])
    ∙ ap (λ xs. before ++ xs) (sym (map-range_with_len_more (draw seed) 0 k k (omega arith)))

-- what is drawn from the state after a draws, seen from the seed
drawn_behind : (seed a state n : ℕ) → state ≡ state_after seed a → map (draw state) (range_with_len 0 n) ≡ map (draw seed) (range_with_len a n)
drawn_behind seed a state n is =
    let from : a + 0 ≡ a = omega arith in
    ap (λ s. map (draw s) (range_with_len 0 n)) is ∙ draws_on seed a 0 n ∙ ap (λ b. map (draw seed) (range_with_len b n)) from

-- the hidden value at a place
hidden_value : (seed n : ℕ) (hidden : List ℤ) (i : ℕ) → hidden ≡ map (draw seed) (range_with_len 0 n) → i < n → get_or hidden i (pos 0) ≡ draw seed i
hidden_value seed n hidden i is within = ap (λ xs. get_or xs i (pos 0)) is ∙ get_or-map-range_with_len (draw seed) 0 n i i (pos 0) within (omega arith)

pub length_of_hidden : (seed n : ℕ) (hidden : List ℤ) → hidden ≡ map (draw seed) (range_with_len 0 n) → length hidden ≡ n
length_of_hidden seed n hidden is = ap length is ∙ length-map-range_with_len (draw seed) 0 n

-- three numbers put into an empty list: the hidden values of a list
pub three_there : (hidden : List ℤ) (n k : ℕ) (none one two three : List ℤ) (x y z : ℤ) → none ≡ [] → one ≡ none ++ x ∷ [] → two ≡ one ++ y ∷ [] → three ≡ two ++ z ∷ []
    → x ≡ get_or hidden k (pos 0) → y ≡ get_or hidden ((k + 1) % n) (pos 0) → z ≡ get_or hidden ((k + 2) % n) (pos 0) → three ≡ map (λ i. get_or hidden i (pos 0)) (three_from n k)
three_there hidden n k none one two three x y z empty first second third hx hy hz =
    third ∙ (λ i. second i ++ z ∷ []) ∙ (λ i. (first i ++ y ∷ []) ++ z ∷ []) ∙ (λ i. ((empty i ++ x ∷ []) ++ y ∷ []) ++ z ∷ []) ∙ (λ i. hx i ∷ hy i ∷ hz i ∷ [])

-- and then what is drawn
pub as_cells_after : (hidden : List ℤ) (state n k : ℕ) (three cells : List ℤ) → three ≡ map (λ i. get_or hidden i (pos 0)) (three_from n k) → cells ≡ three ++ map (draw state) (range_with_len 0 69) → cells ≡ cells_after hidden state n k
unfolding cells_after
as_cells_after hidden state n k three cells front is = is ∙ ap (λ f. f ++ map (draw state) (range_with_len 0 69)) front

-- after the hidden values and k lists this is list k
pub cells_after_lists : (seed n k : ℕ) (hidden : List ℤ) (state : ℕ) → hidden ≡ map (draw seed) (range_with_len 0 n) → state ≡ state_before seed n k → 1 ≤ n → k < n → cells_after hidden state n k ≡ cells_of_list seed n k
unfolding cells_after cells_of_list
cells_after_lists seed n k hidden state is from least within =
    let first = hidden_value seed n hidden k is within in
    let second = hidden_value seed n hidden ((k + 1) % n) is (omega arith) in
    let third = hidden_value seed n hidden ((k + 2) % n) is (omega arith) in
    λ i. (first i ∷ second i ∷ third i ∷ []) ++ drawn_behind seed (n + 69 * k) state 69 from i

-- and the state then is that before the next list
pub state_after_list : (seed n k before after : ℕ) → before ≡ state_before seed n k → after ≡ state_after before 69 → after ≡ state_before seed n (k + 1)
state_after_list seed n k before after from is =
    let more : n + 69 * k + 69 ≡ n + 69 * (k + 1) = omega arith in
    is ∙ ap (λ s. state_after s 69) from ∙ state_on seed (n + 69 * k) 69 ∙ ap (state_after seed) more
