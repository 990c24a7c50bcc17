-- A move keeps that the next and the previous nodes undo each other.
use Rattle.std.proofs.Common.{◌≡◌, ◌≢◌, ℕ, ◌<◌, cond, nat_eq, refl, sym, ap, subst, ◌∙◌}
use Rattle.mn_lists.specs.Circles.{Mutual, skip}
use Rattle.mn_lists.proofs.Cases.{by_same, cond_same, cond_other}
use Rattle.mn_lists.proofs.Moves.{skip_same, skip_other, Moves}

-- a and b in each other's place
abbrev swap : ℕ → ℕ → ℕ → ℕ
swap a b k = cond (nat_eq k a) b (cond (nat_eq k b) a k)

swap_first : (a b k : ℕ) → k ≡ a → swap a b k ≡ b
swap_first a b k e = cond_same k a b (cond (nat_eq k b) a k) e

swap_second : (a b k : ℕ) → k ≡ b → swap a b k ≡ a
swap_second a b k e = by_same k a (λ same _. swap_first a b k same ∙ sym e ∙ same) (λ other _. cond_other k a b (cond (nat_eq k b) a k) other ∙ cond_same k b a k e)

swap_other : (a b k : ℕ) → k ≢ a → k ≢ b → swap a b k ≡ k
swap_other a b k far other = cond_other k a b (cond (nat_eq k b) a k) far ∙ cond_other k b a k other

swap_twice : (a b k : ℕ) → swap a b (swap a b k) ≡ k
swap_twice a b k =
    by_same k a (λ same _. ap (swap a b) (swap_first a b k same) ∙ swap_second a b b refl ∙ sym same)
    (λ far _. by_same k b (λ same _. ap (swap a b) (swap_second a b k same) ∙ swap_first a b a refl ∙ sym same)
    (λ other _. ap (swap a b) (swap_other a b k far other) ∙ swap_other a b k far other))

swap_below : (a b m k : ℕ) → a < m → b < m → k < m → swap a b k < m
swap_below a b m k ha hb hk =
    let P : ℕ → Type 0 = λ x. x < m in
    by_same k a (λ same _. subst P (sym (swap_first a b k same)) hb)
    (λ far _. by_same k b (λ same _. subst P (sym (swap_second a b k same)) ha) (λ other _. subst P (sym (swap_other a b k far other)) hk))

module _ (f g : ℕ → ℕ) (m t h : ℕ) (M : Mutual f g m) (here : t < m) (there : h < m) (far : t ≢ h) where
  -- the two places are exchanged before, and t with the node after it behind
  abbrev next_now : ℕ → ℕ
  next_now k = swap t (f t) (f (swap t h k))

  abbrev prev_now : ℕ → ℕ
  prev_now k = swap t h (g (swap t (f t) k))

  mutual_now : Mutual next_now prev_now m
  mutual_now = record {
    next_below = λ k below. swap_below t (f t) m (f (swap t h k)) here (M.next_below t here) (M.next_below (swap t h k) (swap_below t h m k here there below));
    prev_below = λ k below. swap_below t h m (g (swap t (f t) k)) here there (M.prev_below (swap t (f t) k) (swap_below t (f t) m k here (M.next_below t here) below));
    back = λ k below. ap (λ (x : ℕ). swap t h (g x)) (swap_twice t (f t) (f (swap t h k))) ∙ ap (swap t h) (M.back (swap t h k) (swap_below t h m k here there below)) ∙ swap_twice t h k;
    forth = λ k below. ap (λ (x : ℕ). swap t (f t) (f x)) (swap_twice t h (g (swap t (f t) k))) ∙ ap (swap t (f t)) (M.forth (swap t (f t) k) (swap_below t (f t) m k here (M.next_below t here) below)) ∙ swap_twice t (f t) k;
  }

  same_next : (x y : ℕ) → x < m → y < m → f x ≡ f y → x ≡ y
  same_next x y hx hy e = sym (M.back x hx) ∙ ap g e ∙ M.back y hy

  -- the node before t, and so the one that leads to t
  skip_is : (x : ℕ) → x < m → cond (nat_eq x (g t)) (f t) (f x) ≡ skip f t (f x)
  skip_is x below =
      by_same x (g t)
      (λ same _. cond_same x (g t) (f t) (f x) same ∙ sym (skip_same f t (f x) (ap f same ∙ M.forth t here)))
      (λ other _. cond_other x (g t) (f t) (f x) other ∙ sym (skip_other f t (f x) (λ e. other (sym (M.back x below) ∙ ap g e))))

  module _ (F G : ℕ → ℕ) (F_is : (k : ℕ) → F k ≡ cond (nat_eq k t) (cond (nat_eq h (g t)) (f t) (f h)) (cond (nat_eq k h) t (cond (nat_eq k (g t)) (f t) (f k))))
      (G_is : (k : ℕ) → G k ≡ cond (nat_eq k (cond (nat_eq h (g t)) (f t) (f h))) t (cond (nat_eq k t) h (cond (nat_eq k (f t)) (g t) (g k)))) where
    pub moves : Moves f F m t h
    moves = record {
      others = λ x below other away. F_is x ∙ cond_other x t _ _ other ∙ cond_other x h _ _ away ∙ skip_is x below;
      head = F_is h ∙ cond_other h t _ _ (λ e. far (sym e)) ∙ cond_same h h _ _ refl;
      node = F_is t ∙ cond_same t t _ _ refl ∙ skip_is h there;
    }

    swap_skip : (x : ℕ) → x < m → x ≢ t → swap t (f t) (f x) ≡ skip f t (f x)
    swap_skip x below other =
        by_same (f x) t (λ same _. swap_first t (f t) (f x) same ∙ sym (skip_same f t (f x) same))
        (λ away _. swap_other t (f t) (f x) away (λ e. other (same_next x t below here e)) ∙ sym (skip_other f t (f x) away))

    next_is : (k : ℕ) → k < m → F k ≡ next_now k
    next_is k below =
        by_same k t (λ same _. ap F same ∙ moves.node ∙ sym (swap_skip h there (λ e. far (sym e))) ∙ ap (λ (x : ℕ). swap t (f t) (f x)) (sym (swap_first t h k same)))
        (λ other _. by_same k h (λ same _. ap F same ∙ moves.head ∙ sym (swap_second t (f t) (f t) refl) ∙ ap (λ (x : ℕ). swap t (f t) (f x)) (sym (swap_second t h k same)))
        (λ away _. moves.others k below other away ∙ sym (swap_skip k below other) ∙ ap (λ (x : ℕ). swap t (f t) (f x)) (sym (swap_other t h k other away))))

    same_now : (x y : ℕ) → x < m → y < m → F x ≡ F y → x ≡ y
    same_now x y hx hy e = sym (mutual_now.back x hx) ∙ ap prev_now (sym (next_is x hx) ∙ e ∙ next_is y hy) ∙ mutual_now.back y hy

    first_is : F t ≡ cond (nat_eq h (g t)) (f t) (f h)
    first_is = F_is t ∙ cond_same t t _ _ refl

    back_now : (k : ℕ) → k < m → G (F k) ≡ k
    back_now k below =
        by_same k t (λ same _. G_is (F k) ∙ cond_same (F k) _ t _ (ap F same ∙ first_is) ∙ sym same)
        (λ other _. let new : F k ≢ cond (nat_eq h (g t)) (f t) (f h) = λ e. other (same_now k t below here (e ∙ sym first_is)) in
        G_is (F k) ∙ cond_other (F k) _ t _ new ∙
        by_same k h (λ same _. cond_same (F k) t h _ (ap F same ∙ moves.head) ∙ sym same)
        (λ away _. cond_other (F k) t h _ (λ e. away (same_now k h below there (e ∙ sym moves.head))) ∙
        by_same (f k) t (λ same _. cond_same (F k) (f t) (g t) (g (F k)) (moves.others k below other away ∙ skip_same f t (f k) same) ∙ ap g (sym same) ∙ M.back k below)
        (λ apart _. let stays : F k ≡ f k = moves.others k below other away ∙ skip_other f t (f k) apart in
        cond_other (F k) (f t) (g t) (g (F k)) (λ e. other (same_next k t below here (sym stays ∙ e))) ∙ ap g stays ∙ M.back k below)))

    prev_is : (k : ℕ) → k < m → G k ≡ prev_now k
    prev_is k below =
        let j : ℕ = prev_now k in let inside : j < m = mutual_now.prev_below k below in
        let there_again : F j ≡ k = next_is j inside ∙ mutual_now.forth k below in ap G (sym there_again) ∙ back_now j inside

    pub mutual_moved : Mutual F G m
    mutual_moved = record {
      next_below = λ k below. subst (λ (x : ℕ). x < m) (sym (next_is k below)) (mutual_now.next_below k below);
      prev_below = λ k below. subst (λ (x : ℕ). x < m) (sym (prev_is k below)) (mutual_now.prev_below k below);
      back = back_now;
      forth = λ k below. ap F (prev_is k below) ∙ next_is (prev_now k) (mutual_now.prev_below k below) ∙ mutual_now.forth k below;
    }
