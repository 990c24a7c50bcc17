-- Items one behind another, up to a token that ends them, such as the head of the next section.
use Rattle.std.specs.Prelude.{◌⊎◌}
use Rattle.std.proofs.Common.{inl, inr}
use Rattle.mn_grammar.specs.Reading.{Reader, Turn, goes_on, is_done, then_read, ret, loop}

-- Behind the first token of an item stands the rest of it, which gives the state behind the item; behind the token
-- that ends them nothing more is read.
abbrev pub item_at : {S W H V : Type 0} → (S → W → Reader S) → (S → H → V) → S → W ⊎ H → Reader (Turn S V)
item_at rest result s (inl w) = then_read (rest s w) (λ z. ret (goes_on z))
item_at rest result s (inr h) = ret (is_done (result s h))

-- `first` reads the first token of an item, or the one that ends them
unfoldable pub body_at : {S W H V : Type 0} → (S → Reader (W ⊎ H)) → (S → W → Reader S) → (S → H → V) → S → Reader V
body_at first rest result s = loop (λ z. then_read (first z) (item_at rest result z)) s
