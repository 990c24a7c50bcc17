-- Which lists of tokens are a text of a language, and where and why the others are refused.
use Rattle.std.specs.Prelude.{◌≡◌, ◌⊎◌, ℕ, ◌+◌, ◌≤◌, true, false, List, [], ◌∷◌, ◌++◌, length, Option, Some, None, Bool}
use Rattle.mn_lexer.specs.Terminals.{Terminal}
use Rattle.mn_lexer.specs.declared.LexFault.{LexFault}
use Rattle.mn_grammar.specs.Tokens.{name_of, is_head, is_mark, is_number, is_known_head}
use Rattle.mn_grammar.specs.Kinds.{rank, kind_at_end}
use Rattle.mn_grammar.specs.declared.Kind.{Kind}
use Rattle.mn_grammar.specs.declared.Kind.TheVariants.{Unsupported, Syntax}

-- A broken condition: the place of its token, counted from the front of what is judged, and its kind.
-- What a tree breaks is a list of them, in any order, written in two words.
abbrev pub Break : Type 0
Break = ℕ × Kind

-- a condition that is broken where the test holds
abbrev pub when : Bool → Kind → Option Kind
when true kind = Some kind
when false kind = None

-- what a condition on one token gives: None where it is kept
abbrev pub on : Option Kind → List Break
on None = []
on (Some kind) = (0, kind) ∷ []

-- what is broken in a part that stands behind n tokens
abbrev pub behind : ℕ → List Break → List Break
behind n [] = []
behind n (b ∷ bs) = (n + b.0, b.1) ∷ behind n bs

-- a condition of this kind is broken at this place
abbrev pub Has : List Break → ℕ → Kind → Type 0
Has [] place kind = ⊥
Has (b ∷ bs) place kind = ((b.0 ≡ place) × (b.1 ≡ kind)) ⊎ Has bs place kind

-- A language: trees of the type X, how each is spelled, and what it breaks.
module _ {X : Type 0} (spell : X → List Terminal) (breaks : X → List Break) where
  -- the grammar has a text that begins so; conditions play no part
  abbrev pub Begins : List Terminal → Type 0
  Begins p = (x : X) × (q : List Terminal) × (spell x ≡ p ++ q)

  -- it has one that breaks nothing at these tokens
  abbrev pub IsFine : List Terminal → Type 0
  IsFine p =
      (x : X) × (q : List Terminal) × (spell x ≡ p ++ q)
      × ((place : ℕ) (kind : Kind) → Has (breaks x) place kind → length p ≤ place)

  -- behind p any name may stand
  abbrev pub WantsName : List Terminal → Type 0
  WantsName p = (t : Terminal) (w : List ℕ) → name_of t ≡ Some w → Begins (p ++ t ∷ [])

  -- behind p any number may stand
  abbrev pub WantsNumber : List Terminal → Type 0
  WantsNumber p = (t : Terminal) → is_number t ≡ true → Begins (p ++ t ∷ [])

  -- Unsupported, where a head stands that the grammar doesn't have, and a head is wanted
  pub record IsStrange (p : List Terminal) (t : Terminal) : Type 0 where
    pub stands : is_head t ≡ true
    pub unknown : is_known_head t ≡ false
    pub wanted : (u : Terminal) × (is_head u ≡ true) × Begins (p ++ u ∷ [])

  -- Unsupported, where a word, a head or a number stands and only certain ones are wanted
  pub record IsOther (p : List Terminal) (t : Terminal) : Type 0 where
    pub stands : is_mark t ≡ false
    pub wanted : (u : Terminal) × (is_mark u ≡ false) × Begins (p ++ u ∷ [])
    pub no_name : WantsName p → ⊥
    pub no_number : WantsNumber p → ⊥

  -- Unsupported, in either case
  abbrev pub IsUnsupported : List Terminal → Terminal → Type 0
  IsUnsupported p t = IsStrange p t ⊎ IsOther p t

  -- the kind at a token with which no text begins so
  abbrev pub IsKind : List Terminal → Terminal → Kind → Type 0
  IsKind p t Unsupported = IsUnsupported p t
  IsKind p t Syntax = IsUnsupported p t → ⊥
  IsKind p t _ = ⊥

  -- every text that begins so breaks this condition at the last of these tokens, and none there of a lesser rank
  abbrev pub IsBrokenBy : List Terminal → Terminal → Kind → Type 0
  IsBrokenBy p t kind =
      (x : X) (q : List Terminal) → spell x ≡ p ++ t ∷ q
      → Has (breaks x) (length p) kind × ((other : Kind) → Has (breaks x) (length p) other → rank kind ≤ rank other)

  -- Why nothing goes on behind p: the list ends there and isn't whole, the grammar has no text that goes on
  -- so, or a condition is broken, whatever follows.
  pub data Why (stop : Option LexFault) (p : List Terminal) : List Terminal → Kind → Type 0 where
    ended : ((x : X) → spell x ≡ p → ⊥) → Why stop p [] (kind_at_end stop)
    grammar : (t : Terminal) (q : List Terminal) (kind : Kind) → (Begins (p ++ t ∷ []) → ⊥) → IsKind p t kind → Why stop p (t ∷ q) kind
    condition : (t : Terminal) (q : List Terminal) (kind : Kind) → Begins (p ++ t ∷ []) → IsBrokenBy p t kind → Why stop p (t ∷ q) kind

  -- The list, which ends by the text's end or at a lexical fault, is refused at this place: it is the first at
  -- which a cause stands.
  pub record IsRefusedAt (stop : Option LexFault) (ts : List Terminal) (at : ℕ) (kind : Kind) : Type 0 where
    pub passed : List Terminal
    pub others : List Terminal
    pub parts : ts ≡ passed ++ others
    pub place : at ≡ length passed
    pub fine : IsFine passed
    pub why : Why stop passed others kind

  -- the list is the text of this tree, and keeps all conditions
  pub record IsText (ts : List Terminal) (x : X) : Type 0 where
    pub spelled : ts ≡ spell x
    pub kept : breaks x ≡ []
