-- The law of a reader: it reads the trees of a language, and refuses at the right token.
use Rattle.std.specs.Prelude.{◌≡◌, ◌⊎◌, ℕ, ◌+◌, ◌-◌, ◌<◌, ◌==◌, ltb, ◌||◌, ◌&&◌, Bool, true, false, List, [], ◌∷◌, ◌++◌, length, Option, Some, None, Ok, Err, if◌then◌else◌, codes, pos}
use Rattle.mn_lexer.specs.Terminals.{Terminal, word, number}
use Rattle.mn_grammar.specs.Tokens.{name_of, is_head, is_mark, is_number}
use Rattle.mn_grammar.specs.Kinds.{rank, is_condition}
use Rattle.mn_grammar.specs.Places.{Break, IsFine}
use Rattle.mn_grammar.specs.Reading.{Answer, Reader, Site, MarksOnly, Free, Fixed, Mixed, fault_at, refused}
use Rattle.mn_grammar.specs.declared.Fault.{Fault}
use Rattle.mn_grammar.specs.declared.Kind.{Kind}

-- What a reader reads: trees X, how each is spelled, what it breaks, what it stands for, which tokens would go on
-- with it where it could end, what is wanted at its start, and some tree.
pub record Spec (X V : Type 0) : Type 0 where
  pub spell : X → List Terminal
  pub breaks : X → List Break
  pub value : X → V
  pub blocks : X → Terminal → Bool
  pub start : Site
  pub any : X

-- a name and a number that are no word of any grammar
abbrev pub a_name : Terminal
a_name = word (codes "__")

abbrev pub a_number : Terminal
a_number = number (pos 0)

-- all names, or all numbers, are among these tokens
abbrev pub IsOpen : (Terminal → Bool) → Type 0
IsOpen f = ((t : Terminal) (w : List ℕ) → name_of t ≡ Some w → f t ≡ true) ⊎ ((t : Terminal) → is_number t ≡ true → f t ≡ true)

-- some name and some number aren't among them
abbrev pub IsClosed : (Terminal → Bool) → Type 0
IsClosed f = (f a_name ≡ false) × (f a_number ≡ false)

-- no head is among them
abbrev pub NoHead : (Terminal → Bool) → Type 0
NoHead f = (t : Terminal) → is_head t ≡ true → f t ≡ false

-- nothing but marks is among them
abbrev pub OnlyMarks : (Terminal → Bool) → Type 0
OnlyMarks f = (t : Terminal) → is_mark t ≡ false → f t ≡ false

-- where these tokens are wanted, the site is this
abbrev pub IsSite : Site → (Terminal → Bool) → Type 0
IsSite MarksOnly f = OnlyMarks f
IsSite Free f = NoHead f × IsOpen f
IsSite Fixed f = IsClosed f × ((t : Terminal) × (is_mark t ≡ false) × (f t ≡ true))
IsSite Mixed f = ((t : Terminal) × (is_head t ≡ true) × (f t ≡ true)) × IsOpen f

-- where these tokens are wanted too, the site stays the same
abbrev pub Fits : Site → (Terminal → Bool) → Type 0
Fits MarksOnly g = OnlyMarks g
Fits Free g = NoHead g
Fits Fixed g = IsClosed g
Fits Mixed g = Unit {0}

-- the list doesn't begin with one of these tokens
abbrev pub Lacks : (Terminal → Bool) → List Terminal → Type 0
Lacks f [] = Unit {0}
Lacks f (t ∷ ts) = f t ≡ false

-- c comes before b: at an earlier token, or there with a lesser rank
abbrev pub is_before : Break → Break → Bool
is_before c b = ltb c.0 b.0 || (c.0 == b.0 && ltb (rank c.1) (rank b.1))

-- b, or c where that comes before it
abbrev pub earlier : Break → Option Break → Break
earlier b None = b
earlier b (Some c) = if is_before c b then c else b

-- the first that is broken
abbrev pub first : List Break → Option Break
first [] = None
first (b ∷ bs) = Some (earlier b (first bs))

-- what is to be answered at a tree of n tokens that is followed by the rest
abbrev pub answered : {V : Type 0} → Option Break → ℕ → V → List Terminal → Answer V
answered None n v rest = Ok (v, rest)
answered (Some b) n v rest = Err (record { left = (n - b.0) + length rest; kind = b.1 })

module _ {X V : Type 0} (s : Spec X V) where
  -- what is to be answered at a tree that is followed by the rest
  abbrev pub answer_of : X → List Terminal → Answer V
  answer_of x rest = answered (first (s.breaks x)) (length (s.spell x)) (s.value x) rest

  -- The trees are in order: what is broken first has a condition's kind and lies in the tree, and a token that blocks
  -- goes on with it.
  pub record Sound : Type 0 where
    pub kinds : (x : X) (b : Break) → first (s.breaks x) ≡ Some b → is_condition b.1 ≡ true
    pub within : (x : X) (b : Break) → first (s.breaks x) ≡ Some b → b.0 < length (s.spell x)
    pub extends : (x : X) (t : Terminal) → s.blocks x t ≡ true → (y : X) × (q : List Terminal) × (s.spell y ≡ s.spell x ++ t ∷ q)

  -- a value is that of a tree at the front that breaks nothing, and what is left doesn't go on with the tree
  pub record IsRead (ts : List Terminal) (v : V) (rest : List Terminal) : Type 0 where
    pub tree : X
    pub parts : ts ≡ s.spell tree ++ rest
    pub kept : s.breaks tree ≡ []
    pub means : s.value tree ≡ v
    pub ends : Lacks (s.blocks tree) rest

  -- a refusal by the grammar: what is wanted behind the passed tokens goes on with a tree, and all else is refused
  pub record IsLeft (read : Reader V) (ts : List Terminal) (e : Fault) : Type 0 where
    pub passed : List Terminal
    pub others : List Terminal
    pub site : Site
    pub wanted : Terminal → Bool
    pub parts : ts ≡ passed ++ others
    pub place : e ≡ refused site others
    pub lacks : Lacks wanted others
    pub is_site : IsSite site wanted
    pub wants : (t : Terminal) → wanted t ≡ true → (x : X) × (q : List Terminal) × (s.spell x ≡ passed ++ t ∷ q)
    pub refuses : (us : List Terminal) → Lacks wanted us → read (passed ++ us) ≡ Err (refused site us)
    pub fine : IsFine s.spell s.breaks passed
    pub starts : passed ≡ [] → site ≡ s.start

  -- a refusal by a condition: it is the first that some tree breaks, and whatever follows is refused there
  pub record IsBroken (read : Reader V) (ts : List Terminal) (e : Fault) : Type 0 where
    pub passed : List Terminal
    pub token : Terminal
    pub others : List Terminal
    pub kind : Kind
    pub parts : ts ≡ passed ++ token ∷ others
    pub place : e ≡ fault_at (token ∷ others) kind
    pub refuses : (q : List Terminal) → read (passed ++ token ∷ q) ≡ Err (fault_at (token ∷ q) kind)
    pub broken : (x : X) × (q : List Terminal) × (s.spell x ≡ passed ++ token ∷ q) × (first (s.breaks x) ≡ Some (length passed, kind))

  -- what an answer to a list says
  abbrev pub Said : Reader V → List Terminal → Answer V → Type 0
  Said read ts (Ok r) = IsRead ts r.0 r.1
  Said read ts (Err e) = IsLeft read ts e ⊎ IsBroken read ts e

  -- each tree is read where it stands, up to what is broken in it first
  abbrev pub Complete : Reader V → Type 0
  Complete read = (x : X) (rest : List Terminal) → Lacks (s.blocks x) rest → read (s.spell x ++ rest) ≡ answer_of x rest

  -- the law: the trees are in order, each is read, and each answer says what it should
  pub record Lawful (read : Reader V) : Type 0 where
    pub sound : Sound
    pub complete : Complete read
    pub said : (ts : List Terminal) → Said read ts (read ts)
