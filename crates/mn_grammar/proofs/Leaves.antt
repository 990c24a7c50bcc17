-- The readers of one token and of none.
use Rattle.std.proofs.Common.{◌≡◌, suc, ◌+◌, ◌-◌, Bool, true, false, List, [], ◌∷◌, length, Option, Some, None, is_some, Err, refl, sym, ap, ◌∙◌, inl, inr, zero-le, arith}
use Rattle.mn_lexer.specs.Terminals.{Terminal}
use Rattle.mn_grammar.specs.Kinds.{is_condition}
use Rattle.mn_grammar.specs.Places.{Break, on}
use Rattle.mn_grammar.specs.Reading.{Site, refused, ret, judged, classed, one}
use Rattle.mn_grammar.specs.Lawful.{Spec, IsSite, Lacks, first, answered, Sound, IsLeft, Said, Complete, Lawful}
use Rattle.mn_grammar.proofs.Sites.{Lacks-none}
use Rattle.mn_grammar.specs.declared.Kind.{Kind}

-- one token: A are the tokens of a class, W is what they stand for
abbrev pub leaf : {A W : Type 0} → Site → (A → Terminal) → (A → W) → (W → Option Kind) → A → Spec A W
leaf site token value judge some = record {
  spell = λ a. token a ∷ [];
  breaks = λ a. on (judge (value a));
  value = value;
  blocks = λ a t. false;
  start = site;
  any = some;
}

-- the tokens of the class, where it is wanted alone
abbrev pub of_class : {W : Type 0} → (Terminal → Option W) → Terminal → Bool
of_class classify t = is_some (classify t)

none_of : {W : Type 0} (o : Option W) → is_some o ≡ false → o ≡ None
none_of None e = refl
none_of (Some w) e = cc

judged_on : {W : Type 0} (c : Option Kind) (w : W) (t : Terminal) (rest : List Terminal) → judged c w (t ∷ rest) rest ≡ answered (first (on c)) 1 w rest
judged_on None w t rest = refl
judged_on (Some kind) w t rest =
    let same : suc (length rest) ≡ (1 - 0) + length rest = omega arith in
    λ i. Err (record { left = same i; kind = kind })

first_on : (c : Option Kind) (b : Break) → first (on c) ≡ Some b → (b.0 ≡ 0) × (c ≡ Some b.1)
first_on None b e = absurd cc
first_on (Some k) b e = let same : ◌≡◌ {A = Break} (0, k) b = cc in (sym (ap (λ (x : Break). x.0) same), ap (λ (x : Break). Some x.1) same)

-- A class of tokens: each is told, by its value, and nothing else is.
pub record IsClass {A W : Type 0} (token : A → Terminal) (value : A → W) (classify : Terminal → Option W) : Type 0 where
  pub forth : (a : A) → classify (token a) ≡ Some (value a)
  pub back : (t : Terminal) (w : W) → classify t ≡ Some w → (a : A) × (t ≡ token a) × (value a ≡ w)

-- what a class of tokens has to show: its site, and that its conditions have kinds of conditions
pub record IsLeaf {A W : Type 0} (site : Site) (token : A → Terminal) (value : A → W) (classify : Terminal → Option W) (judge : W → Option Kind) : Type 0 where
  pub class : IsClass token value classify
  pub is_site : IsSite site (of_class classify)
  pub kinds : (w : W) (kind : Kind) → judge w ≡ Some kind → is_condition kind ≡ true

module _ {A W : Type 0} (site : Site) (token : A → Terminal) (value : A → W) (classify : Terminal → Option W) (judge : W → Option Kind) (some : A) (is : IsLeaf site token value classify judge) where
  abbrev s : Spec A W
  s = leaf site token value judge some

  leaf_sound : Sound s
  leaf_sound = record {
    kinds = λ a b e. is.kinds (value a) b.1 (first_on (judge (value a)) b e).1;
    within = λ a b e. let same = (first_on (judge (value a)) b e).0 in omega arith;
    extends = λ a t e. cc;
  }

  leaf_complete : Complete s (one site classify judge)
  leaf_complete a rest lacks =
      ap (λ o. classed site judge o (token a ∷ rest) rest) (is.class.forth a)
      ∙ judged_on (judge (value a)) (value a) (token a) rest

  refuses : (us : List Terminal) → Lacks (of_class classify) us → one site classify judge us ≡ Err (refused site us)
  refuses [] lacks = refl
  refuses (t ∷ us) lacks = ap (λ o. classed site judge o (t ∷ us) us) (none_of (classify t) lacks)

  leaf_left : (ts : List Terminal) → Lacks (of_class classify) ts → IsLeft s (one site classify judge) ts (refused site ts)
  leaf_left ts lacks = record {
    passed = [];
    others = ts;
    site = site;
    wanted = of_class classify;
    parts = refl;
    place = refl;
    lacks = lacks;
    is_site = is.is_site;
    wants = λ t e. wants_of t (classify t) refl e;
    refuses = refuses;
    fine = (some, token some ∷ [], refl, λ place kind has. zero-le);
    starts = λ e. refl;
  }
    where
      wants_of : (t : Terminal) (o : Option W) → classify t ≡ o → is_some o ≡ true → (a : A) × (q : List Terminal) × (token a ∷ [] ≡ t ∷ q)
      wants_of t None e some_is = cc
      wants_of t (Some w) e some_is = let r = is.class.back t w e in (r.0, [], ap (λ x. x ∷ []) (sym r.1))

  leaf_judged : (t : Terminal) (ts : List Terminal) (w : W) → classify t ≡ Some w → (c : Option Kind) → judge w ≡ c → Said s (one site classify judge) (t ∷ ts) (judged c w (t ∷ ts) ts)
  leaf_judged t ts w e None kept =
      let r = is.class.back t w e in record {
        tree = r.0;
        parts = ap (λ x. x ∷ ts) r.1;
        kept = ap on (ap judge r.2 ∙ kept);
        means = r.2;
        ends = Lacks-none ts;
      }
  leaf_judged t ts w e (Some k) broken =
      let r = is.class.back t w e in inr (record {
        passed = [];
        token = t;
        others = ts;
        kind = k;
        parts = refl;
        place = refl;
        refuses = λ q. ap (λ o. classed site judge o (t ∷ q) q) e ∙ ap (λ c. judged c w (t ∷ q) q) broken;
        broken = (r.0, [], ap (λ x. x ∷ []) (sym r.1), ap (λ c. first (on c)) (ap judge r.2 ∙ broken));
      })

  leaf_classed : (t : Terminal) (ts : List Terminal) (o : Option W) → classify t ≡ o → Said s (one site classify judge) (t ∷ ts) (classed site judge o (t ∷ ts) ts)
  leaf_classed t ts None e = inl (leaf_left (t ∷ ts) (ap (λ o. is_some o) e))
  leaf_classed t ts (Some w) e = leaf_judged t ts w e (judge w) refl

  leaf_said : (ts : List Terminal) → Said s (one site classify judge) ts (one site classify judge ts)
  leaf_said [] = inl (leaf_left [] tt)
  leaf_said (t ∷ ts) = leaf_classed t ts (classify t) refl

  -- a class of tokens is read by `one`
  pub Lawful-one : Lawful s (one site classify judge)
  Lawful-one = record { sound = leaf_sound; complete = leaf_complete; said = leaf_said }

-- nothing is read; what is wanted there is left open
abbrev pub nothing : {V : Type 0} → Site → V → Spec (Unit {0}) V
nothing site v = record {
  spell = λ u. [];
  breaks = λ u. [];
  value = λ u. v;
  blocks = λ u t. false;
  start = site;
  any = tt;
}

pub Lawful-ret : {V : Type 0} (site : Site) (v : V) → Lawful (nothing site v) (ret v)
Lawful-ret site v = record {
  sound = record { kinds = λ u b e. cc; within = λ u b e. cc; extends = λ u t e. cc };
  complete = λ u rest lacks. refl;
  said = λ ts. record { tree = tt; parts = refl; kept = refl; means = refl; ends = Lacks-none ts };
}
