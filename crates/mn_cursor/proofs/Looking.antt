-- What a look at the next token tells of the readers of one token.
use Rattle.std.proofs.Common.{◌≡◌, List, [], ◌∷◌, drop, slice_get, Option, Some, None, Ok, Err, refl, sym, ap, ◌∙◌, subst}
use Rattle.mn_lexer.specs.Terminals.{Terminal}
use Rattle.mn_grammar.specs.Reading.{fault_at, kind_at, refused, judged, classed, one}
use Rattle.mn_grammar.specs.Gives.{Stops}
use Rattle.mn_grammar.specs.declared.site.Site.{Site}
use Rattle.mn_grammar.specs.declared.Kind.{Kind}
use Rattle.mn_grammar.specs.declared.Stop.{Stop}
use Rattle.mn_grammar.specs.declared.Stop.TheVariants.{Refused, NoMemory}
use Rattle.mn_cursor.specs.Looks.{first_as}

-- the first token's kind is that of the refusal there
pub kind_first : (site : Site) (kind : Kind) (t : Terminal) (ts : List Terminal) → slice_get ts 0 ≡ Some t → ((more : List Terminal) → kind ≡ kind_at site (t ∷ more)) → kind ≡ kind_at site ts
kind_first site kind t [] is same = cc
kind_first site kind t (u ∷ ts) is same = let is_first : u ≡ t = cc in same ts ∙ ap (λ v. kind_at site (v ∷ ts)) (sym is_first)

-- where the first token is of a class, it is judged, and else refused
pub one_seen : {W : Type 0} (site : Site) (classify : Terminal → Option W) (judge : W → Option Kind) (w : W) (ts : List Terminal) → first_as classify ts ≡ Some w → one site classify judge ts ≡ judged (judge w) w ts (drop 1 ts)
one_seen site classify judge w [] is = cc
one_seen site classify judge w (t ∷ ts) is = ap (λ o. classed site judge o (t ∷ ts) ts) is

pub one_unseen : {W : Type 0} (site : Site) (classify : Terminal → Option W) (judge : W → Option Kind) (ts : List Terminal) → first_as classify ts ≡ None → one site classify judge ts ≡ Err (refused site ts)
one_unseen site classify judge [] is = refl
one_unseen site classify judge (t ∷ ts) is = ap (λ o. classed site judge o (t ∷ ts) ts) is

-- the same of code that looks first and then accepts the token
pub unseen_stops : {W : Type 0} (site : Site) (classify : Terminal → Option W) (judge : W → Option Kind) (ts : List Terminal) (e : Stop) → (first_as classify ts ≡ None) × (e ≡ Refused (refused site ts)) → Stops e (one site classify judge ts)
unseen_stops site classify judge ts e is = subst (λ s. Stops s (one site classify judge ts)) (sym is.1) (one_unseen site classify judge ts is.0)

judged_stops : {V W : Type 0} (c : Option Kind) (v : V) (w : W) (ts us : List Terminal) (e : Stop) → Stops e (judged c v ts us) → Stops e (judged c w ts us)
judged_stops None v w ts us (Refused f) stops = cc
judged_stops (Some kind) v w ts us (Refused f) stops = let same : fault_at ts kind ≡ f = cc in ap (λ x. Err x) same
judged_stops c v w ts us NoMemory stops = tt

judged_reads : {V W : Type 0} (c : Option Kind) (v v' : V) (w : W) (ts us vs : List Terminal) → judged c v ts us ≡ Ok (v', vs) → judged c w ts us ≡ Ok (w, vs)
judged_reads {V = V} None v v' w ts us vs reads = let same : ◌≡◌ {A = V × List Terminal} (v, us) (v', vs) = cc in ap (λ (x : V × List Terminal). Ok (w, x.1)) same
judged_reads (Some kind) v v' w ts us vs reads = cc

pub seen_stops : {W : Type 0} (site : Site) (classify : Terminal → Option W) (judge : W → Option Kind) (w : W) (ts : List Terminal) (e : Stop) → first_as classify ts ≡ Some w → Stops e (judged (judge w) (tt {0}) ts (drop 1 ts)) → Stops e (one site classify judge ts)
seen_stops site classify judge w ts e is stops =
    subst (λ a. Stops e a) (sym (one_seen site classify judge w ts is)) (judged_stops (judge w) tt w ts (drop 1 ts) e stops)

pub seen_reads : {W : Type 0} (site : Site) (classify : Terminal → Option W) (judge : W → Option Kind) (w : W) (ts us : List Terminal) → first_as classify ts ≡ Some w → judged (judge w) (tt {0}) ts (drop 1 ts) ≡ Ok (tt {0}, us) → one site classify judge ts ≡ Ok (w, us)
seen_reads site classify judge w ts us is reads = one_seen site classify judge w ts is ∙ judged_reads (judge w) tt tt w ts (drop 1 ts) us reads
