-- Worked examples: how instances and constraints are written.
use Rattle.std.proofs.Common.{◌≡◌, ℕ, ℤ, pos, negsuc, List, [], ◌∷◌, true, false, codes, Some, refl}
use Rattle.mn_model.specs.Domain.{stretch}
use Rattle.mn_model.specs.Negation.{followed_by, reified}
use Rattle.mn_model.specs.Problem.{Problem, nothing}
use Rattle.mn_model.specs.Variable.{variable}
use Rattle.mn_model.specs.declared.constraint.Con.{Con}
use Rattle.mn_model.specs.declared.constraint.Con.TheVariants as con
use Rattle.mn_model.specs.declared.constraint.Tab.TheVariants.{Named, Here}
use Rattle.mn_model.specs.declared.constraint.Term.{Term}
use Rattle.mn_model.specs.declared.constraint.Term.TheVariants.{Var, Const, Not}
use Rattle.mn_model.specs.declared.declaration.Decl.{Decl}
use Rattle.mn_model.specs.declared.search.Print.TheVariants.{Rows}
use Rattle.mn_model.specs.declared.variable.Kind.TheVariants.{Binary, Sparse, Discrete}
use Rattle.mn_model.proofs.Children.{implied}
use Rattle.mn_canonical.specs.Canonical.{canonical_text}
use Rattle.mn_canonical.specs.Constraints.{constraint_text, form_text}
use Rattle.mn_canonical.specs.Lists.{bracketed, braced}

abbrev boolean : List ℕ → ℕ → Decl
boolean name first = record { name = name; dims = []; kind = Binary; domain = pos 0 ∷ pos 1 ∷ []; first = variable first }

-- `SPARSEBOUND s {7,1,3}`, `ALIAS t = s`, `BOOL b`, VARORDER [b,s], reifyimply(w-inrange(t,[2,9]),!b)
abbrev sparse : Problem
sparse = record nothing {
  decls = record { name = codes "s"; dims = []; kind = Sparse; domain = pos 1 ∷ pos 3 ∷ pos 7 ∷ []; first = variable 0 } ∷ boolean (codes "b") 1 ∷ [];
  aliases = record { name = codes "t"; dims = []; vars = variable 0 ∷ [] } ∷ [];
  order = record { vars = variable 1 ∷ variable 0 ∷ []; down = false ∷ false ∷ [] };
  cons = implied (con.WInrange (Var (variable 0)) (pos 2) (pos 9)) (Not (variable 1)) ∷ [];
}

sparse_text : canonical_text sparse ≡ codes "MINION 3\n**VARIABLES**\nSPARSEBOUND s {1,3,7}\nBOOL b\nALIAS t = s\n**TUPLELIST**\n**SEARCH**\nVARORDER [b,s]\nPRINT ALL\n**CONSTRAINTS**\nreifyimply(w-inrange(s,[2,9]),!b)\n**EOF**\n"
unfolding canonical_text bracketed braced form_text Rattle.std.specs.Fmt.digits
sparse_text = refl

-- `BOOL b`, ALIAS c[1,2] = [[b,b]], PRINT [c], sumleq(c,!b)
abbrev twice : List Term
twice = Var (variable 0) ∷ Var (variable 0) ∷ []

abbrev named : Problem
named = record nothing {
  decls = boolean (codes "b") 0 ∷ [];
  aliases = record { name = codes "c"; dims = 1 ∷ 2 ∷ []; vars = variable 0 ∷ variable 0 ∷ [] } ∷ [];
  print = Rows (twice ∷ []);
  cons = con.Sumleq twice (Not (variable 0)) ∷ [];
}

named_text : canonical_text named ≡ codes "MINION 3\n**VARIABLES**\nBOOL b\nALIAS c[1,2] = [[b,b]]\n**TUPLELIST**\n**SEARCH**\nPRINT [[b,b]]\n**CONSTRAINTS**\nsumleq([b,b],!b)\n**EOF**\n"
unfolding canonical_text bracketed braced form_text Rattle.std.specs.Fmt.digits
named_text = refl

-- a matrix of two rows and three columns behind a single variable, with a tuple list
abbrev matrix : Problem
matrix = record nothing {
  decls = boolean (codes "b") 0 ∷ record { name = codes "x"; dims = 2 ∷ 3 ∷ []; kind = Discrete; domain = stretch (negsuc 0) (pos 2); first = variable 1 } ∷ [];
  aliases = record { name = codes "m"; dims = 2 ∷ 2 ∷ []; vars = variable 1 ∷ variable 2 ∷ variable 4 ∷ variable 6 ∷ [] } ∷ [];
  tuples = record { name = codes "L"; arity = 2; cells = pos 0 ∷ pos 1 ∷ negsuc 1 ∷ pos 10 ∷ [] } ∷ [];
  order = record { vars = variable 6 ∷ variable 0 ∷ []; down = true ∷ false ∷ [] };
  goal = Some (record { var = variable 4; maximise = false });
  print = Rows (twice ∷ [] ∷ []);
}

matrix_text : canonical_text matrix ≡ codes "MINION 3\n**VARIABLES**\nBOOL b\nDISCRETE x[2,3] {-1..2}\nALIAS m[2,2] = [[x[0,0],x[0,1]],[x[1,0],x[1,2]]]\n**TUPLELIST**\nL 2 2\n0 1\n-2 10\n**SEARCH**\nVARORDER [x[1,2],b]\nVALORDER [d,a]\nMINIMISING x[1,0]\nPRINT [[b,b],[]]\n**CONSTRAINTS**\n**EOF**\n"
unfolding canonical_text bracketed braced form_text Rattle.std.specs.Fmt.digits stretch Rattle.mn_model.specs.Domain.numbers_from
matrix_text = refl

-- each form, with b, x[0,0] and x[1,2] for its terms
abbrev b : Term
b = Var (variable 0)

abbrev x : Term
x = Var (variable 1)

abbrev z : Term
z = Var (variable 6)

abbrev v : List Term
v = x ∷ Const (negsuc 2) ∷ []

abbrev ks : List ℤ
ks = pos 1 ∷ pos 2 ∷ []

abbrev written : List Con → List (List ℕ)
written [] = []
written (c ∷ cs) = constraint_text matrix c ∷ written cs

forms : written (con.Eq x (Const (pos 7)) ∷ con.Diseq x z ∷ con.Ineq x z (negsuc 0) ∷ con.Watchless x z ∷ con.Minuseq x z ∷ con.Abs x z ∷ con.Difference x z b ∷ con.Product x z b ∷ con.Div x z b ∷ con.Modulo x z b
    ∷ con.Max v z ∷ con.Min v z ∷ con.Sumleq v z ∷ con.Sumgeq v z ∷ con.Weightedsumleq ks v z ∷ con.Weightedsumgeq ks v z ∷ con.Watchsumleq v (pos 2) ∷ con.Watchsumgeq v (pos 2) ∷ con.Litsumgeq v ks (pos 2)
    ∷ con.Element v z b ∷ con.Watchelement v z b ∷ con.ElementOne v z b ∷ con.WatchelementOne v z b ∷ con.Table v (Named 0) ∷ con.Negativetable v (Here 2 (pos 0 ∷ pos 1 ∷ pos 1 ∷ pos 0 ∷ []))
    ∷ con.Alldiff v ∷ con.Lexleq v (z ∷ b ∷ []) ∷ con.Lexless v (z ∷ b ∷ []) ∷ con.Watchvecneq v (z ∷ b ∷ []) ∷ con.Hamming v (z ∷ b ∷ []) (pos 2) ∷ con.Occurrence v (pos 3) z ∷ con.Occurrenceleq v (pos 3) (pos 4)
    ∷ con.Occurrencegeq v (pos 3) (pos 4) ∷ con.Nvalueleq v z ∷ con.WLiteral x (pos 3) ∷ con.WNotliteral x (pos 3) ∷ con.WInset x ks ∷ con.WNotinset x [] ∷ con.WInrange x (pos 1) (pos 2) ∷ con.WNotinrange x (pos 1) (pos 2)
    ∷ con.WInintervalset x ks ∷ con.Always ∷ con.Never ∷ con.WatchedOr (followed_by (con.Alldiff [] ∷ con.Always ∷ []) con.End) ∷ con.WatchedAnd con.End ∷ reified con.Never b ∷ implied (reified con.Always (Not (variable 0))) (Const (pos 1)) ∷ [])
    ≡ codes "eq(x[0,0],7)" ∷ codes "diseq(x[0,0],x[1,2])" ∷ codes "ineq(x[0,0],x[1,2],-1)" ∷ codes "watchless(x[0,0],x[1,2])" ∷ codes "minuseq(x[0,0],x[1,2])" ∷ codes "abs(x[0,0],x[1,2])"
    ∷ codes "difference(x[0,0],x[1,2],b)" ∷ codes "product(x[0,0],x[1,2],b)" ∷ codes "div(x[0,0],x[1,2],b)" ∷ codes "modulo(x[0,0],x[1,2],b)"
    ∷ codes "max([x[0,0],-3],x[1,2])" ∷ codes "min([x[0,0],-3],x[1,2])" ∷ codes "sumleq([x[0,0],-3],x[1,2])" ∷ codes "sumgeq([x[0,0],-3],x[1,2])" ∷ codes "weightedsumleq([1,2],[x[0,0],-3],x[1,2])"
    ∷ codes "weightedsumgeq([1,2],[x[0,0],-3],x[1,2])" ∷ codes "watchsumleq([x[0,0],-3],2)" ∷ codes "watchsumgeq([x[0,0],-3],2)" ∷ codes "litsumgeq([x[0,0],-3],[1,2],2)"
    ∷ codes "element([x[0,0],-3],x[1,2],b)" ∷ codes "watchelement([x[0,0],-3],x[1,2],b)" ∷ codes "element_one([x[0,0],-3],x[1,2],b)" ∷ codes "watchelement_one([x[0,0],-3],x[1,2],b)"
    ∷ codes "table([x[0,0],-3],L)" ∷ codes "negativetable([x[0,0],-3],{<0,1>,<1,0>})"
    ∷ codes "alldiff([x[0,0],-3])" ∷ codes "lexleq([x[0,0],-3],[x[1,2],b])" ∷ codes "lexless([x[0,0],-3],[x[1,2],b])" ∷ codes "watchvecneq([x[0,0],-3],[x[1,2],b])" ∷ codes "hamming([x[0,0],-3],[x[1,2],b],2)"
    ∷ codes "occurrence([x[0,0],-3],3,x[1,2])" ∷ codes "occurrenceleq([x[0,0],-3],3,4)" ∷ codes "occurrencegeq([x[0,0],-3],3,4)" ∷ codes "nvalueleq([x[0,0],-3],x[1,2])"
    ∷ codes "w-literal(x[0,0],3)" ∷ codes "w-notliteral(x[0,0],3)" ∷ codes "w-inset(x[0,0],[1,2])" ∷ codes "w-notinset(x[0,0],[])" ∷ codes "w-inrange(x[0,0],[1,2])" ∷ codes "w-notinrange(x[0,0],[1,2])"
    ∷ codes "w-inintervalset(x[0,0],[1,2])" ∷ codes "true()" ∷ codes "false()" ∷ codes "watched-or({alldiff([]),true()})" ∷ codes "watched-and({})" ∷ codes "reify(false(),b)" ∷ codes "reifyimply(reify(true(),!b),1)" ∷ []
unfolding bracketed braced form_text Rattle.std.specs.Fmt.digits
forms = refl
