-- The reader of whole texts. No public promise speaks of it.
use Rattle.std.specs.Prelude.{◌≡◌, pos, List, [], ◌∷◌, Option, None, Ok, Err, Result, codes}
use Rattle.mn_lexer.specs.Terminals.{Terminal, number}
use Rattle.mn_grammar.specs.Reading.{Reader, Answer, Turn, goes_on, is_done, one_of, word_at, then_read, ret, loop}
use Rattle.mn_grammar.specs.declared.site.Site.TheVariants.{Fixed}
use Rattle.mn_grammar.specs.declared.Kind.{Kind}
use Rattle.mn_model.specs.Problem.{Problem}
use Rattle.mn_model.specs.declared.refusal.Refusal.{Refusal}
use Rattle.mn_cursor.specs.Heads.{head_token, all_heads}
use Rattle.mn_cursor.specs.Progress.{Progress, IsTold}
use Rattle.mn_asking.specs.Search.{Asking}
use Rattle.mn_asking.specs.Searching.{search_at}
use Rattle.mn_decls.specs.TupleLists.{tuplelist_at}
use Rattle.mn_decls.specs.Variables.{variables_at}
use Rattle.mn_cursor.specs.declared.heads.Head.{Head}
use Rattle.mn_cursor.specs.declared.heads.Head.TheVariants.{Variables, TupleList, Search, Constraints, End}
use Rattle.mn_language.specs.Constructing.{constraints_at}
use Rattle.mn_language.specs.Texts.{Stated, nothing_stated, asking, stated_by}

-- what is said so far, and the head after it
pub record Place : Type 0 where
  pub said : Stated
  pub head : Head

abbrev pub with_problem : Stated → Problem × Head → Place
with_problem s r = record { said = record s { problem = r.0 }; head = r.1 }

abbrev pub with_asking : Asking × Head → Place
with_asking r = record { said = stated_by r.0; head = r.1 }

abbrev pub no_break : {W : Type 0} → W → Option Kind
no_break w = None

-- a section after its head, up to the head of the next; after the head that ends the text there is nothing
unfoldable pub section_at : Stated → Head → Reader (Turn Place Problem)
section_at s Variables = then_read (then_read (variables_at s.problem) (λ r. ret (with_problem s r))) (λ z. ret (goes_on z))
section_at s TupleList = then_read (then_read (tuplelist_at s.problem) (λ r. ret (with_problem s r))) (λ z. ret (goes_on z))
section_at s Search = then_read (then_read (search_at (asking s)) (λ r. ret (with_asking r))) (λ z. ret (goes_on z))
section_at s Constraints = then_read (then_read (constraints_at s.problem) (λ r. ret (with_problem s r))) (λ z. ret (goes_on z))
section_at s End = ret (is_done s.problem)

abbrev pub place_at : Place → Reader (Turn Place Problem)
place_at z = section_at z.said z.head

-- sections after the head of the first
unfoldable pub behind_head : Stated → Head → Reader Problem
behind_head s h = loop place_at (record { said = s; head = h })

unfoldable pub any_head : Reader Head
any_head = one_of Fixed head_token all_heads no_break

-- sections, and the head that ends the text
unfoldable pub sections_at : Stated → Reader Problem
sections_at s = then_read any_head (behind_head s)

-- the version of the language
abbrev pub version_token : Unit {0} → Terminal
version_token u = number (pos 3)

unfoldable pub version_at : Reader (Unit {0})
version_at = one_of Fixed version_token (tt ∷ []) no_break

unfoldable pub behind_title : Reader Problem
behind_title = then_read version_at (λ u. sections_at nothing_stated)

unfoldable pub text_at : Reader Problem
text_at = then_read (word_at (codes "MINION") None) (λ u. behind_title)

-- The result for a whole text is what the reader answers to its tokens.
abbrev pub Answers : Progress → Result Problem Refusal → Answer Problem → Type 0
Answers start (Ok p) answer = (us : List Terminal) × (answer ≡ Ok (p, us))
Answers start (Err r) answer = IsTold start r answer
