-- The reader of the section that says how to search: what `search` answers, token by token. That it reads exactly the language of
-- `Search.antt` is a law of its own.
use Rattle.std.specs.Prelude.{ℕ, ◌⊎◌, Bool, true, false, List, [], ◌∷◌, length, Option, None, codes}
use Rattle.std.proofs.Common.{inl, inr}
use Rattle.mn_lexer.specs.Terminals.{Terminal, word, mark}
use Rattle.mn_lexer.specs.declared.marks.Mark.TheVariants.{OpenSquare, CloseSquare}
use Rattle.mn_model.specs.Problem.{Problem}
use Rattle.mn_model.specs.declared.constraint.Term.{Term}
use Rattle.mn_model.specs.declared.search.Print.{Print}
use Rattle.mn_model.specs.declared.search.Print.TheVariants as printed
use Rattle.mn_model.specs.declared.variable.VarId.{VarId}
use Rattle.mn_grammar.specs.Reading.{Reader, one, one_of, ret, then_read, which_of, which_either, mark_at}
use Rattle.mn_grammar.specs.Lists.{maybe_at}
use Rattle.mn_grammar.specs.Bodies.{body_at}
use Rattle.mn_grammar.specs.declared.site.Site.TheVariants.{Fixed, MarksOnly}
use Rattle.mn_grammar.specs.declared.Kind.{Kind}
use Rattle.mn_references.specs.Conditions.{as_kind}
use Rattle.mn_cursor.specs.Heads.{head_of}
use Rattle.mn_cursor.specs.declared.heads.Head.{Head}
use Rattle.mn_references.specs.References.{one_place}
use Rattle.mn_asking.specs.Search.{Asking, ItemWord, says_order, says_values, maximises, minimises, prints, item_token, at_word, order_aim, order_ends, all_vars, way_token, values_ends, at_way, all_ways, no_ways, rows_ends, all_rows, with_order, with_values, with_goal, with_print}
use Rattle.mn_references.specs.Referring.{ref_at, row_at}

-- references, after `[`
unfoldable pub order_at : Problem → Reader (List VarId)
order_at p = maybe_at CloseSquare order_ends None [] all_vars (λ vars. ref_at p (order_aim vars)) []

-- after VARORDER: STATIC may stand before the `[`
abbrev pub static_token : Bool → Terminal
static_token true = word (codes "STATIC")
static_token false = mark OpenSquare

abbrev pub both : List Bool
both = true ∷ false ∷ []

abbrev pub no_break : {W : Type 0} → W → Option Kind
no_break w = None

unfoldable pub behind_static : Problem → Bool → Reader (List VarId)
behind_static p true = then_read (mark_at MarksOnly OpenSquare None) (λ u. order_at p)
behind_static p false = order_at p

unfoldable pub var_order_at : Problem → Reader (List VarId)
var_order_at p = then_read (one_of Fixed static_token both no_break) (behind_static p)

-- after VALORDER
unfoldable pub way_at : ℕ → List Bool → Reader Bool
way_at wanted down = one_of Fixed way_token both (at_way wanted down)

unfoldable pub ways_at : ℕ → Reader (List Bool)
ways_at wanted = maybe_at CloseSquare (values_ends wanted) (no_ways wanted) [] all_ways (way_at wanted) []

unfoldable pub val_order_at : ℕ → Reader (List Bool)
val_order_at wanted = then_read (mark_at MarksOnly OpenSquare None) (λ u. ways_at wanted)

-- after PRINT
pub data PrintStart : Type 0 where
  all none listed : PrintStart

abbrev pub print_token : PrintStart → Terminal
print_token all = word (codes "ALL")
print_token none = word (codes "NONE")
print_token listed = mark OpenSquare

abbrev pub print_starts : List PrintStart
print_starts = all ∷ none ∷ listed ∷ []

unfoldable pub rows_at : Problem → Reader (List (List Term))
rows_at p = maybe_at CloseSquare rows_ends None [] all_rows (λ rows. row_at p) []

unfoldable pub behind_print : Problem → PrintStart → Reader Print
behind_print p all = ret printed.All
behind_print p none = ret printed.Nothing
behind_print p listed = then_read (rows_at p) (λ rows. ret (printed.Rows rows))

unfoldable pub print_at : Problem → Reader Print
print_at p = then_read (one_of Fixed print_token print_starts no_break) (behind_print p)

-- what follows an item's word
unfoldable pub item_rest : Asking → ItemWord → Reader Asking
item_rest s says_order = then_read (var_order_at s.problem) (λ vars. ret (with_order s vars))
item_rest s says_values = then_read (val_order_at (length s.problem.order.vars)) (λ down. ret (with_values s down))
item_rest s maximises = then_read (ref_at s.problem (one_place s.problem false)) (λ f. ret (with_goal s true f))
item_rest s minimises = then_read (ref_at s.problem (one_place s.problem false)) (λ f. ret (with_goal s false f))
item_rest s prints = then_read (print_at s.problem) (λ what. ret (with_print s what))

abbrev pub item_words : List ItemWord
item_words = says_order ∷ says_values ∷ maximises ∷ minimises ∷ prints ∷ []

-- the first token of an item, or the head of the next section; an objective that is a whole matrix ends there
abbrev pub which_item : Terminal → Option (ItemWord ⊎ Head)
which_item = which_either (which_of item_token item_words) head_of

abbrev pub at_item : Asking → ItemWord ⊎ Head → Option Kind
at_item s (inl w) = at_word s w
at_item s (inr h) = as_kind s.behind

unfoldable pub item_first : Asking → Reader (ItemWord ⊎ Head)
item_first s = one Fixed which_item (at_item s)

abbrev pub ended : Asking → Head → Asking × Head
ended s h = (s, h)

-- the section after its head, up to the head of the next
unfoldable pub search_at : Asking → Reader (Asking × Head)
search_at s = body_at item_first item_rest ended s
