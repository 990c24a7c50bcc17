-- The constraint that a `Leaf` narrows.
use Rattle.std.specs.Prelude.{Bool, false}
use Rattle.mn_prop.specs.Posts.{Posted}
use Rattle.mn_arith.specs.Ariths as ariths
use Rattle.mn_basic.specs.Basics as basics
use Rattle.mn_count.specs.Counts as counts
use Rattle.mn_element.specs.Elements as elements
use Rattle.mn_lex.specs.Lexicals as lexicals
use Rattle.mn_sums.specs.Posted as sums
use Rattle.mn_table.specs.Tables as tables
use Rattle.mn_leaf.specs.declared.leaf.Leaf.{Leaf}
use Rattle.mn_leaf.specs.declared.leaf.Leaf.TheVariants.{Arith, Basic, Count, Element, Lex, Sum, Table}

abbrev pub posted_of : Leaf → Posted
posted_of (Basic b) = basics.posted_of b
posted_of (Sum s) = sums.posted_of s
posted_of (Arith a) = ariths.posted_of a
posted_of (Element e) = elements.element_of e
posted_of (Count c) = counts.posted_of c
posted_of (Lex l) = lexicals.posted_of l
posted_of (Table t) = tables.posted_of t

-- whether a pass leaves nothing for another one to do
abbrev pub rests_of : Leaf → Bool
rests_of (Basic b) = basics.rests_of b
rests_of (Sum s) = false
rests_of (Arith a) = false
rests_of (Element e) = false
rests_of (Count c) = counts.rests_of c
rests_of (Lex l) = lexicals.rests_of l
rests_of (Table t) = false
