use Rattle.mn_boxes.proofs.Totals.{counts_inside}
use Rattle.mn_boxes.proofs.laws.as_many_are_the_same.Goals as goal

pub returns : goal.returns
returns c = record {
  no_more = λ vars inner outer box_i box_o i. (counts_inside vars inner outer box_i box_o i).no_more;
  same = λ vars inner outer box_i box_o i. (counts_inside vars inner outer box_i box_o i).same;
}
