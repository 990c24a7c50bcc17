-- The constraint that a forward check narrows.
use Rattle.mn_prop.specs.Posts.{Posted, beside}
use Rattle.mn_prop.specs.declared.forward.ForwardCheck.{ForwardCheck}

abbrev pub checked : ForwardCheck → Posted
checked f = beside f.lists.now f.con.now
