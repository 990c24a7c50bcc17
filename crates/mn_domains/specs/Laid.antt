-- A layout and its variables.
use Rattle.std.specs.Prelude.{List, map}
use Rattle.mn_boxes.specs.Sets.{Variable}
use Rattle.mn_domains.specs.Held.{variable_held}
use Rattle.mn_domains.specs.Layouts.{AreShapesOf}
use Rattle.mn_domains.specs.declared.layout.Layout.{Layout}

-- the variables that it has so far
abbrev pub laid : Layout → List Variable
laid l = map (variable_held l.listed.items) l.shapes.items

-- it is one of these variables
abbrev pub IsLaid : Layout → List Variable → Type 0
IsLaid l vars = AreShapesOf l.listed.items l.shapes.items l.bits vars
