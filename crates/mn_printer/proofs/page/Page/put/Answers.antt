use Rattle.std.proofs.Common.{rules, sym, ◌∙◌, ◌≤◌}
use Rattle.mn_printer.specs.Pages.{greatest}
use Rattle.mn_printer.proofs.Joining.{put_onto}
use Rattle.mn_printer.proofs.page.Page.put.Goals as goal

pub returns : goal.returns
returns c =
    let fits : c.self.inside.count ≤ greatest = search rules in
    let len = c.len.ensures ∙ c.self.inside.kept.ok.0 in
    put_onto _ c.self.inside.kept.items c.self.inside.count (sym c.self.view_is) _ _ _ _ _ _ (c.in_ok-extend_from_slice.ensures).items c.min.ensures c.saturating_sub-room.ensures len c.saturating_add-self-inside.ensures fits
