use Rattle.std.proofs.Common.{◌≡◌, ◌∷◌, [], ◌++◌, ◌∙◌, ap, length}
use Rattle.mn_lexer.proofs.Storing.{push_long}
use Rattle.mn_lexer.proofs.listing.Tokens.push_long.Goals as goal

pub returns-clause-ok : goal.returns-clause-ok
returns-clause-ok c =
    let place : c.len-place.result ≡ length c.self.inside.long.items = c.len-place.ensures ∙ c.self.inside.long.ok.0 in
    rw (c.push_reserved.ensures.items, c.in_ok-reserve.ensures.items, c.in_ok-push.ensures.items, place)
    (push_long c.self.inside.long.items c.args.token c.self.inside.items.items c.self.invariant ∙ ap (λ x. x ++ c.args.token ∷ []) c.self.view_is)
