use Rattle.std.proofs.Common.{◌∙◌, ap, sym, subst}
use Rattle.rc_route.specs.Tables.{IsListed, listed_at}
use Rattle.rc_pieces.specs.Finding.{IsHere}
use Rattle.rc_pieces.proofs.FindLaws.{here}
use Rattle.rc_pieces.proofs.finder.Finder.at.Goals as goal

pub returns-in-Some-clause-value : goal.returns-in-Some-clause-value
returns-in-Some-clause-value g c =
    let f = g.T.HasPrefix.prefix_of in
    let p = c.args.prefix.now in
    let inside = c.self.inside in
    let item = c.in-Some.item.now in
    let is : IsHere f p _ inside.index item = subst (λ items. IsHere f p items inside.index item) c.self.invariant.before c.in-Some.ensures in
    here f p inside.pieces.now inside.place inside.index item (subst (IsListed f) (sym c.self.view_is) c.requires) is ∙ ap (λ xs. listed_at f xs p) c.self.view_is
