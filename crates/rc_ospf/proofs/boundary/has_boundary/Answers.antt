use Rattle.std.proofs.Common.{not, sym, ◌∙◌, ap}
use Rattle.rc_ospf.proofs.ListLaws.{empty_of}
use Rattle.rc_ospf.proofs.boundary.has_boundary.Goals as goal

pub returns : goal.returns
returns c is = sym c.in_ok-found.ensures ∙ sym c.as_slice.ensures ∙ empty_of _ (ap not (sym c.is_empty.ensures) ∙ is)
