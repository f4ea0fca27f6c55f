use Rattle.std.proofs.Common.{◌∙◌, sym, subst}
use Rattle.rc_link_state.specs.Graph.{AreOf}
use Rattle.rc_link_state.proofs.KeptLaws.{leaving_ones, own_of, own_little}
use Rattle.rc_link_state.proofs.area.area_walks.Goals as goal

pub by_start-requires : goal.by_start-requires
by_start-requires g c =
    leaving_ones c.len-routers.result c.args.area c.args.listed.now c.as_slice.result.now c.args.transits.now (c.as_slice.ensures ∙ c.in_ok-own.ensures)
    (subst (λ n. AreOf n c.args.listed.now c.args.transits.now) (sym c.len-routers.ensures) c.requires.of)

pub turned_round-requires-clause-of : goal.turned_round-requires-clause-of
turned_round-requires-clause-of g c =
    own_of c.len-routers.result c.args.area c.args.listed.now c.as_slice-3.result.now c.args.transits.now c.as_slice-4.result.now (c.as_slice-3.ensures ∙ c.in_ok-own.ensures) (c.as_slice-4.ensures ∙ c.in_ok-networks.ensures)
    (subst (λ n. AreOf n c.args.listed.now c.args.transits.now) (sym c.len-routers.ensures) c.requires.of)

pub turned_round-requires-clause-little : goal.turned_round-requires-clause-little
turned_round-requires-clause-little g c =
    own_little c.len-routers.result c.args.area c.args.listed.now c.as_slice-3.result.now c.args.transits.now c.as_slice-4.result.now (c.as_slice-3.ensures ∙ c.in_ok-own.ensures) (c.as_slice-4.ensures ∙ c.in_ok-networks.ensures)
    c.requires.little
