use Rattle.std.proofs.Common.{◌≡◌, ap, sym, ◌∙◌, subst, ℕ, false, cond, [], ◌∷◌, Option, None}
use Rattle.rc_base.specs.declared.ending.Kind.TheVariants.{Unreachable}
use Rattle.rc_base.specs.declared.header.Header.{Header}
use Rattle.rc_base.specs.declared.position.IfId.{IfId}
use Rattle.rc_topology.specs.Topology.{Topology}
use Rattle.rc_topology.specs.Ports.{is_loopback}
use Rattle.rc_topology.specs.Links.{port_is, takers}
use Rattle.rc_moves.specs.declared.walk.Move.TheVariants.{End}
use Rattle.rc_moves.specs.Moves.{moves_onto_or, moves_on_link, moves_out_of}
use Rattle.rc_moves.proofs.begun.out_of.Goals as goal

without_gateway : (links : Topology) (h : Header) (i : IfId) (g : Option ℕ) → port_is links is_loopback i ≡ false → g ≡ None → moves_onto_or (takers links i h.dst) (moves_on_link links h i) ≡ moves_out_of links h i g
without_gateway links h i g other none =
    subst (λ x. moves_onto_or (takers links i h.dst) (moves_on_link links h i) ≡ moves_out_of links h i x) (sym none) (ap (λ b. cond b (End Unreachable ∷ []) (moves_onto_or (takers links i h.dst) (moves_on_link links h i))) (sym other))

pub returns-in-None : goal.returns-in-None
returns-in-None c =
    c.to_destination.ensures ∙ without_gateway c.args.links.now c.args.header.now c.args.interface.now c.args.gateway (sym c.is_loopback.ensures ∙ c.if-is_loopback.false) c.in-None.is
