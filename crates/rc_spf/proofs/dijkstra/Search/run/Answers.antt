use Rattle.std.proofs.Common.{◌+◌, ◌<◌, ◌^◌, length, ap, sym, ◌∙◌, refl}
use Rattle.rc_spf.specs.declared.graph.Edge.{Edge}
use Rattle.rc_spf.proofs.Found.{IsDone, done_cost, done_small}
use Rattle.rc_spf.proofs.Grouping.{relaxed_in, all_in, leaving_in}
use Rattle.rc_spf.proofs.Conditions.{fit_of, sum_fits, whole, near_of, none_of, turn, near_small, below_copy, start_of}
use Rattle.rc_spf.proofs.Waiting.{queue_turn}
use Rattle.rc_spf.proofs.dijkstra.Search.run.Goals as goal

pub loop-node-init : goal.loop-node-init
loop-node-init c = (start_of _ _ _ _ _ c.requires.root c.requires.costs c.requires.settled, c.requires.queue)

pub relax-requires-clause-ends : goal.relax-requires-clause-ends
relax-requires-clause-ends c =
    let fit = fit_of _ _ c.requires.ends in
    let near = near_of _ _ _ _ _ _ c.deref.ensures.value c.deref-in-loop-node.ensures.value c.in-Some.ensures.nearest in
    all_in (λ (e : Edge). e.to < length c.deref_mut.result.now) _ c.args.graph.now.edges.items _ _ _ _
    (near_small _ _ _ _ _ _ _ c.loop-node.invariant.0 near) c.requires.groups
    c.index-outgoing.ensures c.deref-in-Some.ensures.value
    (λ e has. below_copy e.to _ _ _ (fit.to e has) c.loop-node.invariant.0.costs_len c.deref_mut.ensures.value)

pub relax-requires-clause-fits : goal.relax-requires-clause-fits
relax-requires-clause-fits c =
    let near = near_of _ _ _ _ _ _ c.deref.ensures.value c.deref-in-loop-node.ensures.value c.in-Some.ensures.nearest in
    leaving_in _ c.args.graph.now.edges.items _ _ _ _
    (near_small _ _ _ _ _ _ _ c.loop-node.invariant.0 near) c.requires.groups
    c.index-outgoing.ensures c.deref-in-Some.ensures.value
    (λ cost. c.in-Some.cost + cost < 2 ^ 32)
    (λ e has from. sum_fits c.args.graph.now c.args.root c.in-Some.node c.in-Some.cost _ _ e c.requires.short c.loop-node.invariant.0 near has)

pub loop-node-preserved : goal.loop-node-preserved
loop-node-preserved c = (
  let near = near_of _ _ _ _ _ _ c.deref.ensures.value c.deref-in-loop-node.ensures.value c.in-Some.ensures.nearest in
      let small = near_small _ _ _ _ _ _ _ c.loop-node.invariant.0 near in
      turn c.args.graph.now.edges.items c.args.root c.args.graph.now.nodes c.in-Some.node c.in-Some.cost _ _ _ _ _ c.loop-node.invariant.0 near
      c.deref_mut.ensures.value
      (relaxed_in _ c.args.graph.now.edges.items _ _ _ _ _ _ _ small c.requires.groups
      c.index-outgoing.ensures c.deref-in-Some.ensures.value c.in_ok-relax.ensures.costs) c.relax.auto.costs
      (whole _ _ _ ((c.loop-node.self.costs.ok).0 ∙ sym (ap length c.deref_mut.ensures.value) ∙ sym c.relax.auto.costs)),
  queue_turn _ _ _ _ _ _ _ _ _ _ _ c.deref.ensures.value c.deref-in-loop-node.ensures.value c.in-Some.ensures
      c.deref_mut.ensures.value c.in_ok-relax.ensures.queue
      (whole _ _ _ ((c.loop-node.self.costs.ok).0 ∙ sym (ap length c.deref_mut.ensures.value) ∙ sym c.relax.auto.costs)),
)

pub returns : goal.returns
returns c =
    let done : IsDone c.args.graph.now.edges.items c.args.root c.args.graph.now.nodes c.loop-node.self.costs.items c.loop-node.self.settled.items =
    record { search = c.loop-node.invariant.0; none = none_of _ _ _ _ c.deref.ensures.value c.deref-in-loop-node.ensures.value c.in_default.ensures } in
    record {
      nodes = c.loop-node.invariant.0.costs_len;
      cost = done_cost _ _ _ _ c.loop-node.self.settled.items done;
      small = done_small _ _ _ _ _ done c.args.graph.now refl refl;
    }
