use Rattle.std.proofs.Common.{◌∙◌, ap, sym, List}
use Rattle.rc_route.specs.Tables.{best_for}
use Rattle.rc_route.specs.declared.best.Best.{Best}
use Rattle.rc_route.specs.declared.route.Route.{Route}
use Rattle.rc_bgp.specs.Candidates.{best_among}
use Rattle.rc_bgp.specs.Listening.{best_by}
use Rattle.rc_bgp.proofs.DecidedLaws.{is_edited, is_taken, stays_known}
use Rattle.rc_bgp.proofs.HearLaws.{best_by_tellers}
use Rattle.rc_bgp.proofs.redeciding.decided.Goals as goal

pub loop-prefix-preserved-then-is_known : goal.loop-prefix-preserved-then-is_known
loop-prefix-preserved-then-is_known c =
    let best = λ (table : List Route). best_among c.args.net.now c.args.state.now c.args.most table c.args.own.now c.args.sessions.now in
    let q = c.prefix-item.result in
    let is_best = c.in_ok-best.ensures.value ∙ (λ i. best_by c.args.most (c.loop-prefix.invariant.same i) c.args.own.now (c.loop-prefix.invariant.senders i) q) ∙ best_by_tellers c.args.net.now c.args.state.now c.args.most c.args.resolver.now c.args.own.now c.args.sessions.now q in
    record {
      taken = stays_known (λ (b : Best). b.path.prefix) (best c.args.resolver.now) c.args.known.now c.args.prefixes.now c.loop-prefix.prefix-index q c.loop-prefix-test.true c.prefix-item.is c.loop-prefix.changed c.loop-prefix.invariant.taken
          (ap (λ xs. best_for xs q) (sym c.loop-prefix.invariant.finder) ∙ sym c.at.ensures.value ∙ c.is_known.ensures c.if-is_known.true ∙ is_best);
      edits = c.loop-prefix.invariant.edits;
      same = c.in_ok-best.ensures.same ∙ c.loop-prefix.invariant.same;
      finder = c.at.ensures.same ∙ c.loop-prefix.invariant.finder;
      senders = c.in_ok-best.ensures.same_senders ∙ c.loop-prefix.invariant.senders;
    }

pub loop-prefix-preserved : goal.loop-prefix-preserved
loop-prefix-preserved c =
    let best = λ (table : List Route). best_among c.args.net.now c.args.state.now c.args.most table c.args.own.now c.args.sessions.now in
    let q = c.prefix-item.result in
    let is_best = c.in_ok-best.ensures.value ∙ (λ i. best_by c.args.most (c.loop-prefix.invariant.same i) c.args.own.now (c.loop-prefix.invariant.senders i) q) ∙ best_by_tellers c.args.net.now c.args.state.now c.args.most c.args.resolver.now c.args.own.now c.args.sessions.now q in
    record {
      taken = is_taken (λ (b : Best). b.path.prefix) (best c.args.resolver.now) c.args.known.now c.args.prefixes.now c.loop-prefix.prefix-index q c.loop-prefix-test.true c.prefix-item.is c.loop-prefix.changed c.loop-prefix.invariant.taken
          c.push.new.self c.in_ok-push.ensures.ok;
      edits = is_edited (λ (b : Best). b.path.prefix) (best c.args.resolver.now) c.args.known.now c.args.prefixes.now q c.in_ok-best.best c.loop-prefix.changed c.push.new.self c.loop-prefix.edits.items c.push_back.new.self.items
          is_best c.in_ok-push.ensures.ok c.in_ok-push_back.ensures.items c.loop-prefix.invariant.edits;
      same = c.in_ok-best.ensures.same ∙ c.loop-prefix.invariant.same;
      finder = c.at.ensures.same ∙ c.loop-prefix.invariant.finder;
      senders = c.in_ok-best.ensures.same_senders ∙ c.loop-prefix.invariant.senders;
    }
