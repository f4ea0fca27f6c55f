use Rattle.std.proofs.Common.{refl, ◌<◌, sym, subst, [], length, take, arith}
use Rattle.rc_jobs.specs.Flows.{no_header}
use Rattle.rc_sectors.specs.Sectors.{within, flows_within}
use Rattle.rc_spread.proofs.PassageLaws.{one_there_more}
use Rattle.rc_spread.proofs.RealLaws.{no_flow}
use Rattle.rc_spread.proofs.ThereLaws.{all_there, fits, from_set, sent, set_known, through_known}
use Rattle.rc_spread.specs.United.{passing, KnowsPassages}
use Rattle.rc_trees.specs.Trees.{never}
use Rattle.rc_spread.proofs.united.passages_of.Goals as goal

pub loop-flow-init : goal.loop-flow-init
loop-flow-init g c = record {
  mine = c.requires.seat;
  keeps = λ r t h. h;
  made = λ of whole are. subst (λ ps. KnowsPassages c.args.work.now (λ q. within c.args.sector.now (of q)) ps []) (sym c.new-passages.ensures.items) tt;
}

pub put_there-requires-clause-within : goal.put_there-requires-clause-within
put_there-requires-clause-within g c =
    let k = c.requires.known in
    from_set c.args.work.now c.args.sets.now c.args.flows.now c.args.sector.now k.sets k.whole k.are c.loop-flow.flow-index c.loop-flow-test.true no_flow

pub put_there-requires-clause-known : goal.put_there-requires-clause-known
put_there-requires-clause-known g c =
    let k = c.requires.known in
    let i = c.loop-flow.flow-index in (
      (sent c.args.work.now c.args.sets.now c.args.flows.now c.args.sector.now k.sets k.whole k.are i c.loop-flow-test.true).1,
      through_known c.args.work.now c.args.sets.now c.args.flows.now c.args.sector.now k.sets k.whole k.are i c.loop-flow-test.true c.loop-flow.work c.loop-flow.invariant.keeps no_flow,
    )

pub loop-flow-preserved : goal.loop-flow-preserved
loop-flow-preserved g c =
    let before = c.args.work.now in
    let now = c.loop-flow.work in
    let sector = c.args.sector.now in
    let flows = c.args.flows.now in
    let refs = c.args.sets.now in
    let i = c.loop-flow.flow-index in
    let less : i < length flows = c.loop-flow-test.true in
    record {
      mine = c.put_there.ensures.seat;
      keeps = λ r t h. c.put_there.ensures.keeps r t (c.loop-flow.invariant.keeps r t h);
      made = λ of whole are.
          let f = sent before refs flows sector of whole are i less in
          subst (KnowsPassages c.put_there.new.work (λ q. within sector (of q)) c.put_there.new.passages.items)
          (one_there_more sector (λ q. within sector (of q)) whole i (0, never) (fits before refs flows sector of whole are i less))
          (c.in_ok-put_there.ensures.put (λ q. within sector (of q)) (passing (λ q. within sector (of q)) (flows_within sector (take i whole))) (f.0, within sector f.1) f.1
          (c.loop-flow.invariant.made of whole are)
          (set_known before refs flows sector of whole are i less now c.loop-flow.invariant.keeps no_flow no_header)
          (through_known before refs flows sector of whole are i less now c.loop-flow.invariant.keeps no_flow)
          refl);
    }

pub returns-clause-passages : goal.returns-clause-passages
returns-clause-passages g c = λ of whole are.
    let stop = c.loop-flow-test.false in
    all_there c.args.work.now c.args.sets.now c.args.flows.now c.args.sector.now of whole are c.args.nodes.now c.requires.seat c.loop-flow.work c.loop-flow.passages.items c.loop-flow.flow-index (omega arith)
    (c.loop-flow.invariant.made of whole are)
