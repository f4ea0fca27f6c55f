use Rattle.std.proofs.Common.{not, ap, sym, ◌∙◌, Vec}
use Rattle.std.specs.declared.alloc.Global.{Global}
use Rattle.rc_spf.specs.declared.graph.Edge.{Edge}
use Rattle.rc_link_state.proofs.InwardLaws.{out_left_by_none, empty_of}
use Rattle.rc_link_state.proofs.columns.Inward.is_asked.Goals as goal

pub returns-then-index : goal.returns-then-index
returns-then-index c stays =
    out_left_by_none c.args.self.now c.args.router c.index.result.now c.requires.ready c.requires.router
    (sym (ap (λ (v : Vec Edge Global). v.items) c.index.ensures) ∙ sym c.deref-outgoing.ensures.value ∙ empty_of _ (ap not (sym c.is_empty.ensures) ∙ stays))
