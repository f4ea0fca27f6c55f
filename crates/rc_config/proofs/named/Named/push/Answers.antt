use Rattle.std.proofs.Common.{◌∙◌, ap, sym, length}
use Rattle.rc_config.specs.Named.{index_of}
use Rattle.rc_config.proofs.NamedLaws.{indexed_more}
use Rattle.rc_config.proofs.named.Named.push.Goals as goal

pub invariant_of-self-in-Ok : goal.invariant_of-self-in-Ok
invariant_of-self-in-Ok g c =
    let absent = ap (λ es. index_of es c.args.name) c.self.view_is ∙ c.requires in
    let long = c.len-last.ensures ∙ ap length (sym c.self.view_is) in
    indexed_more c.self.inside.places.entries c.insert.new.self.entries c.self.inside.entries.items c.push.new.self.items c.args.name c.args.value c.len-last.result c.self.invariant absent c.in_ok-push.ensures.items
    long c.in-Ok.ensures.updates.0
