use Rattle.std.proofs.Common.{◌≡◌, ◌∙◌, ◌-◌, Some, ap, sym, length}
use Rattle.std.specs.Prelude.{slice_get}
use Rattle.rc_config.specs.Named.{index_of}
use Rattle.rc_config.proofs.NamedLaws.{index_at}
use Rattle.rc_config.proofs.named.Named.last_index.Goals as goal

pub returns-in-Some : goal.returns-in-Some
returns-in-Some g c =
    let last : slice_get c.self.inside.entries.items (c.len.result - 1) ≡ Some c.in-Some.entry.now
    = ap (λ n. slice_get c.self.inside.entries.items (n - 1)) (c.len.ensures ∙ sym c.deref.ensures.len) ∙ ap (λ es. slice_get es (length c.deref.result.now - 1)) (sym c.deref.ensures.value) ∙ sym c.in-Some.ensures.value in
    sym (ap (λ es. index_of es c.args.name.now) c.self.view_is)
    ∙ index_at c.self.inside.places.entries c.self.inside.entries.items (c.len.result - 1) c.in-Some.entry.now c.args.name.now c.self.invariant last (sym c.eq.ensures ∙ c.if-eq.true)
