use Rattle.std.proofs.Common.{refl, ◌≡◌, ◌∙◌, ◌<◌, Some, ap, sym, subst, length}
use Rattle.std.specs.Option.{option_map}
use Rattle.std.proofs.lemmas.Option.{slice_get_read}
use Rattle.rc_config.specs.Named.{index_of, with_value}
use Rattle.rc_config.proofs.NamedLaws.{name_at, set_there, indexed_still}
use Rattle.rc_config.proofs.named.Named.put_at.Goals as goal

pub invariant_of-self : goal.invariant_of-self
invariant_of-self g c =
    let own : name_at c.self.inside.entries.items c.args.index ≡ Some c.index_mut.result.now.0
    = ap (option_map (λ e. e.0)) (slice_get_read c.self.inside.entries.items _ c.args.index c.index_mut.result.now refl (subst (λ es. c.args.index < length es) (sym c.self.view_is) c.requires) c.index_mut.ensures.value) in
    indexed_still c.self.inside.places.entries c.self.inside.entries.items c.args.index c.index_mut.result.now.0 c.replace.new.dest c.self.invariant own

pub returns-clause-after : goal.returns-clause-after
returns-clause-after g c = λ name is.
    let own : name_at c.self.inside.entries.items c.args.index ≡ Some c.index_mut.result.now.0
    = ap (option_map (λ e. e.0)) (slice_get_read c.self.inside.entries.items _ c.args.index c.index_mut.result.now refl (subst (λ es. c.args.index < length es) (sym c.self.view_is) c.requires) c.index_mut.ensures.value) in
    set_there c.self.inside.entries.items name c.args.index c.index_mut.result.now.0 c.replace.new.dest (ap (λ es. index_of es name) c.self.view_is ∙ is) own
    ∙ ap (λ v. with_value c.self.inside.entries.items name v) c.replace.ensures.after ∙ ap (λ es. with_value es name c.args.value) c.self.view_is
