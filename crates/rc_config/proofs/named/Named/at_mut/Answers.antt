use Rattle.std.proofs.Common.{refl, ◌≡◌, ◌∙◌, Some, None, ap, sym, inr}
use Rattle.std.specs.Option.{option_map}
use Rattle.std.specs.Prelude.{slice_get}
use Rattle.std.specs.Map.{values_of}
use Rattle.std.proofs.lemmas.Option.{slice_get_read, slice_get_past}
use Rattle.rc_config.proofs.NamedLaws.{indexed_still, values_at, set_lent, same_lent}
use Rattle.rc_config.proofs.named.Named.at_mut.Goals as goal

pub invariant_of-self-lent : goal.invariant_of-self-lent
invariant_of-self-lent g c = λ w.
    let here : slice_get c.self.inside.entries.items c.args.index ≡ Some c.in-Some.entry.now
    = slice_get_read c.self.inside.entries.items _ c.args.index c.in-Some.entry.now refl c.in-Some.ensures.item.3.0 c.in-Some.ensures.value in
    indexed_still c.self.inside.places.entries c.self.inside.entries.items c.args.index c.in-Some.entry.now.0 w c.self.invariant (ap (option_map (λ e. e.0)) here)

pub returns-in-Some : goal.returns-in-Some
returns-in-Some g c =
    let here : slice_get c.self.inside.entries.items c.args.index ≡ Some c.in-Some.entry.now
    = slice_get_read c.self.inside.entries.items _ c.args.index c.in-Some.entry.now refl c.in-Some.ensures.item.3.0 c.in-Some.ensures.value in (
      same_lent _ _ _ (λ w. set_lent c.self.inside.entries.items c.args.self.now c.args.index c.in-Some.entry.now.0 w (ap (option_map (λ e. e.0)) here) c.self.view_is),
      record {
        writes_back = tt;
        value = sym (ap (λ es. slice_get (values_of es) c.args.index) (sym c.self.view_is) ∙ values_at c.self.inside.entries.items c.args.index ∙ ap (option_map (λ e. e.1)) here);
      },
    )

pub returns-in-None : goal.returns-in-None
returns-in-None g c =
    let past : slice_get c.self.inside.entries.items c.args.index ≡ None = slice_get_past c.self.inside.entries.items c.args.index c.in-None.ensures.item.3 in (
      ap inr c.self.view_is,
      record {
        writes_back = tt;
        value = sym (ap (λ es. slice_get (values_of es) c.args.index) (sym c.self.view_is) ∙ values_at c.self.inside.entries.items c.args.index ∙ ap (option_map (λ e. e.1)) past);
      },
    )
