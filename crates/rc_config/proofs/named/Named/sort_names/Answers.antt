use Rattle.std.proofs.Common.{rules, ◌∙◌, ap, sym, subst}
use Rattle.std.specs.Cmp.Lexicographic.{slice_cmp}
use Rattle.std.specs.List.{IsDistinct}
use Rattle.std.specs.Ordering.{nat_cmp}
use Rattle.std.specs.Map.{keys_of}
use Rattle.std.specs.Prelude.{is_some}
use Rattle.std.proofs.lemmas.Fn.{always_returns_same}
use Rattle.rc_base.specs.Name.{same_name}
use Rattle.rc_config.specs.Named.{named, index_of}
use Rattle.rc_config.proofs.NamedLaws.{sorted_distinctly, sorted_values, sorted_names, sorted_keys}
use Rattle.rc_config.proofs.OrderLaws.{sorted_distinct}
use Rattle.rc_config.proofs.named.Named.sort_names.Goals as goal

pub number-requires-clause-distinct : goal.number-requires-clause-distinct
number-requires-clause-distinct g c =
    subst (λ xs. IsDistinct same_name (keys_of xs)) (sym c.deref.ensures.value)
    (sorted_distinctly c.self.inside.entries.items c.sort_unstable_by_key.new.self.items c.sort_unstable_by_key.ensures.permutation c.self.invariant.distinct)

pub number-requires-clause-names : goal.number-requires-clause-names
number-requires-clause-names g c = λ n.
    sorted_names c.self.inside.places.entries c.self.inside.entries.items c.sort_unstable_by_key.new.self.items c.self.invariant c.sort_unstable_by_key.ensures.permutation n
    ∙ ap (λ xs. is_some (index_of xs n)) (sym c.deref.ensures.value)

pub returns-clause-values : goal.returns-clause-values
returns-clause-values g c = λ n.
    sorted_values c.self.inside.entries.items c.sort_unstable_by_key.new.self.items c.sort_unstable_by_key.ensures.permutation c.self.invariant.distinct n ∙ ap (λ xs. named xs n) c.self.view_is

pub returns-clause-in_order : goal.returns-clause-in_order
returns-clause-in_order g c =
    let sorted = c.sort_unstable_by_key.ensures.sorted (λ e. e.0) (always_returns_same _ _ _ (λ a r q called. search rules)) in
    sorted_distinct (keys_of c.sort_unstable_by_key.new.self.items) (sorted_keys (slice_cmp nat_cmp) c.sort_unstable_by_key.new.self.items sorted)
    (sorted_distinctly c.self.inside.entries.items c.sort_unstable_by_key.new.self.items c.sort_unstable_by_key.ensures.permutation c.self.invariant.distinct)
