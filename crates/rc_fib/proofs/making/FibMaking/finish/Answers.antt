use Rattle.std.proofs.Common.{◌≡◌, ◌∙◌, ap, sym, subst}
use Rattle.rc_fib.specs.Stretches.{Cover, spread}
use Rattle.rc_fib.specs.Entries.{IsFib}
use Rattle.rc_fib.specs.declared.growing.Growing.{Growing}
use Rattle.rc_fib.proofs.MakingLaws.{covered, is_fib, is_resolved_table}
use Rattle.rc_fib.proofs.making.FibMaking.finish.Goals as goal

pub grown-fib-requires-clause-covers : goal.grown-fib-requires-clause-covers
grown-fib-requires-clause-covers c =
    let (routes, table, made) = c.requires in
    let m = c.close.new.self in
    subst (λ (g : Growing). Cover 0 g.prefixes g.stretches) (sym c.into_growing.ensures) (covered m c.in_ok-close.ensures.none routes table (c.in_ok-close.ensures.routes routes made))

pub grown-fib-requires-clause-in_order : goal.grown-fib-requires-clause-in_order
grown-fib-requires-clause-in_order c =
    let (routes, table, made) = c.requires in
    let m = c.close.new.self in
    subst (λ (g : Growing). IsFib (spread 0 g.prefixes g.stretches)) (sym c.into_growing.ensures) (is_fib m c.in_ok-close.ensures.none routes table (c.in_ok-close.ensures.routes routes made))

pub returns-then-is_plain-clause-value : goal.returns-then-is_plain-clause-value
returns-then-is_plain-clause-value c = λ routes table made.
    (let m = c.close.new.self in
    c.grown-fib.ensures.fib ∙ ap (λ (g : Growing). spread 0 g.prefixes g.stretches) c.into_growing.ensures
    ∙ is_resolved_table m c.in_ok-close.ensures.none routes table (c.in_ok-close.ensures.routes routes made) (sym (ap (λ (g : Growing). g.is_plain) c.into_growing.ensures) ∙ sym c.grown-fib.ensures.plain ∙ c.if-is_plain.true))
