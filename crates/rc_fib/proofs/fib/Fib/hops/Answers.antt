use Rattle.std.proofs.Common.{List, ◌≡◌, None, ap, sym, subst, ◌∙◌}
use Rattle.std.proofs.lemmas.Option.{MatchOption-at_none, MatchOption-at_some}
use Rattle.rc_base.specs.Prefix.{Cidr}
use Rattle.rc_fib.specs.Entry.{Entry}
use Rattle.rc_fib.specs.Forwarding.{resolved_hops}
use Rattle.rc_fib.specs.Stretches.{Rise, hops_at}
use Rattle.rc_fib.specs.declared.stretch.Stretch.{Stretch}
use Rattle.rc_trie.specs.Tree.{AreInOrder, IsLongestAt, longest_by}
use Rattle.rc_fib.proofs.StretchLaws.{hops_of_longest, no_hops, prefixes_in_order, rising}
use Rattle.rc_fib.proofs.fib.Fib.hops.Goals as goal

pub longest_at-place-requires : goal.longest_at-place-requires
longest_at-place-requires c =
    subst (AreInOrder (λ (p : Cidr). p)) (sym c.as_slice.ensures) (prefixes_in_order c.self.inside.prefixes c.self.inside.stretches c.self.invariant.0 c.args.addr c.self.invariant.1)

pub hops_of_place-requires : goal.hops_of_place-requires
hops_of_place-requires c = subst (Rise 0) (sym c.as_slice-in-Some.ensures) (rising 0 c.self.inside.prefixes c.self.inside.stretches c.self.invariant.0)

pub returns-in-Some : goal.returns-in-Some
returns-in-Some c =
    let longest : IsLongestAt (λ (p : Cidr). p) c.as_slice.result.now c.args.addr c.in-Some.place = MatchOption-at_some _ _ _ c.in-Some.is c.longest_at-place.ensures in
    c.hops_of_place.ensures ∙ ap (λ (ss : List Stretch). hops_at ss c.in-Some.place) c.as_slice-in-Some.ensures
    ∙ hops_of_longest c.self.inside.prefixes c.self.inside.stretches c.self.invariant.0 c.args.addr c.in-Some.place (subst (λ (ps : List Cidr). IsLongestAt (λ (p : Cidr). p) ps c.args.addr c.in-Some.place) c.as_slice.ensures longest)
    ∙ ap (λ (es : List Entry). resolved_hops es c.args.addr) c.self.view_is

pub returns-in-None : goal.returns-in-None
returns-in-None c =
    let none : longest_by (λ (p : Cidr). p) c.as_slice.result.now c.args.addr ≡ None = MatchOption-at_none _ _ c.in-None.is c.longest_at-place.ensures in
    no_hops c.self.inside.prefixes c.self.inside.stretches c.self.invariant.0 c.args.addr (subst (λ (ps : List Cidr). longest_by (λ (p : Cidr). p) ps c.args.addr ≡ None) c.as_slice.ensures none)
    ∙ ap (λ (es : List Entry). resolved_hops es c.args.addr) c.self.view_is
