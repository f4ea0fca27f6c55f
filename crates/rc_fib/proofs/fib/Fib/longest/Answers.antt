use Rattle.std.proofs.Common.{List, ap, sym, subst, ◌∙◌, option_copied}
use Rattle.rc_base.specs.Prefix.{Cidr}
use Rattle.rc_fib.specs.Entry.{Entry}
use Rattle.rc_fib.specs.Forwarding.{resolved_prefix}
use Rattle.rc_trie.specs.Tree.{AreInOrder, longest_by}
use Rattle.rc_fib.proofs.StretchLaws.{longest_prefix, prefixes_in_order}
use Rattle.rc_fib.proofs.fib.Fib.longest.Goals as goal

pub longest_in-found-requires : goal.longest_in-found-requires
longest_in-found-requires c =
    subst (AreInOrder (λ (p : Cidr). p)) (sym c.as_slice.ensures) (prefixes_in_order c.self.inside.prefixes c.self.inside.stretches c.self.invariant.0 c.args.addr c.self.invariant.1)

pub returns-in-Some : goal.returns-in-Some
returns-in-Some c =
    ap option_copied (sym c.in-Some.is) ∙ c.longest_in-found.ensures ∙ ap (λ (ps : List Cidr). longest_by (λ (p : Cidr). p) ps c.args.addr) c.as_slice.ensures
    ∙ longest_prefix c.self.inside.prefixes c.self.inside.stretches c.self.invariant.0 c.args.addr ∙ ap (λ (es : List Entry). resolved_prefix es c.args.addr) c.self.view_is

pub returns-in-None : goal.returns-in-None
returns-in-None c =
    ap option_copied (sym c.in-None.is) ∙ c.longest_in-found.ensures ∙ ap (λ (ps : List Cidr). longest_by (λ (p : Cidr). p) ps c.args.addr) c.as_slice.ensures
    ∙ longest_prefix c.self.inside.prefixes c.self.inside.stretches c.self.invariant.0 c.args.addr ∙ ap (λ (es : List Entry). resolved_prefix es c.args.addr) c.self.view_is
