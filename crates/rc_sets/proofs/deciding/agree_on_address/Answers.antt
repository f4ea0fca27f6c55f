use Rattle.std.proofs.Common.{rules, ◌≡◌, ap, sym, ◌∙◌, true, false, bit_or}
use Rattle.rc_filter.specs.Verdict.{matches_address}
use Rattle.rc_sets.proofs.DecidingLaws.{agree}
use Rattle.rc_sets.proofs.deciding.agree_on_address.Goals as goal

pub returns : goal.returns
returns c = λ none a p q.
    let wild : c.new.result ≡ bit_or c.args.one.now.wildcard c.args.other.now.wildcard = search rules in
    let is : c.matches_address.result ≡ true = c.matches_address.ensures ∙ ap (λ n. matches_address (record { addr = c.args.one.now.addr; wildcard = n }) c.args.other.now.addr) wild ∙ agree c.args.one.now c.args.other.now a p q in
    let clash : true ≡ false = sym is ∙ none in
    cc
