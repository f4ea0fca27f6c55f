use Rattle.std.proofs.Common.{◌≡◌, ℕ, suc, ◌+◌, ◌-◌, Bool, false, eqb, ap, sym, ◌∙◌, arith}
use Rattle.std.specs.Prelude.{find}
use Rattle.std.specs.List.{range_with_len}
use Rattle.rc_base.specs.Addr.{mask}
use Rattle.rc_base.proofs.MaskLaws.{other_length}
use Rattle.rc_base.proofs.addr.len_of.Goals as goal

pub loop-len-preserved : goal.loop-len-preserved
loop-len-preserved c =
    let n = c.loop-len.len in
    let below = c.loop-len-test.true in
    let p : ℕ → Bool = λ k. eqb (mask k) c.args.mask in
    let h : p n ≡ false = sym c.has_length.ensures ∙ c.if-has_length.false in
    let e : 33 - n ≡ suc (33 - (n + 1)) = omega (arith, below) in
    record {
      most = omega (arith, below);
      same = (sym (other_length p n (33 - (n + 1)) h) ∙ ap (λ k. find p (range_with_len n k)) (sym e)) ∙ c.loop-len.invariant.same;
    }
