use Rattle.std.proofs.Common.{◌<◌, ◌+◌, List, length, get_or, sym, subst, arith}
use Rattle.std.proofs.lemmas.Option.{slice_get-get_or}
use Rattle.rc_shares.specs.Stretches.{IsStretch}
use Rattle.rc_shares.proofs.StretchLaws.{nothing_made, one_made}
use Rattle.rc_sets.specs.AskedLists.{IsIdleAt}
use Rattle.rc_sets.specs.declared.idle_line.IdleLine.{IdleLine}
use Rattle.rc_sets.proofs.AskedLaws.{may_at, told_at}
use Rattle.rc_sets.proofs.asked_lists.PlacesJob.share.Goals as goal

pub loop-number-init : goal.loop-number-init
loop-number-init g c =
    let made = IsIdleAt c.args.self.now.network.now c.args.self.now.places.now in
    record {
      seat = c.requires.seat;
      keeps = λ r t k. k;
      so_far = subst (λ (xs : List (List IdleLine)). IsStretch made c.args.from c.args.from xs) (sym c.new-made.ensures) (nothing_made made c.args.from);
    }

pub idle_at-requires-clause-may : goal.idle_at-requires-clause-may
idle_at-requires-clause-may g c =
    let places = c.args.self.now.places.now in
    let number = c.loop-number.number in
    let less : number < length places = (let under = c.loop-number-test.true in let end = c.requires.end in omega arith) in
    may_at c.requires.ready number (get_or places number (record { router = 0; list = 0 })) (slice_get-get_or places number (record { router = 0; list = 0 }) less)

pub loop-number-preserved : goal.loop-number-preserved
loop-number-preserved g c =
    let net = c.args.self.now.network.now in
    let places = c.args.self.now.places.now in
    let made = IsIdleAt net places in
    let number = c.loop-number.number in
    let v = c.loop-number.invariant in
    record {
      seat = c.idle_at.ensures.seat;
      keeps = λ r t k. c.idle_at.ensures.keeps r t (v.keeps r t k);
      so_far = subst (λ (xs : List (List IdleLine)). IsStretch made c.args.from (number + 1) xs) (sym c.in-Ok.ensures.ok)
          (one_made made c.args.from number c.loop-number.made c.in_ok-idle.idle v.so_far (told_at net places number (record { router = 0; list = 0 }) c.in_ok-idle.idle c.in_ok-idle.ensures.idle));
    }
