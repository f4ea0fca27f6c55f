use Rattle.std.proofs.Common.{◌≡◌, Some, subst}
use Rattle.std.specs.List.{slice_get}
use Rattle.rc_base.specs.declared.position.Pos.{Pos}
use Rattle.rc_walk.specs.Ways.{IsFirstRound, NoRound, itself}
use Rattle.rc_walk.proofs.AllLaws.{nothing_meets, round_found}
use Rattle.rc_walk.proofs.RoundLaws.{no_round}
use Rattle.rc_walk.proofs.turning_back.round_at.Goals as goal

pub returns-in_default : goal.returns-in_default
returns-in_default c = λ t at.
    let plane = c.args.plane.now in
    let h = c.args.header.now in
    let turn : Pos = c.at-turn.result in
    let there : slice_get c.args.all.now.found c.args.place ≡ Some turn = c.at-turn.ensures in
    let same : turn ≡ t = cc in
    let none = rw c.in_default.is at c.in_ok-search.ensures in
    subst (λ x. NoRound plane h c.args.start.now (itself x)) same (no_round plane h c.args.start.now turn (nothing_meets none))

pub returns : goal.returns
returns c = λ t at.
    let plane = c.args.plane.now in
    let h = c.args.header.now in
    let turn : Pos = c.at-turn.result in
    let there : slice_get c.args.all.now.found c.args.place ≡ Some turn = c.at-turn.ensures in
    let same : turn ≡ t = cc in
    let end = rw c.in-Some.is at c.in_ok-search.ensures in
    let round = round_found c.requires.all c.args.place c.requires.place there end c.in_ok-out.out c.in_ok-back.back c.in_ok-way.way c.in_ok-out.ensures c.in_ok-back.ensures c.in_ok-way.ensures.positions c.in_ok-way.ensures.choices in
    subst (λ x. IsFirstRound plane h c.args.start.now (itself x) c.in_ok-way.way) same round
