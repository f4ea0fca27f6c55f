use Rattle.std.proofs.Common.{rules, ◌<◌, ◌≡◌, ◌+◌, ◌-◌, ◌^◌, min, length, []}
use Rattle.std.specs.Io.Take.{take_limit}
use Rattle.rc_system.proofs.Taken.{front_taken}
use Rattle.rc_system.proofs.fronts.front_of.Goals as goal

pub returns : goal.returns
returns g c =
    let few : length c.read_to_end.new.buf.items < 2 ^ 63 = search rules in
    let empty : c.in_ok-bytes.bytes.items ≡ [] = search rules in
    let limit : take_limit c.take.result ≡ min (c.args.most + 1) (2 ^ 64 - 1) = search rules in
    front_taken g.F.Read.remaining c.args.file c.take.result c.args.most c.in_ok-bytes.bytes.items _ c.take.ensures.inner limit empty few c.in_ok-read_to_end.ensures.bytes
