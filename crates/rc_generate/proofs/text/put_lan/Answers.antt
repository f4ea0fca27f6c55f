use Rattle.std.proofs.Common.{◌++◌, codes, string_bytes}
use Rattle.rc_base.specs.Addr.{dotted}
use Rattle.rc_generate.specs.Files.{lan}
use Rattle.rc_generate.proofs.TextLaws.{put_then, put_last}
use Rattle.rc_generate.proofs.text.put_lan.Goals as goal

pub returns : goal.returns
unfolding lan
returns c =
    let old = string_bytes c.args.text.now in
    let head = codes "interface GigabitEthernet0/3\n ip address " in
    let address = dotted c.args.address in
    put_last c.push_str-2.result old (head ++ address) (codes " 255.255.255.0\n") (put_then old head address c.in_ok-push_str.ensures.bytes c.in_ok-put_address.ensures) c.push_str-2.ensures.bytes
