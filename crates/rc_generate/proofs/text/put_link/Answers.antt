use Rattle.std.proofs.Common.{◌++◌, codes, decimal, string_bytes}
use Rattle.rc_base.specs.Addr.{dotted}
use Rattle.rc_generate.specs.Files.{link}
use Rattle.rc_generate.proofs.TextLaws.{put_then, put_last}
use Rattle.rc_generate.proofs.text.put_link.Goals as goal

pub returns : goal.returns
unfolding link
returns c =
    let old = string_bytes c.args.text.now in
    let head = codes "interface GigabitEthernet0/" in
    let number = decimal c.args.number in
    let middle = codes "\n ip address " in
    let address = dotted c.args.address in
    let named = put_then old head number c.in_ok-push_str.ensures.bytes c.in_ok-put_number.ensures in
    let open_ = put_then old (head ++ number) middle named c.in_ok-push_str-2.ensures.bytes in
    let whole = put_then old (head ++ number ++ middle) address open_ c.in_ok-put_address.ensures in
    put_last c.push_str-3.result old (head ++ number ++ middle ++ address) (codes " 255.255.255.252\n") whole c.push_str-3.ensures.bytes
