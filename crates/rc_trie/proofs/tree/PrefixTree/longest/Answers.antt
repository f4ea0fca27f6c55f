use Rattle.std.proofs.Common.{◌≡◌, ℕ, map, ap, sym, ◌∙◌}
use Rattle.std.specs.Option.{option_map}
use Rattle.rc_base.specs.Prefix.{Cidr}
use Rattle.rc_trie.specs.Tree.{longest_row}
use Rattle.rc_trie.specs.Search.{row_of}
use Rattle.rc_trie.proofs.ScanLaws.{longest_map}
use Rattle.rc_trie.proofs.tree.PrefixTree.longest.Goals as goal

pub returns-in-Some : goal.returns-in-Some
returns-in-Some c =
    let all = c.as_slice.result.now in
    let view : map row_of all ≡ c.args.self.now = ap (map row_of) c.as_slice.ensures.value ∙ c.self.view_is in
    ap (option_map row_of) c.in-Some.ensures ∙ sym (longest_map row_of (λ (row : Cidr × ℕ). row.0) c.args.addr all) ∙ ap (λ rows. longest_row rows c.args.addr) view

pub returns-in-None : goal.returns-in-None
returns-in-None c =
    let all = c.as_slice.result.now in
    let view : map row_of all ≡ c.args.self.now = ap (map row_of) c.as_slice.ensures.value ∙ c.self.view_is in
    ap (option_map row_of) c.in-None.ensures ∙ sym (longest_map row_of (λ (row : Cidr × ℕ). row.0) c.args.addr all) ∙ ap (λ rows. longest_row rows c.args.addr) view
