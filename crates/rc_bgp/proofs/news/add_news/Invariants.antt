use Rattle.std.proofs.Common.{◌≡◌, ◌++◌, drop}
use Rattle.std.specs.List.{flat_map}
use Rattle.rc_bgp.specs.Changes.{news_over}
use Rattle.rc_bgp.proofs.news.add_news.Given as goal

abbrev pub invariant-loop-session : goal.invariant-loop-session
invariant-loop-session l =
    l.news ++ flat_map (news_over l.net l.earlier l.previous l.changes l.inside) (drop l.session-index l.sessions)
    ≡ l.initial.news ++ flat_map (news_over l.net l.earlier l.previous l.changes l.inside) l.sessions
