use Rattle.std.proofs.Common.{codes}
use Rattle.clap.specs.Words.{App, new_app, with_subcommand}
use Rattle.rc_words.specs.App.{routes_app, trace_app, reach_app, loops_app, uneven_app, lines_app, failures_app, sample_app, with_settings}
use Rattle.rc_words.proofs.app.netcheck_command.Goals as goal

pub returns : goal.returns
returns c =
    let alone : App = with_settings (new_app (codes "netcheck")) in
    let one : App = with_subcommand alone routes_app.top in
    let two : App = with_subcommand one trace_app.top in
    let three : App = with_subcommand two reach_app.top in
    let four : App = with_subcommand three loops_app.top in
    let five : App = with_subcommand four uneven_app.top in
    let six : App = with_subcommand five lines_app.top in
    let seven : App = with_subcommand six failures_app.top in
    let first = c.with_command-command.ensures alone routes_app c.settings.ensures c.routes_command.ensures in
    let second = c.with_command-command-2.ensures one trace_app first c.trace_command.ensures in
    let third = c.with_command-command-3.ensures two reach_app second c.reach_command.ensures in
    let fourth = c.with_command-command-4.ensures three loops_app third c.loops_command.ensures in
    let fifth = c.with_command-command-5.ensures four uneven_app fourth c.uneven_command.ensures in
    let sixth = c.with_command-command-6.ensures five lines_app fifth c.lines_command.ensures in
    let seventh = c.with_command-command-7.ensures six failures_app sixth c.failures_command.ensures in
    c.with_command.ensures seven sample_app seventh c.sample_command.ensures
