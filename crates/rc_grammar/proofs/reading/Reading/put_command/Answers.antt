use Rattle.std.proofs.Common.{◌∙◌, sym}
use Rattle.rc_grammar.proofs.FewLaws.{few-made}
use Rattle.rc_grammar.proofs.reading.Reading.put_command.Goals as goal

pub returns-in-Ok-clause-fit : goal.returns-in-Ok-clause-fit
returns-in-Ok-clause-fit c =
    let was = c.requires.fit in
    record {
      few = few-made c.args.self.now.file c.apply.new.file c.args.command (sym c.is_too_many.ensures ∙ c.if-is_too_many.false) c.in-Ok.ensures.value was.few;
      interfaces = c.in-Ok.ensures.lawful was.interfaces c.requires.in_range;
      routes = c.in-Ok.ensures.routes was.routes c.requires.in_range;
      lists = c.in-Ok.ensures.lists was.lists c.requires.in_range c.requires.fits;
      ospf = c.in-Ok.ensures.ospf was.ospf c.requires.in_range;
      bgp = c.in-Ok.ensures.bgp was.bgp c.requires.in_range;
    }
