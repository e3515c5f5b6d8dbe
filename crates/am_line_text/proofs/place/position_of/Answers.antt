use Rattle.am_line_text.proofs.Places.{first_place}
use Rattle.am_line_text.proofs.place.position_of.Goals as goal

pub returns : goal.returns
returns c = first_place c.args.byte c.args.text.now c.memchr.result c.memchr.ensures
