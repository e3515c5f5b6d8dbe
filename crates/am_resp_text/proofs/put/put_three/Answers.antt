use Rattle.std.proofs.Common.{◌++◌, append_assoc, refl, rules}
use Rattle.am_line_sink.proofs.Writes.{wrote_then, wrote_torn}
use Rattle.am_resp_text.proofs.put.put_three.Goals as goal

pub returns-in_err-give_all : goal.returns-in_err-give_all
returns-in_err-give_all g c = wrote_torn (c.args.second.now ++ c.args.third.now) c.from_residual.result (search rules)
    refl
    c.in_err-give_all.ensures.wrote

pub returns-in_err-give_all-2 : goal.returns-in_err-give_all-2
returns-in_err-give_all-2 g c = wrote_torn c.args.third.now c.from_residual-in_err-give_all-2.result (search rules)
    (append_assoc c.args.first.now c.args.second.now c.args.third.now)
    (wrote_then c.in_ok-give_all.ensures.wrote c.in_err-give_all-2.ensures.wrote)

pub returns : goal.returns
returns g c = wrote_then c.in_ok-give_all.ensures.wrote
    (wrote_then c.in_ok-give_all-2.ensures.wrote c.give_all-3.ensures.wrote)
