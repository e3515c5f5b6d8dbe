use Rattle.std.proofs.Common.{ℕ, ◌+◌, length, get_or, arith, ap, sym, ◌∙◌}
use Rattle.std.proofs.lemmas.Bool.{leb-false}
use Rattle.am_replica_waits.proofs.Handing.{blank, keeps_none}
use Rattle.am_replica_waits.proofs.queue.keeps_within.Goals as goal

pub returns-then-not-fits-clause-count : goal.returns-then-not-fits-clause-count
returns-then-not-fits-clause-count c =
    let i : ℕ = c.loop-next.next-index in
    let size : ℕ = c.loop-next.size + (get_or c.args.waiting.now i blank).bytes in
    let over = leb-false size c.args.most_bytes (sym c.fits.ensures ∙ c.if-not-fits.true) in
    let none = keeps_none c.args.most_bytes c.loop-next.size i c.args.waiting.now (omega arith) over in
    omega (arith, ap length none)
