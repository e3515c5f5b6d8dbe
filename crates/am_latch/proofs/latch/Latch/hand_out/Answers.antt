use Rattle.am_latch.proofs.latch.Latch.hand_out.Goals as goal

pub returns : goal.returns
returns g c = record {
  taken = c.hand_out.ensures.taken;
  next = c.hand_out.ensures.next;
  figures = c.hand_out.ensures.figures;
  same = c.hand_out.ensures.none;
}
