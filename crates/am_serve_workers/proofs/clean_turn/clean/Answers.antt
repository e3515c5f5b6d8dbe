use Rattle.std.proofs.Common.{refl, sym, inl, inr}
use Rattle.am_serve_workers.proofs.Gains.{receipt_of_same, seen_as}
use Rattle.am_serve_workers.proofs.clean_turn.clean.Goals as goal

pub returns-in_default : goal.returns-in_default
returns-in_default g c =
    let lent = c.look-seen.ensures.lent in record {
      ghost = _;
      found = record { engine = lent.0.now; of = lent.1; own = lent.3; seen = lent.4 };
      none = inl (sym c.in_default.ensures);
      same = c.look-seen.ensures.same;
      there = refl;
    }

pub returns-in_default-all_from : goal.returns-in_default-all_from
returns-in_default-all_from g c =
    let lent = c.look-seen.ensures.lent in record {
      ghost = _;
      found = record { engine = lent.0.now; of = lent.1; own = lent.3; seen = lent.4 };
      none = inr (c.in-Some.entry, sym c.in-Some.ensures, c.in_default-all_from.ensures.none);
      same = c.look-seen.ensures.same;
      there = refl;
    }

pub returns : goal.returns
returns g c =
    let lent = c.look-seen.ensures.lent in record {
      ghost = c.in-Some.entry;
      found = record {
        engine = lent.0.now;
        of = lent.1;
        own = lent.3;
        seen = seen_as _ _ _ _ _ c.in-Some.ensures lent.4;
      };
      range = _;
      all = c.in-Some-all_from.ensures.from;
      called = receipt_of_same _ _ _ _ _ c.look-seen.ensures.same c.call-reply.ensures.called;
      behind = c.behind.ensures;
    }
