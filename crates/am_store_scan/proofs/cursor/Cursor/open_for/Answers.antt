use Rattle.am_store_scan.proofs.FirstRecords.{begins, has_all_rows}
use Rattle.am_store_scan.proofs.cursor.Cursor.open_for.Goals as goal

pub invariant_of-result : goal.invariant_of-result
invariant_of-result g c =
    let back = g.D.Direction.is_back in
    let sound = c.requires.sources.sound in
    record {
      beside = c.pop_first-first.ensures.first;
      ahead = begins back c.args.range sound (c.content_follows.ensures.edits c.args.parts.now.entries sound.rising
          sound.one_place) c.in_ok-others.ensures c.pop_first-first.ensures.same;
    }

pub returns : goal.returns
returns g c =
    let back = g.D.Direction.is_back in
    let sound = c.requires.sources.sound in
    has_all_rows back c.args.range sound (c.content_follows.ensures.edits c.args.parts.now.entries sound.rising
    sound.one_place) c.in_ok-others.ensures c.pop_first-first.ensures.same
