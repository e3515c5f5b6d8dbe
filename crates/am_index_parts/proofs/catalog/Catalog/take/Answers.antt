use Rattle.std.proofs.Common.{◌≡◌, ap, ◌∙◌, arith}
use Rattle.am_index_parts.proofs.Alive.{one, byte_is, was_live, length_removed, live_removed}
use Rattle.am_index_parts.proofs.catalog.Catalog.take.Goals as goal

pub overflow_sub-self : goal.overflow_sub-self
overflow_sub-self c =
    let it = c.requires in
    omega (
      arith,
      c.take_from_part.ensures.all.0,
      it.catalog.all.entries,
      length_removed c.args.part it.key it.entries it.stands,
    )

pub overflow_sub-self-2 : goal.overflow_sub-self-2
overflow_sub-self-2 c =
    let it = c.requires in
    let its : one (was_live c.args.part it.key it.entries) ≡ one c.args.was_live = ap one it.mark in
    let byte : c.from.result ≡ one c.args.was_live = c.from.ensures ∙ byte_is c.args.was_live in
    omega (
      arith,
      c.take_from_part.ensures.all.1,
      its,
      byte,
      it.catalog.all.live,
      live_removed c.args.part it.key it.entries it.stands,
    )

pub returns : goal.returns
returns c = λ es key whole there mark.
    let its : one (was_live c.args.part key es) ≡ one c.args.was_live = ap one mark in
    let byte : c.from.result ≡ one c.args.was_live = c.from.ensures ∙ byte_is c.args.was_live in
    record {
      counted = c.take_from_part.ensures.listed es key whole.counted there mark;
      all = record {
        entries = omega (
          arith,
          c.take_from_part.ensures.all.0,
          whole.all.entries,
          length_removed c.args.part key es there,
        );
        live = omega (
          arith,
          c.take_from_part.ensures.all.1,
          its,
          byte,
          whole.all.live,
          live_removed c.args.part key es there,
        );
      };
    }
