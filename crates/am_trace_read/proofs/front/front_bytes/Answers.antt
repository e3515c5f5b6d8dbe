use Rattle.std.proofs.Common.{[], ◌∷◌, ◌++◌, List, ℕ, sym, ◌∙◌, ap, subst}
use Rattle.am_trace_text.specs.Words.{hex}
use Rattle.am_trace_text.specs.Bounds.{IsByteList}
use Rattle.am_trace_read.proofs.Fronts.{more_read, bytes_append}
use Rattle.am_trace_read.proofs.front.front_bytes.Goals as goal

pub sixteens-init : goal.sixteens-init
sixteens-init c =
    let none = c.new-bytes.ensures in
    record {
      read = c.in_ok-rest.ensures ∙ ap (λ (bytes : List ℕ). hex bytes ++ c.in_ok-rest.rest.now) (sym none);
      are_bytes = subst IsByteList (sym none) tt;
    }

pub sixteens-preserved : goal.sixteens-preserved
sixteens-preserved c =
    let items = c.in-Ok.ensures.ok in
    record {
      read = more_read c.args.text.now c.sixteens.bytes.items c.in-Some.found.0 _ c.sixteens.rest.now
          c.in-Some.found.1.now c.sixteens.invariant.read c.in-Some.ensures.text items;
      are_bytes = subst IsByteList (sym items)
          (bytes_append c.sixteens.bytes.items c.in-Some.found.0 c.sixteens.invariant.are_bytes
          c.in-Some.ensures.bytes);
    }

pub pairs-preserved : goal.pairs-preserved
pairs-preserved c =
    let byte = c.in-Some-front_byte.byte in
    let items = c.in-Ok-try_push.ensures.ok in
    record {
      read = more_read c.args.text.now c.pairs.bytes.items (byte ∷ []) _ c.pairs.rest.now
          c.in-Some-front_byte.further.now c.pairs.invariant.read c.in-Some-front_byte.ensures.text items;
      are_bytes = subst IsByteList (sym items)
          (bytes_append c.pairs.bytes.items (byte ∷ []) c.pairs.invariant.are_bytes
          c.in-Some-front_byte.ensures.bytes);
    }
