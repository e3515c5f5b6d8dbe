use Rattle.std.proofs.Common.{◌≡◌, map, ◌++◌, sym, ap, ◌∙◌, subst}
use Rattle.std.proofs.Common.{arith}
use Rattle.std.specs.Simd.Lanes.{chunk, pick_l}
use Rattle.am_trace_text.specs.Words.{hex_digits}
use Rattle.am_trace_text.specs.Bounds.{IsByteList}
use Rattle.am_trace_read.specs.Lanes.{lane_number}
use Rattle.am_trace_read.proofs.LaneDigits.{whole_chunk, all_digits, pairs_joined, pairs_are, joined, evens}
use Rattle.am_trace_read.proofs.LaneDigits.{odds}
use Rattle.am_trace_read.proofs.lanes.sixteen_bytes.Goals as goal

pub returns : goal.returns
returns c =
    let digits = c.args.digits.now in
    let whole : chunk 0 32 digits ≡ digits = whole_chunk 32 digits c.requires in
    let numbers : c.numbers-numbers.result ≡ map lane_number digits = c.numbers-numbers.ensures ∙
    ap (map lane_number) whole in
    let all = all_digits digits c.numbers-numbers.result 32 c.requires (omega arith) numbers c.if-numbers-ne0.false in
    let are = pairs_are 16 digits c.requires (λ i. (c.type_inv.digits i).fits) all in
    let result = (λ i. joined 16 (pick_l 0 (numbers i ++ numbers i) (evens 16))
    (pick_l 0 (numbers i ++ numbers i) (odds 16))) ∙
    pairs_joined 16 digits (map lane_number digits) c.requires in
    record {
      bytes = subst IsByteList (sym result) are.1;
      text = are.0 ∙ ap hex_digits (sym result);
    }
