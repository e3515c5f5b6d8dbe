use Rattle.std.proofs.Common.{◌+◌, ◌%◌, ltb, ◌∙◌}
use Rattle.std.proofs.lemmas.Simd.{zip2_splat, zip2_of_maps, splat_is_map}
use Rattle.std.specs.Simd.Lanes.{sel_l}
use Rattle.am_trace_read.specs.Lanes.{byte_less}
use Rattle.am_trace_read.proofs.LaneDigits.{chosen, compared}
use Rattle.am_trace_read.proofs.lanes.numbers.Goals as goal

pub returns : goal.returns
returns c =
    let vs = c.args.bytes in
    let long = c.fits-bytes.0 in
    let tens = zip2_splat byte_less vs 32 48 long in
    let letters = zip2_splat byte_less vs 32 97 long in
    let ten_more = zip2_of_maps (λ x y. (x + y) % 256) (λ c. byte_less c 97) (λ _. 10) vs letters
    (splat_is_map vs 32 10 long) in
    let is_ten = compared ltb (λ c. byte_less c 48) vs _ 32 10 long tens in
    let is_letter = compared ltb (λ c. byte_less c 97) vs _ 32 6 long letters in
    let high = (λ i. sel_l (is_letter i) (ten_more i) (splat_is_map vs 32 255 long i)) ∙
    chosen (λ c. ltb (byte_less c 97) 6) (λ c. (byte_less c 97 + 10) % 256) (λ _. 255) vs in
    (λ i. sel_l (is_ten i) (tens i) (high i)) ∙ chosen (λ c. ltb (byte_less c 48) 10) (λ c. byte_less c 48) _ vs
