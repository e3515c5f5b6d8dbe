use Rattle.std.proofs.Common.{◌≡◌, ◌++◌, [], Some, sym, refl}
use Rattle.am_line_source.specs.SourceReads.{Took}
use Rattle.am_line_sink.specs.SinkWrites.{Gave}
use Rattle.am_line_alone.specs.Solo.{IsSpoken}
use Rattle.am_line_session.proofs.Ends.{ends_by}
use Rattle.am_line_alone.proofs.alone.serve_in_memory.Goals as goal

-- what was taken is a beginning of the bytes, and what was given stands after what was there
pub returns-clause-wrote : goal.returns-clause-wrote
returns-clause-wrote g c =
    let left = c.serve_alone.new.source.rest in
    ends_by (λ bytes. Took (λ x some. some ≡ x.rest) c.args.source.now bytes c.serve_alone.new.source)
    (λ bytes. c.args.source.now.rest ≡ bytes ++ left)
    (λ text. Gave (λ x. Some x.bytes) c.args.sink.now text c.serve_alone.new.sink)
    (λ text. c.serve_alone.new.sink.bytes ≡ c.args.sink.now.bytes ++ text) (λ text. Unit {0}) (λ text. Unit {0})
    ([] ≡ left) (left ≡ []) (IsSpoken c.args.auto) (IsSpoken c.args.auto) (Unit {0}) (Unit {0})
    (λ bytes took. sym (took left refl)) (λ text h. h) (λ text h. h) (λ h. sym h) (λ exchanges torn events h. h)
    (λ h. h) c.serve_alone.result c.serve_alone.ensures.spoke
