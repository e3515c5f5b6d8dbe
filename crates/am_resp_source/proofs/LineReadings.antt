-- What is read of a count line of which some bytes came before.
use Rattle.std.proofs.Common.{◌≡◌, ℕ, ◌+◌, ◌-◌, ◌≤◌, ◌<◌, ◌^◌, min, List, [], ◌++◌, length, take, drop}
use Rattle.std.proofs.Common.{sym, ap, ◌∙◌}
use Rattle.std.proofs.Common.{arith, subst, append_assoc, append-nil}
use Rattle.std.proofs.lemmas.List.{length-append, take-append-drop, length-take, take_all}
use Rattle.std.proofs.Math.Seq.{drop-append_seam}
use Rattle.am_resp_text.specs.Counts.{count_line}
use Rattle.am_resp_text.specs.Requests.{IsCountLine}
use Rattle.am_resp_text.specs.Gaps.{IsBeginning, IsGap}
use Rattle.am_resp_text.specs.declared.fault.Gap.{Gap}
use Rattle.am_resp_text.specs.declared.fault.Gap.TheVariants.{Incomplete, Bad}
use Rattle.am_resp_text.proofs.Cuts.{cut_count}
use Rattle.am_resp_text.proofs.Continuations.{nothing_more}
use Rattle.am_resp_text.proofs.CountReadings.{begun_is_short}
use Rattle.am_resp_source.proofs.Fronts.{longer, to_the_end}

-- a line that isn't whole ends before that of which it is the beginning
not_whole : (line x rest : List ℕ) (mark most n : ℕ) → IsBeginning (IsCountLine mark most) line →
    line ++ x ≡ count_line mark n ++ rest → length (count_line mark n) ≤ length line → ⊥
not_whole line x rest mark most n begun e le =
    let behind = longer line x (count_line mark n) rest e le in
    let left = ap (λ (z : List ℕ). z ++ begun.0) behind.1 ∙ append_assoc (count_line mark n) behind.0 begun.0 in
    let right = begun.2.2 ∙ sym (append-nil (count_line mark begun.2.0)) in
    let cut = cut_count mark mark n begun.2.0 (behind.0 ++ begun.0) [] (sym left ∙ right) in
    begun.1 (nothing_more behind.0 begun.0 cut.2)

pub ends_later : (line x rest : List ℕ) (mark most n : ℕ) → IsBeginning (IsCountLine mark most) line →
    line ++ x ≡ count_line mark n ++ rest → length line < length (count_line mark n)
ends_later line x rest mark most n begun e =
    omega (arith, not_whole line x rest mark most n begun e)

-- the joined bytes begin with a count line: how much of the piece it takes, and what stands behind it
pub taken_of : (line piece rest : List ℕ) (k mark most n : ℕ) → IsBeginning (IsCountLine mark most) line →
    line ++ take k piece ≡ count_line mark n ++ rest →
    (used : List ℕ) × (behind : List ℕ) × (piece ≡ used ++ behind) × (line ++ used ≡ count_line mark n) ×
    (0 < length used)
taken_of line piece rest k mark most n begun e =
    let later = ends_later line (take k piece) rest mark most n begun e in
    let behind = rest ++ drop k piece in
    let whole : line ++ piece ≡ count_line mark n ++ behind =
    ap (λ (z : List ℕ). line ++ z) (sym (take-append-drop k piece)) ∙
    sym (append_assoc line (take k piece) (drop k piece)) ∙
    ap (λ (z : List ℕ). z ++ drop k piece) e ∙ append_assoc (count_line mark n) rest (drop k piece) in
    let used = longer (count_line mark n) behind line piece (sym whole) (omega (arith, later)) in
    let size = ap length used.1 ∙ length-append line used.0 in
    (used.0, behind, used.2, sym used.1, omega (arith, size, later))

-- how much of the piece that is
pub used_of : (line piece rest used : List ℕ) (k mark n : ℕ) → line ++ take k piece ≡ count_line mark n ++ rest →
    line ++ used ≡ count_line mark n → length line + length used + length rest ≡ length (line ++ take k piece)
used_of line piece rest used k mark n e f =
    let all = ap length e ∙ length-append (count_line mark n) rest in
    let front = sym (length-append line used) ∙ ap length f in
    omega (arith, all, front)

pub behind_taken : (used behind piece : List ℕ) (k : ℕ) → piece ≡ used ++ behind → k ≡ length used →
    take (length piece - k) (drop k piece) ≡ behind
behind_taken used behind piece k e n =
    let size = ap length e ∙ length-append used behind in
    to_the_end piece k (omega (arith, size, n)) ∙ ap (λ m. drop m piece) n ∙ ap (λ (z : List ℕ). drop (length used) z)
    e ∙
    drop-append_seam used behind

-- all of the piece was joined, where more is wanted
pub all_joined : (line piece : List ℕ) (mark most : ℕ) → most < 2 ^ 64 → length line ≤ 24 →
    IsBeginning (IsCountLine mark most) (line ++ take (24 - length line) piece) → line ++
    take (24 - length line) piece ≡ line ++ piece
all_joined line piece mark most small room begun =
    let joined = take (24 - length line) piece in
    let short = begun_is_short (line ++ joined) mark most small begun in
    let size = length-append line joined in
    let taken : length joined ≡ min (24 - length line) (length piece) = length-take (24 - length line) piece in
    let fits : length piece ≤ 24 - length line = omega (arith, short, size, taken, room) in
    ap (λ (z : List ℕ). line ++ z) (take_all (24 - length line) piece fits)

pub gap_of_joined : (line piece : List ℕ) (mark most : ℕ) (gap : Gap) → most < 2 ^ 64 → length line ≤ 24 →
    IsGap (IsCountLine mark most) (line ++ take (24 - length line) piece) gap →
    IsGap (IsCountLine mark most) (line ++ piece) gap
gap_of_joined line piece mark most Incomplete small room begun =
    subst (λ (z : List ℕ). IsBeginning (IsCountLine mark most) z) (all_joined line piece mark most small room begun)
    begun
gap_of_joined line piece mark most Bad small room none = λ more text x is h.
    let k = 24 - length line in
    let whole : line ++ piece ≡ (line ++ take k piece) ++ drop k piece =
    ap (λ (z : List ℕ). line ++ z) (sym (take-append-drop k piece)) ∙
    sym (append_assoc line (take k piece) (drop k piece)) in
    let more_of = ap (λ (z : List ℕ). z ++ more) whole ∙ append_assoc (line ++ take k piece) (drop k piece) more in
    none (drop k piece ++ more) text x is (sym more_of ∙ h)
