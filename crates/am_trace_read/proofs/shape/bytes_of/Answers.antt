use Rattle.std.proofs.Common.{◌≡◌, ◌∷◌, List, ℕ, length, sym, ap, ◌∙◌, subst, arith, eqb, true, false, ◌<◌}
use Rattle.std.proofs.lemmas.Bool.Decides.{nat_tests}
use Rattle.std.proofs.lemmas.List.{nil_from_length}
use Rattle.am_trace_read.proofs.Digits.{IsRead, read_more, read_all, read_full}
use Rattle.am_trace_read.proofs.shape.bytes_of.Goals as goal

-- the digits that are left, as two and the others
two_of : (rest more further : List ℕ) (high low : ℕ) → rest ≡ high ∷ more → more ≡ low ∷ further →
    rest ≡ high ∷ low ∷ further
two_of rest more further high low e f = e ∙ ap (λ x. high ∷ x) f

pub pairs-preserved : goal.pairs-preserved
pairs-preserved c =
    let digits = c.args.digits.now in
    let two = two_of c.pairs.rest.now c.in-Some.more.now c.in_ok-low.further.now c.in-Some.high.now c.in_ok-low.low.now
    c.in-Some.ensures.cases.0 c.in_ok-low.ensures.cases.0 in
    let before = subst (IsRead digits c.pairs.bytes.items) two c.pairs.invariant.read in
    let room : eqb (length c.pairs.bytes.items) 64 ≡ false = sym c.is_full.ensures.value ∙ c.if-is_full.false in
    let below : length c.pairs.bytes.items < 64 = grind (arith, nat_tests, room, c.pairs.invariant.short) in
    record {
      read = subst (λ (bytes : List ℕ). IsRead digits bytes c.in_ok-low.further.now) (sym c.push.ensures.items)
          (read_more digits c.pairs.bytes.items c.in-Some.high.now c.in_ok-low.low.now c.in_ok-byte.byte
          c.in_ok-low.further.now before (sym c.in_ok-byte.ensures));
      short = omega (arith, below, c.push.ensures.len);
    }

pub returns : goal.returns
returns c =
    sym (read_all c.args.digits.now c.pairs.bytes.items
    (subst (IsRead c.args.digits.now c.pairs.bytes.items)
    (nil_from_length c.pairs.rest.now c.in_default.ensures.cases) c.pairs.invariant.read) c.pairs.invariant.short)

pub returns-then-is_full : goal.returns-then-is_full
returns-then-is_full c =
    let digits = c.args.digits.now in
    let two = two_of c.pairs.rest.now c.in-Some.more.now c.in_ok-low.further.now c.in-Some.high.now c.in_ok-low.low.now
    c.in-Some.ensures.cases.0 c.in_ok-low.ensures.cases.0 in
    let before = subst (IsRead digits c.pairs.bytes.items) two c.pairs.invariant.read in
    let full : eqb (length c.pairs.bytes.items) 64 ≡ true = sym c.is_full.ensures.value ∙ c.if-is_full.true in
    sym (read_full digits c.pairs.bytes.items c.in-Some.high.now c.in_ok-low.low.now c.in_ok-low.further.now before
    (grind (arith, nat_tests, full)))
