use Rattle.std.proofs.Common.{◌≡◌, ◌<◌, ◌+◌, ◌-◌, ℕ, suc, [], ◌∷◌, ◌++◌, length, get_or, set, take, drop, sym, ap}
use Rattle.std.proofs.Common.{◌∙◌, arith}
use Rattle.std.proofs.Math.Seq.{take-suc, take-suc-set}
use Rattle.std.proofs.lemmas.List.{get_or-drop, get_or_default, length-drop, length-set}
use Rattle.am_record.specs.Plain.{Records}
use Rattle.am_record.proofs.FirstRows.{Record}
use Rattle.am_index_btree.proofs.portion.read_to.Goals as goal

pub loop-at-preserved : goal.loop-at-preserved
loop-at-preserved g c =
    let rs = g.S.RecordSource.records c.args.records.now in let from = c.args.from in let at = c.loop-at.at in
    let array : Records = c.loop-at.array in let n : ℕ = at - from in let r : Record = c.get.result in
    let left : Records = drop from rs in
    let more : at + 1 - from ≡ suc n = omega (arith, c.loop-at.auto.at) in
    let within : at < length rs = omega (arith, c.loop-at-test.true, c.requires.there) in
    let room : n < length array = omega (arith, c.loop-at-test.true, c.requires.room, c.loop-at.invariant.whole) in
    let here : get_or left n r ≡ r =
    get_or-drop from rs n r ∙ ap (λ (i : ℕ). get_or rs i r) {x = from + n} {y = at} (omega (arith, c.loop-at.auto.at)) ∙
    sym (c.get.ensures ∙ get_or_default rs at _ r within) in
    let read : take (suc n) (set array n r) ≡ take (suc n) left =
    take-suc-set array n r room ∙ ap (λ (l : Records). l ++ r ∷ []) c.loop-at.invariant.read ∙
    ap (λ (x : Record). take n left ++ x ∷ []) (sym here) ∙
    sym (take-suc left n r (omega (arith, within, length-drop from rs, c.loop-at.auto.at))) in
    record {
      whole = length-set array n r ∙ c.loop-at.invariant.whole;
      read = rw more read;
    }
