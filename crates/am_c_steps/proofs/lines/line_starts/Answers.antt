use Rattle.std.proofs.Common.{[], ◌∷◌, ◌++◌, ◌+◌, ◌≡◌, length, refl, sym, ap, subst, ◌∙◌, arith}
use Rattle.std.proofs.lemmas.List.{length-append}
use Rattle.am_c_steps.proofs.CutLines.{IsReading, one_read}
use Rattle.am_c_steps.proofs.Sources.{one_so_far, all_so_far, no_bytes}
use Rattle.am_c_steps.proofs.lines.line_starts.Goals as goal

pub loop-rest-preserved : goal.loop-rest-preserved
loop-rest-preserved c =
    let text = c.args.text.now in
    let rest = c.loop-rest.rest.now in
    let behind = c.first_line.result.1.now in
    let starts = c.loop-rest.starts.items in
    let cut = c.first_line.ensures in
    let pushed = c.in_ok-push.ensures.pushed in
    let more : length starts + 1 ≡ length c.push.new.starts.items =
    sym (ap length pushed ∙ length-append starts (_ ∷ [])) in
    record {
      records = c.loop-rest.invariant.records ++ c.in_default.field-0 ∷ [];
      reading = subst (λ n. IsReading text behind n (c.loop-rest.invariant.records ++ c.in_default.field-0 ∷ [])) more
          (one_read text rest c.first_line.result.0.now behind (length starts) c.loop-rest.invariant.records
          c.in_default.field-0 c.loop-rest.invariant.reading cut.line (sym c.line_pair.ensures ∙ c.in_default.is)
          cut.fewer);
      so_far = one_so_far text rest behind c.first_line.result.0.now starts c.push.new.starts.items _
          c.loop-rest.invariant.so_far (omega (arith, cut.fewer)) refl cut.line cut.rest cut.fewer pushed;
    }

pub returns-clause-starts : goal.returns-clause-starts
returns-clause-starts c = all_so_far c.args.text.now c.loop-rest.rest.now c.loop-rest.starts.items
    c.loop-rest.invariant.so_far (no_bytes c.loop-rest.rest.now (sym c.is_empty.ensures ∙ c.loop-rest-test.false))
