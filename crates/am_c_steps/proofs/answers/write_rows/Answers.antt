use Rattle.std.proofs.Common.{◌∙◌, sym, rules, arith}
use Rattle.std.proofs.lemmas.List.{length-set}
use Rattle.am_c_steps.proofs.Rows.{writes_next}
use Rattle.am_c_steps.proofs.answers.write_rows.Goals as goal

pub loop-at-preserved : goal.loop-at-preserved
loop-at-preserved c = record {
  written = writes_next c.args.pairs.now c.args.rows.now c.loop-at.rows c.loop-at.at c.index-pairs-at.result c.of.result
      c.loop-at.invariant.written (omega (arith, c.loop-at-test.true)) c.requires (sym c.index-pairs-at.is)
      c.of.ensures;
  all = length-set c.loop-at.rows c.loop-at.at c.of.result ∙ c.loop-at.invariant.all;
  same = search rules;
}
