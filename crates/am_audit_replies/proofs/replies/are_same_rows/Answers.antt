use Rattle.std.proofs.Common.{◌≡◌, true, sym, subst, ◌∙◌}
use Rattle.am_record.specs.Records.{same_records, same_records-equiv}
use Rattle.am_audit_replies.proofs.Rows.{exact_records}
use Rattle.am_audit_replies.proofs.replies.are_same_rows.Goals as goal

pub returns : goal.returns
returns c = let h = c.eq.ensures in (
  λ e. exact_records c.args.a.now c.args.b.now (sym c.eq.ensures ∙ e),
  λ e. c.eq.ensures ∙ subst (λ b. same_records c.args.a.now b ≡ true) e (same_records-equiv.refl c.args.a.now),
)
