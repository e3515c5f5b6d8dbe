use Rattle.std.proofs.Common.{◌≡◌, true, sym, subst, ◌∙◌}
use Rattle.std.specs.Ordering.{eq_by_cmp}
use Rattle.std.specs.Cmp.{eq_by_cmp_equiv}
use Rattle.am_record.specs.OrderedKey.{key_cmp, key_cmp-total, key_eq-exact}
use Rattle.am_audit_replies.proofs.replies.is_same_key.Goals as goal

pub returns : goal.returns
returns c = let h = c.eq.ensures in (
  λ e. key_eq-exact c.args.a c.args.b (sym c.eq.ensures ∙ e),
  λ e. c.eq.ensures ∙ subst (λ b. eq_by_cmp key_cmp c.args.a b ≡ true) e
      ((eq_by_cmp_equiv key_cmp-total).refl c.args.a),
)
