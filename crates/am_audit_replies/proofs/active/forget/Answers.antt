use Rattle.std.proofs.Common.{ℕ, sym, ap, ◌∙◌, map, get_or, refl}
use Rattle.am_record.proofs.ByNumber.{AreOnce-RiseBy, RiseBy-map_back, remove-without_number}
use Rattle.am_audit_replies.specs.declared.active.Active.{Active}
use Rattle.am_audit_replies.specs.OwnAnswers.{Listed, listed}
use Rattle.am_audit_replies.proofs.Actives.{list_kept}
use Rattle.am_audit_replies.proofs.Places.{place_is, number_there}
use Rattle.am_audit_replies.proofs.active.forget.Goals as goal

pub returns-clause-others : goal.returns-clause-others
returns-clause-others c tx asked rising =
    let all = c.args.all.now.items in
    let at = place_is tx all c.args.place asked in
    let d = c.remove-ended.result in
    let number : (x : Active) → ℕ = λ x. x.number in
    let once = AreOnce-RiseBy number all (RiseBy-map_back number (λ (x : Listed). x.0) listed (λ x. refl) all rising) in
    ap (map listed) (c.remove-ended.ensures.items ∙ remove-without_number number all c.args.place d tx once
    c.requires (ap (λ n. (get_or all n d).number) (sym at.1) ∙ number_there tx all d at.0))
    ∙ list_kept tx all
