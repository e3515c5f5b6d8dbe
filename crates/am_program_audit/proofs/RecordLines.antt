-- Lines of records, one after another.
use Rattle.std.proofs.Common.{◌≡◌, ℕ, ◌+◌, ◌<◌, List, [], ◌∷◌, ◌++◌, length, get_or, take, sym, ap, ◌∙◌}
use Rattle.std.proofs.Common.{append_assoc, append-nil}
use Rattle.std.proofs.lemmas.List.{take_more}
use Rattle.am_record.specs.OrderedKey.{OrderedKey}
use Rattle.am_record.specs.Records.{Records}
use Rattle.am_program_audit.specs.Judgements.{record_line, records_text}

behind : (rs : Records) (r : OrderedKey × List ℕ) → records_text (rs ++ r ∷ []) ≡ records_text rs ++ record_line r
behind [] r = append-nil (record_line r)
behind (q ∷ rs) r = ap (λ l. record_line q ++ l) (behind rs r) ∙
    sym (append_assoc (record_line q) (records_text rs) (record_line r))

pub one_more_line : (rs : Records) (i : ℕ) (r : OrderedKey × List ℕ) (t : List ℕ) → i < length rs →
    t ≡ records_text (take i rs) →
    t ++ record_line (get_or rs i r) ≡ records_text (take (i + 1) rs)
one_more_line rs i r t less is =
    ap (λ l. l ++ record_line (get_or rs i r)) is ∙ sym (behind (take i rs) (get_or rs i r)) ∙
    ap records_text (sym (take_more rs i r less))
