-- The words of modes, written and read.
use Rattle.std.proofs.Common.{◌≡◌, ℕ, cond, List, Some, None, refl, sym, ap, ◌∙◌}
use Rattle.std.specs.Prelude.{codes, bytes_eq}
use Rattle.std.proofs.lemmas.Bool.{cond_both}
use Rattle.std.proofs.lemmas.Slice.Eq.{bytes_eq-Decides}
use Rattle.am_record.specs.declared.lock.Mode.{Mode}
use Rattle.am_record.specs.declared.lock.Mode.TheVariants.{Shared, Exclusive}
use Rattle.am_line_text.specs.Locks.{mode_word, mode_for}

pub mode_for-mode_word : (m : Mode) → mode_for (mode_word m) ≡ Some m
mode_for-mode_word Shared = refl
mode_for-mode_word Exclusive = refl

pub mode_word-mode_for : (field : List ℕ) (m : Mode) → mode_for field ≡ Some m → mode_word m ≡ field
mode_word-mode_for field m =
    cond_both (bytes_eq field (codes "S")) (Some Shared) (cond (bytes_eq field (codes "X")) (Some Exclusive) None)
    (λ o. o ≡ Some m → mode_word m ≡ field)
    (λ t e. let same : Shared ≡ m = cc in ap mode_word (sym same) ∙ sym ((bytes_eq-Decides field (codes "S")).0 t))
    (λ _. cond_both (bytes_eq field (codes "X")) (Some Exclusive) None (λ o. o ≡ Some m → mode_word m ≡ field)
    (λ t e. let same : Exclusive ≡ m = cc in ap mode_word (sym same) ∙ sym ((bytes_eq-Decides field (codes "X")).0 t))
    (λ _ e. cc))
