-- An entry of a run is worked off.
use Rattle.std.proofs.Common.{◌≡◌, ◌≢◌, List, [], ◌∷◌, true, false, Option, Some, None, refl, sym, ap, ◌∙◌, ⊎_elim}
use Rattle.std.specs.Prelude.{is_some}
use Rattle.std.specs.List.{AllByRecursion}
use Rattle.std.proofs.lemmas.Bool.{cases_Bool, cond-true, cond-false, true≢false}
use Rattle.am_record.specs.declared.entry.Entry.{Entry}
use Rattle.am_index.specs.Entries.{Slot, find, insert_entry, set_entry, remove_entry, IsRising}
use Rattle.am_index.specs.Edits.{same_place}
use Rattle.am_index.proofs.Edits.{other_part}
use Rattle.am_index.proofs.EditLaws.{edit_laws}
use Rattle.am_index_parts.specs.Partitions.{brought_home, gone_home, all_gone_home}
use Rattle.am_law_effect.specs.Places.{put}
use Rattle.am_law_effect.specs.MergeAnswers.{worked_off, all_worked_off}
use Rattle.am_law_effect.proofs.Merges.{rising-worked_off}

absent : (o : Option Slot) → is_some o ≡ false → o ≡ None
absent None h = refl
absent (Some s) h = absurd (true≢false h)

-- a live one comes home
comes_home : (e : Entry) (es : List Entry) → IsRising es → e.part ≢ 0 → e.is_ghost ≡ false →
    brought_home e es ≡ worked_off e es
comes_home e es rises in_run live =
    let final : Entry = record e { part = 0 } in
    let less : List Entry = remove_entry es e.part e.key in
    let apart : same_place 0 e.key e.part e.key ≡ false = other_part 0 e.part e.key e.key (λ h. in_run (sym h)) in
    let same : find less 0 e.key ≡ find es 0 e.key = (edit_laws es rises).finds.removed e.part e.key 0 e.key ∙
    cond-false (same_place 0 e.key e.part e.key) None (find es 0 e.key) apart in
    let live_final : Entry = record e { part = 0; is_ghost = false } in
    let is_put : worked_off e es ≡ put final less = cond-false e.is_ghost less (put final less) live in
    ⊎_elim
    (λ (there : is_some (find es 0 e.key) ≡ true).
    ap (λ l. remove_entry l e.part e.key) (cond-true (is_some (find es 0 e.key)) (set_entry es 0 e.key e.value false)
    (insert_entry es live_final) there)
    ∙ (edit_laws es rises).commute.reset 0 e.key e.value false e.part e.key there apart
    ∙ ap (λ g. set_entry less 0 e.key e.value g) (sym live)
    ∙ sym (is_put ∙ cond-true (is_some (find less 0 e.key)) (set_entry less 0 e.key e.value e.is_ghost)
    (insert_entry less final) (ap is_some same ∙ there)))
    (λ (none : is_some (find es 0 e.key) ≡ false).
    ap (λ l. remove_entry l e.part e.key) (cond-false (is_some (find es 0 e.key)) (set_entry es 0 e.key e.value false)
    (insert_entry es live_final) none)
    ∙ (edit_laws es rises).commute.inserted live_final e.part e.key (absent (find es 0 e.key) none) apart
    ∙ ap (λ g. insert_entry less (record e { part = 0; is_ghost = g })) (sym live)
    ∙ sym (is_put ∙ cond-false (is_some (find less 0 e.key)) (set_entry less 0 e.key e.value e.is_ghost)
    (insert_entry less final) (ap is_some same ∙ none)))
    (cases_Bool (is_some (find es 0 e.key)))

-- a ghost just goes
pub ghost_goes : (e : Entry) (es : List Entry) → e.is_ghost ≡ true → remove_entry es e.part e.key ≡ worked_off e es
ghost_goes e es ghost_ = sym (cond-true e.is_ghost (remove_entry es e.part e.key)
    (put (record e { part = 0 }) (remove_entry es e.part e.key)) ghost_)

one_home : (e : Entry) (es : List Entry) → IsRising es → e.part ≢ 0 → gone_home e es ≡ worked_off e es
one_home e es rises in_run = ⊎_elim
    (λ ghost_. cond-true e.is_ghost (remove_entry es e.part e.key) (brought_home e es) ghost_ ∙ ghost_goes e es ghost_)
    (λ live. cond-false e.is_ghost (remove_entry es e.part e.key) (brought_home e es) live ∙
    comes_home e es rises in_run live)
    (cases_Bool e.is_ghost)

-- what goes home is worked off
pub all_home : (xs es : List Entry) → IsRising es → AllByRecursion (λ e. e.part ≢ 0) xs → all_gone_home xs es ≡
    all_worked_off xs es
all_home [] es rises runs = refl
all_home (x ∷ xs) es rises runs =
    let one = one_home x es rises runs.0 in
    ap (all_gone_home xs) one ∙ all_home xs (worked_off x es) (rising-worked_off x es rises) runs.1
