-- Lines that stage, one after another, and the load or the put after them.
use Rattle.std.proofs.Common.{◌≡◌, ℕ, ◌+◌, ◌≤◌, length, List, [], ◌∷◌, ◌++◌, append_assoc, true, cond, map, Some, refl}
use Rattle.std.proofs.Common.{sym, ap, ◌∙◌, subst, arith}
use Rattle.std.proofs.lemmas.Bool.{le-leb}
use Rattle.std.proofs.lemmas.List.{length-append}
use Rattle.am_record.specs.Records.{Records}
use Rattle.am_record.specs.Plain.{PlainMap}
use Rattle.am_record.specs.declared.step.Op.{Op}
use Rattle.am_line_dialogue.specs.Actions.{may_wait}
use Rattle.am_line_dialogue.specs.Say.{DialogueState, response_due, state_after_line}
use Rattle.am_line_dialogue.specs.StagedLoads.{all_of, stage, load, put_line, responses_to, state_behind, IsAsOne}
use Rattle.am_line_dialogue.specs.declared.lines.ParsedLine.{ParsedLine}
use Rattle.am_line_dialogue.specs.declared.response.Response.TheVariants.{Staged, TooManyStaged}

module _ (begun commits runs : ℕ) (committed : PlainMap) (ops : List Op) where
  -- where these wait
  abbrev at : Records → DialogueState
  at staged = record {
    begun = begun;
    commits = commits;
    runs = runs;
    committed = committed;
    own = Some ops;
    staged = staged;
  }

  -- as many as there are may wait
  fits : (staged records : Records) (pieces : List Records) → length (staged ++ all_of (records ∷ pieces)) ≤ 65536 →
      may_wait staged records ≡ true
  fits staged records pieces few =
      let all : length (staged ++ (records ++ all_of pieces)) ≡ length staged +
      (length records + length (all_of pieces)) = length-append staged (records ++ all_of pieces) ∙
      ap (λ n. length staged + n) (length-append records (all_of pieces)) in
      le-leb (length staged + length records) 65536 (omega (arith, few, all))

  one_more : (staged records : Records) (pieces : List Records) → length (staged ++ all_of (records ∷ pieces)) ≤ 65536 →
      length ((staged ++ records) ++ all_of pieces) ≤ 65536
  one_more staged records pieces few = subst (λ (rs : Records). length rs ≤ 65536)
      (sym (append_assoc staged records (all_of pieces))) few

  regrouped : (staged records : Records) (pieces : List Records) (last : Records) → (staged ++ records) ++
      (all_of pieces ++ last) ≡ staged ++ (all_of (records ∷ pieces) ++ last)
  regrouped staged records pieces last = append_assoc staged records (all_of pieces ++ last) ∙
      ap (λ rs. staged ++ rs) (sym (append_assoc records (all_of pieces) last))

  -- a line that takes along what waits
  module _ (line : Records → ParsedLine)
      (told : (staged last : Records) → response_due (at staged) (line last) ≡ response_due (at [])
      (line (staged ++ last)))
      (done : (staged last : Records) →
      state_after_line (at staged) (line last) ≡ state_after_line (at []) (line (staged ++ last))) where
    abbrev lines : List Records → Records → List ParsedLine
    lines pieces last = map stage pieces ++ line last ∷ []

    pub answers : (pieces : List Records) (staged last : Records) → length (staged ++ all_of pieces) ≤ 65536 →
        responses_to (at staged) (lines pieces last) ≡ map (λ _. Some Staged) pieces ++
        response_due (at []) (line (staged ++ (all_of pieces ++ last))) ∷ []
    answers [] staged last few = ap (λ r. r ∷ []) (told staged last)
    answers (records ∷ pieces) staged last few =
        let here = fits staged records pieces few in
        let later = answers pieces (staged ++ records) last (one_more staged records pieces few) in
        (λ i. Some (cond (here i) Staged TooManyStaged) ∷ responses_to
        (cond (here i) (at (staged ++ records)) (at staged)) (lines pieces last))
        ∙ ap (λ rs. Some Staged ∷ rs) later
        ∙ ap (λ rs. Some Staged ∷ (map (λ _. Some Staged) pieces ++ response_due (at []) (line rs) ∷ []))
        (regrouped staged records pieces last)

    pub leaves : (pieces : List Records) (staged last : Records) → length (staged ++ all_of pieces) ≤ 65536 →
        state_behind (at staged) (lines pieces last) ≡ state_after_line (at [])
        (line (staged ++ (all_of pieces ++ last)))
    leaves [] staged last few = done staged last
    leaves (records ∷ pieces) staged last few =
        let here = fits staged records pieces few in
        let later = leaves pieces (staged ++ records) last (one_more staged records pieces few) in
        (λ i. state_behind (cond (here i) (at (staged ++ records)) (at staged)) (lines pieces last))
        ∙ later
        ∙ ap (λ rs. state_after_line (at []) (line rs)) (regrouped staged records pieces last)

module _ (s : DialogueState) (ops : List Op) (pieces : List Records) (last : Records) (active : s.own ≡ Some ops)
    (empty : s.staged ≡ []) (few : length (all_of pieces) ≤ 65536) where
  same : s ≡ at s.begun s.commits s.runs s.committed ops []
  same = λ i. record s { own = active i; staged = empty i }

  pub one_load : IsAsOne s pieces load last
  one_load = subst (λ (t : DialogueState). IsAsOne t pieces load last) (sym same) (record {
    answers = answers s.begun s.commits s.runs s.committed ops load (λ _ _. refl) (λ _ _. refl) pieces [] last few;
    behind = leaves s.begun s.commits s.runs s.committed ops load (λ _ _. refl) (λ _ _. refl) pieces [] last few;
  })

  pub one_put : IsAsOne s pieces put_line last
  one_put = subst (λ (t : DialogueState). IsAsOne t pieces put_line last) (sym same) (record {
    answers = answers s.begun s.commits s.runs s.committed ops put_line (λ _ _. refl) (λ _ _. refl) pieces [] last few;
    behind = leaves s.begun s.commits s.runs s.committed ops put_line (λ _ _. refl) (λ _ _. refl) pieces [] last few;
  })
