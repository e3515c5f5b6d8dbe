use Rattle.std.proofs.Common.{◌≡◌, ◌+◌, ◌-◌, ℕ, List, [], ◌∷◌, ◌++◌, length, sym, ap, subst, ◌∙◌, arith}
use Rattle.std.proofs.lemmas.List.{length-append}
use Rattle.std.proofs.lemmas.Result.{err_from_is_err_and}
use Rattle.am_resp_text.specs.Requests.{words_text, AreWordsText, HasShortWords}
use Rattle.am_resp_text.proofs.WordReadings.{gap_of_next, one_more, short-append}
use Rattle.am_resp_text.proofs.RequestReadings.{fault_from_gap}
use Rattle.am_resp_text.proofs.read.read_words.Goals as goal

pub returns-in_err-word-clause-fault : goal.returns-in_err-word-clause-fault
returns-in_err-word-clause-fault c =
    let bytes = c.args.bytes.now in
    let words = c.loop.words in
    let gap = c.in_err-word.field-0.0 in
    let behind = c.args.count - (length words + 1) in
    let many : length words + (1 + behind) ≡ c.args.count = omega (arith, c.loop.invariant.count, c.loop-test.true) in
    let p = err_from_is_err_and c.from_residual.result c.from_residual.ensures.1 in
    rw (p.1, p.2) (fault_from_gap (AreWordsText c.args.count) bytes gap (gap_of_next bytes c.loop.rest.now words behind
    c.args.count gap c.loop.invariant.text c.loop.invariant.short many c.in_err-word.ensures.gap))

pub loop-preserved : goal.loop-preserved
loop-preserved c =
    let words = c.loop.words in
    let word = c.in_ok-word.word.now in
    let behind = c.in_ok-word.behind.now in
    let pushed : c.push.new.self ≡ words ++ word ∷ [] = c.in_ok-push.ensures in
    let len = ap length pushed ∙ length-append words (word ∷ []) in
    record {
      text = c.loop.invariant.text ∙ ap (λ (x : List ℕ). words_text words ++ x) c.in_ok-word.ensures.whole ∙
          one_more words word behind ∙ ap (λ (ws : List (List ℕ)). words_text ws ++ behind) (sym pushed);
      count = len ∙ ap (λ n. n + 1) c.loop.invariant.count;
      short = subst HasShortWords (sym pushed)
          (short-append words (word ∷ []) c.loop.invariant.short (c.in_ok-word.ensures.short, tt));
    }
