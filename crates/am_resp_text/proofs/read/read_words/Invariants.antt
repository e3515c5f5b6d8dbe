use Rattle.std.proofs.Common.{◌≡◌, ◌++◌, length}
use Rattle.am_resp_text.specs.Requests.{words_text, HasShortWords}
use Rattle.am_resp_text.proofs.read.read_words.Given as goal

abbrev pub invariant-loop : goal.invariant-loop
invariant-loop l = record {
  text : l.bytes ≡ words_text l.words ++ l.rest;
  count : length l.words ≡ l.counter;
  short : HasShortWords l.words;
}
