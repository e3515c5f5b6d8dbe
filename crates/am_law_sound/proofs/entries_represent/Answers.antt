use Rattle.std.proofs.Common.{[]}
use Rattle.am_index.proofs.ContentLaws.{empty_content}
use Rattle.am_law_serial.proofs.OneStep.{step_laws}
use Rattle.am_law_sound.proofs.RepresentsLaws.{opened, goes_on}
use Rattle.am_law_sound.proofs.entries_represent.Goals as goal

pub returns : goal.returns
returns c = record {
  opened = opened (λ t. []) empty_content;
  goes_on = λ s es notes marks o w at. goes_on s o w (step_laws s) es notes marks at;
}
