use Rattle.am_index.proofs.Content.{content_from}
use Rattle.am_index.proofs.ContentLaws.{content_laws, empty_content}
use Rattle.am_index.proofs.laws.content_follows.Goals as goal

pub returns-clause-edits : goal.returns-clause-edits
returns-clause-edits c = content_laws

pub returns-clause-places : goal.returns-clause-places
returns-clause-places c = content_from

pub returns-clause-nothing : goal.returns-clause-nothing
returns-clause-nothing c = empty_content
