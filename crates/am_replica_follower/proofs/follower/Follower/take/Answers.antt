use Rattle.std.proofs.Common.{◌≡◌, ◌≤◌, ◌<◌, ◌+◌, ◌∙◌, ◌++◌, ◌∷◌, ℕ, None, Some, arith}
use Rattle.am_replica_log.specs.History.{counted_by, revision_of}
use Rattle.am_replica.specs.Ordered.{Ordered}
use Rattle.am_replica_follower.proofs.Following.{follows_on, given_counts, none_told, some_told}
use Rattle.am_replica_follower.proofs.Joining.{told_at, begun_before, is_known, joins_on}
use Rattle.am_replica_follower.proofs.follower.Follower.take.Goals as goal

pub returns-in-None-clause-told : goal.returns-in-None-clause-told
returns-in-None-clause-told g c start history change follows late shown =
    let old : Ordered = record {
      map = g.M.Machine.map c.args.self.now.replica.machine;
      commits = c.args.self.now.replica.commits;
    } in
    let first : 0 ≤ revision_of history = omega arith in
    let went = c.in_ok-take.ensures.goes_on 0 history change first follows.reads shown in
    none_told g.D.Digest.digest_of (counted_by change history) old
    (given_counts change history c.in_ok-take.field-0 went.1 ∙ c.in-None.is)

pub returns-in-None-clause-follows : goal.returns-in-None-clause-follows
returns-in-None-clause-follows g c start history change follows late shown =
    let old : Ordered = record {
      map = g.M.Machine.map c.args.self.now.replica.machine;
      commits = c.args.self.now.replica.commits;
    } in
    let first : 0 ≤ revision_of history = omega arith in
    let went = c.in_ok-take.ensures.goes_on 0 history change first follows.reads shown in
    follows_on g.D.Digest.digest_of start history change c.args.self.now.log c.take.new.self old old None follows went.0
    (none_told g.D.Digest.digest_of (counted_by change history) old
    (given_counts change history c.in_ok-take.field-0 went.1 ∙ c.in-None.is))

pub returns-in-Ok-clause-told : goal.returns-in-Ok-clause-told
returns-in-Ok-clause-told g c start history change follows late shown =
    let old : Ordered = record {
      map = g.M.Machine.map c.args.self.now.replica.machine;
      commits = c.args.self.now.replica.commits;
    } in
    let new : Ordered = record {
      map = g.M.Machine.map c.take_entry.new.replica.machine;
      commits = c.take_entry.new.replica.commits;
    } in
    let first : 0 ≤ revision_of history = omega arith in
    let went = c.in_ok-take.ensures.goes_on 0 history change first follows.reads shown in
    some_told g.D.Digest.digest_of (counted_by change history) c.in-Some.entry old new c.in-Ok.told
    (given_counts change history c.in_ok-take.field-0 went.1 ∙ c.in-Some.is) c.in-Ok.ensures.taken

pub returns-in-Ok-clause-follows : goal.returns-in-Ok-clause-follows
returns-in-Ok-clause-follows g c start history change follows late shown =
    let old : Ordered = record {
      map = g.M.Machine.map c.args.self.now.replica.machine;
      commits = c.args.self.now.replica.commits;
    } in
    let new : Ordered = record {
      map = g.M.Machine.map c.take_entry.new.replica.machine;
      commits = c.take_entry.new.replica.commits;
    } in
    let first : 0 ≤ revision_of history = omega arith in
    let went = c.in_ok-take.ensures.goes_on 0 history change first follows.reads shown in
    follows_on g.D.Digest.digest_of start history change c.args.self.now.log c.take.new.self old new
    (Some c.in-Ok.told) follows went.0
    (some_told g.D.Digest.digest_of (counted_by change history) c.in-Some.entry old new c.in-Ok.told
    (given_counts change history c.in_ok-take.field-0 went.1 ∙ c.in-Some.is) c.in-Ok.ensures.taken)

known_late : (revision known : ℕ) → revision ≤ known → known < revision → ⊥
known_late revision known early late = omega arith

-- what the snapshot has came before
too_late : (revision known now : ℕ) → now + 1 ≡ revision → revision ≤ known → known ≤ now → ⊥
too_late revision known now next early late = omega arith

pub returns-then-revision-self-clause-told : goal.returns-then-revision-self-clause-told
returns-then-revision-self-clause-told g c start history change follows late shown =
    let now = told_at change history c.args.revision c.args.event c.args.text.now shown in
    absurd (too_late c.args.revision c.args.self.now.known (revision_of history) now c.if-revision-self.true late)

pub returns-then-revision-self-clause-follows : goal.returns-then-revision-self-clause-follows
returns-then-revision-self-clause-follows g c start history change follows late shown =
    let now = told_at change history c.args.revision c.args.event c.args.text.now shown in
    absurd (too_late c.args.revision c.args.self.now.known (revision_of history) now c.if-revision-self.true late)

pub returns-in-None-clause-joins : goal.returns-in-None-clause-joins
returns-in-None-clause-joins g c start rest history change joins shown =
    let digest = g.D.Digest.digest_of in
    let old : Ordered = record {
      map = g.M.Machine.map c.args.self.now.replica.machine;
      commits = c.args.self.now.replica.commits;
    } in
    let low = begun_before digest start c.args.self.now.known old (rest ++ change ∷ history) history
    c.args.self.now.log joins in
    let went = c.in_ok-take.ensures.goes_on (revision_of joins.before) history change low joins.reads shown in
    joins_on digest start c.args.self.now.known old rest history change c.args.self.now.log c.take.new.self joins went.0

pub returns-then-revision-self-clause-joins : goal.returns-then-revision-self-clause-joins
returns-then-revision-self-clause-joins g c start rest history change joins shown =
    let digest = g.D.Digest.digest_of in
    let old : Ordered = record {
      map = g.M.Machine.map c.args.self.now.replica.machine;
      commits = c.args.self.now.replica.commits;
    } in
    let low = begun_before digest start c.args.self.now.known old (rest ++ change ∷ history) history
    c.args.self.now.log joins in
    let went = c.in_ok-take.ensures.goes_on (revision_of joins.before) history change low joins.reads shown in
    joins_on digest start c.args.self.now.known old rest history change c.args.self.now.log c.take.new.self joins went.0

pub returns-in-Ok-clause-joins : goal.returns-in-Ok-clause-joins
returns-in-Ok-clause-joins g c start rest history change joins shown =
    let digest = g.D.Digest.digest_of in
    let old : Ordered = record {
      map = g.M.Machine.map c.args.self.now.replica.machine;
      commits = c.args.self.now.replica.commits;
    } in
    let early : c.args.revision ≤ c.args.self.now.known =
    is_known digest start c.args.self.now.known old rest history change c.args.self.now.log c.args.revision
    c.args.event c.args.text.now joins shown in
    absurd (known_late c.args.revision c.args.self.now.known early c.if-revision-self.false)
