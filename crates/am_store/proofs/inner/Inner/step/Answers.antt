use Rattle.std.proofs.Common.{sym, subst}
use Rattle.am_index.specs.Rooms.{KeepRoom}
use Rattle.am_index.proofs.Rooms.{keep_all}
use Rattle.am_index_parts.specs.Partitions.{Partitions}
use Rattle.am_store.specs.InnerState.{inner_state}
use Rattle.am_store.proofs.StepsKeep.{unwanted_begin, unwanted_commit, unwanted_abort, unwanted_clean}
use Rattle.am_store.proofs.inner.Inner.step.Goals as goal

pub returns-in-Begin-clause-memory : goal.returns-in-Begin-clause-memory
returns-in-Begin-clause-memory g c = λ e. absurd
    (unwanted_begin (inner_state c.args.self.now) c.begin.result c.begin.ensures.says e)

pub returns-in-Commit-clause-memory : goal.returns-in-Commit-clause-memory
returns-in-Commit-clause-memory g c = λ e. absurd
    (unwanted_commit (inner_state c.args.self.now) c.in-Commit.tx c.commit.result c.commit.ensures.says e)

pub returns-in-Abort-clause-memory : goal.returns-in-Abort-clause-memory
returns-in-Abort-clause-memory g c = λ e. absurd
    (unwanted_abort (inner_state c.args.self.now) c.in-Abort.tx c.abort.result c.abort.ensures.says e)

pub returns-in-Clean-clause-memory : goal.returns-in-Clean-clause-memory
returns-in-Clean-clause-memory g c = λ e. absurd
    (unwanted_clean (inner_state c.args.self.now) c.in-Clean.range c.in-Clean.limit c.clean.result c.clean.ensures.says
    e)

pub returns-in-Begin-clause-rooms : goal.returns-in-Begin-clause-rooms
returns-in-Begin-clause-rooms g c = subst (λ (ps : Partitions). KeepRoom c.args.self.now.parts.roomy ps.roomy
    ps.entries)
    (sym c.begin.ensures.parts) (keep_all c.args.self.now.parts.roomy c.args.self.now.parts.entries
    c.requires.room.values)

pub returns-in-Commit-clause-rooms : goal.returns-in-Commit-clause-rooms
returns-in-Commit-clause-rooms g c = subst (λ (ps : Partitions). KeepRoom c.args.self.now.parts.roomy ps.roomy
    ps.entries) (sym c.commit.ensures.parts) (keep_all c.args.self.now.parts.roomy c.args.self.now.parts.entries
    c.requires.room.values)
