-- Where a desk stands between two calls.
use Rattle.std.specs.Prelude.{ℕ, List, [], Option, Some, option_map, refl}
use Rattle.std.specs.Coded.{Coded, code_by, coded×, coded_ℕ, coded_option, coded_list}
use Rattle.sha2.specs.Hashers.{Holds256}
use Rattle.sha2.specs.Sha256.{sha256}
use Rattle.sha2.specs.declared.Sha256.{Sha256}
use Rattle.am_record.specs.Limits.{max_runs}
use Rattle.am_record.specs.declared.step.Reply.{Reply}
use Rattle.am_law_sound.specs.StoreState.{StoreState, empty_state}
use Rattle.am_store.specs.StoreContent.{state_code}
use Rattle.am_replica.specs.Ordered.{Sum, Ordered}
use Rattle.am_replica_digest.specs.Texts.{texts_of}
use Rattle.am_replica_store.specs.Alone.{committed_map, IsIdle, IsInside}
use Rattle.am_replica_trials.specs.Open.{StandsBy}
use Rattle.am_replica_trials.specs.declared.open.OpenTrial.{OpenTrial}

-- the store, as it is with no trial open in it, and how many blocks of the log committed
pub record ReplicaState : Type 0 where
  pub store : StoreState
  pub commits : ℕ

-- the replica, None once it ended, and the answer to the last call
pub record DeskState : Type 0 where
  pub replica : Option ReplicaState
  pub answer : List ℕ

abbrev pub replica_code : Coded ReplicaState
replica_code = code_by (StoreState × ℕ) (coded× state_code coded_ℕ) (λ r. (r.store, r.commits))
    (λ p. record { store = p.0; commits = p.1 }) (λ _. refl)

abbrev pub desk_code : Coded DeskState
desk_code = code_by (Option ReplicaState × List ℕ) (coded× (coded_option replica_code) (coded_list coded_ℕ))
    (λ d. (d.replica, d.answer)) (λ p. record { replica = p.0; answer = p.1 }) (λ _. refl)

-- the store is idle, or the trial is open in it
abbrev pub StandsAt : StoreState → OpenTrial Sha256 → Type 0
StandsAt p trial =
    StandsBy (IsIdle p) (IsInside p p.begun) (λ hasher told. Holds256 hasher (texts_of told)) (committed_map p) trial

-- its committed records, and how many blocks committed
abbrev pub ordered : ReplicaState → Ordered
ordered r = record { map = committed_map r.store; commits = r.commits }

-- the SHA-256 of the texts of answers
abbrev pub answers_digest : List Reply → Sum
answers_digest replies = sha256 (texts_of replies)

abbrev pub first_desk : DeskState
first_desk = record { replica = Some (record { store = empty_state max_runs; commits = 0 }); answer = [] }

abbrev pub commits_at : DeskState → Option ℕ
commits_at d = option_map (λ r. r.commits) d.replica
