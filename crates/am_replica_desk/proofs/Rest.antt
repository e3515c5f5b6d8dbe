-- A trial that is open leaves the committed records.
use Rattle.std.proofs.Common.{◌≡◌, List, Some, None, ap}
use Rattle.std.specs.Prelude.{Option, MatchOption}
use Rattle.sha2.specs.Hashers.{Holds256}
use Rattle.sha2.specs.declared.Sha256.{Sha256}
use Rattle.am_record.specs.declared.step.Op.{Op}
use Rattle.am_law_sound.specs.StoreState.{StoreState}
use Rattle.am_replica.specs.Told.{IsTrialOpen}
use Rattle.am_replica_digest.specs.Texts.{texts_of}
use Rattle.am_replica_store.specs.Alone.{committed_map, at_rest, IsIdle, IsInside}
use Rattle.am_replica_store.proofs.Alone.{idle_rest, rest_map}
use Rattle.am_replica_trials.specs.declared.open.OpenTrial.{OpenTrial}
use Rattle.am_replica_desk.specs.Desks.{StandsAt}

by : (p : StoreState) (ops : List Op) (digest : Option Sha256) → MatchOption digest (IsIdle p) (λ hasher.
    IsTrialOpen (IsInside p p.begun) (λ told. Holds256 hasher (texts_of told)) ops (committed_map p)) →
    committed_map (at_rest p) ≡ committed_map p
by p ops None idle = ap committed_map (idle_rest p idle)
by p ops (Some hasher) is_open = rest_map p p.begun ops (committed_map p) is_open.active

pub rest_same : (p : StoreState) (trial : OpenTrial Sha256) → StandsAt p trial →
    committed_map (at_rest p) ≡ committed_map p
rest_same p trial stands = by p _ trial.digest stands
