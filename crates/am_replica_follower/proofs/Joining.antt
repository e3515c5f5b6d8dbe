-- A replica that begins by a snapshot is where one that read all is.
use Rattle.std.proofs.Common.{◌≡◌, ◌+◌, ◌-◌, ◌≤◌, ◌<◌, ℕ, List, [], ◌∷◌, ◌++◌, Some, None, arith, refl, sym, ap, subst}
use Rattle.std.proofs.Common.{◌∙◌}
use Rattle.std.proofs.lemmas.Option.{none-some, same_Some}
use Rattle.am_record.specs.declared.step.Reply.{Reply}
use Rattle.am_replica_log.specs.declared.event.Event.{Event}
use Rattle.am_replica_log.specs.declared.event.Floor.{Floor}
use Rattle.am_replica_log.specs.History.{Change, Puts, Writes, Moves, Deletes, Others, History, Told, shown}
use Rattle.am_replica_log.specs.History.{revision_of, generation, first_behind, open_pieces}
use Rattle.am_replica_log.specs.History.{floor as floor_of}
use Rattle.am_replica_log.specs.LogState.{LogState}
use Rattle.am_replica_log.specs.Readers.{IsAt}
use Rattle.am_replica_log.proofs.Floors.{revisions_rise}
use Rattle.am_replica_log.proofs.Standing.{begins, follows as reads_on}
use Rattle.am_replica.specs.Ordered.{Sum, Ordered}
use Rattle.am_replica_follower.specs.Following.{Follows}
use Rattle.am_replica_follower.specs.Joining.{Joins, IsLeftAt}
use Rattle.am_replica_follower.proofs.Following.{follows_by, one_place}

-- each change that is told has the next revision
pub told_at : (change : Change) (history : History) (revision : ℕ) (event : Event) (text : List ℕ) →
    shown change history ≡ Some (record { revision = revision; event = event; text = text }) →
    revision_of history + 1 ≡ revision
told_at (Puts g name part bytes) history revision event text told = ap (λ (t : Told). t.revision) (same_Some _ _ told)
told_at (Moves f) history revision event text told = ap (λ (t : Told). t.revision) (same_Some _ _ told)
told_at change history revision event text told = absurd (none-some _ told)

pub joins_at : (digest : List Reply → Sum) (start at : Ordered) (read before : History) (writer log : LogState)
    (floor : Floor) (revision : ℕ) → Follows digest start (read ++ before) writer at →
    IsLeftAt floor revision (read ++ before) →
    revision_of before ≡ first_behind revision (open_pieces (read ++ before)) →
    log ≡ record { floor = floor.since; generation = floor.snapshot.generation - 1; pieces = [] } →
    Joins digest start (read ++ before) before log revision at
joins_at digest start at read before writer log floor revision follows left first is =
    let taken = read ++ before in
    let stood : LogState = record { floor = floor_of taken; generation = generation taken; pieces = [] } in
    let next : floor.snapshot.generation - 1 ≡ generation taken = omega (arith, left.next) in
    let there : log ≡ stood =
    is ∙ (λ i. record { floor = left.since i; generation = next i; pieces = [] }) in
    record {
      rest = read;
      read = [];
      before = before;
      is_front = refl;
      read_on = refl;
      begun = first ∙ ap (λ r. first_behind r (open_pieces taken)) left.up_to;
      reads = subst (λ l. IsAt (revision_of before) l before) (sym there) (begins read before revision left.may first);
      up_to = left.up_to;
      blocks = follows.blocks;
      of = follows.of;
      leads = follows.leads;
    }

module _ (digest : List Reply → Sum) (start : Ordered) (known : ℕ) (at : Ordered) where
  pub begun_before : (taken history : History) (log : LogState) (joins : Joins digest start taken history log known at)
      → revision_of joins.before ≤ revision_of history
  begun_before taken history log joins =
      let rise : revision_of joins.before ≤ revision_of (joins.read ++ joins.before) =
      revisions_rise joins.read joins.before in
      let same : revision_of history ≡ revision_of (joins.read ++ joins.before) = ap revision_of joins.read_on in
      omega arith

  -- what the snapshot has comes until its revision
  pub is_known : (rest history : History) (change : Change) (log : LogState) (revision : ℕ) (event : Event)
      (text : List ℕ) → Joins digest start (rest ++ change ∷ history) history log known at →
      shown change history ≡ Some (record { revision = revision; event = event; text = text }) → revision ≤ known
  is_known rest history change log revision event text joins told =
      let now : revision_of history + 1 ≡ revision = told_at change history revision event text told in
      let rise : revision_of (change ∷ history) ≤ revision_of (rest ++ change ∷ history) =
      revisions_rise rest (change ∷ history) in
      let up_to : known ≡ revision_of (rest ++ change ∷ history) = joins.up_to in
      omega arith

  pub joins_on : (rest history : History) (change : Change) (log log' : LogState)
      (joins : Joins digest start (rest ++ change ∷ history) history log known at) →
      IsAt (revision_of joins.before) log' (change ∷ history) →
      Joins digest start (rest ++ change ∷ history) (change ∷ history) log' known at
  joins_on rest history change log log' joins reads = record {
    rest = rest;
    read = change ∷ joins.read;
    before = joins.before;
    is_front = refl;
    read_on = ap (λ (h : History). change ∷ h) joins.read_on;
    begun = joins.begun;
    reads = reads;
    up_to = joins.up_to;
    blocks = joins.blocks;
    of = joins.of;
    leads = joins.leads;
  }

  pub joined : (history : History) (log : LogState) → Joins digest start history history log known at →
      Follows digest start history log at
  joined history log joins =
      let there : IsAt (revision_of joins.before) log (joins.read ++ joins.before) =
      subst (λ h. IsAt (revision_of joins.before) log h) joins.read_on joins.reads in
      let first : revision_of joins.before ≡ first_behind (revision_of history)
      (open_pieces (joins.read ++ joins.before)) =
      joins.begun ∙ ap (λ h. first_behind (revision_of history) (open_pieces h)) joins.read_on in
      follows_by digest start history log at joins.blocks
      (subst (λ h. IsAt 0 log h) (sym joins.read_on)
      (reads_on joins.read joins.before (revision_of history) log first there))
      joins.of joins.leads

  pub agrees : (history : History) (log other : LogState) (at' : Ordered) →
      Joins digest start history history log known at → Follows digest start history other at' → at ≡ at'
  agrees history log other at' joins follows = one_place digest start history log other at at'
      (joined history log joins) follows

  pub unseen_joins : (rest history : History) (change : Change) (log : LogState) → shown change history ≡ None →
      Joins digest start (rest ++ change ∷ history) history log known at →
      Joins digest start (rest ++ change ∷ history) (change ∷ history) log known at
  unseen_joins rest history (Puts g name part text) log unseen joins = absurd (cc)
  unseen_joins rest history (Moves f) log unseen joins = absurd (cc)
  unseen_joins rest history (Writes s) log unseen joins = joins_on rest history (Writes s) log log joins
      (record {
        floor = joins.reads.floor;
        generation = joins.reads.generation;
        pieces = joins.reads.pieces;
      })
  unseen_joins rest history (Deletes d) log unseen joins = joins_on rest history (Deletes d) log log joins
      (record {
        floor = joins.reads.floor;
        generation = joins.reads.generation;
        pieces = joins.reads.pieces;
      })
  unseen_joins rest history Others log unseen joins = joins_on rest history Others log log joins
      (record {
        floor = joins.reads.floor;
        generation = joins.reads.generation;
        pieces = joins.reads.pieces;
      })
