-- Where a reader stands after one change more.
use Rattle.std.proofs.Common.{◌≡◌, ℕ, ◌+◌, ◌<◌, ◌≤◌, List, [], ◌∷◌, ◌++◌, Bool, true, false, not, cond, arith, sym, ap}
use Rattle.std.proofs.Common.{◌∙◌, ◌==◌, Some, None}
use Rattle.std.specs.Prelude.{ltb}
use Rattle.std.specs.List.{AllByRecursion}
use Rattle.std.proofs.lemmas.List.Elements.{filter-append}
use Rattle.std.proofs.lemmas.Bool.{lt-ltb, le-ltb, and_from, eq-eqb}
use Rattle.std.proofs.lemmas.Option.{none-some, same_Some}
use Rattle.am_replica_log.specs.declared.event.Name.{Name}
use Rattle.am_replica_log.specs.declared.event.Part.{Part}
use Rattle.am_replica_log.specs.declared.event.Part.TheVariants.{Piece as PiecePart, Head}
use Rattle.am_replica_log.specs.declared.event.Floor.{Floor}
use Rattle.am_replica_log.specs.declared.event.Event.{Event}
use Rattle.am_replica_log.specs.declared.event.Event.TheVariants.{Put, Moved}
use Rattle.am_replica_log.specs.declared.pieces.Piece.{Piece}
use Rattle.am_replica_log.specs.LogState.{LogState}
use Rattle.am_replica_log.specs.History.{Change, Puts, Moves, History, floor, generation, revision_of, same, is_there}
use Rattle.am_replica_log.specs.History.{counts}
use Rattle.am_replica_log.specs.History.{pieces_behind}
use Rattle.am_replica_log.specs.History.{open_pieces, ended_by, Told, shown, first_behind}
use Rattle.am_replica_log.specs.Readers.{behind, IsAt, counted_for}
use Rattle.am_replica_log.proofs.Filters.{each_weaker, filter_keeps, filter_drops, filters_turn}
use Rattle.am_replica_log.proofs.Floors.{floor_came, Came, pieces_came, same_floor, same_generation, first_is_low}
use Rattle.am_replica_log.proofs.Floors.{all_behind_first}

behind_part : (from at : ℕ) (name : Name) (part : Part) (text : List ℕ) (pieces : List Piece) → from < at
    → pieces_behind name part at text (behind from pieces) ≡ behind from (pieces_behind name part at text pieces)
behind_part from at name (PiecePart n) text pieces low =
    let p : Piece = record { entry = name; number = n; revision = at; text = text } in
    ap (λ b. behind from pieces ++ cond b (p ∷ []) []) (sym (lt-ltb from at low))
    ∙ sym (filter-append (λ q. ltb from q.revision) pieces (p ∷ []))
behind_part from at name Head text pieces low =
    filters_turn (λ p. not (same p.entry name)) (λ p. ltb from p.revision) pieces

module _ (from : ℕ) (log : LogState) (b : History) (at : IsAt from log b) where
  pub takes_part : (g : ℕ) (name : Name) (part : Part) (text : List ℕ) → from ≤ revision_of b →
      counts g name part b ≡ true
      → IsAt from (record {
        floor = log.floor;
        generation = log.generation;
        pieces = pieces_behind name part (revision_of b + 1) text log.pieces;
      })
      (Puts g name part text ∷ b)
  takes_part g name part text low counted = record {
    floor = at.floor;
    generation = at.generation;
    pieces = ap (λ pieces. pieces_behind name part (revision_of b + 1) text pieces) at.pieces
        ∙ behind_part from (revision_of b + 1) name part text (open_pieces b) (omega arith)
        ∙ ap (λ t. behind from (cond t (pieces_behind name part (revision_of b + 1) text (open_pieces b))
        (open_pieces b)))
        (sym counted);
  }

  pub tells_part : (g : ℕ) (name : Name) (part : Part) (text : List ℕ) → counts g name part b ≡ true
      → counted_for from (Puts g name part text) b ≡ ended_by name part text log.pieces
  tells_part g name part text counted =
      ap (λ t. cond t (ended_by name part text (behind from (open_pieces b))) None) counted
      ∙ ap (λ pieces. ended_by name part text pieces) (sym at.pieces)

  pub passes_part : (g : ℕ) (name : Name) (part : Part) (text : List ℕ) → counts g name part b ≡ false
      → IsAt from log (Puts g name part text ∷ b)
  passes_part g name part text uncounted = record {
    floor = at.floor;
    generation = at.generation;
    pieces = at.pieces
        ∙ ap (λ t. behind from (cond t (pieces_behind name part (revision_of b + 1) text (open_pieces b))
        (open_pieces b)))
        (sym uncounted);
  }

  pub tells_none : (g : ℕ) (name : Name) (part : Part) (text : List ℕ) → counts g name part b ≡ false
      → counted_for from (Puts g name part text) b ≡ None
  tells_none g name part text uncounted = ap (λ t. cond t (ended_by name part text (behind from (open_pieces b))) None)
      uncounted

-- ---- what is told

module _ (from : ℕ) (log : LogState) (b : History) (is : IsAt from log b) where
  -- a floor that is told in its turn isn't known yet
  pub floor_is_new : (change : Change) (at : ℕ) (event : Event) (text : List ℕ) (f : Floor)
      → shown change b ≡ Some (record { revision = at; event = event; text = text }) → event ≡ Moved f →
      at ≤ log.floor → ⊥
  floor_is_new (Moves g) at event text f told moved known =
      let here : revision_of b + 1 ≡ at = ap (λ (t : Told). t.revision) (same_Some _ _ told) in
      let came : floor b ≤ revision_of b = floor_came b in
      let same_one : log.floor ≡ floor b = is.floor in
      omega arith
  floor_is_new (Puts h other p bytes) at event text f told moved known =
      let put : Put h other p (not (is_there h other p b)) ≡ Moved f = ap (λ (t : Told). t.event) (same_Some _ _ told) ∙
      moved in
      cc
  floor_is_new change at event text f told moved known = absurd (none-some _ told)

  -- a put that counts is taken by its parts
  pub part_is_taken : (change : Change) (at : ℕ) (event : Event) (text : List ℕ) (g : ℕ) (name : Name) (part : Part)
      (new : Bool)
      → from ≤ revision_of b → shown change b ≡ Some (record { revision = at; event = event; text = text }) →
      event ≡ Put g name part new
      → new ≡ true → g ≡ log.generation
      → IsAt from (record {
        floor = log.floor;
        generation = log.generation;
        pieces = pieces_behind name part at text log.pieces;
      }) (change ∷ b)
      × (ended_by name part text log.pieces ≡ counted_for from change b)
  part_is_taken (Puts h other p bytes) at event text g name part new low told put fresh now =
      let revisions : revision_of b + 1 ≡ at = ap (λ (t : Told). t.revision) (same_Some _ _ told) in
      let texts : bytes ≡ text = ap (λ (t : Told). t.text) (same_Some _ _ told) in
      let puts : Put h other p (not (is_there h other p b)) ≡ Put g name part new =
      ap (λ (t : Told). t.event) (same_Some _ _ told) ∙ put in
      let generations : h ≡ g = cc in
      let names : other ≡ name = cc in
      let parts : p ≡ part = cc in
      let gone : not (is_there h other p b) ≡ new = cc in
      let here : h ≡ generation b = generations ∙ now ∙ is.generation in
      let counted : counts h other p b ≡ true =
      and_from (h == generation b) (not (is_there h other p b)) (eq-eqb h (generation b) here) (gone ∙ fresh) in
      rw (← revisions, ← texts, ← names, ← parts)
      (takes_part from log b is h other p bytes low counted, sym (tells_part from log b is h other p bytes counted))
  part_is_taken (Moves f) at event text g name part new low told put fresh now =
      let moved : Moved f ≡ Put g name part new = ap (λ (t : Told). t.event) (same_Some _ _ told) ∙ put in
      absurd (cc)
  part_is_taken change at event text g name part new low told put fresh now = absurd (none-some _ told)

-- ---- a reader that begins by a snapshot

pub begins : (read b : History) (revision : ℕ) → floor (read ++ b) < revision → revision_of b ≡ first_behind revision
    (open_pieces (read ++ b))
    → IsAt (revision_of b) (record { floor = floor (read ++ b); generation = generation (read ++ b); pieces = [] }) b
begins read b revision under first =
    let low : floor (read ++ b) ≤ first_behind revision (open_pieces (read ++ b)) =
    first_is_low (floor (read ++ b)) revision (open_pieces (read ++ b)) (revision_of (read ++ b)) (omega arith)
    (pieces_came (read ++ b)) in
    let here : floor (read ++ b) ≤ revision_of b = omega arith in
    record {
      floor = same_floor read b here;
      generation = same_generation read b here;
      pieces = sym (filter_drops (λ p. ltb (revision_of b) p.revision) (open_pieces b)
          (each_weaker (Came (floor b) (revision_of b)) (λ p. ltb (revision_of b) p.revision ≡ false)
          (λ p came. le-ltb (revision_of b) p.revision came.1) (open_pieces b) (pieces_came b)));
    }

keeps_all : (from : ℕ) (pieces : List Piece) → AllByRecursion (λ p. from < p.revision) pieces →
    behind from pieces ≡ pieces
keeps_all from pieces all = filter_keeps (λ p. ltb from p.revision) pieces
    (each_weaker (λ p. from < p.revision) (λ p. ltb from p.revision ≡ true) (λ p came. lt-ltb from p.revision came)
    pieces all)

pub follows : (read b : History) (revision : ℕ) (log : LogState) → revision_of b ≡ first_behind revision
    (open_pieces (read ++ b))
    → IsAt (revision_of b) log (read ++ b) → IsAt 0 log (read ++ b)
follows read b revision log first at =
    let pieces = open_pieces (read ++ b) in
    let came = pieces_came (read ++ b) in
    let late : AllByRecursion (λ p. revision_of b < p.revision) pieces =
    all_behind_first (floor (read ++ b)) revision pieces (revision_of (read ++ b)) came (revision_of b) (omega arith) in
    let all : AllByRecursion (λ p. 0 < p.revision) pieces =
    each_weaker (λ p. revision_of b < p.revision) (λ p. 0 < p.revision)
    (λ p h. let later : revision_of b < p.revision = h in omega arith) pieces late in
    record {
      floor = at.floor;
      generation = at.generation;
      pieces = at.pieces ∙ keeps_all (revision_of b) pieces late ∙ sym (keeps_all 0 pieces all);
    }
