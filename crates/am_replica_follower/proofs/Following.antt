-- A replica that follows the log, change by change.
use Rattle.std.proofs.Common.{◌≡◌, inl, inr, ℕ, ◌<◌, ◌≤◌, List, [], ◌∷◌, ◌++◌, cond, true, Option, Some, None}
use Rattle.std.proofs.Common.{refl, sym, ap, ◌∙◌, subst, arith}
use Rattle.std.specs.Prelude.{ltb, option_to_list}
use Rattle.std.proofs.lemmas.Bool.{lt-ltb}
use Rattle.am_record.specs.declared.step.Reply.{Reply}
use Rattle.am_replica_log.specs.declared.pieces.Piece.{Piece}
use Rattle.am_replica_log.specs.declared.pieces.Entry.{Entry}
use Rattle.am_replica_log.specs.History.{Writes, Moves, Deletes, Others, shown}
use Rattle.am_replica_log.specs.History.{History, Change, Puts, counts, ended_by, counted_by, counted_entries}
use Rattle.am_replica_log.specs.History.{open_pieces, floor}
use Rattle.am_replica_log.specs.History.{revision_of}
use Rattle.am_replica_log.specs.LogState.{LogState}
use Rattle.am_replica_log.specs.Readers.{IsAt, behind, counted_for}
use Rattle.am_replica_log.proofs.Filters.{filter_keeps, each_weaker}
use Rattle.am_replica_log.proofs.Floors.{pieces_came}
use Rattle.am_replica.specs.Ordered.{Sum, Ordered, after_block, after_blocks}
use Rattle.am_replica.specs.declared.block.Block.{Block}
use Rattle.am_replica.proofs.Serial.{in_turn, left_in_turn}
use Rattle.am_replica_texts.proofs.Entries.{one_outcome}
use Rattle.am_replica_texts.specs.declared.apply.EntryOutcome.{EntryOutcome}
use Rattle.am_replica_texts.specs.declared.apply.EntryOutcome.TheVariants.{Applied, Nothing}
use Rattle.am_replica_follower.specs.Following.{AreOf, AreOfAll, Follows, IsTaken, IsTold}

-- ---- a reader from the beginning on is told of each entry that counts

all_came : (b : History) → behind 0 (open_pieces b) ≡ open_pieces b
all_came b = filter_keeps (λ p. ltb 0 p.revision) (open_pieces b)
    (each_weaker (λ (p : Piece). (floor b < p.revision) × (p.revision ≤ revision_of b)) (λ p. ltb 0 p.revision ≡ true)
    (λ p came. let low : floor b < p.revision = came.0 in lt-ltb 0 p.revision (omega arith)) (open_pieces b)
    (pieces_came b))

pub counted_all : (change : Change) (before : History) → counted_for 0 change before ≡ counted_by change before
counted_all (Puts g name part text) before =
    ap (λ pieces. cond (counts g name part before) (ended_by name part text pieces) None) (all_came before)
counted_all change before = refl

-- ---- blocks after blocks

after_both : (digest : List Reply → Sum) (front last : List Block) (s : Ordered) →
    after_blocks digest (front ++ last) s ≡ after_blocks digest last (after_blocks digest front s)
after_both digest [] last s = refl
after_both digest (b ∷ front) last s = after_both digest front last (after_block digest b s)

pub follows_by : (digest : List Reply → Sum) (start : Ordered) (history : History) (log : LogState) (at : Ordered)
    (blocks : List Block) → IsAt 0 log history → AreOfAll digest (counted_entries history) blocks →
    at ≡ after_blocks digest blocks start → Follows digest start history log at
follows_by digest start history log at blocks reads of leads = record {
  reads = reads;
  blocks = blocks;
  of = of;
  leads = leads;
  serial = in_turn digest blocks start;
  left = ap (λ (s : Ordered). s.map) leads ∙ left_in_turn digest blocks start;
}

pub follows_none : (digest : List Reply → Sum) (start at : Ordered) (log : LogState) → IsAt 0 log [] → start ≡ at →
    Follows digest start [] log at
follows_none digest start at log reads same = follows_by digest start [] log at [] reads refl (sym same)

-- what came of an entry, as its blocks
taken_by : (digest : List Reply → Sum) (text : Option (List ℕ)) (old new : Ordered) (told : EntryOutcome) →
    IsTaken digest text old told new → (last : List Block) × AreOf digest text last ×
    (new ≡ after_blocks digest last old)
taken_by digest None old new told is = ([], refl, is.1)
taken_by digest (Some text) old new (Applied outcomes) is = (is.blocks, inl is.of, is.leads)
taken_by digest (Some text) old new Nothing is = ([], inr (is.0, refl), is.1)

told_by : (digest : List Reply → Sum) (counted : Option Entry) (entries : List Entry) (blocks : List Block)
    (start old new : Ordered) (told : Option EntryOutcome) → AreOfAll digest entries blocks →
    old ≡ after_blocks digest blocks start → IsTold digest counted old told new → (all : List Block) ×
    AreOfAll digest (option_to_list counted ++ entries) all × (new ≡ after_blocks digest all start)
told_by digest None entries blocks start old new None of leads is = (blocks, of, is ∙ leads)
told_by digest (Some e) entries blocks start old new (Some told) of leads is =
    let taken = taken_by digest e.text old new told is in (
      blocks ++ taken.0,
      (blocks, taken.0, refl, of, taken.1),
      taken.2 ∙ ap (after_blocks digest taken.0) leads ∙ sym (after_both digest blocks taken.0 start),
    )
told_by digest None entries blocks start old new (Some told) of leads is = absurd is
told_by digest (Some e) entries blocks start old new None of leads is = absurd is

pub follows_on : (digest : List Reply → Sum) (start : Ordered) (history : History) (change : Change)
    (log log' : LogState)
    (old new : Ordered) (told : Option EntryOutcome) → Follows digest start history log old →
    IsAt 0 log' (change ∷ history) → IsTold digest (counted_by change history) old told new →
    Follows digest start (change ∷ history) log' new
follows_on digest start history change log log' old new told follows reads is =
    let all = told_by digest (counted_by change history) (counted_entries history) follows.blocks start old new told
    follows.of
    follows.leads is in
    follows_by digest start (change ∷ history) log' new all.0 reads all.1 all.2

-- ---- one place

last_once : (digest : List Reply → Sum) (text : Option (List ℕ)) (a b : List Block) (s : Ordered) →
    AreOf digest text a → AreOf digest text b → after_blocks digest a s ≡ after_blocks digest b s
last_once digest None a b s of_a of_b = ap (λ blocks. after_blocks digest blocks s) (of_a ∙ sym of_b)
last_once digest (Some text) a b s (inl of_a) (inl of_b) = (one_outcome digest text a b s of_a of_b).1
last_once digest (Some text) a b s (inl of_a) (inr of_b) = absurd (of_b.0 a of_a)
last_once digest (Some text) a b s (inr of_a) (inl of_b) = absurd (of_a.0 b of_b)
last_once digest (Some text) a b s (inr of_a) (inr of_b) = ap (λ blocks. after_blocks digest blocks s)
    (of_a.1 ∙ sym of_b.1)

all_once : (digest : List Reply → Sum) (entries : List Entry) (a b : List Block) (s : Ordered) →
    AreOfAll digest entries a → AreOfAll digest entries b → after_blocks digest a s ≡ after_blocks digest b s
all_once digest [] a b s of_a of_b = ap (λ blocks. after_blocks digest blocks s) (of_a ∙ sym of_b)
all_once digest (e ∷ entries) a b s (front_a, last_a, is_a, rest_a, of_a) (front_b, last_b, is_b, rest_b, of_b) =
    ap (λ blocks. after_blocks digest blocks s) is_a
    ∙ after_both digest front_a last_a s
    ∙ ap (after_blocks digest last_a) (all_once digest entries front_a front_b s rest_a rest_b)
    ∙ last_once digest e.text last_a last_b (after_blocks digest front_b s) of_a of_b
    ∙ sym (after_both digest front_b last_b s)
    ∙ ap (λ blocks. after_blocks digest blocks s) (sym is_b)

pub one_place : (digest : List Reply → Sum) (start : Ordered) (history : History) (log other : LogState)
    (at at' : Ordered) → Follows digest start history log at → Follows digest start history other at' → at ≡ at'
one_place digest start history log other at at' a b =
    a.leads ∙ all_once digest (counted_entries history) a.blocks b.blocks start a.of b.of ∙ sym b.leads

-- ---- what a change tells

-- the entry that was given is the one that counts
pub given_counts : (change : Change) (history : History) (given : Option Entry) →
    given ≡ counted_for 0 change history → counted_by change history ≡ given
given_counts change history given is = sym (counted_all change history) ∙ sym is

pub none_told : (digest : List Reply → Sum) (counted : Option Entry) (s : Ordered) → counted ≡ None →
    IsTold digest counted s None s
none_told digest counted s is = subst (λ e. IsTold digest e s None s) (sym is) refl

pub some_told : (digest : List Reply → Sum) (counted : Option Entry) (entry : Entry) (old new : Ordered)
    (told : EntryOutcome) → counted ≡ Some entry → IsTaken digest entry.text old told new →
    IsTold digest counted old (Some told) new
some_told digest counted entry old new told is taken = subst (λ e. IsTold digest e old (Some told) new) (sym is) taken

-- ---- what no reader is told of

keeps : (digest : List Reply → Sum) (start : Ordered) (history : History) (change : Change) (log : LogState)
    (at : Ordered) → IsAt 0 log (change ∷ history) → counted_by change history ≡ None →
    Follows digest start history log at → Follows digest start (change ∷ history) log at
keeps digest start history change log at reads none follows = follows_on digest start history change log log at at None
    follows reads (none_told digest (counted_by change history) at none)

pub unseen_keeps : (digest : List Reply → Sum) (start : Ordered) (history : History) (change : Change) (log : LogState)
    (at : Ordered) → shown change history ≡ None → Follows digest start history log at →
    Follows digest start (change ∷ history) log at
unseen_keeps digest start history (Puts g name part text) log at unseen follows = absurd (cc)
unseen_keeps digest start history (Moves f) log at unseen follows = absurd (cc)
unseen_keeps digest start history (Writes s) log at unseen follows = keeps digest start history (Writes s) log at
    (record {
      floor = follows.reads.floor;
      generation = follows.reads.generation;
      pieces = follows.reads.pieces;
    }) refl follows
unseen_keeps digest start history (Deletes d) log at unseen follows = keeps digest start history (Deletes d) log at
    (record {
      floor = follows.reads.floor;
      generation = follows.reads.generation;
      pieces = follows.reads.pieces;
    }) refl follows
unseen_keeps digest start history Others log at unseen follows = keeps digest start history Others log at
    (record {
      floor = follows.reads.floor;
      generation = follows.reads.generation;
      pieces = follows.reads.pieces;
    }) refl follows
