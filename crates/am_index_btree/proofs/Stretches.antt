-- Entries that rise and are added to an inner node, some of them at once.
use Rattle.std.proofs.Common.{◌≡◌, ℕ, ◌+◌, ◌<◌, ◌++◌, None, Option, List, length, get_or, set, take, drop, sym, ap, ◌∙◌}
use Rattle.std.proofs.Common.{subst}
use Rattle.std.proofs.Math.Seq.{take-add}
use Rattle.std.specs.Prelude.{IsSome}
use Rattle.am_record.specs.declared.entry.Entry.{Entry}
use Rattle.am_record.proofs.Lists.{AllByRecursion-append, AllByRecursion-map}
use Rattle.am_index.specs.Entries.{find, all_inserted, IsRising}
use Rattle.am_index.proofs.Insertions.{AllFree, free_before}
use Rattle.am_index.proofs.Rooms.{keep_on}
use Rattle.am_index_btree.specs.declared.separator.Separator.{Separator}
use Rattle.am_index_btree.specs.EntriesBetween.{GoesAmong}
use Rattle.am_index_btree.specs.Shape.{Shape}
use Rattle.am_index_btree.specs.Rooms.{IsRoomed, KeepsRoom}
use Rattle.am_index_btree.specs.Nodes.{all_entries, all_roomy, depth_of, inner_shape, IsInner}
use Rattle.am_index_btree.proofs.EntriesBetween.{AreAmong, IsEnd, inserted_both, still_stands, among_further}
use Rattle.am_index_btree.proofs.EntriesBetween.{all_among, all_free, put}

-- the first so many of the entries were added below the bound to a node that was seen as that, which has these children
-- now
pub record IsAddedSoFar (old : Shape) (bound : Option Separator) (more : List Entry) (ls : List Separator)
    (ks : List Shape) (rk added : ℕ) : Type 0 where
  pub inner : IsInner ls ks rk
  pub among : AreAmong old.entries bound (take added more)
  pub free : AllFree old.entries (take added more)
  pub entries : all_entries ks ≡ all_inserted (take added more) old.entries
  pub depth : depth_of ks ≡ old.depth
  pub rooms : KeepsRoom old (inner_shape ks)

module _ (old : Shape) (have : IsRoomed old) (bound : Option Separator) (more : List Entry) (ls : List Separator)
    (ks : List Shape) (rk added : ℕ) (before : IsAddedSoFar old bound more ls ks rk added) where
  -- and some of the next ones to one of its children
  pub added_further : (i : ℕ) (k k' : Shape) → i < length ks → k ≡ get_or ks i k → (end : Option Separator) →
      IsEnd ls ks i bound end → (n : ℕ) → IsRising (take n (drop added more)) →
      AreAmong k.entries end (take n (drop added more)) → AllFree k.entries (take n (drop added more)) →
      k'.entries ≡ all_inserted (take n (drop added more)) k.entries → k'.depth ≡ k.depth → KeepsRoom k k' →
      IsAddedSoFar old bound more ls (set ks i k') rk (added + n)
  added_further i k k' lt here end is_end n rise among free h deep keeps =
      let inner = before.inner in let ys = take added more in let xs = take n (drop added more) in
      let both : take (added + n) more ≡ ys ++ xs = take-add added n more in
      let now = put ls ks rk inner i k lt here bound end is_end xs among k' deep h rise free keeps in
      record {
        inner = now.inner;
        among = subst (AreAmong old.entries bound) (sym both)
            (AllByRecursion-append (GoesAmong old.entries bound) ys xs before.among
            (AllByRecursion-map (GoesAmong (all_entries ks) bound) (GoesAmong old.entries bound)
            (λ x b. among_further old.entries bound ys before.among x
            (subst (λ es. GoesAmong es bound x) before.entries b)) xs
            (all_among ls ks rk inner i k lt here bound end is_end xs among)));
        free = subst (AllFree old.entries) (sym both)
            (AllByRecursion-append (λ (x : Entry). find old.entries x.part x.key ≡ None) ys xs before.free
            (AllByRecursion-map (λ (x : Entry). find (all_entries ks) x.part x.key ≡ None)
            (λ (x : Entry). find old.entries x.part x.key ≡ None)
            (λ x f. free_before ys old.entries x.part x.key
            (ap (λ es. find es x.part x.key) (sym before.entries) ∙ f)) xs
            (all_free ls ks rk inner i k lt here bound end is_end xs among free)));
        entries = now.entries ∙ ap (all_inserted xs) before.entries ∙ sym (inserted_both ys xs old.entries) ∙
            ap (λ l. all_inserted l old.entries) (sym both);
        depth = now.depth ∙ before.depth;
        rooms = keep_on old.roomy (all_roomy ks) (all_roomy (set ks i k')) (all_entries ks) (all_entries (set ks i k'))
            before.rooms now.rooms
            (λ part key stood stands. subst (λ es. IsSome (find es part key)) (sym before.entries)
            (still_stands ys old.entries part key (have.places part key stood)));
      }
