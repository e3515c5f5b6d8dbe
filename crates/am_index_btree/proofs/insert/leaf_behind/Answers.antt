use Rattle.std.proofs.Common.{◌≡◌, ◌++◌, [], ◌∷◌, List, length, refl, sym, ap, ◌∙◌, subst, arith}
use Rattle.std.specs.List.{insert}
use Rattle.std.proofs.lemmas.List.Edits.{insert_end}
use Rattle.am_record.specs.declared.entry.Entry.{Entry}
use Rattle.am_index.specs.Entries.{IsRising}
use Rattle.am_index.proofs.Searches.{insert_gap, rising_insert_gap}
use Rattle.am_index.specs.Places.{NoneBelow}
use Rattle.am_index_btree.specs.Separators.{separator_place}
use Rattle.am_index_btree.proofs.LeafSplit.{parted_at}
use Rattle.am_index_btree.proofs.ValueRooms.{leaf_and_next}
use Rattle.am_index_btree.proofs.insert.leaf_behind.Goals as goal

pub returns : goal.returns
returns c =
    let xs = c.args.leaf.now.entries in
    let x = c.args.entry.now in
    let alone : c.insert_at.new.self.entries ≡ x ∷ [] =
    c.insert_at.ensures.entries ∙ ap (λ (l : List Entry). insert l 0 x) c.in_ok-right.ensures.empty in
    let at_end : insert xs 32 x ≡ xs ++ x ∷ [] = ap (λ n. insert xs n x) (sym c.requires.full) ∙ insert_end xs x in
    let risen : IsRising (xs ++ x ∷ []) = subst IsRising at_end
    (rising_insert_gap xs x 32 c.requires.behind c.len.ensures.rising) in
    let parted = parted_at xs (x ∷ []) (separator_place c.of.result) risen (omega arith)
    (λ d. ap separator_place c.of.ensures) in (
      record {
        depth = refl;
        right_depth = refl;
        entries = ap (λ (l : List Entry). xs ++ l) alone ∙ sym at_end ∙ insert_gap xs x 32 c.requires.behind;
        below = parted.0;
        others = subst (λ (l : List Entry). NoneBelow (separator_place c.of.result) l) (sym alone) parted.1;
        left_some = omega (arith, c.requires.full);
        left_half = omega (arith, c.requires.full);
        right_some = omega (arith, ap (λ (l : List Entry). length l) alone);
      },
      (
        c.in_ok-spares.ensures,
        leaf_and_next c.args.leaf.now c.insert_at.new.self c.len.ensures.room c.len-3.ensures.room,
      ),
    )
