-- Entries put after those of a node's last child.
use Rattle.std.proofs.Common.{◌≡◌, ◌≢◌, ℕ, zero, suc, ◌<◌, List, [], ◌∷◌, ◌++◌, length, get_or, set, take, drop, sym}
use Rattle.std.proofs.Common.{ap, ◌∙◌, subst, append-nil, append_assoc, length-append, arith}
use Rattle.std.proofs.lemmas.List.{drop_all}
use Rattle.std.specs.declared.cmp.Ordering.TheVariants.{Less}
use Rattle.std.specs.List.{AllByRecursion}
use Rattle.am_record.specs.declared.entry.Entry.{Entry}
use Rattle.am_record.specs.EntryOrder.{Place, place_of, place_cmp, place_cmp-total}
use Rattle.am_record.proofs.Lists.{AllByRecursion-map, AllByRecursion-at}
use Rattle.am_index.specs.Entries.{IsRising}
use Rattle.am_index.specs.Places.{AllBelow, NoneBelow}
use Rattle.am_index.proofs.Lists.{rising_back}
use Rattle.am_index_btree.specs.declared.separator.Separator.{Separator}
use Rattle.am_index_btree.specs.Shape.{Shape}
use Rattle.am_index_btree.specs.Rooms.{KeepsRoom}
use Rattle.am_index_btree.specs.Separators.{separator_place}
use Rattle.am_index_btree.specs.Nodes.{all_entries}
use Rattle.am_index_btree.proofs.Inner.{IsOver}
use Rattle.am_index_btree.proofs.ChildInserts.{own_separator}
use Rattle.am_index_btree.proofs.ChildWalks.{children_cut, children_set}
use Rattle.am_index_btree.proofs.OneChild.{IsEdited, parted_set, with_child}

-- after an entry that is not below a place stands none below it
none_below_more : (l : Place) (es more : List Entry) → 0 < length es → NoneBelow l es → IsRising (es ++ more) →
    NoneBelow l (es ++ more)
none_below_more l [] more some n rising = absurd (omega arith)
none_below_more l (e ∷ es) more some n rising = (
  n.0,
  AllByRecursion-map (λ f. place_cmp (place_of e) (place_of f) ≡ Less) (λ f. place_cmp (place_of f) l ≢ Less)
      (λ f h less. n.0 (place_cmp-total.trans (place_of e) (place_of f) l h less)) (es ++ more) rising.0,
)

some_last : (i : ℕ) (ks : List Shape) (k : Shape) → suc i ≡ length ks → k ≡ get_or ks i k →
    (1 < length ks → AllByRecursion (λ (j : Shape). 0 < length j.entries) ks) → 0 < length (all_entries ks) →
    0 < length k.entries
some_last i [] k last here filled some = absurd (omega arith)
some_last zero (c ∷ []) k last here filled some =
    omega (arith, ap (λ (s : Shape). length s.entries) here, length-append c.entries [])
some_last (suc i) (c ∷ []) k last here filled some = absurd (omega arith)
some_last i (c ∷ j ∷ ks) k last here filled some =
    subst (λ (s : Shape). 0 < length s.entries) (sym here)
    (AllByRecursion-at (λ (s : Shape). 0 < length s.entries) (c ∷ j ∷ ks) i k (filled (omega arith)) (omega arith))

-- a subtree over an inner node, to whose last child more entries come
module _ {s : Shape} {ls : List Separator} {ks : List Shape} {rk : ℕ} (node : IsOver s ls ks rk) (i : ℕ) (k : Shape)
    (last : suc i ≡ length ks) (here : k ≡ get_or ks i k) (more : List Entry) (some : 0 < length s.entries)
    (rising : IsRising (s.entries ++ more)) where
  abbrev before : List Entry
  before = all_entries (take i ks)

  ends : (es : List Entry) → before ++ (es ++ all_entries (drop (suc i) ks)) ≡ before ++ es
  ends es = ap (λ (l : List Shape). before ++ (es ++ all_entries l)) (drop_all (suc i) ks (omega (arith, last))) ∙
      ap (λ l. before ++ l) (append-nil es)

  whole : all_entries ks ≡ before ++ k.entries
  whole = children_cut ks i k (omega (arith, last)) here ∙ ends k.entries

  all_rise : IsRising (all_entries ks ++ more)
  all_rise = subst (λ (t : Shape). IsRising (t.entries ++ more)) node.seen rising

  pub last_some : 0 < length k.entries
  last_some = some_last i ks k last here node.inner.children.filled
      (subst (λ (t : Shape). 0 < length t.entries) node.seen some)

  pub last_rises : IsRising (k.entries ++ more)
  last_rises = rising_back before (k.entries ++ more)
      (subst IsRising (ap (λ es. es ++ more) whole ∙ append_assoc before k.entries more) all_rise)

  pub last_filled : (k' : Shape) → k'.depth ≡ k.depth → k'.entries ≡ k.entries ++ more → KeepsRoom k k' →
      IsEdited s ls (set ks i k') rk (λ es. es ++ more)
  last_filled k' deep h keeps =
      let within : i < length ls = omega (arith, last, node.as_many) in let c = node.inner.children in
      with_child node i k (omega (arith, last)) here (λ es. es ++ more) k' deep
      (parted_set i ls ks k' c.parted within
      (λ d. subst (NoneBelow (separator_place (get_or ls i d))) (sym h) (none_below_more
      (separator_place (get_or ls i d)) k.entries more last_some (own_separator i ls ks k d c.parted within here)
      last_rises))
      (subst (AllByRecursion (λ m. AllBelow (separator_place m) k'.entries))
      (sym (drop_all (suc i) ls (omega (arith, last, node.as_many)))) tt))
      (children_set ks i k' (omega (arith, last)) ∙ ends k'.entries ∙ ap (λ es. before ++ es) h ∙
      sym (ap (λ es. es ++ more) whole ∙ append_assoc before k.entries more)) all_rise keeps
      (λ _. omega (arith, last_some, ap length h, length-append k.entries more))
