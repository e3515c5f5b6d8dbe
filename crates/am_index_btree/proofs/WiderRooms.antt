-- Room for values that was got below a node.
use Rattle.std.proofs.Common.{◌≡◌, ℕ, ◌≤◌, true, List, ◌++◌, Option, None}
use Rattle.std.proofs.Common.{Some}
use Rattle.std.proofs.Common.{Result, Ok, Err, IfOk, OnErr, IsSome, refl, sym, ap, ◌∙◌, subst}
use Rattle.std.proofs.Common.{arith}
use Rattle.am_record.specs.OrderedKey.{OrderedKey}
use Rattle.am_record.specs.declared.entry.Entry.{Entry}
use Rattle.am_index.specs.Entries.{find, insert_entry}
use Rattle.am_index.specs.Rooms.{is_among, KeepRoom}
use Rattle.am_index.proofs.Rooms.{among_all, keep_all, keep_on}
use Rattle.am_index_leaf.specs.LeafCode.{Seen, Widened, ValuesHaveRoom}
use Rattle.am_index_btree.specs.declared.insert.Split.{Split}
use Rattle.am_index_btree.specs.Shape.{Shape}
use Rattle.am_index_btree.specs.Rooms.{IsRoomed, KeepsRoom, IsWidened}
use Rattle.am_index_btree.specs.InsertResults.{Grows, NowHolds, NowRoomed}
use Rattle.am_index_btree.specs.Nodes.{leaf_roomy, leaf_shape}
use Rattle.am_index_btree.proofs.ValueRooms.{among_wide, wide_from, leaf_keeps, roomy_wide}

-- ---- a leaf

among_widened : (old mid : Seen) → Widened mid old → (part : ℕ) (key : OrderedKey) →
    is_among (leaf_roomy old) part key ≡ true → is_among (leaf_roomy mid) part key ≡ true
among_widened old mid w part key among =
    let wide = wide_from old part key among in
    among_wide mid part key (omega (arith, wide, w.values))
    (subst (λ es. IsSome (find es part key)) (sym w.entries) (sym (among_all old.entries part key) ∙
    sym (ap (λ rs. is_among rs part key) (roomy_wide old wide)) ∙ among))

keep_widened : (old mid : Seen) → Widened mid old → (rs : List (ℕ × OrderedKey)) (es : List Entry) →
    KeepRoom (leaf_roomy mid) rs es → KeepRoom (leaf_roomy old) rs es
keep_widened old mid w rs es keep = record {
  kept = λ part key among stands. keep.kept part key (among_widened old mid w part key among) stands;
  have = keep.have;
}

now_widened : (old mid : Seen) → Widened mid old → (new : Shape) (r : Option Split) → NowRoomed (leaf_shape mid) new r →
    NowRoomed (leaf_shape old) new r
now_widened old mid w new None keep = keep_widened old mid w new.roomy new.entries keep
now_widened old mid w new (Some s) split = record {
  kept = keep_widened old mid w (new.roomy ++ s.right.roomy) (new.entries ++ s.right.entries) split.kept;
  roomed = split.roomed;
  right_roomed = split.right_roomed;
}

-- an insert after it was widened
pub grows_widened : (old mid : Seen) → Widened mid old → (new : Shape) (e : Entry) (n : ℕ) (r : Option Split) →
    Grows (leaf_shape mid) new e n r → Grows (leaf_shape old) new e n r
grows_widened old mid w new e n r grows = (
  subst (λ es. NowHolds 0 (insert_entry es e) new r) w.entries grows.0,
  (grows.1.0, now_widened old mid w new r grows.1.1),
)

pub leaf_widened : (old new : Seen) → new.entries ≡ old.entries → ValuesHaveRoom new → old.value_room ≤ new.value_room →
    IsWidened (leaf_shape old) (leaf_shape new)
leaf_widened old new same has more = record {
  depth = refl;
  entries = same;
  room = leaf_keeps old new has more;
}

-- ---- a subtree

pub unchanged : (s : Shape) → IsRoomed s → IsWidened s s
unchanged s roomed = record { depth = refl; entries = refl; room = keep_all s.roomy s.entries roomed }

-- the node as it is, alone or with a new right sibling, after an edit of its children
pub now_after : (old mid new : Shape) (d : ℕ) (r : Option Split) → KeepsRoom old mid → NowHolds d mid.entries new r →
    NowRoomed mid new r → NowRoomed old new r
now_after old mid new d None keep holds more =
    keep_on old.roomy mid.roomy new.roomy mid.entries new.entries keep more
    (λ part key among. subst (λ es. IsSome (find es part key)) holds.1)
now_after old mid new d (Some s) keep holds more = record {
  kept = keep_on old.roomy mid.roomy (new.roomy ++ s.right.roomy) mid.entries (new.entries ++ s.right.entries) keep
      more.kept (λ part key among. subst (λ es. IsSome (find es part key)) holds.entries);
  roomed = more.roomed;
  right_roomed = more.right_roomed;
}

-- ---- what is said of a result

pub if_ok_map : {T E : Type 0} (P Q : T → Type 0) → ((x : T) → P x → Q x) → (r : Result T E) → IfOk r P → IfOk r Q
if_ok_map P Q f (Ok x) h = f x h
if_ok_map P Q f (Err e) h = tt

pub on_err_map : {T E P Q : Type 0} → (P → Q) → (r : Result T E) → OnErr r P → OnErr r Q
on_err_map f (Ok x) h = tt
on_err_map f (Err e) h = f h
