-- Drafts that agree on some keys, in their maps and in all that they saved, and what operations do with them.
use Rattle.std.proofs.Common.{◌≡◌, List, [], ◌∷◌, Bool, true, false, refl, ◌∙◌}
use Rattle.am_record.specs.OrderedKey.{OrderedKey}
use Rattle.am_record.specs.declared.step.Op.{Op}
use Rattle.am_record.specs.declared.step.Op.TheVariants.{Get, Scan, ScanBack, Insert, Replace, Set, Delete}
use Rattle.am_record.specs.declared.step.Op.TheVariants.{DeleteRange, Load, Put, Lock as TakeLock, Mark, Back}
use Rattle.am_record.specs.Plain.{PlainMap, Draft, fresh, went_back, draft_back, answer, draft_after, is_orderly}
use Rattle.am_law_serial.specs.Agreement.{Agree, AllAgree, Alike, AllHave, Has}
use Rattle.am_law_serial.proofs.Maps.{reads, writes, Within, agree_within, answer_local, after_local, after_frame}

pub fresh_alike : {S : OrderedKey → Bool} {m n : PlainMap} → Agree S m n → Alike S (fresh m) (fresh n)
fresh_alike a = record { map = a; saved = tt }

went_back_alike : (S : OrderedKey → Bool) (ms ns : List PlainMap) → AllAgree S ms ns → went_back ms ≡ went_back ns
went_back_alike S [] [] a = refl
went_back_alike S (m ∷ ms) (n ∷ ns) a = refl
went_back_alike S [] (n ∷ ns) a = absurd a
went_back_alike S (m ∷ ms) [] a = absurd a

back_alike : (S : OrderedKey → Bool) (ms ns : List PlainMap) (d e : Draft) → AllAgree S ms ns → Alike S d e →
    Alike S (draft_back ms d) (draft_back ns e)
back_alike S [] [] d e a h = h
back_alike S (m ∷ ms) (n ∷ ns) d e a h = record { map = a.0; saved = a.1 }
back_alike S [] (n ∷ ns) d e a h = absurd a
back_alike S (m ∷ ms) [] d e a h = absurd a

-- drafts that agree on what an operation may read get the same answer
pub same_answer : {S : OrderedKey → Bool} (op : Op) (d e : Draft) → is_orderly op ≡ true → Within (reads op) S →
    Alike S d e → answer op d ≡ answer op e
same_answer (Get k) d e o w a = answer_local (Get k) d.map e.map o (agree_within w a.map)
same_answer (Scan range max) d e o w a = answer_local (Scan range max) d.map e.map o (agree_within w a.map)
same_answer (ScanBack range max) d e o w a = answer_local (ScanBack range max) d.map e.map o (agree_within w a.map)
same_answer (Insert k v) d e o w a = answer_local (Insert k v) d.map e.map o (agree_within w a.map)
same_answer (Replace k v) d e o w a = answer_local (Replace k v) d.map e.map o (agree_within w a.map)
same_answer (Set k v) d e o w a = refl
same_answer (Delete k) d e o w a = answer_local (Delete k) d.map e.map o (agree_within w a.map)
same_answer (DeleteRange range max) d e o w a =
    answer_local (DeleteRange range max) d.map e.map o (agree_within w a.map)
same_answer (Load records) d e o w a = answer_local (Load records) d.map e.map o (agree_within w a.map)
same_answer (Put records) d e o w a = refl
same_answer (TakeLock lock) d e o w a = refl
same_answer Mark d e o w a = refl
same_answer {S} Back d e o w a = went_back_alike S d.saved e.saved a.saved

-- and go on agreeing
pub still_alike : {S : OrderedKey → Bool} (op : Op) (d e : Draft) → is_orderly op ≡ true → Within (reads op) S →
    Alike S d e → Alike S (draft_after op d) (draft_after op e)
still_alike (Get k) d e o w a = record { map = after_local (Get k) d.map e.map o w a.map; saved = a.saved }
still_alike (Scan range max) d e o w a = record {
  map = after_local (Scan range max) d.map e.map o w a.map;
  saved = a.saved;
}
still_alike (ScanBack range max) d e o w a = record {
  map = after_local (ScanBack range max) d.map e.map o w a.map;
  saved = a.saved;
}
still_alike (Insert k v) d e o w a = record { map = after_local (Insert k v) d.map e.map o w a.map; saved = a.saved }
still_alike (Replace k v) d e o w a = record { map = after_local (Replace k v) d.map e.map o w a.map; saved = a.saved }
still_alike (Set k v) d e o w a = record { map = after_local (Set k v) d.map e.map o w a.map; saved = a.saved }
still_alike (Delete k) d e o w a = record { map = after_local (Delete k) d.map e.map o w a.map; saved = a.saved }
still_alike (DeleteRange range max) d e o w a = record {
  map = after_local (DeleteRange range max) d.map e.map o w a.map;
  saved = a.saved;
}
still_alike (Load records) d e o w a = record {
  map = after_local (Load records) d.map e.map o w a.map;
  saved = a.saved;
}
still_alike (Put records) d e o w a = record { map = after_local (Put records) d.map e.map o w a.map; saved = a.saved }
still_alike (TakeLock lock) d e o w a = record { map = a.map; saved = a.saved }
still_alike Mark d e o w a = record { map = a.map; saved = (a.map, a.saved) }
still_alike {S} Back d e o w a = back_alike S d.saved e.saved d e a.saved a

pub fresh_has : (q : OrderedKey) (m : PlainMap) → Has q m (fresh m)
fresh_has q m = record { map = refl; saved = tt }

back_has : (q : OrderedKey) (m : PlainMap) (ms : List PlainMap) (d : Draft) → AllHave q m ms → Has q m d →
    Has q m (draft_back ms d)
back_has q m [] d a h = h
back_has q m (n ∷ ns) d a h = record { map = a.0; saved = a.1 }

-- an operation leaves each key as it is that it hasn't exclusively locked
pub still_has : (op : Op) (d : Draft) (q : OrderedKey) (m : PlainMap) → is_orderly op ≡ true → writes op q ≡ false →
    Has q m d → Has q m (draft_after op d)
still_has (Get k) d q m o w h = h
still_has (Scan range max) d q m o w h = h
still_has (ScanBack range max) d q m o w h = h
still_has (TakeLock lock) d q m o w h = h
still_has Mark d q m o w h = record { map = h.map; saved = (h.map, h.saved) }
still_has Back d q m o w h = back_has q m d.saved d h.saved h
still_has op d q m o w h = record { map = after_frame op d.map q o w ∙ h.map; saved = h.saved }
