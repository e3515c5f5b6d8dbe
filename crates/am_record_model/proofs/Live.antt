-- The records among slots.
use Rattle.std.proofs.Common.{◌≡◌, ◌≢◌, IsSome, ℕ, Bool, true, false, cond, List, [], ◌∷◌, Option, Some, None, filter}
use Rattle.std.proofs.Common.{refl, sym, ap, ◌∙◌, subst}
use Rattle.std.specs.Option.{option_flatten, is_some, unwrap_or}
use Rattle.std.proofs.lemmas.Bool.{and_from, and_parts, false≢true}
use Rattle.std.specs.Ordering.{is_lt, is_eq, eq_by_cmp}
use Rattle.std.specs.FinMap.{find, get, contains_key, insert, remove, entries, entries_sorted, get-entries, get-empty}
use Rattle.std.specs.FinMap.{get-from_entries, get-insert, get-remove, same_map, is_sorted}
use Rattle.std.specs.FinMap as map
use Rattle.std.specs.FinMap.Entries.{below_all}
use Rattle.am_record.specs.OrderedKey.{OrderedKey, key_cmp, key_cmp-total, key_cmp-exact, key_eq-exact, key_cmp-itself}
use Rattle.am_record.specs.Plain.{Records, PlainMap}
use Rattle.am_record.proofs.Outcomes.{is_true}
use Rattle.am_record.proofs.Orderings.{lt_not_eq}
use Rattle.am_record_model.specs.Slots.{Cell, Cells, live, records_of_cells, record_before, with_cell, IsNoPlace}
use Rattle.am_record_model.proofs.SortedEntries.{entries_stay}

abbrev Entries : Type 0
Entries = List (OrderedKey × Cell)

-- ---- the order stays

below_record : (k key : OrderedKey) (s : Cell) (rs : Records) → is_lt (key_cmp k key) ≡ true →
    below_all key_cmp k rs ≡ true → below_all key_cmp k (record_before key s rs) ≡ true
below_record k key None rs h rest = rest
below_record k key (Some v) rs h rest = and_from (is_lt (key_cmp k key)) (below_all key_cmp k rs) h rest

below_live : (k : OrderedKey) (es : Entries) → below_all key_cmp k es ≡ true →
    below_all key_cmp k (records_of_cells es) ≡ true
below_live k [] h = refl
below_live k (e ∷ es) h =
    let both = and_parts (is_lt (key_cmp k e.0)) (below_all key_cmp k es) h in
    below_record k e.0 e.1 (records_of_cells es) both.0 (below_live k es both.1)

sorted_record : (key : OrderedKey) (s : Cell) (rs : Records) → below_all key_cmp key rs ≡ true →
    is_sorted key_cmp rs ≡ true → is_sorted key_cmp (record_before key s rs) ≡ true
sorted_record key None rs h rest = rest
sorted_record key (Some v) rs h rest = and_from (below_all key_cmp key rs) (is_sorted key_cmp rs) h rest

sorted_live : (es : Entries) → is_sorted key_cmp es ≡ true → is_sorted key_cmp (records_of_cells es) ≡ true
sorted_live [] h = refl
sorted_live (e ∷ es) h =
    let both = and_parts (below_all key_cmp e.0 es) (is_sorted key_cmp es) h in
    sorted_record e.0 e.1 (records_of_cells es) (below_live e.0 es both.0) (sorted_live es both.1)

pub entries_live : (slots : Cells) → entries (live slots) ≡ records_of_cells (entries slots)
unfolding live
entries_live slots = entries_stay (records_of_cells (entries slots))
    (sorted_live (entries slots) (is_true _ (entries_sorted slots)))

-- records in a range
where_record : (test : OrderedKey → Bool) (key : OrderedKey) (s : Cell) (es : Entries) (rs : Records) (b : Bool) →
    test key ≡ b → records_of_cells es ≡ filter (λ (r : OrderedKey × List ℕ). test r.0) rs →
    records_of_cells (cond b ((key, s) ∷ es) es) ≡ filter (λ (r : OrderedKey × List ℕ). test r.0)
    (record_before key s rs)
where_record test key None es rs true is rest = rest
where_record test key None es rs false is rest = rest
where_record test key (Some v) es rs true is rest =
    ap (λ xs. (key, v) ∷ xs) rest ∙ sym (ap (λ b. cond b ((key, v) ∷ filter (λ (r : OrderedKey × List ℕ). test r.0) rs)
    (filter (λ (r : OrderedKey × List ℕ). test r.0) rs)) is)
where_record test key (Some v) es rs false is rest =
    rest ∙ sym (ap (λ b. cond b ((key, v) ∷ filter (λ (r : OrderedKey × List ℕ). test r.0) rs)
    (filter (λ (r : OrderedKey × List ℕ). test r.0) rs)) is)

pub live_where : (test : OrderedKey → Bool) (es : Entries) →
    records_of_cells (filter (λ (e : OrderedKey × Cell). test e.0) es) ≡ filter (λ (e : OrderedKey × List ℕ). test e.0)
    (records_of_cells es)
live_where test [] = refl
live_where test (e ∷ es) = where_record test e.0 e.1 (filter (λ (x : OrderedKey × Cell). test x.0) es)
    (records_of_cells es) (test e.0) refl (live_where test es)

-- ---- what stands under a key

not_above : (k : OrderedKey) (es : Entries) → below_all key_cmp k es ≡ true → find key_cmp k es ≡ None
not_above k [] h = refl
not_above k (e ∷ es) h =
    let both = and_parts (is_lt (key_cmp k e.0)) (below_all key_cmp k es) h in
    ap (λ b. cond b (Some e.1) (find key_cmp k es)) (lt_not_eq (key_cmp k e.0) both.0) ∙ not_above k es both.1

find_record : (q key : OrderedKey) (s : Cell) (o : Option Cell) (rs : Records) (b : Bool) →
    eq_by_cmp key_cmp q key ≡ b → (b ≡ true → o ≡ None) → find key_cmp q rs ≡ option_flatten o →
    find key_cmp q (record_before key s rs) ≡ option_flatten (cond b (Some s) o)
find_record q key None o rs true is gone rest = rest ∙ ap option_flatten (gone refl)
find_record q key None o rs false is gone rest = rest
find_record q key (Some v) o rs true is gone rest = ap (λ b. cond b (Some v) (find key_cmp q rs)) is
find_record q key (Some v) o rs false is gone rest = ap (λ b. cond b (Some v) (find key_cmp q rs)) is ∙ rest

find_live : (q : OrderedKey) (es : Entries) → is_sorted key_cmp es ≡ true → find key_cmp q (records_of_cells es) ≡
    option_flatten (find key_cmp q es)
find_live q [] h = refl
find_live q (e ∷ es) h =
    let both = and_parts (below_all key_cmp e.0 es) (is_sorted key_cmp es) h in
    find_record q e.0 e.1 (find key_cmp q es) (records_of_cells es) (eq_by_cmp key_cmp q e.0) refl
    (λ is. not_above q es (subst (λ k. below_all key_cmp k es ≡ true) (sym (key_eq-exact q e.0 is)) both.0))
    (find_live q es both.1)

pub get_live : (slots : Cells) (q : OrderedKey) → get (live slots) q ≡ option_flatten (get slots q)
unfolding live
get_live slots q =
    get-from_entries key_cmp-total (records_of_cells (entries slots)) q ∙
    find_live q (entries slots) (is_true _ (entries_sorted slots))
    ∙ ap option_flatten (sym (get-entries slots q))

same : (m n : PlainMap) → ((q : OrderedKey) → get m q ≡ get n q) → m ≡ n
same m n is = same_map key_cmp-total key_cmp-exact m n is

pub live_empty : live map.empty ≡ map.empty
live_empty = same _ _ (λ q. get_live map.empty q ∙ ap option_flatten (get-empty key_cmp q) ∙ sym (get-empty key_cmp q))

-- ---- changes

flat_cond : (b : Bool) (o p : Option Cell) → option_flatten (cond b o p) ≡ cond b (option_flatten o) (option_flatten p)
flat_cond true o p = refl
flat_cond false o p = refl

got_put : {X : Type 0} (m : map.FinMap key_cmp X) (k : OrderedKey) (o : Option X) (q : OrderedKey) →
    get (with_cell m k o) q ≡ cond (eq_by_cmp key_cmp q k) o (get m q)
got_put m k None q = get-remove key_cmp-total m k q
got_put m k (Some x) q = get-insert key_cmp-total m k x q

pub got_there : {X : Type 0} (m : map.FinMap key_cmp X) (k : OrderedKey) (x : X) → get (insert m k x) k ≡ Some x
got_there m k x = get-insert key_cmp-total m k x k ∙ ap (λ o. cond (is_eq o) (Some x) (get m k)) (key_cmp-itself k)

pub live_put : (slots : Cells) (k : OrderedKey) (o : Option Cell) → live (with_cell slots k o) ≡ with_cell (live slots)
    k (option_flatten o)
live_put slots k o = same _ _ (λ q.
    get_live (with_cell slots k o) q ∙ ap option_flatten (got_put slots k o q) ∙ flat_cond (eq_by_cmp key_cmp q k) o
    (get slots q)
    ∙ ap (cond (eq_by_cmp key_cmp q k) (option_flatten o)) (sym (get_live slots q)) ∙
    sym (got_put (live slots) k (option_flatten o) q))

cond_same : {A : Type 0} (b : Bool) (x y : A) → (b ≡ true → x ≡ y) → cond b x y ≡ y
cond_same true x y h = h refl
cond_same false x y h = refl

-- what is there is put
pub put_there : {X : Type 0} (m : map.FinMap key_cmp X) (k : OrderedKey) (o : Option X) → get m k ≡ o →
    with_cell m k o ≡ m
put_there m k o is = same_map key_cmp-total key_cmp-exact _ _
    (λ q. got_put m k o q ∙ cond_same (eq_by_cmp key_cmp q k) o (get m q)
    (λ same. sym is ∙ ap (get m) (sym (key_eq-exact q k same))))

-- what was there before is put again
twice : {A : Type 0} (b : Bool) (x y p : A) → (b ≡ true → x ≡ p) → cond b x (cond b y p) ≡ p
twice true x y p h = h refl
twice false x y p h = refl

pub put_again : {X : Type 0} (m : map.FinMap key_cmp X) (k : OrderedKey) (o : Option X) →
    with_cell (with_cell m k o) k (get m k) ≡ m
put_again m k o = same_map key_cmp-total key_cmp-exact _ _ (λ q.
    got_put (with_cell m k o) k (get m k) q ∙ ap (cond (eq_by_cmp key_cmp q k) (get m k)) (got_put m k o q)
    ∙ twice (eq_by_cmp key_cmp q k) (get m k) o (get m q) (λ is. ap (get m) (sym (key_eq-exact q k is))))

-- a place without a value goes
pub cleaned : (slots : Cells) (k : OrderedKey) → get (live slots) k ≡ None → live (remove slots k) ≡ live slots
cleaned slots k none = live_put slots k None ∙ put_there (live slots) k None none

not_place : (b : Bool) (o : Option Cell) → o ≢ Some None → cond b None o ≢ Some None
not_place true o h is = absurd (cc is)
not_place false o h is = h is

-- where something was taken away, nothing stands, and no place comes elsewhere
pub no_place_removed : (slots : Cells) (k : OrderedKey) → IsNoPlace (remove slots k) k
no_place_removed slots k is =
    absurd (cc (sym (get-remove key_cmp-total slots k k ∙ ap (λ o. cond (is_eq o) None (get slots k))
    (key_cmp-itself k)) ∙ is))

pub no_place_beside : (slots : Cells) (k q : OrderedKey) → IsNoPlace slots q → IsNoPlace (remove slots k) q
no_place_beside slots k q h is = not_place (eq_by_cmp key_cmp q k) (get slots q) h
    (sym (get-remove key_cmp-total slots k q) ∙ is)

pub no_place_live : (slots : Cells) (k : OrderedKey) → IsSome (get (live slots) k) → IsNoPlace slots k
no_place_live slots k some is = absurd (false≢true (subst IsSome (get_live slots k ∙ ap option_flatten is) some))

pub removed_none : (m : PlainMap) (k : OrderedKey) → get m k ≡ None → m ≡ remove m k
removed_none m k none = sym (put_there m k None none)

-- whether a record is under a key
pub has_live : (slots : Cells) (k : OrderedKey) (o : Option Cell) → get slots k ≡ o → contains_key (live slots) k ≡
    is_some (option_flatten o)
has_live slots k o is = ap is_some (get_live slots k ∙ ap option_flatten is)

pub flattened : (o : Option Cell) → option_flatten o ≡ unwrap_or o None
flattened None = refl
flattened (Some s) = refl

-- what the map is where a value was put into a slot
module _ (slots left : Cells) (k : OrderedKey) (w : Cell) (is : left ≡ insert slots k w) where
  put_live : live left ≡ with_cell (live slots) k w
  put_live = ap live is ∙ live_put slots k (Some w)

  -- where none was
  pub filled_live : (v : List ℕ) (o : Option Cell) → get slots k ≡ o → w ≡ Some (unwrap_or (unwrap_or o None) v) →
      live left ≡ cond (contains_key (live slots) k) (live slots) (insert (live slots) k v)
  filled_live v o there new = at (unwrap_or o None) (get_live slots k ∙ ap option_flatten there ∙ flattened o) new
    where
      at : (s : Cell) → get (live slots) k ≡ s → w ≡ Some (unwrap_or s v) → live left ≡
          cond (contains_key (live slots) k) (live slots) (insert (live slots) k v)
      at None none e = put_live ∙ ap (with_cell (live slots) k) e ∙
          sym (ap (λ (o : Option (List ℕ)). cond (is_some o) (live slots) (insert (live slots) k v)) none)
      at (Some x) some e = put_live ∙ ap (with_cell (live slots) k) e ∙ put_there (live slots) k (Some x) some ∙
          sym (ap (λ (o : Option (List ℕ)). cond (is_some o) (live slots) (insert (live slots) k v)) some)

  -- where one was
  pub over_live : (v : List ℕ) (s : Cell) → get slots k ≡ Some s → w ≡ cond (is_some s) (Some v) None →
      live left ≡ cond (contains_key (live slots) k) (insert (live slots) k v) (live slots)
  over_live v s there new = at s (get_live slots k ∙ ap option_flatten there) new
    where
      at : (s : Cell) → get (live slots) k ≡ s → w ≡ cond (is_some s) (Some v) None → live left ≡
          cond (contains_key (live slots) k) (insert (live slots) k v) (live slots)
      at None none e = put_live ∙ ap (with_cell (live slots) k) e ∙ put_there (live slots) k None none ∙
          sym (ap (λ (o : Option (List ℕ)). cond (is_some o) (insert (live slots) k v) (live slots)) none)
      at (Some x) some e = put_live ∙ ap (with_cell (live slots) k) e ∙
          sym (ap (λ (o : Option (List ℕ)). cond (is_some o) (insert (live slots) k v) (live slots)) some)

-- nothing was put where nothing stands
pub nothing_over : (slots left : Cells) (k : OrderedKey) (v : List ℕ) → left ≡ slots → get slots k ≡ None → live left ≡
    cond (contains_key (live slots) k) (insert (live slots) k v) (live slots)
nothing_over slots left k v is there = ap live is ∙
    sym (ap (λ b. cond b (insert (live slots) k v) (live slots)) (has_live slots k None there))
