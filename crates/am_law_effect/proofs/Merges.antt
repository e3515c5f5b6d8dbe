-- What working entries off does to the list.
use Rattle.std.proofs.Common.{◌≡◌, ◌≢◌, ℕ, List, [], ◌∷◌, Bool, true, false, cond, sym, ap, ◌∙◌, subst, ⊎_elim, Option}
use Rattle.std.proofs.Common.{Some, None}
use Rattle.std.specs.List.{AllByRecursion}
use Rattle.std.specs.declared.cmp.Ordering.TheVariants.{Less, Equal}
use Rattle.std.specs.Ordering.{eq_by_cmp}
use Rattle.std.specs.FinMap.{get, insert}
use Rattle.std.proofs.lemmas.Bool.{cases_Bool, cond-true, cond-false, both_ways}
use Rattle.am_record.specs.OrderedKey.{OrderedKey}
use Rattle.am_record.specs.EntryOrder.{Place, place_of, place_cmp}
use Rattle.am_record.specs.declared.entry.Entry.{Entry}
use Rattle.am_index.specs.Entries.{Slot, slot_of, remove_entry, IsRising}
use Rattle.am_index.specs.Content.{content, OnePlace, HasContent, IsLiveAt}
use Rattle.am_index.proofs.Edits.{one_place, place_cmp-itself, rising_removed, apart_places}
use Rattle.am_index.proofs.Content.{content_live}
use Rattle.am_index.proofs.ContentLaws.{content_laws, get_removed}
use Rattle.am_law_effect.specs.Places.{look, put}
use Rattle.am_law_effect.specs.MergeAnswers.{worked_off, all_worked_off}
use Rattle.am_law_effect.proofs.Lists.{look-put, look-removed, tied_place, rising-put, Stands, content-put, back_again}

abbrev slotted : List ℕ → Bool → Option Slot
slotted v b = Some (v, b)

-- an entry at partition 0
abbrev final : Entry → Entry
final e = record e { part = 0 }

-- the list without it
abbrev without : Entry → List Entry → List Entry
without e es = remove_entry es e.part e.key

ghost_case : (e : Entry) (es : List Entry) → e.is_ghost ≡ true → worked_off e es ≡ without e es
ghost_case e es g = cond-true e.is_ghost (without e es) (put (final e) (without e es)) g

live_case : (e : Entry) (es : List Entry) → e.is_ghost ≡ false → worked_off e es ≡ put (final e) (without e es)
live_case e es g = cond-false e.is_ghost (without e es) (put (final e) (without e es)) g

pub rising-worked_off : (e : Entry) (es : List Entry) → IsRising es → IsRising (worked_off e es)
rising-worked_off e es h =
    let out = rising_removed es e.part e.key h in
    elim e.is_ghost as (λ b. IsRising (cond b (without e es) (put (final e) (without e es))))
    [ true ↦ out | false ↦ rising-put (final e) (without e es) out ]

-- places other than the entry's and the final one are as they were
pub elsewhere : (e : Entry) (es : List Entry) → IsRising es → (a : Place) → a ≢ place_of e → a ≢ (0, e.key) →
    look (worked_off e es) a ≡ look es a
elsewhere e es r a n m =
    let out : look (without e es) a ≡ look es a = look-removed (place_of e) es r a ∙
    cond-false _ None (look es a) (apart_places a (place_of e) n) in
    ⊎_elim
    (λ g. ap (λ l. look l a) (ghost_case e es g) ∙ out)
    (λ g. ap (λ l. look l a) (live_case e es g) ∙ look-put (final e) (without e es) a ∙
    cond-false _ (Some (slot_of e)) (look (without e es) a) (apart_places a (0, e.key) m) ∙ out)
    (cases_Bool e.is_ghost)

-- its own place is empty
pub vacated : (e : Entry) (es : List Entry) → IsRising es → e.part ≢ 0 → look (worked_off e es) (place_of e) ≡ None
vacated e es r n =
    let gone : look (without e es) (place_of e) ≡ None = look-removed (place_of e) es r (place_of e) ∙
    cond-true _ None (look es (place_of e)) (tied_place (place_of e)) in
    let apart : ◌≢◌ {A = Place} (place_of e) (0, e.key) = λ h. n (ap (λ (a : Place). a.0) h) in
    ⊎_elim
    (λ g. ap (λ l. look l (place_of e)) (ghost_case e es g) ∙ gone)
    (λ g. ap (λ l. look l (place_of e)) (live_case e es g) ∙ look-put (final e) (without e es) (place_of e) ∙
    cond-false _ (Some (slot_of e)) (look (without e es) (place_of e))
    (apart_places (place_of e) (0, e.key) apart) ∙ gone)
    (cases_Bool e.is_ghost)

-- another key's places are as they were
pub other_keys : (e : Entry) (es : List Entry) → IsRising es → (p : ℕ) (q : OrderedKey) → q ≢ e.key →
    look (worked_off e es) (p, q) ≡ look es (p, q)
other_keys e es r p q n = elsewhere e es r (p, q) (λ h. n (ap (λ (a : Place). a.1) h))
    (λ h. n (ap (λ (a : Place). a.1) h))

-- nothing comes into a run
pub no_more : (e : Entry) (es : List Entry) → IsRising es → e.part ≢ 0 → (p : ℕ) (q : OrderedKey) → p ≢ 0 →
    look es (p, q) ≡ None → look (worked_off e es) (p, q) ≡ None
no_more e es r m p q n none =
    ⊎_elim
    (λ tie. ap (look (worked_off e es)) (one_place (p, q) (place_of e) tie) ∙ vacated e es r m)
    (λ apart. elsewhere e es r (p, q) (λ h. both_ways _ apart
    (subst (λ (a : Place). eq_by_cmp place_cmp (p, q) a ≡ true) h (tied_place (p, q))))
    (λ h. n (ap (λ (a : Place). a.0) h)) ∙ none)
    (cases_Bool (eq_by_cmp place_cmp (p, q) (place_of e)))

-- each key is live in one place at most, as before, and the content is the same
pub keeps : (e : Entry) (es : List Entry) → IsRising es → Stands es e → OnePlace es →
    HasContent (worked_off e es) (content es)
keeps e es r s one =
    let laws = content_laws es r one in
    ⊎_elim {C = HasContent (worked_off e es) (content es)}
    (λ g. subst (λ l. HasContent l (content es)) (sym (ghost_case e es g))
    (laws.removes.ghost_removed e.part e.key e.value (s ∙ ap (λ b. slotted e.value b) g)))
    (λ g.
    let live : IsLiveAt es e.part e.key e.value = record { there = s ∙ ap (λ b. slotted e.value b) g } in
    let out = laws.removes.removed e.part e.key e.value live in
    let gone : get (content (without e es)) e.key ≡ None = ap (λ m. get m e.key) out.same ∙
    get_removed (content es) e.key in
    let in_place = content-put (final e) (without e es) out.rising out.one_place g gone in
    let whole : insert (content (without e es)) e.key e.value ≡ content es = ap (λ m. insert m e.key e.value) out.same ∙
    back_again (content es) e.key e.value (content_live es r one e.part e.key e.value live) in
    subst (λ m. HasContent (worked_off e es) m) whole
    (subst (λ l. HasContent l (insert (content (without e es)) e.key e.value)) (sym (live_case e es g)) in_place))
    (cases_Bool e.is_ghost)

-- ---- several entries of runs

abbrev pub InRuns : List Entry → List Entry → Type 0
InRuns es m = AllByRecursion (λ e. (e.part ≢ 0) × Stands es e) m

below_apart : (e f : Entry) → place_cmp (place_of e) (place_of f) ≡ Less → ◌≢◌ {A = Place} (place_of f) (place_of e)
below_apart e f less h = equal_less (sym (place_cmp-itself (place_of e)) ∙ ap (place_cmp (place_of e)) (sym h) ∙ less)
  where
    equal_less : Equal ≡ Less → ⊥
    equal_less x = cc

other_stands : (e f : Entry) (es : List Entry) → IsRising es → place_cmp (place_of e) (place_of f) ≡ Less →
    (f.part ≢ 0) × Stands es f → (f.part ≢ 0) × Stands (worked_off e es) f
other_stands e f es r less s = (
  s.0,
  elsewhere e es r (place_of f) (below_apart e f less)
      (λ h. s.0 (ap (λ (a : Place). a.0) h)) ∙ s.1,
)

pub others_stand : (e : Entry) (es m : List Entry) → IsRising es →
    AllByRecursion (λ f. place_cmp (place_of e) (place_of f) ≡ Less) m → InRuns es m → InRuns (worked_off e es) m
others_stand e es [] r b s = tt
others_stand e es (f ∷ m) r b s = (other_stands e f es r b.0 s.0, others_stand e es m r b.1 s.1)

-- a law of lists that each entry worked off keeps
pub all_keep : (P : List Entry → Type 0) (F : Entry → Type 0) → ((es : List Entry) → P es → IsRising es) →
    ((e : Entry) (es : List Entry) → F e → e.part ≢ 0 → Stands es e → P es → P (worked_off e es)) →
    (m es : List Entry) →
    IsRising m → AllByRecursion F m → InRuns es m → P es → P (all_worked_off m es)
all_keep P F rises step [] es r f s h = h
all_keep P F rises step (e ∷ m) es r f s h = all_keep P F rises step m (worked_off e es) r.1 f.1
    (others_stand e es m (rises es h) r.0 s.1) (step e es f.0 s.0.0 s.0.1 h)

-- ---- ghosts

-- a ghost is taken away, and all other places are as they were
pub beside_ghost : (e : Entry) (es : List Entry) → IsRising es → (a : Place) → e.is_ghost ≡ true → a ≢ place_of e →
    look (worked_off e es) a ≡ look es a
beside_ghost e es r a g n = ap (λ l. look l a) (ghost_case e es g) ∙ look-removed (place_of e) es r a ∙
    cond-false _ None (look es a) (apart_places a (place_of e) n)

pub ghost_gone : (e : Entry) (es : List Entry) → IsRising es → e.is_ghost ≡ true → look (worked_off e es) (place_of e) ≡
    None
ghost_gone e es r g = ap (λ l. look l (place_of e)) (ghost_case e es g) ∙ look-removed (place_of e) es r (place_of e) ∙
    cond-true _ None (look es (place_of e)) (tied_place (place_of e))

pub no_more_ghost : (e : Entry) (es : List Entry) → IsRising es → e.is_ghost ≡ true → (a : Place) → look es a ≡ None →
    look (worked_off e es) a ≡ None
no_more_ghost e es r g a none = ⊎_elim
    (λ tie. ap (look (worked_off e es)) (one_place a (place_of e) tie) ∙ ghost_gone e es r g)
    (λ apart. beside_ghost e es r a g (λ h. both_ways _ apart
    (ap (λ (b : Place). eq_by_cmp place_cmp b (place_of e)) h ∙ tied_place (place_of e))) ∙ none)
    (cases_Bool (eq_by_cmp place_cmp a (place_of e)))

abbrev pub Ghosts : List Entry → List Entry → Type 0
Ghosts es m = AllByRecursion (λ e. (e.is_ghost ≡ true) × Stands es e) m

ghosts_stand : (e : Entry) (es m : List Entry) → IsRising es → e.is_ghost ≡ true →
    AllByRecursion (λ f. place_cmp (place_of e) (place_of f) ≡ Less) m → Ghosts es m → Ghosts (worked_off e es) m
ghosts_stand e es [] r g b s = tt
ghosts_stand e es (f ∷ m) r g b s = (
  (s.0.0, beside_ghost e es r (place_of f) g (below_apart e f b.0) ∙ s.0.1),
  ghosts_stand e es m r g b.1 s.1,
)

pub all_keep_ghosts : (P : List Entry → Type 0) (F : Entry → Type 0) → ((es : List Entry) → P es → IsRising es) →
    ((e : Entry) (es : List Entry) → F e → e.is_ghost ≡ true → Stands es e → P es → P (worked_off e es)) →
    (m es : List Entry) → IsRising m → AllByRecursion F m → Ghosts es m → P es → P (all_worked_off m es)
all_keep_ghosts P F rises step [] es r f s h = h
all_keep_ghosts P F rises step (e ∷ m) es r f s h = all_keep_ghosts P F rises step m (worked_off e es) r.1 f.1
    (ghosts_stand e es m (rises es h) s.0.0 r.0 s.1) (step e es f.0 s.0.0 s.0.1 h)
