-- Each entry that counts has the text that was handed over.
use Rattle.std.proofs.Common.{◌≡◌, ℕ, suc, ◌+◌, ◌<◌, ◌≤◌, ◌==◌, List, [], ◌∷◌, ◌++◌, length, Bool, true, false}
use Rattle.std.proofs.Common.{◌&&◌, ◌||◌, ◌⊎◌, not, cond, arith, refl, Some, None, inl, inr, sym, subst, ap, ◌∙◌}
use Rattle.std.proofs.Common.{append_assoc, append-nil, Option}
use Rattle.std.specs.Prelude.{ltb, filter, option_to_list, IfSome}
use Rattle.std.specs.List.{AllByRecursion}
use Rattle.std.proofs.Math.Bool.{and-false}
use Rattle.std.proofs.lemmas.Bool.{or_cases, and_parts, or_left, or_right, and_from, not_from_false, not-true}
use Rattle.std.proofs.lemmas.Bool.{eqb-true, eq-eqb, false_from_ne_true, false≢true, both_ways, cases_lt, lt-ltb}
use Rattle.std.proofs.lemmas.List.{length-append}
use Rattle.std.proofs.lemmas.List.Elements.{filter-append}
use Rattle.am_replica_log.specs.declared.event.Name.{Name}
use Rattle.am_replica_log.specs.declared.event.Part.{Part}
use Rattle.am_replica_log.specs.declared.event.Part.TheVariants.{Piece as PiecePart, Head}
use Rattle.am_replica_log.specs.declared.pieces.Piece.{Piece}
use Rattle.am_replica_log.specs.declared.pieces.Entry.{Entry}
use Rattle.am_replica_log.specs.declared.deletion.Deletion.{Deletion}
use Rattle.am_replica_log.specs.History.{Puts, Writes, Moves, Deletes, Others, History, same, is_same_part, generation}
use Rattle.am_replica_log.specs.History.{revision_of}
use Rattle.am_replica_log.specs.History.{is_done, is_there, counts, pieces_behind, open_pieces, whole_text, are_in_turn}
use Rattle.am_replica_log.specs.History.{joined}
use Rattle.am_replica_log.specs.History.{counted_entries}
use Rattle.am_replica_log.specs.History.{Change, floor, ended_by}
use Rattle.am_replica_log.specs.Readers.{behind, counted_for}
use Rattle.am_replica_log.specs.Writers.{AllKeepPremise}
use Rattle.am_replica_log.proofs.Floors.{pieces_came}
use Rattle.am_replica_log.proofs.Filters.{each_weaker, filter_drops, filter_keeps, filters_turn}
use Rattle.am_replica_log.proofs.Once.{spared}
use Rattle.am_replica_pieces.specs.Cut.{before_head, bytes_at, first_parts}
use Rattle.am_replica_pieces.specs.Turns.{was_put, IsPart, AreParts, pieces_under}
use Rattle.am_replica_pieces.proofs.Cuts as Cuts

neither : (a b : Bool) → a ≡ false → b ≡ false → (a || b) ≡ false
neither false false p q = refl
neither false true p q = q
neither true b p q = p

either : (b : Bool) → (b ≡ true) ⊎ (b ≡ false)
either true = inl refl
either false = inr refl

same_one : (a b : Name) → same a b ≡ true → a ≡ b
same_one a b h =
    let p = and_parts (a.writer == b.writer) (a.number == b.number) h in
    let writers : a.writer ≡ b.writer = eqb-true a.writer b.writer p.0 in
    let numbers : a.number ≡ b.number = eqb-true a.number b.number p.1 in
    ap (λ w. record { writer = w; number = a.number }) writers ∙ ap (λ n. record { writer = b.writer; number = n })
    numbers

same_self : (a : Name) → same a a ≡ true
same_self a = and_from (a.writer == a.writer) (a.number == a.number) (eq-eqb a.writer a.writer refl)
    (eq-eqb a.number a.number refl)

-- ---- what is there was put

there_put : (g : ℕ) (name : Name) (part : Part) (b : History) → is_there g name part b ≡ true →
    was_put g name part b ≡ true
there_put g name part [] h = absurd (false≢true h)
there_put g name part (Puts k other p bytes ∷ b) h =
    elim (or_cases ((g == k) && (same name other && is_same_part part p)) (is_there g name part b) h) [
      | inl e ↦ or_left ((g == k) && (same name other && is_same_part part p)) (was_put g name part b) e
      | inr e ↦ or_right ((g == k) && (same name other && is_same_part part p)) (was_put g name part b)
          (there_put g name part b e)
    ]
there_put g name part (Deletes d ∷ b) h =
    there_put g name part b (and_parts (not (is_done d b && ltb g d.generation)) (is_there g name part b) h).1
there_put g name part (change ∷ b) h = there_put g name part b h

pub not_put_not_there : (g : ℕ) (name : Name) (part : Part) (b : History) → was_put g name part b ≡ false →
    is_there g name part b ≡ false
not_put_not_there g name part b h = false_from_ne_true (is_there g name part b)
    (λ t. both_ways (was_put g name part b) h (there_put g name part b t))

-- under a generation that has begun
put_began : (g : ℕ) (name : Name) (part : Part) (b : History) → AllKeepPremise b → was_put g name part b ≡ true →
    g ≤ generation b
put_began g name part [] ok h = absurd (false≢true h)
put_began g name part (Puts k other p bytes ∷ b) ok h =
    elim (or_cases ((g == k) && (same name other && is_same_part part p)) (was_put g name part b) h) [
      | inl e ↦
          let gk : g ≡ k = eqb-true g k (and_parts (g == k) (same name other && is_same_part part p) e).0 in
          let began : k ≤ generation b = ok.0.0 in
          omega arith
      | inr e ↦ put_began g name part b ok.1 e
    ]
put_began g name part (Moves f ∷ b) ok h =
    let next : f.snapshot.generation ≡ generation b + 1 = ok.0.1 in
    let began : g ≤ generation b = put_began g name part b ok.1 h in
    omega arith
put_began g name part (change ∷ b) ok h = put_began g name part b ok.1 h

-- a deletion leaves what is there under the present generation
left_by : (name : Name) (part : Part) (d : Deletion) (b : History) → AllKeepPremise (Deletes d ∷ b)
    → is_there (generation b) name part (Deletes d ∷ b) ≡ is_there (generation b) name part b
left_by name part d b ok = ap (λ t. not t && is_there (generation b) name part b) (spared d b ok.0)

-- ---- an entry's own pieces

module _ (name : Name) where
  abbrev own : List Piece → List Piece
  own pieces = pieces_under name pieces

  abbrev bytes_of : List Piece → List ℕ
  bytes_of [] = []
  bytes_of (p ∷ pieces) = p.text ++ bytes_of pieces

  abbrev rise_from : ℕ → List Piece → Bool
  rise_from n [] = true
  rise_from n (p ∷ pieces) = (p.number == n) && rise_from (n + 1) pieces

  whole_by : (b : Bool) (p : Piece) (pieces : List Piece) → whole_text name pieces ≡ bytes_of (own pieces)
      → cond b (p.text ++ whole_text name pieces) (whole_text name pieces) ≡ bytes_of
      (cond b (p ∷ own pieces) (own pieces))
  whole_by true p pieces rest = ap (λ xs. p.text ++ xs) rest
  whole_by false p pieces rest = rest

  whole_is : (pieces : List Piece) → whole_text name pieces ≡ bytes_of (own pieces)
  whole_is [] = refl
  whole_is (p ∷ pieces) = whole_by (same p.entry name) p pieces (whole_is pieces)

  turn_by : (b : Bool) (n : ℕ) (p : Piece) (pieces : List Piece)
      → ((k : ℕ) → are_in_turn k name pieces ≡ rise_from k (own pieces))
      → cond b ((p.number == n) && are_in_turn (n + 1) name pieces) (are_in_turn n name pieces)
      ≡ rise_from n (cond b (p ∷ own pieces) (own pieces))
  turn_by true n p pieces rest = ap (λ t. (p.number == n) && t) (rest (n + 1))
  turn_by false n p pieces rest = rest n

  turn_is : (pieces : List Piece) (n : ℕ) → are_in_turn n name pieces ≡ rise_from n (own pieces)
  turn_is [] n = refl
  turn_is (p ∷ pieces) n = turn_by (same p.entry name) n p pieces (λ k. turn_is pieces k)

  bytes_push : (pieces : List Piece) (p : Piece) → bytes_of (pieces ++ p ∷ []) ≡ bytes_of pieces ++ p.text
  bytes_push [] p = append-nil p.text
  bytes_push (q ∷ pieces) p = ap (λ xs. q.text ++ xs) (bytes_push pieces p) ∙
      sym (append_assoc q.text (bytes_of pieces) p.text)

  rise_push : (n : ℕ) (pieces : List Piece) (p : Piece) → rise_from n pieces ≡ true → p.number ≡ n + length pieces
      → rise_from n (pieces ++ p ∷ []) ≡ true
  rise_push n [] p rise at =
      let here : p.number ≡ n = omega arith in
      and_from (p.number == n) true (eq-eqb p.number n here) refl
  rise_push n (q ∷ pieces) p rise at =
      let parts = and_parts (q.number == n) (rise_from (n + 1) pieces) rise in
      let here : p.number ≡ n + 1 + length pieces = omega arith in
      and_from (q.number == n) (rise_from (n + 1) (pieces ++ p ∷ [])) parts.0 (rise_push (n + 1) pieces p parts.1 here)

  -- another entry's piece, or head
  own_past : (pieces : List Piece) (p : Piece) → same p.entry name ≡ false → own (pieces ++ p ∷ []) ≡ own pieces
  own_past pieces p differs =
      filter-append (λ q. same q.entry name) pieces (p ∷ [])
      ∙ ap (λ b. own pieces ++ cond b (p ∷ []) []) differs
      ∙ append-nil (own pieces)

  own_push : (pieces : List Piece) (p : Piece) → same p.entry name ≡ true → own (pieces ++ p ∷ []) ≡ own pieces ++
      p ∷ []
  own_push pieces p is =
      filter-append (λ q. same q.entry name) pieces (p ∷ []) ∙ ap (λ b. own pieces ++ cond b (p ∷ []) []) is

  each_by : (b : Bool) (p : Piece) (pieces : List Piece) → same p.entry name ≡ b
      → AllByRecursion (λ q. same q.entry name ≡ true) (own pieces)
      → AllByRecursion (λ q. same q.entry name ≡ true) (cond b (p ∷ own pieces) (own pieces))
  each_by true p pieces is rest = (is, rest)
  each_by false p pieces is rest = rest

  each_own : (pieces : List Piece) → AllByRecursion (λ q. same q.entry name ≡ true) (own pieces)
  each_own [] = tt
  each_own (p ∷ pieces) = each_by (same p.entry name) p pieces refl (each_own pieces)

  differs : (other : Name) (p : Piece) → same name other ≡ false → same p.entry name ≡ true →
      not (same p.entry other) ≡ true
  differs other p apart is = not_from_false (same p.entry other)
      (ap (λ n. same n other) (same_one p.entry name is) ∙ apart)

  pub own_left : (other : Name) (pieces : List Piece) → same name other ≡ false
      → own (filter (λ p. not (same p.entry other)) pieces) ≡ own pieces
  own_left other pieces apart =
      filters_turn (λ p. same p.entry name) (λ p. not (same p.entry other)) pieces
      ∙ filter_keeps (λ p. not (same p.entry other)) (own pieces)
      (each_weaker (λ p. same p.entry name ≡ true) (λ p. not (same p.entry other) ≡ true)
      (λ p is. differs other p apart is) (own pieces) (each_own pieces))

  pub own_gone : (pieces : List Piece) → own (filter (λ p. not (same p.entry name)) pieces) ≡ []
  own_gone pieces =
      filters_turn (λ p. same p.entry name) (λ p. not (same p.entry name)) pieces
      ∙ filter_drops (λ p. not (same p.entry name)) (own pieces)
      (each_weaker (λ p. same p.entry name ≡ true) (λ p. not (same p.entry name) ≡ false)
      (λ p is. ap not is) (own pieces) (each_own pieces))

-- ---- where an entry stands

part_differs : (g h : ℕ) (n o : Name) (m i : ℕ) → (m ≡ i → ⊥) →
    ((g == h) && (same n o && is_same_part (PiecePart m) (PiecePart i))) ≡ false
part_differs g h n o m i apart = false_from_ne_true _ (λ e.
    let p = and_parts (g == h) (same n o && (m == i)) e in
    apart (eqb-true m i (and_parts (same n o) (m == i) p.1).1))

other_kind : (g h : ℕ) (n o : Name) → ((g == h) && (same n o && false)) ≡ false
other_kind g h n o = ap (λ t. (g == h) && t) (and-false (same n o)) ∙ and-false (g == h)

other_entry : (g h : ℕ) (n o : Name) (t : Bool) → same n o ≡ false → ((g == h) && (same n o && t)) ≡ false
other_entry g h n o t apart = ap (λ b. (g == h) && (b && t)) apart ∙ and-false (g == h)

other_generation : (g h : ℕ) (n o : Name) (t : Bool) → (g == h) ≡ false → ((g == h) && (same n o && t)) ≡ false
other_generation g h n o t apart = ap (λ b. b && (same n o && t)) apart

passed : (a b : Bool) → a ≡ false → (a || b) ≡ b
passed false b h = refl
passed true b h = absurd (false≢true (sym h))

piece_number : (most : ℕ) (text : List ℕ) (n number : ℕ) (t : Bool) → PiecePart n ≡ cond t Head (PiecePart number) →
    (t ≡ false) × (n ≡ number)
piece_number most text n number true e = absurd cc
piece_number most text n number false e = (refl, cc)

head_number : (number : ℕ) (t : Bool) → Head ≡ cond t Head (PiecePart number) → t ≡ true
head_number number true e = refl
head_number number false e = absurd cc

module _ (most : ℕ) (text : List ℕ) (name : Name) where
  abbrev last : ℕ
  last = before_head most text

  record HasFirst (k : ℕ) (pieces : List Piece) : Type 0 where
    bytes : bytes_of name pieces ≡ first_parts most text k
    rise : rise_from name 0 pieces ≡ true
    many : length pieces ≡ k

  record Stands (g : ℕ) (b : History) : Type 0 where
    count : ℕ
    few : count ≤ last
    there : (m : ℕ) → m < count → is_there g name (PiecePart m) b ≡ true
    none : (m : ℕ) → count ≤ m → was_put g name (PiecePart m) b ≡ false
    state : ((is_there g name Head b ≡ true) × (count ≡ last) × (own name (open_pieces b) ≡ []))
        ⊎ ((is_there g name Head b ≡ false) × HasFirst count (own name (open_pieces b)))

  -- one whose generation begins
  begun : (g : ℕ) (b : History) → ((part : Part) → was_put g name part b ≡ false) → own name (open_pieces b) ≡ [] →
      Stands g b
  begun g b never empty = record {
    count = 0;
    few = omega arith;
    there = λ m low. absurd (omega (arith, low));
    none = λ m high. never (PiecePart m);
    state = inr (
      not_put_not_there g name Head b (never Head),
      record {
        bytes = ap (λ ps. bytes_of name ps) empty;
        rise = ap (λ ps. rise_from name 0 ps) empty;
        many = ap length empty;
      },
    );
  }

  -- nothing of it changed
  unchanged : (g : ℕ) (b c : History) → ((part : Part) → is_there g name part c ≡ is_there g name part b)
      → ((part : Part) → was_put g name part c ≡ was_put g name part b)
      → own name (open_pieces c) ≡ own name (open_pieces b) → Stands g b → Stands g c
  unchanged g b c there put pieces s = record {
    count = s.count;
    few = s.few;
    there = λ m low. there (PiecePart m) ∙ s.there m low;
    none = λ m high. put (PiecePart m) ∙ s.none m high;
    state = elim s.state [
      | inl e ↦ inl (there Head ∙ e.0, e.1, pieces ∙ e.2)
      | inr e ↦ inr (there Head ∙ e.0, subst (HasFirst s.count) (sym pieces) e.1)
    ];
  }

  -- how many pieces came, where a part of this number was put in its turn
  reached : (g : ℕ) (b : History) (s : Stands g b) (number : ℕ)
      → ((n : ℕ) → n < number → was_put g name (PiecePart n) b ≡ true) → number ≤ s.count
  reached g b s number turn =
      elim (cases_lt s.count number) [
        | inl under ↦ absurd (both_ways (was_put g name (PiecePart s.count) b) (s.none s.count (omega arith))
            (turn s.count under))
        | inr above ↦ above
      ]

  one_more : (k : ℕ) (at : ℕ) (pieces : List Piece) → HasFirst k (own name pieces)
      → HasFirst (suc k) (own name (pieces ++ record {
        entry = name;
        number = k;
        revision = at;
        text = bytes_at most text k;
      } ∷ []))
  one_more k at pieces has =
      let p : Piece = record { entry = name; number = k; revision = at; text = bytes_at most text k } in
      let pushed : own name (pieces ++ p ∷ []) ≡ own name pieces ++ p ∷ [] = own_push name pieces p (same_self name) in
      let many : length (own name pieces) ≡ k = has.many in
      record {
        bytes = ap (λ ps. bytes_of name ps) pushed ∙ bytes_push name (own name pieces) p
            ∙ ap (λ xs. xs ++ bytes_at most text k) has.bytes;
        rise = ap (λ ps. rise_from name 0 ps) pushed ∙ rise_push name 0 (own name pieces) p has.rise (omega arith);
        many = ap length pushed ∙ length-append (own name pieces) (p ∷ []) ∙ omega arith;
      }

  -- ---- a part of it is put under the present generation

  abbrev Next : Part → List ℕ → History → Type 0
  Next part bytes b = Stands (generation b) (Puts (generation b) name part bytes ∷ b)

  kept_by : (c : Bool) (new old : List Piece) → c ≡ false → own name (cond c new old) ≡ own name old
  kept_by false new old is = refl
  kept_by true new old is = absurd (false≢true (sym is))

  uncounted : (g : ℕ) (part : Part) (b : History) → is_there g name part b ≡ true →
      ((g == g) && not (is_there g name part b)) ≡ false
  uncounted g part b there = ap (λ t. (g == g) && not t) there ∙ and-false (g == g)

  counted : (g : ℕ) (part : Part) (b : History) → is_there g name part b ≡ false →
      ((g == g) && not (is_there g name part b)) ≡ true
  counted g part b gone =
      and_from (g == g) (not (is_there g name part b)) (eq-eqb g g refl) (not_from_false (is_there g name part b) gone)

  -- a piece that is there already
  again : (n : ℕ) (bytes : List ℕ) (b : History) (s : Stands (generation b) b) → n < s.count →
      Next (PiecePart n) bytes b
  again n bytes b s under =
      let g = generation b in
      let hit = λ (part : Part). (g == g) && (same name name && is_same_part part (PiecePart n)) in
      let kept = kept_by (counts g name (PiecePart n) b)
      (pieces_behind name (PiecePart n) (revision_of b + 1) bytes (open_pieces b)) (open_pieces b)
      (uncounted g (PiecePart n) b (s.there n under)) in
      let head = passed (hit Head) (is_there g name Head b) (other_kind g g name name) in
      record {
        count = s.count;
        few = s.few;
        there = λ m low. or_right (hit (PiecePart m)) (is_there g name (PiecePart m) b) (s.there m low);
        none = λ m high. neither (hit (PiecePart m)) (was_put g name (PiecePart m) b)
            (part_differs g g name name m n (λ e. omega (arith, e, high, under))) (s.none m high);
        state = elim s.state [
          | inl e ↦ inl (head ∙ e.0, e.1, kept ∙ e.2)
          | inr e ↦ inr (head ∙ e.0, subst (HasFirst s.count) (sym kept) e.1)
        ];
      }

  -- the next piece
  next : (bytes : List ℕ) (b : History) (s : Stands (generation b) b) → s.count < last →
      bytes ≡ bytes_at most text s.count → Next (PiecePart s.count) bytes b
  next bytes b s low is =
      let g = generation b in
      let k = s.count in
      let at = revision_of b + 1 in
      let hit = λ (part : Part). (g == g) && (same name name && is_same_part part (PiecePart k)) in
      let gone = not_put_not_there g name (PiecePart k) b (s.none k (omega arith)) in
      let head = passed (hit Head) (is_there g name Head b) (other_kind g g name name) in
      let more = λ (has : HasFirst k (own name (open_pieces b))).
      subst (λ (xs : List ℕ). HasFirst (suc k)
      (own name (open_pieces b ++ record { entry = name; number = k; revision = at; text = xs } ∷ [])))
      (sym is) (one_more k at (open_pieces b) has) in
      record {
        count = suc k;
        few = omega arith;
        there = λ m under. elim (cases_lt m k) [
          | inl below ↦ or_right (hit (PiecePart m)) (is_there g name (PiecePart m) b) (s.there m below)
          | inr above ↦ or_left (hit (PiecePart m)) (is_there g name (PiecePart m) b)
              (and_from (g == g) (same name name && (m == k)) (eq-eqb g g refl)
              (and_from (same name name) (m == k) (same_self name) (eq-eqb m k (omega (arith, under, above)))))
        ];
        none = λ m high. neither (hit (PiecePart m)) (was_put g name (PiecePart m) b)
            (part_differs g g name name m k (λ e. omega (arith, e, high))) (s.none m (omega (arith, high)));
        state = elim s.state [
          | inl e ↦ absurd (omega (arith, e.1))
          | inr e ↦ inr (
            head ∙ e.0,
            subst (λ c. HasFirst (suc k) (own name (cond c
                (pieces_behind name (PiecePart k) at bytes (open_pieces b)) (open_pieces b))))
                (sym (counted g (PiecePart k) b gone)) (more e.1),
          )
        ];
      }

  abbrev Part_of : Part → List ℕ → History → Type 0
  Part_of part bytes b = IsPart most text (generation b) name part bytes b

  piece_put : (n : ℕ) (bytes : List ℕ) (b : History) (s : Stands (generation b) b) → Part_of (PiecePart n) bytes b
      → Next (PiecePart n) bytes b
  piece_put n bytes b s is =
      let number = piece_number most text n is.number (is.number == last) is.part_is in
      let same_number : n ≡ is.number = number.1 in
      let came : is.number ≤ s.count = reached (generation b) b s is.number is.in_turn in
      let here : is.number ≤ last = is.here in
      elim (cases_lt n s.count) [
        | inl under ↦ again n bytes b s under
        | inr above ↦
            let now : s.count ≡ n = omega arith in
            let number_is : is.number ≡ s.count = omega arith in
            let low : s.count < last = elim (cases_lt s.count last) [
              | inl lt ↦ lt
              | inr le ↦ absurd (both_ways (is.number == last) number.0 (eq-eqb is.number last (omega arith)))
            ] in
            subst (λ (j : ℕ). Next (PiecePart j) bytes b) now
            (next bytes b s low (is.bytes_are ∙ ap (bytes_at most text) number_is))
      ]

  -- all pieces came before a head
  all_came : (g : ℕ) (bytes : List ℕ) (b : History) (s : Stands g b) → (is : IsPart most text g name Head bytes b) →
      (s.count ≡ last) × (is.number ≡ last)
  all_came g bytes b s is =
      let number : is.number ≡ last =
      eqb-true is.number last (head_number is.number (is.number == last) is.part_is) in
      let came : is.number ≤ s.count = reached g b s is.number is.in_turn in
      let few : s.count ≤ last = s.few in
      (omega arith, number)

  head_put : (bytes : List ℕ) (b : History) (s : Stands (generation b) b) → Part_of Head bytes b → Next Head bytes b
  head_put bytes b s is =
      let g = generation b in
      let hit = λ (part : Part). (g == g) && (same name name && is_same_part part Head) in
      let full = (all_came g bytes b s is).0 in
      let new = pieces_behind name Head (revision_of b + 1) bytes (open_pieces b) in
      record {
        count = s.count;
        few = s.few;
        there = λ m low. or_right (hit (PiecePart m)) (is_there g name (PiecePart m) b) (s.there m low);
        none = λ m high. neither (hit (PiecePart m)) (was_put g name (PiecePart m) b) (other_kind g g name name)
            (s.none m high);
        state = inl (elim s.state [
          | inl e ↦ (
            or_right (hit Head) (is_there g name Head b) e.0,
            full,
            kept_by (counts g name Head b) new (open_pieces b) (uncounted g Head b e.0) ∙ e.2,
          )
          | inr e ↦ (
            or_left (hit Head) (is_there g name Head b) (and_from (g == g) (same name name && true)
                (eq-eqb g g refl) (and_from (same name name) true (same_self name) refl)),
            full,
            ap (λ c. own name (cond c new (open_pieces b))) (counted g Head b e.0) ∙ own_gone name (open_pieces b),
          )
        ]);
      }

  now_put : (part : Part) (bytes : List ℕ) (b : History) (s : Stands (generation b) b) → Part_of part bytes b →
      Next part bytes b
  now_put (PiecePart n) bytes b s is = piece_put n bytes b s is
  now_put Head bytes b s is = head_put bytes b s is

  -- under any generation
  own_put : (h : ℕ) (part : Part) (bytes : List ℕ) (b : History) (s : Stands (generation b) b)
      → IsPart most text h name part bytes b → Stands (generation b) (Puts h name part bytes ∷ b)
  own_put h part bytes b s is =
      let g = generation b in
      elim (either (g == h)) [
        | inl now ↦
            let here : h ≡ g = sym (eqb-true g h now) in
            subst (λ (k : ℕ). Stands g (Puts k name part bytes ∷ b)) (sym here)
            (now_put part bytes b s (subst (λ (k : ℕ). IsPart most text k name part bytes b) here is))
        | inr past ↦
            let over : (h == g) ≡ false = false_from_ne_true (h == g)
            (λ e. both_ways (g == h) past (eq-eqb g h (sym (eqb-true h g e)))) in
            unchanged g b (Puts h name part bytes ∷ b)
            (λ p. passed ((g == h) && (same name name && is_same_part p part)) (is_there g name p b)
            (other_generation g h name name (is_same_part p part) past))
            (λ p. passed ((g == h) && (same name name && is_same_part p part)) (was_put g name p b)
            (other_generation g h name name (is_same_part p part) past))
            (kept_by (counts h name part b) (pieces_behind name part (revision_of b + 1) bytes (open_pieces b))
            (open_pieces b) (ap (λ t. t && not (is_there h name part b)) over))
            s
      ]

  -- another entry's part
  apart_turned : (other : Name) → same name other ≡ false → same other name ≡ false
  apart_turned other apart = false_from_ne_true (same other name) (λ e.
      both_ways (same name other) apart (ap (λ n. same name n) (same_one other name e) ∙ same_self name))

  past : (other : Name) (part : Part) (at : ℕ) (bytes : List ℕ) (pieces : List Piece) → same name other ≡ false
      → own name (pieces_behind other part at bytes pieces) ≡ own name pieces
  past other (PiecePart n) at bytes pieces apart =
      own_past name pieces (record { entry = other; number = n; revision = at; text = bytes })
      (apart_turned other apart)
  past other Head at bytes pieces apart = own_left name other pieces apart

  either_way : (c : Bool) (new old : List Piece) → own name new ≡ own name old → own name (cond c new old) ≡ own name
      old
  either_way true new old is = is
  either_way false new old is = refl

  other_put : (h : ℕ) (other : Name) (part : Part) (bytes : List ℕ) (b : History) → Stands (generation b) b
      → same name other ≡ false → Stands (generation b) (Puts h other part bytes ∷ b)
  other_put h other part bytes b s apart =
      let g = generation b in
      unchanged g b (Puts h other part bytes ∷ b)
      (λ p. passed ((g == h) && (same name other && is_same_part p part)) (is_there g name p b)
      (other_entry g h name other (is_same_part p part) apart))
      (λ p. passed ((g == h) && (same name other && is_same_part p part)) (was_put g name p b)
      (other_entry g h name other (is_same_part p part) apart))
      (either_way (counts h other part b) (pieces_behind other part (revision_of b + 1) bytes (open_pieces b))
      (open_pieces b) (past other part (revision_of b + 1) bytes (open_pieces b) apart))
      s

  -- what a head that counts joins
  joins : (g : ℕ) (bytes : List ℕ) (b : History) → 0 < most → (s : Stands g b) → IsPart most text g name Head bytes b
      → is_there g name Head b ≡ false → joined name (open_pieces b) bytes ≡ Some text
  joins g bytes b some s is gone =
      let pieces = open_pieces b in
      let all = all_came g bytes b s is in
      elim s.state [
        | inl e ↦ absurd (both_ways (is_there g name Head b) gone e.0)
        | inr e ↦
            let next : suc last ≡ last + 1 = omega arith in
            ap (λ t. cond t (Some (whole_text name pieces ++ bytes)) None) (turn_is name pieces 0 ∙ e.1.rise)
            ∙ ap Some (ap (λ xs. xs ++ bytes) (whole_is name pieces ∙ e.1.bytes ∙ ap (first_parts most text) all.0)
            ∙ ap (λ xs. first_parts most text last ++ xs) (is.bytes_are ∙ ap (bytes_at most text) all.1)
            ∙ ap (first_parts most text) next
            ∙ Cuts.whole most text some)
      ]

-- ---- over whole histories

module _ (most : ℕ) (texts : Name → List ℕ) where
  put_by : (name other : Name) (h : ℕ) (part : Part) (bytes : List ℕ) (b : History)
      → Stands most (texts name) name (generation b) b → IsPart most (texts other) h other part bytes b
      → Stands most (texts name) name (generation b) (Puts h other part bytes ∷ b)
  put_by name other h part bytes b s is =
      elim (either (same name other)) [
        | inl one ↦
            let here : name ≡ other = same_one name other one in
            subst (λ (o : Name). Stands most (texts name) name (generation b) (Puts h o part bytes ∷ b)) here
            (own_put most (texts name) name h part bytes b s
            (subst (λ (o : Name). IsPart most (texts o) h o part bytes b) (sym here) is))
        | inr apart ↦ other_put most (texts name) name h other part bytes b s apart
      ]

  stands : (name : Name) (b : History) → AllKeepPremise b → AreParts most texts b →
      Stands most (texts name) name (generation b) b
  stands name [] ok are = begun most (texts name) name 0 [] (λ part. refl) refl
  stands name (Puts h other part bytes ∷ b) ok are =
      put_by name other h part bytes b (stands name b ok.1 are.1) are.0
  stands name (Writes s ∷ b) ok are =
      unchanged most (texts name) name (generation b) b (Writes s ∷ b) (λ part. refl) (λ part. refl) refl
      (stands name b ok.1 are)
  stands name (Moves f ∷ b) ok are =
      let next : f.snapshot.generation ≡ generation b + 1 = ok.0.1 in
      begun most (texts name) name f.snapshot.generation (Moves f ∷ b)
      (λ part. false_from_ne_true (was_put f.snapshot.generation name part b) (λ did.
      absurd (omega (arith, next, put_began f.snapshot.generation name part b ok.1 did)))) refl
  stands name (Deletes d ∷ b) ok are =
      unchanged most (texts name) name (generation b) b (Deletes d ∷ b) (λ part. left_by name part d b ok)
      (λ part. refl) refl (stands name b ok.1 are)
  stands name (Others ∷ b) ok are =
      unchanged most (texts name) name (generation b) b (Others ∷ b) (λ part. refl) (λ part. refl) refl
      (stands name b ok.1 are)

  abbrev IsHanded : Entry → Type 0
  IsHanded e = e.text ≡ Some (texts e.name)

  with_entry : (c : Bool) (e : Entry) (rest : List Entry) → (c ≡ true → IsHanded e) → AllByRecursion IsHanded rest
      → AllByRecursion IsHanded (option_to_list (cond c (Some e) None) ++ rest)
  with_entry true e rest is all = (is refl, all)
  with_entry false e rest is all = all

  with_none : (c : Bool) (rest : List Entry) → AllByRecursion IsHanded rest
      → AllByRecursion IsHanded (option_to_list (cond c None None) ++ rest)
  with_none true rest all = all
  with_none false rest all = all

  is_handed : (h : ℕ) (name : Name) (bytes : List ℕ) (b : History) → 0 < most → AllKeepPremise b → AreParts most texts b
      → IsPart most (texts name) h name Head bytes b → counts h name Head b ≡ true
      → joined name (open_pieces b) bytes ≡ Some (texts name)
  is_handed h name bytes b some ok are is counted =
      let parts = and_parts (h == generation b) (not (is_there h name Head b)) counted in
      let here : h ≡ generation b = eqb-true h (generation b) parts.0 in
      joins most (texts name) name h bytes b some
      (subst (λ (g : ℕ). Stands most (texts name) name g b) (sym here) (stands name b ok are)) is
      (not-true (is_there h name Head b) parts.1)

  pub all_handed : (b : History) → 0 < most → AllKeepPremise b → AreParts most texts b →
      AllByRecursion IsHanded (counted_entries b)
  all_handed [] some ok are = tt
  all_handed (Puts h name Head bytes ∷ b) some ok are =
      with_entry (counts h name Head b) (record { name = name; text = joined name (open_pieces b) bytes })
      (counted_entries b)
      (λ counted. is_handed h name bytes b some ok.1 are.1 are.0 counted)
      (all_handed b some ok.1 are.1)
  all_handed (Puts h name (PiecePart n) bytes ∷ b) some ok are =
      with_none (counts h name (PiecePart n) b) (counted_entries b) (all_handed b some ok.1 are.1)
  all_handed (Writes s ∷ b) some ok are = all_handed b some ok.1 are
  all_handed (Moves f ∷ b) some ok are = all_handed b some ok.1 are
  all_handed (Deletes d ∷ b) some ok are = all_handed b some ok.1 are
  all_handed (Others ∷ b) some ok are = all_handed b some ok.1 are

  -- of a reader that knows all

  keeps_all : (b : History) → behind 0 (open_pieces b) ≡ open_pieces b
  keeps_all b = filter_keeps (λ p. ltb 0 p.revision) (open_pieces b)
      (each_weaker (λ p. (floor b < p.revision) × (p.revision ≤ revision_of b)) (λ p. ltb 0 p.revision ≡ true)
      (λ p came. let low : floor b < p.revision = came.0 in lt-ltb 0 p.revision (omega arith)) (open_pieces b)
      (pieces_came b))

  told_by : (c : Bool) (e : Entry) → (c ≡ true → IsHanded e) → IfSome (cond c (Some e) None) IsHanded
  told_by true e is = is refl
  told_by false e is = tt

  abbrev none_at_all : Option Entry
  none_at_all = None

  told_none : (c : Bool) → IfSome (cond c none_at_all None) IsHanded
  told_none true = tt
  told_none false = tt

  pub all_told : (change : Change) (b : History) → 0 < most → AllKeepPremise b → AreParts most texts (change ∷ b)
      → IfSome (counted_for 0 change b) IsHanded
  all_told (Puts h name Head bytes) b some ok are =
      subst (λ pieces. IfSome (cond (counts h name Head b) (ended_by name Head bytes pieces) None) IsHanded)
      (sym (keeps_all b))
      (told_by (counts h name Head b) (record { name = name; text = joined name (open_pieces b) bytes })
      (λ counted. is_handed h name bytes b some ok are.1 are.0 counted))
  all_told (Puts h name (PiecePart n) bytes) b some ok are = told_none (counts h name (PiecePart n) b)
  all_told (Writes s) b some ok are = tt
  all_told (Moves f) b some ok are = tt
  all_told (Deletes d) b some ok are = tt
  all_told Others b some ok are = tt
